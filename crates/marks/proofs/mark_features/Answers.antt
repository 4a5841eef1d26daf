-- `mark_features` gives `feature_marks`, component by component where some feature has the name. Assumes nothing.
use mathlib.Core.Path.{◌∙◌}
use native.Mathlib.Omega.{arith}
use Rattle.board.specs.Image.{component_count}
use Rattle.marks.proofs.MarkLaws.{features_start, features_none, featuring_on}
use Rattle.marks.proofs.NameLaws.{none_has}
use Rattle.marks.proofs.mark_features.Goals as goal

pub returns-in_default : goal.returns-in_default
returns-in_default c = features_none _ _ (none_has _ _ c.in_default.ensures.none) (component_count c.args.image.now) c.args.marks.now ∙ cc

pub loop-component-init : goal.loop-component-init
loop-component-init c = record { featuring = record { within = omega arith; so = features_start _ _ _ }; names = (cc, cc) }

pub loop-component-preserved : goal.loop-component-preserved
loop-component-preserved c =
    let at = c.loop-component.invariant in
    record {
      featuring = featuring_on at.featuring c.loop-component-test.true (c.mark_feature.ensures.marks ∙ cc);
      names = (cc, cc);
    }
