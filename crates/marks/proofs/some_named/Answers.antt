-- `some_named` looks for a feature of a name, feature by feature. Assumes nothing.
use mathlib.Core.Path.{◌≡◌, refl, ◌∙◌}
use Rattle.instance.specs.Instance.{feature_is}
use Rattle.instance.proofs.InstanceLaws.{searching_hit, searching_miss, searching_done}
use Rattle.marks.proofs.NameLaws.{feature_named}
use Rattle.marks.proofs.some_named.Goals as goal

pub loop-feature-init : goal.loop-feature-init
loop-feature-init c = record { searching = record { rest = refl }; names = (refl, refl) }

pub returns-then-is : goal.returns-then-is
returns-then-is c =
    let at = c.loop-feature.invariant in
    let named : feature_is c.args.names.now.image.now c.args.names.now.bytes.now c.loop-feature.feature ≡ c.is.result = feature_named _ _ _ c.word-string.result c.section_offset-features.ensures (cc) (cc) in
    record {
      some = searching_hit at.searching c.loop-feature-test.true (named ∙ c.if-is.true);
      names = (c.is.ensures.kept.0 ∙ at.names.0, c.is.ensures.kept.1 ∙ at.names.1);
    }

pub loop-feature-preserved : goal.loop-feature-preserved
loop-feature-preserved c =
    let at = c.loop-feature.invariant in
    let named : feature_is c.args.names.now.image.now c.args.names.now.bytes.now c.loop-feature.feature ≡ c.is.result = feature_named _ _ _ c.word-string.result c.section_offset-features.ensures (cc) (cc) in
    record {
      searching = searching_miss at.searching c.loop-feature-test.true (named ∙ c.if-is.false);
      names = (c.is.ensures.kept.0 ∙ at.names.0, c.is.ensures.kept.1 ∙ at.names.1);
    }

pub returns : goal.returns
returns c = record { some = searching_done c.loop-feature.invariant.searching c.loop-feature-test.false; names = c.loop-feature.invariant.names }
