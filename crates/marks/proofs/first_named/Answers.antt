-- `first_named` goes past features that do not have the name. Assumes nothing.
use mathlib.Core.Path.{◌≡◌, ◌∙◌}
use Rattle.instance.specs.Instance.{feature_is}
use Rattle.marks.proofs.NameLaws.{feature_named, none_next}
use Rattle.marks.proofs.first_named.Goals as goal

pub loop-feature-preserved : goal.loop-feature-preserved
loop-feature-preserved c =
    let at = c.loop-feature.invariant in
    let named : feature_is c.args.names.now.image.now c.args.names.now.bytes.now c.loop-feature.feature ≡ c.is.result = feature_named _ _ _ c.word.result c.section_offset-features.ensures (cc) (cc) in
    record {
      none = none_next _ _ at.none (named ∙ c.if-is.false);
      names = (c.is.ensures.kept.0 ∙ at.names.0, c.is.ensures.kept.1 ∙ at.names.1);
    }
