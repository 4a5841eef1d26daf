-- `has_property` gives `has_property`: no record passes but of the component. Assumes nothing.
use Rattle.std.proofs.Common.{refl, sym, rules}
use Rattle.instance.specs.Places.{is_property_at}
use Rattle.instance.proofs.PlaceLaws.{property_elsewhere, properties_whole}
use Rattle.instance.proofs.has_property.Goals as goal

pub returns : goal.returns
returns c =
    properties_whole c.args.image.now c.args.component c.args.set.now c.args.name.now
    (c.any_owned.ensures (is_property_at c.args.image.now c.args.component c.args.set.now c.args.name.now) (λ at r h k. search rules) (λ at h a b. sym (property_elsewhere _ _ _ _ at refl a)))
