-- `feature_connected` gives `feature_connected`: the component first, and then the connections of the component and its parent. Assumes
-- nothing.
use Rattle.std.proofs.Common.{refl, sym, ◌∙◌, rules}
use Rattle.instance.specs.Places.{joins_at}
use Rattle.instance.proofs.InstanceLaws.{feature_whole, connections_whole}
use Rattle.instance.proofs.PlaceLaws.{joins_foreign, connections_placed}
use Rattle.instance.proofs.feature_connected.Goals as goal

pub returns-then-component_connected : goal.returns-then-component_connected
returns-then-component_connected c = feature_whole c.args.image.now c.args.component c.args.feature c.component_connected.ensures c.if-component_connected.true

pub returns : goal.returns
returns c =
    connections_placed c.args.image.now c.args.component c.string-name.result.now c.other_owner-other.ensures
    (c.any_owned.ensures (joins_at c.args.image.now c.args.component c.other_owner-other.result c.string-name.result.now) (λ at r h k. search rules) (λ at h a b. sym (joins_foreign _ _ _ _ at refl a b)))
    ∙ connections_whole _ _ _ c.component_connected.ensures c.if-component_connected.false c.feature_name.ensures c.string-name.ensures
