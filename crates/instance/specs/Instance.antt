-- What eval.rs asks of a `SystemInstance`, of a board image. Assumes nothing: these are definitions.
use Rattle.std.specs.Prelude.{ℕ, zero, suc, ◌+◌, ◌-◌, min, Bool, false, not, ◌&&◌, ◌||◌, List, eqb}
use Rattle.syntax.specs.Text.{same}
use Rattle.board.specs.Image.{text, parent, first_feature, owned_features, wired, feature_count, feature_name, connection_count, owner, source, target, property_count, property_component, property_set, property_name}

-- whether some of m records from record n on passes a test
unfoldable pub some : (ℕ → Bool) → ℕ → ℕ → Bool
some passes n zero = false
some passes n (suc m) = passes n || some passes (suc n) m

-- "wired (1 if `connections` isn't empty, else 0)"
abbrev pub is_wired : List ℕ → ℕ → Bool
is_wired image component = eqb (wired image component) 1

-- "parent index plus 1, or 0"
abbrev pub parent_is_wired : List ℕ → ℕ → Bool
parent_is_wired image component = not (eqb (parent image component) 0) && is_wired image (parent image component - 1)

-- "A component is `connected` if it or its parent is wired"
unfoldable pub component_connected : List ℕ → ℕ → Bool
component_connected image component = is_wired image component || parent_is_wired image component

-- "a string number plus 1, or 0 for no such end"
unfoldable pub end_is : List ℕ → ℕ → List ℕ → Bool
end_is image end name = not (eqb end 0) && same (text image (end - 1)) name

-- "a connection owned by that component or its parent names it at an end"
unfoldable pub joins : List ℕ → ℕ → List ℕ → ℕ → Bool
unfolding end_is
joins image component name connection =
    (eqb (owner image connection) component || eqb (owner image connection + 1) (parent image component))
    && (end_is image (source image connection) name || end_is image (target image connection) name)

-- "a feature, if its component is, or if a connection owned by that component or its parent names it at an end"
unfoldable pub feature_connected : List ℕ → ℕ → ℕ → Bool
unfolding component_connected joins some
feature_connected image component feature =
    component_connected image component || some (joins image component (text image (feature_name image feature))) 0 (connection_count image)

-- whether the owner of a connection is not wired, and whether that of every connection is
abbrev pub owner_unwired : List ℕ → ℕ → Bool
owner_unwired image connection = not (is_wired image (owner image connection))

unfoldable pub owners_wired : List ℕ → Bool
unfolding some
owners_wired image = not (some (owner_unwired image) 0 (connection_count image))

-- whether a component has a property of this set and name
unfoldable pub is_property : List ℕ → ℕ → List ℕ → List ℕ → ℕ → Bool
is_property image component set name property =
    eqb (property_component image property) component
    && (same (text image (property_set image property)) set && same (text image (property_name image property)) name)

unfoldable pub has_property : List ℕ → ℕ → List ℕ → List ℕ → Bool
unfolding is_property some
has_property image component set name = some (is_property image component set name) 0 (property_count image)

-- past the last feature of a component, as far as the features go
unfoldable pub features_end : List ℕ → ℕ → ℕ
features_end image component = min (first_feature image component + owned_features image component) (feature_count image)

-- whether a component has a feature of this name
unfoldable pub feature_is : List ℕ → List ℕ → ℕ → Bool
feature_is image name feature = same (text image (feature_name image feature)) name

unfoldable pub has_feature : List ℕ → ℕ → List ℕ → Bool
unfolding features_end feature_is some
has_feature image component name =
    some (feature_is image name) (first_feature image component) (features_end image component - first_feature image component)
