-- Which components have a property or a feature of a name, as a mark for each. Assumes nothing: these are definitions.
use Rattle.std.specs.Prelude.{ℕ, zero, suc, ◌≡◌, ◌<◌, Bool, true, false, ◌&&◌, cond, List, [], ◌∷◌, eqb, ltb, get_or, set}
use Rattle.syntax.specs.Text.{same}
use Rattle.board.specs.Image.{text, property_component, property_set, property_name}
use Rattle.matching.specs.Search.{property_set_of, property_name_of}
use Rattle.instance.specs.Instance.{has_property, feature_is, has_feature}

-- the mark of a component that has the property, and of one that has the feature alone
abbrev pub OF_PROPERTY : ℕ
OF_PROPERTY = 1

abbrev pub OF_FEATURE : ℕ
OF_FEATURE = 2

-- the mark by whether a component has the property; 0 is no mark
abbrev pub mark_of : Bool → ℕ
mark_of true = OF_PROPERTY
mark_of false = 0

-- the marks of so many components from one on: whether each has a property of a set and a name
unfoldable pub property_marks : List ℕ → List ℕ → List ℕ → ℕ → ℕ → List ℕ
property_marks image set name c zero = []
property_marks image set name c (suc n) = mark_of (has_property image c set name) ∷ property_marks image set name (suc c) n

-- the marks of the first components, so many: whether each has the property that a text names
unfoldable pub marks_of : List ℕ → List ℕ → ℕ → List ℕ
unfolding property_marks
marks_of image value n = property_marks image (property_set_of value) (property_name_of value) 0 n

-- whether a property is of a set and a name
unfoldable pub is_named : List ℕ → List ℕ → List ℕ → ℕ → Bool
is_named image set name property = same (text image (property_set image property)) set && same (text image (property_name image property)) name

-- the marks once a property was looked at: its component is marked where it is of a set and a name
unfoldable pub marked : List ℕ → List ℕ → List ℕ → ℕ → List ℕ → List ℕ
unfolding is_named
marked image set_name name property marks = cond (is_named image set_name name property) (set marks (property_component image property) OF_PROPERTY) marks

-- the mark of component c once n components were looked at for a feature of a name: that of a feature where it was 0 and c has one
unfoldable pub feature_mark : List ℕ → List ℕ → ℕ → ℕ → ℕ → ℕ
feature_mark image name n c mark = cond (ltb c n && (eqb mark 0 && has_feature image c name)) OF_FEATURE mark

-- the marks of the components from one on
unfoldable pub feature_marks : List ℕ → List ℕ → ℕ → ℕ → List ℕ → List ℕ
unfolding feature_mark
feature_marks image name n c [] = []
feature_marks image name n c (mark ∷ marks) = feature_mark image name n c mark ∷ feature_marks image name n (suc c) marks

-- the marks once one component was looked at
unfoldable pub featured : List ℕ → List ℕ → ℕ → List ℕ → List ℕ
featured image name c marks = cond (eqb (get_or marks c 0) 0 && has_feature image c name) (set marks c OF_FEATURE) marks

-- no feature before one has a name; what private functions ask and give
abbrev pub NoneBefore : (image name : List ℕ) (before : ℕ) → Type 0
NoneBefore image name before = (n : ℕ) → n < before → feature_is image name n ≡ false

-- the mark of a component by whether it has the property that a text names, and a feature of which the text is the name
abbrev pub mark_by : Bool → Bool → ℕ
mark_by property feature = cond property OF_PROPERTY (cond feature OF_FEATURE 0)
