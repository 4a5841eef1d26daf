-- eval.rs, "Matching helpers": the words for each value of a field, and when a word typed in a rule is one of them.
-- Assumes nothing: these are definitions.
use Rattle.std.specs.Prelude.{◌≡◌, ℕ, ◌+◌, ◌-◌, ◌≤◌, Bool, false, ◌||◌, cond, List, [], ◌∷◌, length, get_or, Result, MatchResult}
use Prim.Native.Char.{code}
use Rattle.syntax.specs.Text.{ascii, is, between, same}
use Rattle.matching.specs.declared.value.UnknownNumber.{UnknownNumber}
use Rattle.matching.specs.declared.value.ComponentCategory.{ComponentCategory}
use Rattle.matching.specs.declared.value.FeatureKind.{FeatureKind}
use Rattle.matching.specs.declared.value.Direction.{Direction}
use Rattle.matching.specs.declared.value.Severity.{Severity}

-- how far a small letter stands behind its capital
abbrev pub TO_LOWER : ℕ
TO_LOWER = code "a" - code "A"

-- "lowered and `-` becomes `_` before comparing; ASCII lowering is enough"
unfoldable pub fold : ℕ → ℕ
fold b = cond (between "A" "Z" b) (b + TO_LOWER) (cond (is "-" b) (code "_") b)

unfoldable pub folded : List ℕ → List ℕ
unfolding fold
folded [] = []
folded (b ∷ bs) = fold b ∷ folded bs

-- whether a word is one of these
abbrev pub one_of : List ℕ → List (List ℕ) → Bool
one_of w [] = false
one_of w (x ∷ xs) = same w x || one_of w xs

-- the words for each number, in the order of `category_matches`
unfoldable pub category_words : List (List (List ℕ))
category_words =
    (ascii "system" ∷ [])
    ∷ (ascii "process" ∷ [])
    ∷ (ascii "thread" ∷ [])
    ∷ (ascii "thread_group" ∷ ascii "threadgroup" ∷ [])
    ∷ (ascii "processor" ∷ [])
    ∷ (ascii "virtual_processor" ∷ ascii "virtualprocessor" ∷ [])
    ∷ (ascii "memory" ∷ [])
    ∷ (ascii "bus" ∷ [])
    ∷ (ascii "virtual_bus" ∷ ascii "virtualbus" ∷ [])
    ∷ (ascii "device" ∷ [])
    ∷ (ascii "subprogram" ∷ [])
    ∷ (ascii "subprogram_group" ∷ ascii "subprogramgroup" ∷ [])
    ∷ (ascii "data" ∷ [])
    ∷ (ascii "abstract" ∷ [])
    ∷ []

-- in the order of `feature_kind_matches`
unfoldable pub feature_kind_words : List (List (List ℕ))
feature_kind_words =
    (ascii "data_port" ∷ ascii "dataport" ∷ [])
    ∷ (ascii "event_port" ∷ ascii "eventport" ∷ [])
    ∷ (ascii "event_data_port" ∷ ascii "eventdataport" ∷ [])
    ∷ (ascii "parameter" ∷ [])
    ∷ (ascii "data_access" ∷ ascii "dataaccess" ∷ [])
    ∷ (ascii "bus_access" ∷ ascii "busaccess" ∷ [])
    ∷ (ascii "subprogram_access" ∷ ascii "subprogramaccess" ∷ [])
    ∷ (ascii "subprogram_group_access" ∷ ascii "subprogramgroupaccess" ∷ [])
    ∷ (ascii "feature_group" ∷ ascii "featuregroup" ∷ [])
    ∷ (ascii "abstract_feature" ∷ ascii "abstractfeature" ∷ [])
    ∷ []

-- "direction: 0 none, 1 in, 2 out, 3 in out"
unfoldable pub direction_words : List (List (List ℕ))
direction_words = (ascii "none" ∷ []) ∷ (ascii "in" ∷ []) ∷ (ascii "out" ∷ []) ∷ (ascii "in_out" ∷ ascii "inout" ∷ []) ∷ []

-- "severity: 0 error, 1 warning, 2 info"
unfoldable pub severity_words : List (List (List ℕ))
severity_words = (ascii "error" ∷ []) ∷ (ascii "warning" ∷ []) ∷ (ascii "info" ∷ []) ∷ []

-- `category_matches`, `feature_kind_matches`, `direction_matches`: a number that is none of the field's has no word
unfoldable pub category_matches : ℕ → List ℕ → Bool
unfolding folded category_words
category_matches category value = one_of (folded value) (get_or category_words category [])

unfoldable pub feature_kind_matches : ℕ → List ℕ → Bool
unfolding folded feature_kind_words
feature_kind_matches kind value = one_of (folded value) (get_or feature_kind_words kind [])

unfoldable pub direction_matches : ℕ → List ℕ → Bool
unfolding folded direction_words
direction_matches direction value = one_of (folded value) (get_or direction_words direction [])

-- "Severity is compared as typed: `'Error'` matches none"
unfoldable pub severity_matches : ℕ → List ℕ → Bool
unfolding severity_words
severity_matches severity value = one_of value (get_or severity_words severity [])

-- the number of each value, by which the words for it are found
abbrev pub category_number : ComponentCategory → ℕ
category_number ComponentCategory.System = 0
category_number ComponentCategory.Process = 1
category_number ComponentCategory.Thread = 2
category_number ComponentCategory.ThreadGroup = 3
category_number ComponentCategory.Processor = 4
category_number ComponentCategory.VirtualProcessor = 5
category_number ComponentCategory.Memory = 6
category_number ComponentCategory.Bus = 7
category_number ComponentCategory.VirtualBus = 8
category_number ComponentCategory.Device = 9
category_number ComponentCategory.Subprogram = 10
category_number ComponentCategory.SubprogramGroup = 11
category_number ComponentCategory.Data = 12
category_number ComponentCategory.Abstract = 13

abbrev pub feature_kind_number : FeatureKind → ℕ
feature_kind_number FeatureKind.DataPort = 0
feature_kind_number FeatureKind.EventPort = 1
feature_kind_number FeatureKind.EventDataPort = 2
feature_kind_number FeatureKind.Parameter = 3
feature_kind_number FeatureKind.DataAccess = 4
feature_kind_number FeatureKind.BusAccess = 5
feature_kind_number FeatureKind.SubprogramAccess = 6
feature_kind_number FeatureKind.SubprogramGroupAccess = 7
feature_kind_number FeatureKind.FeatureGroup = 8
feature_kind_number FeatureKind.AbstractFeature = 9

abbrev pub direction_number : Direction → ℕ
direction_number Direction.None = 0
direction_number Direction.In = 1
direction_number Direction.Out = 2
direction_number Direction.InOut = 3

abbrev pub severity_number : Severity → ℕ
severity_number Severity.Error = 0
severity_number Severity.Warning = 1
severity_number Severity.Info = 2

-- the result is the value that has a number, or there are no words for the number
abbrev pub Numbered : {V : Type 0} → (V → ℕ) → List (List (List ℕ)) → ℕ → Result V UnknownNumber → Type 0
Numbered number_of words number r = MatchResult r (λ v. number ≡ number_of v) (λ e. (e.0 ≡ number) × (length words ≤ number))
