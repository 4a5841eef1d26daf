-- The members of a collection in words, a line each. Assumes nothing: these are definitions.
use Rattle.std.specs.Prelude.{ℕ, List, [], ◌++◌}
use Rattle.syntax.specs.Text.{ascii}
use Rattle.texts.specs.Text.{number_text, shown, indented, line}
use Rattle.board.specs.Image.{category, feature_name, feature_kind, direction, severity, message, text}
use Rattle.calls.specs.declared.value.Value.{Value}
use Rattle.members.specs.Words.{category_text, feature_kind_text, direction_part, severity_text}

-- a component: its index and its category
unfoldable pub component_text : (image : List ℕ) (component : ℕ) → List ℕ
component_text image component = line (indented (ascii "component " ++ number_text component ++ ascii ": " ++ category_text (category image component)))

-- a feature's kind and direction
unfoldable pub port_text : (image : List ℕ) (feature : ℕ) → List ℕ
port_text image feature = ascii ", " ++ feature_kind_text (feature_kind image feature) ++ direction_part (direction image feature)

-- a feature: its component's index, its name, its kind and its direction
unfoldable pub feature_text : (image : List ℕ) (component feature : ℕ) → List ℕ
feature_text image component feature =
    line (indented (ascii "component " ++ number_text component ++ ascii ": feature " ++ shown (text image (feature_name image feature)) ++ port_text image feature))

-- a diagnostic: its severity and its message
unfoldable pub diagnostic_text : (image : List ℕ) (diagnostic : ℕ) → List ℕ
diagnostic_text image diagnostic = line (indented (severity_text (severity image diagnostic) ++ ascii ": " ++ shown (text image (message image diagnostic))))

-- a member of a value: "rows of two numbers, component and feature; a component or diagnostic has its index, then 0"
abbrev pub member_text : (image : List ℕ) → Value → (first second : ℕ) → List ℕ
member_text image (Value.Components n) first second = component_text image first
member_text image (Value.Features n) first second = feature_text image first second
member_text image (Value.Diagnostics n) first second = diagnostic_text image first
member_text image (Value.Bool holds) first second = []
member_text image (Value.BoolWithWarning holds) first second = []
member_text image (Value.Count n) first second = []
