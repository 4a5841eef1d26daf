-- Document 01, "Tables lent": the forms of parse errors, by the place in parser.rs that reports them. Assumes nothing: these are
-- definitions.
use Rattle.std.specs.Prelude.{ℕ}

-- `expect`: a token of another kind
abbrev pub EXPECT : ℕ
EXPECT = 1

-- `expect_ident`: another word
abbrev pub EXPECT_IDENT : ℕ
EXPECT_IDENT = 2

-- `parse_root`: tokens left over
abbrev pub LEFT_OVER : ℕ
LEFT_OVER = 3

-- `parse_pipeline`: no source
abbrev pub SOURCE : ℕ
SOURCE = 4

-- `parse_dot_call`: no method
abbrev pub METHOD : ℕ
METHOD = 5

-- `parse_atom`: no atom
abbrev pub ATOM : ℕ
ATOM = 6
