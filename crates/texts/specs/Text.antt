-- Numbers and texts of others, as they are shown. Assumes nothing: these are definitions.
use Rattle.std.specs.Prelude.{ℕ, zero, suc, ◌+◌, ◌/◌, ◌%◌, cond, List, [], ◌∷◌, ◌++◌, eqb, ltb}
use Prim.Native.Char.{code}
use Rattle.syntax.specs.Text.{ascii}

-- a digit as its character
abbrev pub digit : ℕ → ℕ
digit n = code "0" + n

-- the decimal digits of a number, the last `most` of them where it has more
unfoldable pub digits : (most n : ℕ) → List ℕ
digits zero n = []
digits (suc most) n = cond (ltb n 10) (digit n ∷ []) (digits most (n / 10) ++ (digit (n % 10) ∷ []))

-- a number in decimal digits; one of 64 bits has at most 20
abbrev pub MOST_DIGITS : ℕ
MOST_DIGITS = 20

unfoldable pub number_text : ℕ → List ℕ
unfolding digits
number_text n = digits MOST_DIGITS n

-- the blank, the tab, and the control character that stands above the letters
abbrev pub BLANK : ℕ
BLANK = 0x20

abbrev pub TAB : ℕ
TAB = 0x09

abbrev pub DELETE : ℕ
DELETE = 0x7f

-- what stands for each byte of a text, one after the other
unfoldable pub each : (ℕ → List ℕ) → List ℕ → List ℕ
each f [] = []
each f (b ∷ text) = f b ++ each f text

-- a byte as it is shown: a control character is a blank, and a tab stays a tab
unfoldable pub shown_byte : ℕ → ℕ
shown_byte b = cond (eqb b TAB) b (cond (ltb b BLANK) BLANK (cond (eqb b DELETE) BLANK b))

-- a text that is not the program's own, as it is shown
unfoldable pub shown : List ℕ → List ℕ
unfolding each shown_byte
shown text = each (λ b. shown_byte b ∷ []) text

-- a text set in by two blanks
abbrev pub indented : List ℕ → List ℕ
indented text = ascii "  " ++ text

-- a line: a text and a line feed
abbrev pub line : List ℕ → List ℕ
line text = text ++ ascii "\n"
