-- The place of an error in a rule: its line, and a mark under the token found. Assumes nothing: these are definitions.
use Rattle.std.specs.Prelude.{ℕ, zero, suc, ◌+◌, ◌-◌, ◌≤◌, ◌<◌, ◌≡◌, min, Bool, true, false, cond, ◌&&◌, List, [], ◌∷◌, ◌++◌, eqb, leb, ltb, length, drop, get_or}
use Rattle.syntax.specs.Text.{ascii, bytes_between}
use Rattle.texts.specs.Text.{BLANK, TAB, each, shown, indented, line}

abbrev pub LINE_FEED : ℕ
LINE_FEED = 0x0a

abbrev pub CARET : ℕ
CARET = 0x5e

-- the place behind the last byte before n that passes a test; 0 where none does
unfoldable pub behind_last : (ℕ → Bool) → List ℕ → ℕ → ℕ
behind_last test s zero = 0
behind_last test s (suc n) = cond (test (get_or s n 0)) (suc n) (behind_last test s n)

-- the same of a whole text, byte by byte
pub record IsBehindLast (test : ℕ → Bool) (s : List ℕ) (at : ℕ) : Type 0 where
  pub within : at ≤ length s
  pub passes : 0 < at → test (get_or s (at - 1) 0) ≡ true
  pub others : (k : ℕ) → at ≤ k → k < length s → test (get_or s k 0) ≡ false

-- where the mark begins: at the token found; at the end of text behind the last byte that is neither blank nor control character
unfoldable pub mark_place : (rule : List ℕ) (first : ℕ) → ℕ
unfolding behind_last
mark_place rule first = cond (ltb first (length rule)) first (behind_last (λ b. ltb BLANK b) rule (length rule))

-- where the line begins that holds a place: behind the line feed before it
unfoldable pub line_start : List ℕ → ℕ → ℕ
unfolding behind_last
line_start s at = behind_last (λ b. eqb b LINE_FEED) s at

-- where it ends: at the next line feed, or with the text
unfoldable pub line_length : List ℕ → ℕ
line_length [] = 0
line_length (b ∷ s) = cond (eqb b LINE_FEED) 0 (suc (line_length s))

-- the same, byte by byte
pub record IsLineLength (s : List ℕ) (n : ℕ) : Type 0 where
  pub within : n ≤ length s
  pub feed : n < length s → eqb (get_or s n 0) LINE_FEED ≡ true
  pub others : (k : ℕ) → k < n → eqb (get_or s k 0) LINE_FEED ≡ false

unfoldable pub line_end : List ℕ → ℕ → ℕ
unfolding line_length
line_end s at = at + line_length (drop at s)

-- where the marks end: with the token, or with its line; at the end of text there is no token
unfoldable pub mark_end : (rule : List ℕ) (first end stop : ℕ) → ℕ
mark_end rule first end stop = cond (ltb first (length rule)) (min end stop) 0

-- what stands under a byte: a tab under a tab, nothing under a byte that goes on a character of UTF-8, and else the mark
unfoldable pub column : (mark b : ℕ) → List ℕ
column mark b = cond (eqb b TAB) (TAB ∷ []) (cond (leb 0x80 b && ltb b 0xc0) [] (mark ∷ []))

unfoldable pub columns : (mark : ℕ) → List ℕ → List ℕ
unfolding each column
columns mark s = each (column mark) s

-- the line that holds a place, and below it blanks up to there and a `^` under each character of the token, one at least
unfoldable pub place_text : (rule : List ℕ) (first end : ℕ) → List ℕ
unfolding mark_place line_start line_end mark_end shown columns
place_text rule first end =
    let mark = mark_place rule first in
    let start = line_start rule mark in
    let stop = line_end rule mark in
    line (indented (shown (bytes_between rule start stop)))
    ++ line (indented (columns BLANK (bytes_between rule start mark) ++ ascii "^" ++ columns CARET (bytes_between rule (mark + 1) (mark_end rule first end stop))))
