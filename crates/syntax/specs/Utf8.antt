-- UTF-8: the well-formed byte sequences, as the Unicode standard's Table 3-7 has them. Assumes nothing: these are definitions.
use Rattle.std.specs.Prelude.{ℕ, Bool, true, false, ◌&&◌, List, [], ◌∷◌, leb, ltb}

-- bytes from a lowest to a highest, both included
pub record Range : Type 0 where
  pub low : ℕ
  pub high : ℕ

-- a row of the table: the range of the first byte, and those of the bytes after it
pub record Row : Type 0 where
  pub first : Range
  pub after : List Range

abbrev pub to : ℕ → ℕ → Range
to a b = record { low = a; high = b }

-- any trailing byte
abbrev pub trail : Range
trail = to 0x80 0xBF

abbrev pub row : ℕ → ℕ → List Range → Row
row a b rs = record { first = to a b; after = rs }

-- Table 3-7: no overlong form, no surrogate, nothing above U+10FFFF
unfoldable pub table : List Row
table =
    row 0x00 0x7F []
    ∷ row 0xC2 0xDF (trail ∷ [])
    ∷ row 0xE0 0xE0 (to 0xA0 0xBF ∷ trail ∷ [])
    ∷ row 0xE1 0xEC (trail ∷ trail ∷ [])
    ∷ row 0xED 0xED (to 0x80 0x9F ∷ trail ∷ [])
    ∷ row 0xEE 0xEF (trail ∷ trail ∷ [])
    ∷ row 0xF0 0xF0 (to 0x90 0xBF ∷ trail ∷ trail ∷ [])
    ∷ row 0xF1 0xF3 (trail ∷ trail ∷ trail ∷ [])
    ∷ row 0xF4 0xF4 (to 0x80 0x8F ∷ trail ∷ trail ∷ [])
    ∷ []

abbrev pub within : Range → ℕ → Bool
within r b = leb r.low b && leb b r.high

-- what must follow a first byte: nothing can, or a byte in each of these ranges
pub data After : Type 0 where
  ill : After
  needs : List Range → After

-- the first row of the table whose first byte this can be
unfoldable pub after_in : List Row → ℕ → After
after_in [] b = ill
after_in (r ∷ rs) b = elim (within r.first b) [ true ↦ needs r.after | false ↦ after_in rs b ]

unfoldable pub after : ℕ → After
unfolding after_in table
after b = after_in table b

-- whether s is bytes in the ranges rs, one each, and then whole rows of the table
unfoldable pub well_from : List ℕ → List Range → Bool
unfolding after
well_from [] [] = true
well_from [] (r ∷ rs) = false
well_from (b ∷ s) [] = elim (after b) [ ill ↦ false | needs rs ↦ well_from s rs ]
well_from (b ∷ s) (r ∷ rs) = elim (within r b) [ true ↦ well_from s rs | false ↦ false ]

-- whether a text is UTF-8
unfoldable pub utf8 : List ℕ → Bool
unfolding well_from
utf8 s = well_from s []

-- whether a text is ASCII alone: no byte above 0x7F
unfoldable pub is_ascii : List ℕ → Bool
is_ascii [] = true
is_ascii (b ∷ s) = ltb b 0x80 && is_ascii s

-- whether s is one byte in each of the ranges rs, and nothing more
unfoldable pub in_ranges : List ℕ → List Range → Bool
in_ranges [] [] = true
in_ranges [] (r ∷ rs) = false
in_ranges (b ∷ s) [] = false
in_ranges (b ∷ s) (r ∷ rs) = within r b && in_ranges s rs

-- whether a text is one character: a first byte of the table, what must follow it, and nothing more
unfoldable pub is_character : List ℕ → Bool
unfolding after in_ranges
is_character [] = false
is_character (b ∷ s) = elim (after b) [ ill ↦ false | needs rs ↦ in_ranges s rs ]
