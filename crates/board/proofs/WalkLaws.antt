-- The records of a section from the place where it begins. Where refusal 5 does not come, every record lies in the image, and what is
-- read there are the record's numbers. Assumes nothing.
use mathlib.Core.Path.{◌≡◌, sym, ◌∙◌}
use mathlib.Core.Bool.{true}
use mathlib.Core.List.{List}
use Prim.Native.Nat.{ℕ, ◌+◌, ◌-◌, ◌*◌, ◌≤◌, ◌<◌}
use native.Mathlib.Omega.{arith}
use lib.ListN.{length, take, drop}
use Rattle.board.specs.declared.image.Section.{Section}
use Rattle.board.specs.declared.image.Section.TheVariants.{Letters, Strings, Components}
use Rattle.board.specs.Image.{COMPONENT_SIZE, PAIR_SIZE, section_offset, section_length, record_size, record_count, field, text, string_offset, string_length}
use Rattle.board.specs.Check.{each, sections_fit, strings_laid, component_fits}
use Rattle.board.specs.CheckScan.{number_at, component_at, below_at, all_below}
use Rattle.board.specs.WellFormed.{letters}
use Rattle.board.proofs.BoardLaws.{section_within_lem, section_filled, record_in, text_within}
use Rattle.board.proofs.CheckLaws.{text_inside}

-- the records of a section, by its place, the size of each and their number, as they were read
module _ (image : List ℕ) (section : Section) {start count : ℕ} (o : start ≡ section_offset image section) (k : count ≡ record_count image section) where
  pub records_within : sections_fit image ≡ true → start + record_size section * count ≤ length image
  records_within fit = rw (o, k) (omega (arith, section_within_lem image fit section, section_filled image fit section))

  pub record_within : sections_fit image ≡ true → (n : ℕ) → n < count → start + record_size section * n + record_size section ≤ length image
  record_within fit n h = rw o (record_in image fit section n (omega (arith, k)))

  -- the three tests of each
  pub below_there : (a b c : ℕ) → each (λ n. below_at image (start + record_size section * n) a b c) 0 count ≡ all_below image section a b c
  unfolding field
  below_there a b c = λ j. each (λ n. below_at image (o j + record_size section * n) a b c) 0 (k j)

-- a number of a record
pub field_there : (image : List ℕ) (section : Section) {start : ℕ} → start ≡ section_offset image section → (n number : ℕ)
    → number_at image (start + record_size section * n) number ≡ field image section n number
unfolding field
field_there image section o n number = rw o

-- the test of a component
pub component_there : (image : List ℕ) {start count : ℕ} → start ≡ section_offset image Components → count ≡ record_count image Components → (n : ℕ)
    → component_at image (start + COMPONENT_SIZE * n) count ≡ component_fits image n
component_there image o k n =
    rw (field_there image Components o n 0, field_there image Components o n 1, field_there image Components o n 4, ← k)

-- the letters, by the numbers that were read
module _ (image : List ℕ) {from size : ℕ} (o : from ≡ section_offset image Letters) (l : size ≡ section_length image Letters) where
  pub letters_in : sections_fit image ≡ true → from + size ≤ length image
  letters_in fit = rw (o, l) (section_within_lem image fit Letters)

  pub letters_here : letters image ≡ take (from + size - from) (drop from image)
  letters_here = let less : from + size - from ≡ size = omega arith in rw (← o, ← l, less)

-- the text of a string, by the numbers that were read: strings that are laid lie in the letters
module _ (image : List ℕ) (n : ℕ) {letters start count x y : ℕ} (l : letters ≡ section_offset image Letters) (o : start ≡ section_offset image Strings) (k : count ≡ record_count image Strings) (e : x ≡ number_at image (start + PAIR_SIZE * n) 0) (f : y ≡ number_at image (start + PAIR_SIZE * n) 1) where
  offset_there : x ≡ string_offset image n
  offset_there = e ∙ field_there image Strings o n 0

  length_there : y ≡ string_length image n
  length_there = f ∙ field_there image Strings o n 1

  pub text_in : sections_fit image ≡ true → strings_laid image ≡ true → n < count → letters + x + y ≤ length image
  text_in fit laid h = rw (l, offset_there, length_there) (text_within image fit laid n (omega (arith, k)))

  pub text_there : sections_fit image ≡ true → strings_laid image ≡ true → n < count → text image n ≡ take (letters + x + y - (letters + x)) (drop (letters + x) image)
  text_there fit laid h = sym (text_inside image n l offset_there length_there (text_in fit laid h))
