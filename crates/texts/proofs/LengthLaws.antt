-- How long texts are, and that a text which has room is not cut. Assumes nothing.
use mathlib.Core.Path.{◌≡◌, ap, ◌∙◌}
use mathlib.Core.List.{List, [], ◌∷◌, ◌++◌}
use Prim.Native.Nat.{ℕ, zero, suc, zero-le, ◌+◌, ◌*◌, ◌/◌, ◌≤◌}
use native.Mathlib.Omega.{arith}
use borrow.Author.Tests.{ltb-true, ltb-false}
use lib.Dec.{eqb, leb, ltb}
use lib.ListN.{length, take, drop, length-append}
use mathlib.Core.Bool.{◌&&◌}
use Rattle.syntax.proofs.BoolLaws.{whether}
use lib.Seq.{sets-eq}
use Rattle.syntax.specs.Text.{bytes_between}
use Rattle.texts.specs.declared.Writer.{Writer}
use Rattle.texts.specs.Append.{Written, Wrote, appended}
use Rattle.syntax.proofs.TextLaws.{part_length}
use Rattle.texts.specs.Text.{BLANK, TAB, MOST_DIGITS, each, digits, number_text, shown_byte, shown}
use Rattle.texts.specs.Place.{CARET, mark_place, line_start, line_end, mark_end, column, columns, place_text}
use Rattle.texts.proofs.NumberLaws.{digits_one, digits_more}

-- a text that has room stands whole, with the bytes around it as they were
pub wrote_whole : {text : List ℕ} {before after : Writer} → Wrote text before after → before.at + length text ≤ length before.out.now
    → (after.at ≡ before.at + length text) × (after.out.now ≡ take before.at before.out.now ++ text ++ drop (before.at + length text) before.out.now)
unfolding appended
wrote_whole {text} {before} {after} w h =
    (ap (λ (x : Written). x.at) w.appends ∙ omega arith, ap (λ (x : Written). x.bytes) w.appends ∙ sets-eq text before.out.now before.at h)

digits_length : (most n : ℕ) → length (digits most n) ≤ most
unfolding digits
digits_length zero n = zero-le
digits_length (suc most) n =
    let fewer = digits_length most (n / 10) in
    whether (ltb n 10) (λ t. rw (digits_one most n (ltb-true n 10 t)) (omega arith))
    (λ t. rw (digits_more most n (ltb-false n 10 t)) (simp length-append (omega arith)))

pub number_length : (n : ℕ) → length (number_text n) ≤ MOST_DIGITS
unfolding number_text
number_length n = digits_length MOST_DIGITS n

-- at most one byte for each
each_length : (f : ℕ → List ℕ) → ((b : ℕ) → length (f b) ≤ 1) → (s : List ℕ) → length (each f s) ≤ length s
unfolding each
each_length f one [] = zero-le
each_length f one (b ∷ s) = let ih = each_length f one s in simp length-append (omega (arith, one b))

pub shown_length : (s : List ℕ) → length (shown s) ≤ length s
unfolding shown
shown_length s = each_length (λ b. shown_byte b ∷ []) (λ b. omega arith) s

column_length : (mark b : ℕ) → length (column mark b) ≤ 1
unfolding column
column_length mark b =
    whether (eqb b TAB) (λ t. rw t (omega arith))
    (λ t. whether (leb 0x80 b && ltb b 0xc0) (λ u. rw (t, u) zero-le) (λ u. rw (t, u) (omega arith)))

columns_length : (mark : ℕ) (s : List ℕ) → length (columns mark s) ≤ length s
unfolding columns
columns_length mark s = each_length (column mark) (column_length mark) s

-- the two lines of a place
pub place_length : (rule : List ℕ) (first end : ℕ) → length (place_text rule first end) ≤ 3 * length rule + 7
unfolding place_text
place_length rule first end =
    let mark = mark_place rule first in
    let start = line_start rule mark in
    let stop = line_end rule mark in
    let past = mark_end rule first end stop in
    simp length-append
    (omega (
      arith,
      shown_length (bytes_between rule start stop),
      part_length rule start stop,
      columns_length BLANK (bytes_between rule start mark),
      part_length rule start mark,
      columns_length CARET (bytes_between rule (mark + 1) past),
      part_length rule (mark + 1) past,
    ))
