-- The line that holds a place, found byte by byte, and the columns under it. Assumes nothing.
use mathlib.Core.Path.{◌≡◌, sym, ap, ◌∙◌}
use mathlib.Core.Bool.{Bool, true, false, true≢false}
use mathlib.Core.List.{List, [], ◌∷◌, ◌++◌}
use Prim.Native.Nat.{ℕ, zero, suc, zero-le, suc-le-suc, ◌+◌, ◌-◌, ◌≤◌, ◌<◌}
use native.Mathlib.Omega.{arith}
use borrow.Author.Tests.{lt-ltb, le-ltb, ltb-true, leb-true, leb-false}
use lib.Dec.{eqb, ltb, leb}
use lib.ListN.{length, take, drop, get_or}
use lib.Seq.{length-take-le, get_or-take}
use Rattle.syntax.specs.Text.{ascii, bytes_between}
use Rattle.syntax.proofs.BoolLaws.{whether}
use Rattle.texts.specs.declared.Writer.{Writer}
use Rattle.texts.specs.Append.{Wrote}
use Rattle.texts.proofs.AppendLaws.{wrote_then}
use Rattle.texts.specs.Text.{BLANK, shown, indented, line}
use Rattle.texts.specs.Place.{LINE_FEED, CARET, IsBehindLast, IsLineLength, behind_last, mark_place, line_start, line_length, line_end, mark_end, columns, place_text}

back_within : (test : ℕ → Bool) (s : List ℕ) (n : ℕ) → behind_last test s n ≤ n
unfolding behind_last
back_within test s zero = zero-le
back_within test s (suc n) =
    let ih = back_within test s n in
    whether (test (get_or s n 0)) (λ e. rw e (omega arith)) (λ e. rw e (omega arith))

-- the place behind the last byte that passes, from what is known of each byte
behind_is : (test : ℕ → Bool) (s : List ℕ) (n r : ℕ) → r ≤ n → (0 < r → test (get_or s (r - 1) 0) ≡ true) → ((k : ℕ) → r ≤ k → k < n → test (get_or s k 0) ≡ false)
    → r ≡ behind_last test s n
unfolding behind_last
behind_is test s zero r within passes others = omega arith
behind_is test s (suc n) r within passes others =
    whether (test (get_or s n 0))
    (λ t. rw t (whether (leb r n) (λ u. absurd (true≢false (sym t ∙ others n (leb-true r n u) (omega arith)))) (λ u. omega (arith, leb-false r n u))))
    (λ t.
    rw t
    (whether (leb r n) (λ u. behind_is test s n r (leb-true r n u) passes (λ k a b. others k a (omega arith)))
    (λ u.
    let last : r - 1 ≡ n = omega (arith, leb-false r n u) in
    absurd (true≢false (sym (rw last at (passes (omega (arith, leb-false r n u)))) ∙ t)))))

pub behind_all : {test : ℕ → Bool} {s : List ℕ} {r : ℕ} → IsBehindLast test s r → r ≡ behind_last test s (length s)
behind_all {test} {s} {r} b = behind_is test s (length s) r b.within b.passes b.others

behind_taken : {test : ℕ → Bool} (s : List ℕ) (n : ℕ) {r : ℕ} → n ≤ length s → IsBehindLast test (take n s) r → r ≡ behind_last test s n
behind_taken {test} s n {r} h b =
    let long : length (take n s) ≡ n = length-take-le n s h in
    let within : r ≤ n = omega (arith, b.within) in
    behind_is test s n r within
    (λ some. let inside : r - 1 < n = omega arith in rw (get_or-take n s (r - 1) 0 inside) at (b.passes some))
    (λ k after before. rw (get_or-take n s k 0 before) at (b.others k after (omega arith)))

-- the mark begins at the token found, or behind the last byte that is no blank
pub mark_found : (rule : List ℕ) (first : ℕ) → first < length rule → first ≡ mark_place rule first
unfolding mark_place
mark_found rule first h = rw (lt-ltb _ _ h)

pub mark_behind : (rule : List ℕ) (first : ℕ) {r : ℕ} → length rule ≤ first → IsBehindLast (λ b. ltb BLANK b) rule r → r ≡ mark_place rule first
unfolding mark_place
mark_behind rule first h b = rw (le-ltb _ _ h) (behind_all b)

pub mark_within : (rule : List ℕ) (first : ℕ) → mark_place rule first ≤ length rule
unfolding mark_place
mark_within rule first =
    whether (ltb first (length rule)) (λ t. rw t (omega (arith, ltb-true first (length rule) t)))
    (λ t. rw t (back_within (λ b. ltb 0x20 b) rule (length rule)))

-- a line's length, from what is known of each byte
length_is : (s : List ℕ) (r : ℕ) → r ≤ length s → (r < length s → eqb (get_or s r 0) LINE_FEED ≡ true) → ((k : ℕ) → k < r → eqb (get_or s k 0) LINE_FEED ≡ false) → r ≡ line_length s
unfolding line_length
length_is [] r within feed others = omega arith
length_is (b ∷ s) zero within feed others = rw (feed (omega arith))
length_is (b ∷ s) (suc r) within feed others =
    let ih = length_is s r (omega arith) (λ h. feed (omega arith)) (λ k h. others (suc k) (omega arith)) in
    rw (others 0 (omega arith)) (ap suc ih)

length_within : (s : List ℕ) → line_length s ≤ length s
unfolding line_length
length_within [] = zero-le
length_within (b ∷ s) =
    let ih = length_within s in
    whether (eqb b LINE_FEED) (λ e. rw e zero-le) (λ e. rw e (suc-le-suc ih))

-- a place found: its line lies around it
module _ (rule : List ℕ) (first : ℕ) {mark start n : ℕ} (m : mark ≡ mark_place rule first) (s : IsBehindLast (λ b. eqb b LINE_FEED) (take mark rule) start) (t : IsLineLength (drop mark rule) n) where
  pub mark_inside : mark ≤ length rule
  mark_inside = omega (arith, m, mark_within rule first)

  start_is : start ≡ line_start rule mark
  unfolding line_start
  start_is = behind_taken rule mark mark_inside s

  stop_is : mark + n ≡ line_end rule mark
  unfolding line_end
  stop_is = ap (λ (k : ℕ). mark + k) (length_is (drop mark rule) n t.within t.feed t.others)

  -- its two lines written
  pub place_wrote : (end : ℕ) {past : ℕ} {before between after : Writer} → past ≡ mark_end rule first end (mark + n) → Wrote (line (indented (shown (bytes_between rule start (mark + n))))) before between
      → Wrote (line (indented (columns BLANK (bytes_between rule start mark) ++ ascii "^" ++ columns CARET (bytes_between rule (mark + 1) past)))) between after
      → Wrote (place_text rule first end) before after
  unfolding place_text
  place_wrote end e p q = rw (← m, ← start_is, ← stop_is, ← e) (wrote_then p q)
