-- Members kept by tests: one test after another, a test and its opposite, counts, `every` and `some` by counts. Assumes nothing.
use mathlib.Core.Path.{◌≡◌, refl, sym, ◌∙◌}
use mathlib.Core.Bool.{Bool, not, ◌&&◌, ◌||◌, and_comm}
use mathlib.Core.List.{List, [], ◌∷◌}
use Prim.Native.Nat.{ℕ, suc, ◌+◌, ◌≤◌}
use native.Mathlib.Omega.{arith}
use borrow.Author.Tests.{ne_eqb, lt-ltb}
use lib.Dec.{eqb, ltb, eqb-suc-suc}
use lib.ListN.{length}
use Rattle.syntax.proofs.BoolLaws.{whether}
use Rattle.predicate.specs.declared.atom.Member.{Member}
use Rattle.meaning.specs.Calls.{kept, every, some}

-- a test after another keeps what passes both
pub kept_kept : (f g : Member → Bool) (ms : List Member) → kept g (kept f ms) ≡ kept (λ m. f m && g m) ms
unfolding kept
kept_kept f g [] = refl
kept_kept f g (m ∷ ms) = whether (f m) (λ e. rw (e, kept, kept_kept f g ms)) (λ e. rw (e, kept_kept f g ms))

pub kept_same : (f g : Member → Bool) (ms : List Member) → ((m : Member) → f m ≡ g m) → kept f ms ≡ kept g ms
unfolding kept
kept_same f g [] e = refl
kept_same f g (m ∷ ms) e = rw (e m, kept_same f g ms e)

-- in either order
pub kept_exchanged : (f g : Member → Bool) (ms : List Member) → kept g (kept f ms) ≡ kept f (kept g ms)
kept_exchanged f g ms =
    kept_kept f g ms ∙ kept_same (λ m. f m && g m) (λ m. g m && f m) ms (λ m. and_comm (f m) (g m)) ∙ sym (kept_kept g f ms)

-- what passes a test and what passes its opposite are all, each as often: by any test t on members
pub kept_parts : (f t : Member → Bool) (ms : List Member) → length (kept t (kept f ms)) + length (kept t (kept (λ m. not (f m)) ms)) ≡ length (kept t ms)
unfolding kept
kept_parts f t [] = refl
kept_parts f t (m ∷ ms) =
    let ih = kept_parts f t ms in
    whether (t m)
    (λ q. whether (f m) (λ p. rw (p, kept, q) (omega (arith, ih))) (λ p. rw (p, kept, q) (omega (arith, ih))))
    (λ q. whether (f m) (λ p. rw (p, kept, q) ih) (λ p. rw (p, kept, q) ih))

-- those that pass f and those that pass g number as many as those that pass both and those that pass either
pub kept_sums : (f g : Member → Bool) (ms : List Member)
    → length (kept f ms) + length (kept g ms) ≡ length (kept (λ m. f m && g m) ms) + length (kept (λ m. f m || g m) ms)
unfolding kept
kept_sums f g [] = refl
kept_sums f g (m ∷ ms) =
    let ih = kept_sums f g ms in
    whether (f m)
    (λ p. whether (g m) (λ q. rw (p, q) (omega (arith, ih))) (λ q. rw (p, q) (omega (arith, ih))))
    (λ p. whether (g m) (λ q. rw (p, q) (omega (arith, ih))) (λ q. rw (p, q) ih))

pub kept_le : (f : Member → Bool) (ms : List Member) → length (kept f ms) ≤ length ms
unfolding kept
kept_le f [] = omega arith
kept_le f (m ∷ ms) = whether (f m) (λ e. rw e (omega (arith, kept_le f ms))) (λ e. rw e (omega (arith, kept_le f ms)))

-- some member passes if the number of those that do is above 0
pub some_count : (f : Member → Bool) (ms : List Member) → some f ms ≡ ltb 0 (length (kept f ms))
unfolding kept some
some_count f [] = refl
some_count f (m ∷ ms) = whether (f m) (λ e. rw (e, lt-ltb 0 (suc (length (kept f ms))) (omega arith))) (λ e. rw e (some_count f ms))

-- none does if it is 0
pub none_count : (f : Member → Bool) (ms : List Member) → not (some f ms) ≡ eqb (length (kept f ms)) 0
none_count f ms = rw (some_count f ms) (zero (length (kept f ms)))
  where
    zero : (n : ℕ) → not (ltb 0 n) ≡ eqb n 0
    zero ℕ.zero = refl
    zero (suc n) = rw (lt-ltb 0 (suc n) (omega arith)) (sym (ne_eqb (suc n) 0 (λ e. omega arith)))

-- every one does if it is the number of all
pub every_count : (f : Member → Bool) (ms : List Member) → every f ms ≡ eqb (length (kept f ms)) (length ms)
unfolding kept every
every_count f [] = refl
every_count f (m ∷ ms) =
    whether (f m)
    (λ e. rw e (every_count f ms ∙ sym (eqb-suc-suc (length (kept f ms)) (length ms))))
    (λ e. rw (e, ne_eqb (length (kept f ms)) (suc (length ms)) (λ q. omega (arith, kept_le f ms))))
