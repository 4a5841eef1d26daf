-- Texts appended one after the other, with whatever is cut, and loops that append. Assumes nothing.
use mathlib.Core.Path.{◌≡◌, refl, sym, ap, ◌∙◌}
use mathlib.Core.List.{List, [], ◌∷◌, ◌++◌}
use Prim.Native.Nat.{ℕ, suc, ◌+◌, ◌-◌, min, ◌≤◌, ◌<◌}
use native.Mathlib.Omega.{arith}
use borrow.Author.Tests.{leb-true, leb-false}
use lib.Dec.{leb}
use lib.ListN.{length, get_or, set, take, drop, length-append, take-append-drop, drop_of_length-le}
use lib.Seq.{sets, length-sets, set_out, take-suc, take-length, length-take-le}
use Rattle.syntax.proofs.BoolLaws.{whether}
use Rattle.syntax.proofs.TextLaws.{from}
use Rattle.syntax.proofs.TableLaws.{sets_append}
use Rattle.syntax.specs.Text.{bytes_between}
use Rattle.texts.specs.Append.{Written, Wrote, appended}
use Rattle.texts.specs.declared.Writer.{Writer}
use Rattle.texts.specs.Text.{each}

-- past the end nothing is stored
sets_past : (text out : List ℕ) (at : ℕ) → length out ≤ at → sets out at text ≡ out
sets_past [] out at h = refl
sets_past (b ∷ text) out at h = rw (set_out out at b h) (sets_past text out (suc at) (omega arith))

-- the empty text
pub appended_none : (w : Written) → appended [] w ≡ w
unfolding appended
appended_none w = let none : w.at + min 0 (length w.bytes - w.at) ≡ w.at = omega arith in rw none

-- a text and then another is the two as one, with whatever is cut
pub appended_then : (x y : List ℕ) (w : Written) → appended (x ++ y) w ≡ appended y (appended x w)
unfolding appended
appended_then x y w =
    let at = w.at in
    let a = w.bytes in
    let next = at + min (length x) (length a - at) in
    let long : length (sets a at x) ≡ length a = length-sets a at x in
    let place : at + min (length (x ++ y)) (length a - at) ≡ next + min (length y) (length (sets a at x) - next) = rw (long, length-append x y) (omega arith) in
    let bytes : sets a at (x ++ y) ≡ sets (sets a at x) next y =
    whether (leb (at + length x) (length a))
    (λ t. let e : next ≡ at + length x = omega (arith, leb-true (at + length x) (length a) t) in rw e (sets_append x y a at))
    (λ t.
    let cut : length a < at + length x = leb-false _ _ t in
    let past : length (sets a at x) ≤ next = rw long (omega arith) in
    let beyond : length (sets a at x) ≤ at + length x = rw long (omega arith) in
    sets_append x y a at ∙ sets_past y (sets a at x) (at + length x) beyond ∙ sym (sets_past y (sets a at x) next past)) in
    λ i. record { bytes = bytes i; at = place i }

-- one byte more of a text is stored behind those before it
pub sets_more : (s out : List ℕ) (at i : ℕ) → i < length s → set (sets out at (take i s)) (at + i) (get_or s i 0) ≡ sets out at (take (i + 1) s)
sets_more s out at i h =
    let long : length (take i s) ≡ i = length-take-le i s (omega arith) in
    let one : i + 1 ≡ suc i = omega arith in
    rw (one, take-suc s i 0 h, sets_append (take i s) (get_or s i 0 ∷ []) out at, long)

-- as much of a text as there is room for, stored at its place
pub appended_part : (piece : List ℕ) (w : Written) {n : ℕ} → n ≡ min (length piece) (length w.bytes - w.at) → record { bytes = sets w.bytes w.at (take n piece); at = w.at + n } ≡ appended piece w
unfolding appended
appended_part piece w {n} few =
    let at = w.at in
    let a = w.bytes in
    let long : length (take n piece) ≡ n = length-take-le n piece (omega arith) in
    let whole : sets a at piece ≡ sets a at (take n piece) =
    ap (sets a at) (sym (take-append-drop n piece))
    ∙ sets_append (take n piece) (drop n piece) a at
    ∙ whether (leb (length piece) n)
    (λ t. rw (drop_of_length-le piece (leb-true (length piece) n t)))
    (λ t. sets_past (drop n piece) (sets a at (take n piece)) (at + length (take n piece)) (rw (length-sets a at (take n piece), long) (omega (arith, leb-false (length piece) n t)))) in
    λ i. record { bytes = sym whole i; at = ap (λ (m : ℕ). at + m) few i }

-- the same of a writer
pub wrote_none : {a : Writer} → Wrote [] a a
wrote_none = record { same_place = refl; appends = sym (appended_none _) }

pub wrote_then : {x y : List ℕ} {a b c : Writer} → Wrote x a b → Wrote y b c → Wrote (x ++ y) a c
wrote_then {x} {y} p q = record { same_place = q.same_place ∙ p.same_place; appends = q.appends ∙ ap (appended y) p.appends ∙ sym (appended_then x y _) }

-- each byte for itself is the text
each_itself : (s : List ℕ) → each (λ b. b ∷ []) s ≡ s
unfolding each
each_itself [] = refl
each_itself (b ∷ s) = ap (◌∷◌ b) (each_itself s)

-- a text is the part of it from its first byte to its last
part_whole : (s : List ℕ) → bytes_between s 0 (length s) ≡ s
part_whole s = let all : length s - 0 ≡ length s = omega arith in rw all (take-length s)

-- a loop over the bytes of s that writes f of each is at i: writing the rest ends as writing the whole text does
pub record Walks (f : ℕ → List ℕ) (s text : List ℕ) (before now : Writer) (i : ℕ) : Type 0 where
  pub whole : {after : Writer} → Wrote (each f (bytes_between s i (length s))) now after → Wrote text before after

pub walks_all : {f : ℕ → List ℕ} {s : List ℕ} {a : Writer} → Walks f s (each f s) a a 0
walks_all {f} {s} = record { whole = λ p. rw (part_whole s) at p }

module _ {f : ℕ → List ℕ} {s text : List ℕ} {before now : Writer} {i : ℕ} (w : Walks f s text before now i) where
  -- the bytes that are left: the next, and those behind it
  rest : i < length s → each f (bytes_between s i (length s)) ≡ f (get_or s i 0) ++ each f (bytes_between s (i + 1) (length s))
  unfolding each
  rest h =
      let one : length s - i ≡ suc (length s - (i + 1)) = omega arith in
      rw (from s i h, one)

  pub walks_on : {next : Writer} → i < length s → Wrote (f (get_or s i 0)) now next → Walks f s text before next (i + 1)
  walks_on h p = record { whole = λ q. w.whole (rw (rest h) (wrote_then p q)) }

  pub walks_end : length s ≤ i → Wrote text before now
  unfolding each
  walks_end h = let none : length s - i ≡ 0 = omega arith in w.whole (rw none wrote_none)
