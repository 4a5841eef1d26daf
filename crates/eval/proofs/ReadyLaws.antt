-- Calls, read back one after the other. Assumes nothing.
use mathlib.Core.Path.{◌≡◌, refl, sym, ap, ap₂, ◌∙◌}
use mathlib.Core.Bool.{Bool, true, false, false≢true}
use mathlib.Core.List.{List, [], ◌∷◌}
use Prim.Native.Nat.{ℕ, suc, ◌+◌, ◌≤◌, ◌<◌}
use native.Mathlib.Omega.{arith}
use lib.ListN.{length, drop}
use Rattle.std.specs.Prelude.{Ok, Err}
use Rattle.std.proofs.lemmas.List.{drop_all}
use lib.Seq.{drop-cons}
use Rattle.syntax.specs.declared.refusal.Refusal.{Refusal}
use Rattle.meaning.specs.declared.ValueKind.{ValueKind}
use Rattle.meaning.specs.declared.Method.{Method}
use Rattle.meaning.specs.declared.Method.TheVariants.{Where, All, Count, None, Any, Features, Diagnostics}
use Rattle.meaning.specs.Calls.{Call, Entry, gives}
use Rattle.meaning.specs.Walk.{entries_after, plan_of, is_last, is_quantifier, last_method}
use Rattle.eval.specs.declared.ready.Call.{Call as PlacedCall}
use Rattle.eval.specs.Ready.{call_in, no_call, nth, calls_in, calls_from, KindAfter, first_last, LastMethod}

module _ (rule tree : List ℕ) (rows : List PlacedCall) (i : ℕ) where
  pub calls_at : i < length rows → calls_from rule tree rows i ≡ call_in rule tree (nth rows i) ∷ calls_from rule tree rows (i + 1)
  unfolding calls_from calls_in
  calls_at h =
      let next : suc i ≡ i + 1 = omega arith in
      ap (calls_in rule tree) (drop-cons rows i no_call h) ∙ ap (λ (n : ℕ). call_in rule tree (nth rows i) ∷ calls_in rule tree (drop n rows)) next

  pub calls_over : length rows ≤ i → calls_from rule tree rows i ≡ []
  unfolding calls_from calls_in
  calls_over h = ap (calls_in rule tree) (drop_all i rows h)

pub calls_all : (rule tree : List ℕ) (rows : List PlacedCall) → calls_from rule tree rows 0 ≡ calls_in rule tree rows
unfolding calls_from
calls_all rule tree rows = refl

-- ---- the kind after all calls

-- a refusal stays
refusal_stays : (calls : List Call) (r : Refusal) → entries_after calls (Err r) ≡ Err r
refusal_stays [] r = refl
refusal_stays (call ∷ calls) r = refusal_stays calls r

-- the kind after the calls before the i-th
pub record Kinds (rows : List PlacedCall) (source kind : ValueKind) (i : ℕ) : Type 0 where
  pub rest : (rule tree : List ℕ) → plan_of kind (calls_from rule tree rows i) ≡ plan_of source (calls_in rule tree rows)

pub kinds_start : (rows : List PlacedCall) (source : ValueKind) → Kinds rows source source 0
kinds_start rows source = record { rest = λ rule tree. ap (plan_of source) (calls_all rule tree rows) }

module _ {rows : List PlacedCall} {source kind : ValueKind} {i : ℕ} (k : Kinds rows source kind i) where
  module _ {given : Entry} (h : i < length rows) (g : given ≡ gives (nth rows i).method kind) where
    step : (rule tree : List ℕ) → entries_after (calls_from rule tree rows (i + 1)) given ≡ plan_of source (calls_in rule tree rows)
    step rule tree = ap (entries_after (calls_from rule tree rows (i + 1))) g ∙ sym (ap (plan_of kind) (calls_at rule tree rows i h)) ∙ k.rest rule tree

    pub kinds_refused : {r : Refusal} {after : Entry} → given ≡ Err r → after ≡ Err r → KindAfter rows source after
    kinds_refused {r} e is =
        record {
          next = λ rule tree.
              is
              ∙ sym (refusal_stays (calls_from rule tree rows (i + 1)) r)
              ∙ ap (entries_after (calls_from rule tree rows (i + 1))) (sym e)
              ∙ step rule tree;
        }

    pub kinds_on : {n : ValueKind} → given ≡ Ok n → Kinds rows source n (i + 1)
    kinds_on e = record { rest = λ rule tree. ap (entries_after (calls_from rule tree rows (i + 1))) (sym e) ∙ step rule tree }

  pub kinds_end : length rows ≤ i → KindAfter rows source (Ok kind)
  kinds_end h = record { next = λ rule tree. ap (plan_of kind) (sym (calls_over rule tree rows i h)) ∙ k.rest rule tree }

-- what it says of the plan of calls that are read back
pub planned : (rule tree : List ℕ) {rows : List PlacedCall} {source : ValueKind} {given : Entry} (kind : ValueKind) (calls : List Call)
    → KindAfter rows source given → source ≡ kind → calls_in rule tree rows ≡ calls → given ≡ plan_of kind calls
planned rule tree kind calls a k c = a.next rule tree ∙ ap₂ plan_of k c

-- ---- the last call

-- a quantifier is one
pub quantifier_last : (m : Method) → is_quantifier m ≡ true → is_last m ≡ true
quantifier_last Where t = absurd (false≢true t)
quantifier_last All t = refl
quantifier_last Any t = refl
quantifier_last None t = refl
quantifier_last Count t = refl
quantifier_last Features t = absurd (false≢true t)
quantifier_last Diagnostics t = absurd (false≢true t)

-- one that is not `count` is a quantifier
pub quantifier_of : (m : Method) → is_last m ≡ true → (m ≡ Count → ⊥) → is_quantifier m ≡ true
quantifier_of Where l h = absurd (false≢true l)
quantifier_of All l h = refl
quantifier_of Any l h = refl
quantifier_of None l h = refl
quantifier_of Count l h = absurd (h refl)
quantifier_of Features l h = absurd (false≢true l)
quantifier_of Diagnostics l h = absurd (false≢true l)

-- the first one found is it
first_is_last : (rule tree : List ℕ) (rows : List PlacedCall) → first_last rows ≡ last_method (calls_in rule tree rows)
unfolding last_method calls_in
first_is_last rule tree [] = refl
first_is_last rule tree (row ∷ rows) = go (is_last row.method) refl (first_is_last rule tree rows)
  where
    go : (b : Bool) → is_last row.method ≡ b → first_last rows ≡ last_method (calls_in rule tree rows) → first_last (row ∷ rows) ≡ last_method (calls_in rule tree (row ∷ rows))
    go true e rest = rw e refl
    go false e rest = rw e rest

pub last_found : {rows : List PlacedCall} {method : Method} → method ≡ first_last rows → LastMethod rows method
last_found {rows} e = record { method = λ rule tree. e ∙ first_is_last rule tree rows }
