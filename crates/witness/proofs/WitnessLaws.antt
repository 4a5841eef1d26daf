-- The last call of a tree, looked for from the last row on, and the text made of its parts. Assumes nothing.
use mathlib.Core.Path.{◌≡◌, refl, sym, ap, ◌∙◌}
use mathlib.Core.Bool.{true, false, cond}
use mathlib.Core.List.{List, [], ◌∷◌, ◌++◌, append_assoc}
use Prim.Native.Nat.{ℕ, zero, suc, ◌+◌, ◌*◌, ◌/◌, ◌-◌, ◌≤◌, ◌<◌}
use native.Mathlib.Omega.{arith}
use lib.ListN.{length, get_or, drop}
use Rattle.std.specs.declared.option.Option.{Option}
use Rattle.std.specs.declared.option.Option.TheVariants.{None, Some}
use Rattle.syntax.specs.Kind.{IDENT, CALL_ARGS}
use Rattle.syntax.specs.Text.{ascii, same, bytes_between}
use Rattle.syntax.proofs.BoolLaws.{whether}
use Rattle.syntax.proofs.TextLaws.{same_eq}
use Rattle.predicate.specs.Truth.{first_text}
use Rattle.predicate.specs.Rows.{ROW, level_at, children_at, of_kind, first_row}
use Rattle.predicate.proofs.RowLaws.{drop_row, few}
use Rattle.witness.specs.Witness.{is_call, last_from, last_call, text_in, args_text, by_word, call_text, text_of, witness_text}

-- the last call among the rows from the i-th on, if one is there, and else the one found before
abbrev after : List ℕ → ℕ → Option ℕ → Option ℕ
after tree i found = last_from (ROW * i) found (drop (ROW * i) tree)

after_one : (tree : List ℕ) (i : ℕ) (found : Option ℕ) → i < length tree / ROW → after tree i found ≡ after tree (i + 1) (cond (is_call tree (ROW * i)) (Some (ROW * i)) found)
unfolding last_from
after_one tree i found h =
    let place : ROW * (i + 1) ≡ ROW * i + ROW = omega arith in
    ap (last_from (ROW * i) found) (drop_row tree (ROW * i) (omega arith))
    ∙ sym (λ k. last_from (place k) (cond (is_call tree (ROW * i)) (Some (ROW * i)) found) (drop (place k) tree))

short : (at : ℕ) (found : Option ℕ) (rows : List ℕ) → length rows < ROW → last_from at found rows ≡ found
unfolding last_from
short at found [] h = refl
short at found (k ∷ []) h = refl
short at found (k ∷ m ∷ []) h = refl
short at found (k ∷ m ∷ a ∷ []) h = refl
short at found (k ∷ m ∷ a ∷ e ∷ rows) h = absurd (omega arith)

-- the rows before the i-th have a last call or none, and what is behind them decides
reach : (tree : List ℕ) (i : ℕ) → i ≤ length tree / ROW → (found : Option ℕ) × (after tree i found ≡ last_call tree)
unfolding last_call
reach tree zero h = (None, refl)
reach tree (suc i) h =
    let r = reach tree i (omega arith) in
    let one : i + 1 ≡ suc i = omega arith in
    (cond (is_call tree (ROW * i)) (Some (ROW * i)) r.0, rw one at (sym (after_one tree i r.0 (omega arith))) ∙ r.1)

-- no row from the i-th on is a call
pub record Past (tree : List ℕ) (i : ℕ) : Type 0 where
  pub within : i ≤ length tree / ROW
  pub rest : (found : Option ℕ) → after tree i found ≡ found

pub past_start : (tree : List ℕ) → Past tree (length tree / ROW)
past_start tree = let i = length tree / ROW in record { within = omega arith; rest = λ found. short (ROW * i) found (drop (ROW * i) tree) (few tree (ROW * i) (omega arith)) }

-- the row before them
module _ {tree : List ℕ} {i : ℕ} (p : Past tree i) (some : 0 < i) where
  one_back : (found : Option ℕ) → after tree (i - 1) found ≡ cond (is_call tree (ROW * (i - 1))) (Some (ROW * (i - 1))) found
  one_back found =
      let next : i - 1 + 1 ≡ i = omega arith in
      rw next at (after_one tree (i - 1) found (omega (arith, p.within))) ∙ p.rest (cond (is_call tree (ROW * (i - 1))) (Some (ROW * (i - 1))) found)

  pub past_more : is_call tree (ROW * (i - 1)) ≡ false → Past tree (i - 1)
  past_more e = record { within = omega (arith, p.within); rest = λ found. rw e at (one_back found) }

  pub past_found : is_call tree (ROW * (i - 1)) ≡ true → Some (ROW * (i - 1)) ≡ last_call tree
  past_found e =
      let r = reach tree (i - 1) (omega (arith, p.within)) in
      sym (rw e at (one_back r.0)) ∙ r.1

pub past_none : {tree : List ℕ} {i : ℕ} → Past tree i → i ≤ 0 → None ≡ last_call tree
unfolding last_call
past_none {tree} {i} p h = let z : i ≡ 0 = omega arith in sym (rw z at (p.rest None))

-- what stands behind a method, by the row found
module _ (rule tree : List ℕ) (call : ℕ) {found : Option ℕ} (e : found ≡ first_row (of_kind CALL_ARGS) tree (level_at tree call + 1) (call + ROW)) where
  pub args_none : found ≡ None → [] ≡ args_text rule tree call
  unfolding args_text
  args_none h = sym (ap (text_in rule tree) (sym e ∙ h))

  pub args_at : {at first end : ℕ} → found ≡ Some at → first ≡ get_or tree (at + 2) 0 → end ≡ get_or tree (at + 3) 0 → bytes_between rule first end ≡ args_text rule tree call
  unfolding args_text
  args_at h f g = (λ i. bytes_between rule (f i) (g i)) ∙ sym (ap (text_in rule tree) (sym e ∙ h))

-- the text by the word of a call
module _ (word before args : List ℕ) where
  pub all_is : word ≡ ascii "all" → by_word word before args ≡ before ++ ascii ".where(not " ++ args ++ ascii ")"
  unfolding by_word
  all_is e = rw e (sym (simp append_assoc))

  pub none_is : word ≡ ascii "none" → by_word word before args ≡ before ++ ascii ".where" ++ args
  unfolding by_word
  none_is e = rw e (sym (append_assoc before (ascii ".where") args))

  other : (text : List ℕ) → (word ≡ text → ⊥) → same word text ≡ false
  other text h = whether (same word text) (λ t. absurd (h (same_eq word text t))) (λ f. f)

  pub other_is : (word ≡ ascii "all" → ⊥) → (word ≡ ascii "none" → ⊥) → by_word word before args ≡ []
  unfolding by_word
  other_is f g = rw (other (ascii "all") f, other (ascii "none") g)

-- the whole text, by its parts
pub call_is : (rule tree : List ℕ) {word before args : List ℕ} (call : ℕ) → word ≡ first_text IDENT (children_at rule tree call)
    → before ≡ bytes_between rule 0 (get_or tree (call + 2) 0) → args ≡ args_text rule tree call → by_word word before args ≡ call_text rule tree call
unfolding call_text
call_is rule tree call w b a = λ i. by_word (w i) (b i) (a i)

pub witness_is : (rule tree : List ℕ) {found : Option ℕ} → found ≡ last_call tree → text_of rule tree found ≡ witness_text rule tree
unfolding witness_text
witness_is rule tree e = ap (text_of rule tree) e
