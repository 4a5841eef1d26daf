-- Forests one after the other: their rows, bytes, levels; and error rows. Assumes nothing.
use mathlib.Core.Path.{◌≡◌, refl, sym, ap, ◌∙◌}
use mathlib.Core.List.{List, [], ◌∷◌, ◌++◌, append_assoc}
use Prim.Native.Nat.{ℕ, zero, suc, ◌+◌, ◌*◌, ◌-◌, ◌≤◌, max}
use native.Mathlib.Omega.{arith}
use lib.ListN.{length, take, drop, length-append}
use Rattle.lexer.specs.Lex.{Token}
use Rattle.trees.specs.Green.{Forest, nil, leaf, node, ◌⊹◌, size, height, width, span}
use Rattle.trees.specs.Look.{head_text}
use Rattle.trees.specs.Parse.{Error}
use Rattle.trees.specs.Rows.{tree_rows, error_rows}

pub span-⊹ : (f g : Forest) → span (f ⊹ g) ≡ span f + span g
unfolding ◌⊹◌ span
span-⊹ nil g = omega arith
span-⊹ (leaf t f) g = let h = span-⊹ f g in omega arith
span-⊹ (node k s f) g = let h = span-⊹ f g in omega arith

pub size-⊹ : (f g : Forest) → size (f ⊹ g) ≡ size f + size g
unfolding ◌⊹◌ size
size-⊹ nil g = omega arith
size-⊹ (leaf t f) g = let h = size-⊹ f g in omega arith
size-⊹ (node k s f) g = let h = size-⊹ f g in omega arith

pub height-⊹ : (f g : Forest) → height (f ⊹ g) ≡ max (height f) (height g)
unfolding ◌⊹◌ height
height-⊹ nil g = omega arith
height-⊹ (leaf t f) g = height-⊹ f g
height-⊹ (node k s f) g = let h = height-⊹ f g in omega arith

-- the tokens of a forest, in order
unfoldable pub tokens_of : Forest → List Token
tokens_of nil = []
tokens_of (leaf t f) = t ∷ tokens_of f
tokens_of (node k s f) = tokens_of s ++ tokens_of f

pub tokens_of-⊹ : (f g : Forest) → tokens_of (f ⊹ g) ≡ tokens_of f ++ tokens_of g
unfolding ◌⊹◌ tokens_of
tokens_of-⊹ nil g = refl
tokens_of-⊹ (leaf t f) g = ap {B = List Token} (λ r. t ∷ r) (tokens_of-⊹ f g)
tokens_of-⊹ (node k s f) g =
    ap (λ (r : List Token). tokens_of s ++ r) (tokens_of-⊹ f g) ∙ sym (append_assoc (tokens_of s) (tokens_of f) (tokens_of g))

-- a forest is no deeper than it has rows
pub height_size : (f : Forest) → height f ≤ size f
unfolding height size
height_size nil = omega arith
height_size (leaf t f) = let h = height_size f in omega arith
height_size (node k s f) = let h = height_size s in let g = height_size f in omega arith

pub tree_rows_length : (level at : ℕ) (f : Forest) → length (tree_rows level at f) ≡ 4 * size f
unfolding tree_rows size
tree_rows_length level at nil = omega arith
tree_rows_length level at (leaf t f) = let h = tree_rows_length level (at + length t.text) f in omega arith
tree_rows_length level at (node k s f) =
    let h = tree_rows_length (level + 1) at s in
    let g = tree_rows_length level (at + span s) f in
    let a = length-append (tree_rows (level + 1) at s) (tree_rows level (at + span s) f) in
    omega arith

pub tree_rows-⊹ : (level at : ℕ) (f g : Forest) → tree_rows level at (f ⊹ g) ≡ tree_rows level at f ++ tree_rows level (at + span f) g
unfolding ◌⊹◌ tree_rows span
tree_rows-⊹ level at nil g = ap (λ (k : ℕ). tree_rows level k g) (omega arith)
tree_rows-⊹ level at (leaf t f) g =
    ap (λ (r : List ℕ). t.kind ∷ level ∷ at ∷ (at + length t.text) ∷ r)
    (tree_rows-⊹ level (at + length t.text) f g ∙ ap (λ (k : ℕ). tree_rows level (at + length t.text) f ++ tree_rows level k g) (omega arith))
tree_rows-⊹ level at (node k s f) g =
    ap (λ (r : List ℕ). k ∷ level ∷ at ∷ (at + span s) ∷ r)
    (ap (λ (r : List ℕ). tree_rows (level + 1) at s ++ r) (tree_rows-⊹ level (at + span s) f g)
    ∙ sym (append_assoc (tree_rows (level + 1) at s) (tree_rows level (at + span s) f) (tree_rows level (at + span s + span f) g))
    ∙ ap (λ (j : ℕ). (tree_rows (level + 1) at s ++ tree_rows level (at + span s) f) ++ tree_rows level j g) (omega arith))

pub error_rows_length : (n : ℕ) (es : List Error) → length (error_rows n es) ≡ 4 * length es
unfolding error_rows
error_rows_length n [] = omega arith
error_rows_length n (e ∷ es) = let h = error_rows_length n es in omega arith

pub error_rows_append : (n : ℕ) (es fs : List Error) → error_rows n (es ++ fs) ≡ error_rows n es ++ error_rows n fs
unfolding error_rows
error_rows_append n [] fs = refl
error_rows_append n (e ∷ es) fs =
    ap (λ (r : List ℕ). e.form ∷ e.expected ∷ (n - width e.left) ∷ (n - width e.left + length (head_text e.left)) ∷ r)
    (error_rows_append n es fs)

-- the bytes of tokens up to a place and from it on
pub width_split : (i : ℕ) (ts : List Token) → width (take i ts) + width (drop i ts) ≡ width ts
unfolding width
width_split zero ts = omega arith
width_split (suc i) [] = omega arith
width_split (suc i) (t ∷ ts) = let h = width_split i ts in omega arith
