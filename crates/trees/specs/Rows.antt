-- A reading as rows of the lent tables. Assumes nothing: these are definitions.
use Rattle.std.specs.Prelude.{ℕ, ◌+◌, ◌-◌, List, [], ◌∷◌, ◌++◌, length}
use Rattle.trees.specs.Green.{Forest, nil, leaf, node, width, span}
use Rattle.trees.specs.Look.{head_text}
use Rattle.trees.specs.Parse.{Error}

-- tree rows in preorder: kind, level, first byte, end byte; `level` and `at` are those of the forest's first row
unfoldable pub tree_rows : ℕ → ℕ → Forest → List ℕ
unfolding span
tree_rows level at nil = []
tree_rows level at (leaf t f) = let end = at + length t.text in t.kind ∷ level ∷ at ∷ end ∷ tree_rows level end f
tree_rows level at (node k s f) = let end = at + span s in k ∷ level ∷ at ∷ end ∷ (tree_rows (level + 1) at s ++ tree_rows level end f)

-- error rows: form, expected kind, first and end byte of the token found; n is the number of the rule's bytes
unfoldable pub error_rows : ℕ → List Error → List ℕ
unfolding width
error_rows n [] = []
error_rows n (e ∷ es) =
    let first = n - width e.left in
    e.form ∷ e.expected ∷ first ∷ (first + length (head_text e.left)) ∷ error_rows n es
