-- Tree rows read back as a green tree. Assumes nothing: these are definitions.
use Rattle.std.specs.Prelude.{ℕ, ◌+◌, ◌-◌, Bool, ◌&&◌, cond, List, [], ◌∷◌, eqb, ltb, leb, length, get_or, drop, Option, None, Some}
use Rattle.syntax.specs.Kind.{ROOT}
use Rattle.syntax.specs.Text.{bytes_between}
use Rattle.lexer.specs.Read.{TREE_ROW}
use Rattle.trees.specs.Green.{Forest, nil, leaf, node}

-- the numbers of a tree row: kind, level, first byte, end byte
abbrev pub ROW : ℕ
ROW = TREE_ROW

-- what a row is to a forest at a level: below one of its nodes, past its end, one of its tokens, one of its nodes
pub data Place : Type 0 where
  below past token child : Place

-- of a row of a kind at level m. The kinds of nodes begin with ROOT
unfoldable pub place_of : ℕ → ℕ → ℕ → Place
place_of level kind m = cond (ltb level m) below (cond (ltb m level) past (cond (ltb kind ROOT) token child))

-- the forest that a row begins, with its text, the forest one level below and the one that follows
abbrev pub grown : Place → ℕ → List ℕ → Forest → Forest → Forest
grown below kind text inner rest = rest
grown past kind text inner rest = nil
grown token kind text inner rest = leaf (record { kind = kind; text = text }) rest
grown child kind text inner rest = node kind inner rest

-- the forest at a level that rows begin with; rows below it may come first
unfoldable pub forest : List ℕ → ℕ → List ℕ → Forest
unfolding place_of
forest rule level [] = nil
forest rule level (k ∷ []) = nil
forest rule level (k ∷ m ∷ []) = nil
forest rule level (k ∷ m ∷ first ∷ []) = nil
forest rule level (k ∷ m ∷ first ∷ end ∷ rows) =
    grown (place_of level k m) k (bytes_between rule first end) (forest rule (level + 1) rows) (forest rule level rows)

-- the row at a place of a tree table
abbrev pub kind_at : List ℕ → ℕ → ℕ
kind_at tree at = get_or tree at 0

abbrev pub level_at : List ℕ → ℕ → ℕ
level_at tree at = get_or tree (at + 1) 0

abbrev pub text_at : List ℕ → List ℕ → ℕ → List ℕ
text_at rule tree at = bytes_between rule (get_or tree (at + 2) 0) (get_or tree (at + 3) 0)

-- the forest at a level from a place of a tree table on
unfoldable pub forest_from : List ℕ → List ℕ → ℕ → ℕ → Forest
unfolding forest
forest_from rule tree level at = forest rule level (drop at tree)

-- the children of the node whose row is at a place; none where no whole row is there
abbrev pub children_at : List ℕ → List ℕ → ℕ → Forest
children_at rule tree at = forest_from rule tree (level_at tree at + 1) (at + ROW)

-- the node whose row is at a place; nothing where no whole row is there
unfoldable pub node_at : List ℕ → List ℕ → ℕ → Forest
unfolding forest_from
node_at rule tree at =
    cond (leb (at + ROW) (length tree))
    (node (kind_at tree at) (children_at rule tree at) nil)
    nil

-- whether a whole row is at a place
unfoldable pub is_row : List ℕ → ℕ → Bool
is_row tree at = leb (at + ROW) (length tree)

-- whether there is one, and it is below a level
unfoldable pub is_below : List ℕ → ℕ → ℕ → Bool
unfolding is_row
is_below tree level at = is_row tree at && ltb level (level_at tree at)

-- whether a row at a place is at a level and its kind passes a test
unfoldable pub row_passes : (ℕ → Bool) → List ℕ → ℕ → ℕ → Bool
row_passes test tree level at = eqb (level_at tree at) level && test (kind_at tree at)

-- the tests: one kind, or any of a node
abbrev pub of_kind : ℕ → ℕ → Bool
of_kind kind k = eqb k kind

abbrev pub of_node : ℕ → Bool
of_node k = leb ROOT k

-- the rows from the first one that is at a level and passes, before one that is above the level; none where there is none such
unfoldable pub rows_from : (ℕ → Bool) → ℕ → List ℕ → List ℕ
rows_from test level [] = []
rows_from test level (k ∷ []) = []
rows_from test level (k ∷ m ∷ []) = []
rows_from test level (k ∷ m ∷ first ∷ []) = []
rows_from test level (k ∷ m ∷ first ∷ end ∷ rows) =
    cond (ltb m level) [] (cond (eqb m level && test k) (k ∷ m ∷ first ∷ end ∷ rows) (rows_from test level rows))

-- the place in a table where rows begin that are the last of it; none where there are none
unfoldable pub place_in : List ℕ → List ℕ → Option ℕ
place_in tree [] = None
place_in tree (x ∷ rows) = Some (length tree - length (x ∷ rows))

-- the place of the first row at a level, from a place on, that passes, before one that is above the level
unfoldable pub first_row : (ℕ → Bool) → List ℕ → ℕ → ℕ → Option ℕ
unfolding rows_from place_in
first_row test tree level from = place_in tree (rows_from test level (drop from tree))

-- the rows below a level that rows begin with are passed over
unfoldable pub past_below : ℕ → List ℕ → List ℕ
past_below level [] = []
past_below level (k ∷ []) = k ∷ []
past_below level (k ∷ m ∷ []) = k ∷ m ∷ []
past_below level (k ∷ m ∷ first ∷ []) = k ∷ m ∷ first ∷ []
past_below level (k ∷ m ∷ first ∷ end ∷ rows) = cond (ltb level m) (past_below level rows) (k ∷ m ∷ first ∷ end ∷ rows)
