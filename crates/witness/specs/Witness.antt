-- The rule that names the members for which a quantifier failed: `C.where(not (P))` for `C.all(P)`, `C.where(P)` for `C.none(P)`, where C
-- is all that stands before the last call and (P) what stands behind its method. Demand 3 says that these are the members. Assumes nothing:
-- these are definitions.
use Rattle.std.specs.Prelude.{ℕ, ◌+◌, Bool, cond, ◌&&◌, List, [], ◌∷◌, ◌++◌, eqb, get_or}
use Rattle.std.specs.declared.option.Option.{Option}
use Rattle.std.specs.declared.option.Option.TheVariants.{None, Some}
use Rattle.syntax.specs.Kind.{IDENT, DOT_CALL, CALL_ARGS}
use Rattle.syntax.specs.Text.{ascii, same, bytes_between}
use Rattle.predicate.specs.Truth.{first_text}
use Rattle.predicate.specs.Rows.{ROW, kind_at, level_at, text_at, children_at, of_kind, first_row}

-- the calls of a pipeline stand in it, and it in the root
abbrev pub CALL_LEVEL : ℕ
CALL_LEVEL = 2

-- whether the row at a place is such a call
abbrev pub is_call : (tree : List ℕ) (at : ℕ) → Bool
is_call tree at = eqb (level_at tree at) CALL_LEVEL && eqb (kind_at tree at) DOT_CALL

-- the place of the last call among rows that begin at a place; `found` is the last one before them
unfoldable pub last_from : (at : ℕ) (found : Option ℕ) → List ℕ → Option ℕ
last_from at found [] = found
last_from at found (k ∷ []) = found
last_from at found (k ∷ m ∷ []) = found
last_from at found (k ∷ m ∷ first ∷ []) = found
last_from at found (k ∷ m ∷ first ∷ end ∷ rows) = last_from (at + ROW) (cond (eqb m CALL_LEVEL && eqb k DOT_CALL) (Some at) found) rows

-- of a tree table
unfoldable pub last_call : List ℕ → Option ℕ
unfolding last_from
last_call tree = last_from 0 None tree

-- what stands behind a call's method
abbrev pub text_in : (rule tree : List ℕ) → Option ℕ → List ℕ
text_in rule tree (Some at) = text_at rule tree at
text_in rule tree None = []

unfoldable pub args_text : (rule tree : List ℕ) → ℕ → List ℕ
unfolding first_row
args_text rule tree call = text_in rule tree (first_row (of_kind CALL_ARGS) tree (level_at tree call + 1) (call + ROW))

-- the text, by the last call's word: that of a quantifier which can fail for members
unfoldable pub by_word : (word before args : List ℕ) → List ℕ
by_word word before args =
    cond (same word (ascii "all")) (before ++ (ascii ".where(not " ++ (args ++ ascii ")")))
    (cond (same word (ascii "none")) (before ++ (ascii ".where" ++ args)) [])

-- the text of a call, and of the last one
unfoldable pub call_text : (rule tree : List ℕ) (call : ℕ) → List ℕ
unfolding args_text by_word first_text
call_text rule tree call = by_word (first_text IDENT (children_at rule tree call)) (bytes_between rule 0 (get_or tree (call + 2) 0)) (args_text rule tree call)

abbrev pub text_of : (rule tree : List ℕ) → Option ℕ → List ℕ
text_of rule tree None = []
text_of rule tree (Some call) = call_text rule tree call

unfoldable pub witness_text : (rule tree : List ℕ) → List ℕ
unfolding last_call
witness_text rule tree = text_of rule tree (last_call tree)
