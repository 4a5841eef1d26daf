-- The calls of a pipeline, from the rows of the tree to a table of their own. Assumes nothing.
use mathlib.Core.Path.{◌≡◌, refl, sym, ap, ◌∙◌, subst}
use mathlib.Core.Bool.{Bool, true, false, ◌&&◌}
use mathlib.Core.List.{List, [], ◌∷◌, ◌++◌, map, append_assoc, append-nil}
use Rattle.std.proofs.lemmas.List.{map-append, take_more_set}
use Rattle.std.specs.Prelude.{Option, Some, None, unwrap_or}
use Prim.Native.Nat.{ℕ, ◌+◌, ◌≤◌, ◌<◌}
use native.Mathlib.Omega.{arith}
use lib.Dec.{eqb, leb}
use lib.ListN.{length, take, set, length-set}
use borrow.Author.Tests.{eqb-true, eqb-false, leb-true, leb-false, lt-leb}
use Rattle.syntax.specs.Kind.{IDENT, ROOT, DOT_CALL, CALL_ARGS}
use Rattle.syntax.proofs.BoolLaws.{whether, both}
use Rattle.predicate.specs.Truth.{first_text}
use Rattle.trees.specs.Green.{Forest}
use Rattle.predicate.specs.Rows.{ROW, kind_at, level_at, text_at, forest_from, children_at, is_row, is_below, row_passes, of_kind, first_row}
use Rattle.predicate.specs.Eval.{FoundAt, FoundNowhere}
use Rattle.predicate.proofs.ForestLaws.{forest_below, forest_token, forest_node, forest_ends, children_none, found_level, found_kind, Ignores, ignored_none, ignored_found}
use Rattle.predicate.proofs.NodeLaws.{row_found, row_absent}
use Rattle.predicate.proofs.RowLaws.{row_there, below_row}
use Rattle.meaning.specs.Calls.{Call}
use Rattle.meaning.specs.Pipeline.{method_of, args_of, call_of, calls_of}
use Rattle.eval.specs.declared.ready.Call.{Call as PlacedCall}
use Rattle.eval.specs.Ready.{call_in, calls_in, args_place, call_row, Holds}

-- ---- a row of the tree

-- one that was found below a level is whole
pub whole_below : (tree : List ℕ) (level at : ℕ) {r : Bool} → r ≡ is_below tree level at → r ≡ true → at + ROW ≤ length tree
whole_below tree level at e h = row_there tree at (below_row tree level at (sym e ∙ h)).0

-- ---- the call that a row of the tree opens

-- the arguments of a call look at no row but that of CALL_ARGS
args_ignores : Ignores (of_kind CALL_ARGS) args_of
unfolding args_of
args_ignores = record { tokens = λ t f e. refl; nodes = λ k s f l e. rw (e, args_of) }

args_found : (rule tree : List ℕ) (level from at : ℕ) → FoundAt (of_kind CALL_ARGS) tree level from at → args_of (forest_from rule tree level from) ≡ children_at rule tree at
unfolding args_of
args_found rule tree level from at f =
    ignored_found args_ignores rule f
    ∙ ap args_of (forest_node rule tree level at f.whole (found_level f) (omega (arith, eqb-true (kind_at tree at) CALL_ARGS (found_kind f))))
    ∙ rw (found_kind f, args_of) (ap (λ (l : ℕ). forest_from rule tree (l + 1) (at + ROW)) (sym (found_level f)))

no_row : (tree : List ℕ) → is_row tree (length tree) ≡ false
unfolding is_row
no_row tree = lt-leb (length tree + ROW) (length tree) (omega arith)

args_none : (rule tree : List ℕ) (level from : ℕ) → FoundNowhere (of_kind CALL_ARGS) tree level from → args_of (forest_from rule tree level from) ≡ children_at rule tree (length tree)
unfolding args_of
args_none rule tree level from n = ignored_none args_ignores rule n ∙ sym (children_none rule tree (length tree) (no_row tree))

-- its place
args_placed : (rule tree : List ℕ) (row : ℕ) → children_at rule tree (args_place tree row) ≡ args_of (children_at rule tree row)
unfolding args_place
args_placed rule tree row = go (first_row (of_kind CALL_ARGS) tree (level_at tree row + 1) (row + ROW)) refl
  where
    go : (f : Option ℕ) → first_row (of_kind CALL_ARGS) tree (level_at tree row + 1) (row + ROW) ≡ f → children_at rule tree (unwrap_or f (length tree)) ≡ args_of (children_at rule tree row)
    go (Some at) e = sym (args_found rule tree (level_at tree row + 1) (row + ROW) at (row_found e))
    go None e = sym (args_none rule tree (level_at tree row + 1) (row + ROW) (row_absent e))

-- it stands for the call
call_row_lem : (rule tree : List ℕ) (row : ℕ) → call_in rule tree (call_row rule tree row) ≡ call_of (children_at rule tree row)
call_row_lem rule tree row = λ i. record { method = method_of (first_text IDENT (children_at rule tree row)); args = args_placed rule tree row i }

-- ---- what ignores rows that fail a test, by the first row of the tree

module _ {A : Type 0} {test : ℕ → Bool} {of : Forest → A} (i : Ignores test of) (rule tree : List ℕ) (level row : ℕ) (h : row + ROW ≤ length tree) where
  ignored_past : level ≤ level_at tree row → row_passes test tree level row ≡ false → of (forest_from rule tree level row) ≡ of (forest_from rule tree level (row + ROW))
  unfolding row_passes
  ignored_past l p = whether (eqb (level_at tree row) level) same deeper
    where
      rest : Forest
      rest = forest_from rule tree level (row + ROW)

      deeper : eqb (level_at tree row) level ≡ false → of (forest_from rule tree level row) ≡ of rest
      deeper e = ap of (forest_below rule tree level row h (omega (arith, eqb-false (level_at tree row) level e)))

      same : eqb (level_at tree row) level ≡ true → of (forest_from rule tree level row) ≡ of rest
      same e =
          let at : level_at tree row ≡ level = eqb-true (level_at tree row) level e in
          let no : test (kind_at tree row) ≡ false = sym (ap (λ (t : Bool). t && test (kind_at tree row)) e) ∙ p in
          whether (leb ROOT (kind_at tree row))
          (λ k.
          let node : ROOT ≤ kind_at tree row = leb-true ROOT (kind_at tree row) k in
          ap of (forest_node rule tree level row h at node) ∙ i.nodes (kind_at tree row) (forest_from rule tree (level + 1) (row + ROW)) rest node no)
          (λ k. ap of (forest_token rule tree level row h at (leb-false ROOT (kind_at tree row) k)) ∙ i.tokens (record { kind = kind_at tree row; text = text_at rule tree row }) rest no)

-- ---- the calls by the first row of the tree

calls_ignores : Ignores (of_kind DOT_CALL) calls_of
unfolding calls_of
calls_ignores = record { tokens = λ t f e. refl; nodes = λ k s f l e. rw (e, calls_of) }

module _ (rule tree : List ℕ) (level row : ℕ) (h : row + ROW ≤ length tree) where
  calls_here : row_passes (of_kind DOT_CALL) tree level row ≡ true
      → calls_of (forest_from rule tree level row) ≡ call_of (children_at rule tree row) ∷ calls_of (forest_from rule tree level (row + ROW))
  unfolding calls_of row_passes
  calls_here p =
      let q = both (eqb (level_at tree row) level) (eqb (kind_at tree row) DOT_CALL) p in
      let l : level_at tree row ≡ level = eqb-true (level_at tree row) level q.0 in
      let k : kind_at tree row ≡ DOT_CALL = eqb-true (kind_at tree row) DOT_CALL q.1 in
      ap calls_of (forest_node rule tree level row h l (omega arith))
      ∙ rw (q.1, calls_of) (ap (λ (n : ℕ). call_of (forest_from rule tree (n + 1) (row + ROW)) ∷ calls_of (forest_from rule tree level (row + ROW))) (sym l))

  calls_past : level ≤ level_at tree row → row_passes (of_kind DOT_CALL) tree level row ≡ false
      → calls_of (forest_from rule tree level row) ≡ calls_of (forest_from rule tree level (row + ROW))
  calls_past l p = ignored_past calls_ignores rule tree level row h l p

-- ---- calls, one behind the other

-- one is written behind the first ones
pub calls_set : (rule tree : List ℕ) (count : ℕ) (rows : List PlacedCall) (call : PlacedCall) → count < length rows
    → calls_in rule tree (take (count + 1) (set rows count call)) ≡ calls_in rule tree (take count rows) ++ (call_in rule tree call ∷ [])
unfolding calls_in
calls_set rule tree count rows call h = ap (map (call_in rule tree)) (take_more_set rows count call h) ∙ map-append (call_in rule tree) (take count rows) (call ∷ [])

-- the calls written, and those at a level from a row of the tree on, together are all, for which there is room
pub record Writing (rule tree : List ℕ) (all : List Call) (level row : ℕ) (before rows : List PlacedCall) (count : ℕ) : Type 0 where
  pub long : length rows ≡ length before
  pub room : length all ≤ length before
  pub number : count + length (calls_of (forest_from rule tree level row)) ≡ length all
  pub calls : calls_in rule tree (take count rows) ++ calls_of (forest_from rule tree level row) ≡ all

pub writing_start : (rule tree : List ℕ) (level row : ℕ) (rows : List PlacedCall) → length (calls_of (forest_from rule tree level row)) ≤ length rows
    → Writing rule tree (calls_of (forest_from rule tree level row)) level row rows rows 0
unfolding calls_in
writing_start rule tree level row rows r = record { long = refl; room = r; number = omega arith; calls = refl }

module _ {rule tree : List ℕ} {all : List Call} {level row : ℕ} {before rows : List PlacedCall} {count : ℕ} (w : Writing rule tree all level row before rows count) where
  module _ (h : row + ROW ≤ length tree) where
    -- the row opens no call
    pub writing_past : level ≤ level_at tree row → row_passes (of_kind DOT_CALL) tree level row ≡ false → Writing rule tree all level (row + ROW) before rows count
    writing_past l p =
        let e = calls_past rule tree level row h l p in
        record {
          long = w.long;
          room = w.room;
          number = subst (λ (cs : List Call). count + length cs ≡ length all) e w.number;
          calls = subst (λ (cs : List Call). calls_in rule tree (take count rows) ++ cs ≡ all) e w.calls;
        }

    -- or it opens one: there is room for it
    module _ (p : row_passes (of_kind DOT_CALL) tree level row ≡ true) where
      opens : calls_of (forest_from rule tree level row) ≡ call_of (children_at rule tree row) ∷ calls_of (forest_from rule tree level (row + ROW))
      opens = calls_here rule tree level row h p

      pub writing_room : count < length rows
      writing_room = omega (arith, w.long, w.room, w.number, ap length opens)

      pub writing_call : {call : PlacedCall} → call ≡ call_row rule tree row → Writing rule tree all level (row + ROW) before (set rows count call) (count + 1)
      writing_call {call} e =
          record {
            long = length-set rows count call ∙ w.long;
            room = w.room;
            number = omega (arith, w.number, ap length opens);
            calls =
                ap (λ (cs : List Call). cs ++ calls_of (forest_from rule tree level (row + ROW))) more
                ∙ append_assoc (calls_in rule tree (take count rows)) (call_of (children_at rule tree row) ∷ []) (calls_of (forest_from rule tree level (row + ROW)))
                ∙ ap (λ (cs : List Call). calls_in rule tree (take count rows) ++ cs) (sym opens)
                ∙ w.calls;
          }
        where
          more : calls_in rule tree (take (count + 1) (set rows count call)) ≡ calls_in rule tree (take count rows) ++ (call_of (children_at rule tree row) ∷ [])
          more =
              calls_set rule tree count rows call writing_room
              ∙ ap (λ (c : Call). calls_in rule tree (take count rows) ++ (c ∷ [])) (ap (call_in rule tree) e ∙ call_row_lem rule tree row)

-- all calls are written where no row is left
pub writing_end : {rule tree : List ℕ} {all : List Call} (level : ℕ) {row : ℕ} {before rows : List PlacedCall} {count : ℕ} → Writing rule tree all (level + 1) row before rows count
    → is_below tree level row ≡ false → Holds rule tree all rows count
unfolding calls_of
writing_end {rule} {tree} {all} level {row} {before} {rows} {count} w b =
    let none : calls_of (forest_from rule tree (level + 1) row) ≡ [] = ap calls_of (forest_ends rule tree level row b) in
    let number : count + 0 ≡ length all = subst (λ (cs : List Call). count + length cs ≡ length all) none w.number in
    record {
      number = omega arith;
      room = omega (arith, w.long, w.room);
      calls = sym (append-nil _) ∙ subst (λ (cs : List Call). calls_in rule tree (take count rows) ++ cs ≡ all) none w.calls;
    }
