-- The node whose row is at a place: the first row inside that passes a test, and the texts inside. Assumes nothing.
use mathlib.Core.Path.{◌≡◌, refl, sym, ap, ◌∙◌, subst}
use mathlib.Core.Bool.{Bool}
use mathlib.Core.List.{List, [], ◌∷◌, cons≢nil}
use Prim.Native.Nat.{ℕ, suc, ◌+◌, ◌-◌, ◌≤◌, ◌<◌}
use native.Mathlib.Omega.{arith}
use lib.ListN.{length, take, drop, length-drop, drop_of_length-le}
use lib.Seq.{drop-drop}
use Rattle.std.proofs.lemmas.List.{get_or-drop}
use borrow.Author.Tests.{eqb-true}
use Rattle.syntax.specs.Kind.{STRING_LIT, ROOT, LITERAL}
use Rattle.std.specs.Prelude.{Option, None, Some}
use Rattle.predicate.specs.Truth.{content, first_text, literal_of}
use Rattle.predicate.specs.Rows.{ROW, level_at, text_at, forest, forest_from, children_at, of_kind, rows_from, place_in, first_row}
use Rattle.predicate.specs.Eval.{FoundAt, FoundNowhere, Finds}
use Rattle.predicate.proofs.RowLaws.{by_found, row_and, drop_row}
use Rattle.predicate.proofs.ForestLaws.{forest_token, forest_node, Ignores, ignored}

-- how many numbers before the row found stand
record Before (rows found : List ℕ) : Type 0 where
  skipped : ℕ
  here : drop skipped rows ≡ found
  whole : skipped + ROW ≤ length rows

found_before : (test : ℕ → Bool) (level : ℕ) (rows : List ℕ) (x : ℕ) (more : List ℕ) → rows_from test level rows ≡ x ∷ more → Before rows (rows_from test level rows)
found_before test level rows x more =
    by_found test level (λ rows found. found ≡ x ∷ more → Before rows found)
    (λ rows l h. absurd (cons≢nil (sym h)))
    (λ k m a e rows l h. absurd (cons≢nil (sym h)))
    (λ k m a e rows l p h. record { skipped = 0; here = refl; whole = omega arith })
    (λ k m a e rows l p ih h. record { skipped = suc (suc (suc (suc (ih h).skipped))); here = (ih h).here; whole = omega (arith, (ih h).whole) }) rows

-- the first row that passes is the one found, and there is none where none is
module _ {test : ℕ → Bool} {tree : List ℕ} {level from : ℕ} where
  pub first_found : {at : ℕ} → FoundAt test tree level from at → Some at ≡ first_row test tree level from
  unfolding first_row place_in
  first_found {at} f =
      let place : Some at ≡ place_in tree (row_and tree at) = ap Some (omega (arith, length-drop (at + ROW) tree, f.whole)) in
      place ∙ ap (place_in tree) (sym (drop_row tree at f.whole) ∙ f.here)

  pub first_nowhere : FoundNowhere test tree level from → None ≡ first_row test tree level from
  unfolding first_row place_in
  first_nowhere n = ap (place_in tree) (sym n.none)

  -- the place of the rows found, by how many they are
  found_place : {x : ℕ} {more : List ℕ} → rows_from test level (drop from tree) ≡ x ∷ more → FoundAt test tree level from (length tree - length (x ∷ more))
  found_place {x} {more} e = subst (FoundAt test tree level from) same there
    where
      b : Before (drop from tree) (rows_from test level (drop from tree))
      b = found_before test level (drop from tree) x more e

      there : FoundAt test tree level from (from + b.skipped)
      there =
          record {
            later = omega arith;
            whole = omega (arith, b.whole, length-drop from tree);
            here = sym (drop-drop b.skipped from tree) ∙ b.here;
          }

      same : from + b.skipped ≡ length tree - length (x ∷ more)
      same = omega (arith, b.whole, length-drop from tree, ap length (b.here ∙ e), length-drop b.skipped (drop from tree))

  pub found_some : (found : List ℕ) → found ≡ rows_from test level (drop from tree) → 0 < length found → FoundAt test tree level from (length tree - length found)
  found_some [] e h = absurd (omega arith)
  found_some (x ∷ more) e h = found_place (sym e)

  pub row_found : {at : ℕ} → first_row test tree level from ≡ Some at → FoundAt test tree level from at
  unfolding first_row place_in
  row_found {at} h = go (rows_from test level (drop from tree)) refl h
    where
      go : (rows : List ℕ) → rows_from test level (drop from tree) ≡ rows → place_in tree rows ≡ Some at → FoundAt test tree level from at
      go [] e p =
          let z : ◌≡◌ {A = ℕ} 0 1 = cc in
          absurd (omega arith)
      go (x ∷ more) e p =
          let same : length tree - length (x ∷ more) ≡ at = cc in
          subst (FoundAt test tree level from) same (found_place e)

  pub row_absent : first_row test tree level from ≡ None → FoundNowhere test tree level from
  unfolding first_row place_in
  row_absent h = go (rows_from test level (drop from tree)) refl h
    where
      go : (rows : List ℕ) → rows_from test level (drop from tree) ≡ rows → place_in tree rows ≡ None → FoundNowhere test tree level from
      go [] e p = record { none = e }
      go (x ∷ more) e p =
          let z : ◌≡◌ {A = ℕ} 0 1 = cc in
          absurd (omega arith)

-- the first row inside a node, by what was found from its children's first place on, one level below its own
pub child_first : (test : ℕ → Bool) (tree : List ℕ) (at : ℕ) {level : ℕ} (f : Option ℕ) → level ≡ level_at tree at → Finds test tree (level + 1) (at + ROW) f → f ≡ first_row test tree (level_at tree at + 1) (at + ROW)
child_first test tree at (Some row) e h = first_found h ∙ ap (λ (l : ℕ). first_row test tree (l + 1) (at + ROW)) e
child_first test tree at None e h = first_nowhere h ∙ ap (λ (l : ℕ). first_row test tree (l + 1) (at + ROW)) e

pub child_missing : (test : ℕ → Bool) (tree : List ℕ) (level at : ℕ) → length tree < at + ROW → None ≡ first_row test tree level (at + ROW)
unfolding first_row place_in rows_from
child_missing test tree level at h = sym (ap (λ (rows : List ℕ). place_in tree (rows_from test level rows)) (drop_of_length-le tree {i = at + ROW} (omega (arith, h))))

-- a string's content
pub content_none : (string : List ℕ) → length string < 2 → [] ≡ content string
unfolding content
content_none string h =
    let e : length string - 2 ≡ 0 = omega arith in
    sym (ap (λ (n : ℕ). take n (drop 1 string)) e)

pub content_part : (string : List ℕ) → take (length string - 1 - 1) (drop 1 string) ≡ content string
unfolding content
content_part string =
    let e : length string - 1 - 1 ≡ length string - 2 = omega arith in
    ap (λ (n : ℕ). take n (drop 1 string)) e

-- the text of a node's first token of a kind looks at no other row
text_ignores : (kind : ℕ) → Ignores (of_kind kind) (first_text kind)
unfolding first_text
text_ignores kind = record { tokens = λ t f e. rw (e, first_text); nodes = λ k s f l e. refl }

-- fewer numbers than a row have no text
pub no_text : (rule : List ℕ) (rows : List ℕ) → length rows < ROW → [] ≡ text_at rule rows 0
no_text rule [] h = refl
no_text rule (k ∷ []) h = refl
no_text rule (k ∷ m ∷ []) h = refl
no_text rule (k ∷ m ∷ a ∷ []) h =
    let e : 0 - a ≡ 0 = omega arith in
    sym (ap (λ (n : ℕ). take n (drop a rule)) e)
no_text rule (k ∷ m ∷ a ∷ e ∷ rows) h = absurd (omega arith)

-- it is the text of the row found
pub text_in : (rule : List ℕ) (kind : ℕ) (tree : List ℕ) (level from : ℕ) → kind < ROOT → text_at rule (rows_from (of_kind kind) level (drop from tree)) 0 ≡ first_text kind (forest_from rule tree level from)
unfolding first_text forest_from
text_in rule kind tree level from h =
    by_found (of_kind kind) level (λ rows found. text_at rule found 0 ≡ first_text kind (forest rule level found))
    (λ rows l. refl)
    (λ k m a e rows l. refl)
    (λ k m a e rows l p.
    sym (ap (first_text kind) (forest_token rule (k ∷ m ∷ a ∷ e ∷ rows) level 0 (omega arith) l (omega (arith, eqb-true k kind p))) ∙ rw (p, first_text)))
    (λ k m a e rows l p ih. ih) (drop from tree)
    ∙ sym (ignored (text_ignores kind) rule level (drop from tree))

-- the literal of a node looks at no other row
literal_ignores : Ignores (of_kind LITERAL) literal_of
unfolding literal_of
literal_ignores = record { tokens = λ t f e. refl; nodes = λ k s f l e. rw (e, literal_of) }

-- it is in the row found
pub literal_in : (rule tree : List ℕ) (level from : ℕ) → content (first_text STRING_LIT (children_at rule (rows_from (of_kind LITERAL) level (drop from tree)) 0)) ≡ literal_of (forest_from rule tree level from)
unfolding literal_of first_text content forest_from forest
literal_in rule tree level from =
    by_found (of_kind LITERAL) level (λ rows found. content (first_text STRING_LIT (children_at rule found 0)) ≡ literal_of (forest rule level found))
    (λ rows l. refl)
    (λ k m a e rows l. refl)
    (λ k m a e rows l p.
    ap (λ (n : ℕ). content (first_text STRING_LIT (forest rule (n + 1) rows))) l
    ∙ sym (ap literal_of (forest_node rule (k ∷ m ∷ a ∷ e ∷ rows) level 0 (omega arith) l (omega (arith, eqb-true k LITERAL p))) ∙ rw (p, literal_of)))
    (λ k m a e rows l p ih. ih) (drop from tree)
    ∙ sym (ignored literal_ignores rule level (drop from tree))

-- a node by the rows that begin with its own
pub children_tail : (rule tree : List ℕ) (at : ℕ) → children_at rule (drop at tree) 0 ≡ children_at rule tree at
unfolding forest_from
children_tail rule tree at = rw (get_or-drop at tree 1 0, drop-drop ROW at tree)
