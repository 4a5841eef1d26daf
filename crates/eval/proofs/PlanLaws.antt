-- What a pipeline comes to, by what is known of it before any member is looked at. Assumes nothing.
use mathlib.Core.Path.{◌≡◌, refl, sym, ap, ◌∙◌, subst}
use mathlib.Core.Bool.{false≢true}
use mathlib.Core.List.{List, [], ◌∷◌}
use Prim.Native.Nat.{ℕ, ◌+◌}
use lib.Dec.{eqb}
use lib.ListN.{take}
use Rattle.std.specs.Prelude.{Option, Some, None, Result, Ok, Err}
use Rattle.meaning.specs.declared.ValueKind.{ValueKind}
use borrow.Author.Tests.{le-leb, leb-true}
use Rattle.syntax.specs.Kind.{ROOT, IDENT_EXPR}
use Rattle.syntax.specs.declared.refusal.Refusal.{Refusal}
use Rattle.syntax.specs.declared.refusal.Refusal.TheVariants.{ParseErrors}
use Rattle.syntax.proofs.BoolLaws.{whether}
use Rattle.lexer.specs.Lex.{Token}
use Rattle.trees.specs.Green.{Forest, nil, leaf, node}
use Rattle.predicate.specs.Rows.{ROW, kind_at, level_at, forest_from, children_at, of_node, first_row}
use Rattle.predicate.specs.Eval.{FoundAt, FoundNowhere}
use Rattle.predicate.proofs.ForestLaws.{forest_node, found_level, found_kind, Ignores, ignored_none, ignored_found}
use Rattle.predicate.proofs.NodeLaws.{row_found, row_absent}
use Rattle.meaning.specs.Value.{collection, refused, sort_kind}
use Rattle.meaning.specs.Calls.{Call, call_gives, calls_give}
use Rattle.meaning.specs.Pipeline.{all_components, diagnostics_of, source_of, calls_of, eval_pipeline}
use Rattle.meaning.proofs.WalkLaws.{calls_refused}
use Rattle.eval.specs.declared.ready.Call.{Call as PlacedCall}
use Rattle.eval.specs.declared.ready.Plan.{Plan}
use Rattle.eval.specs.Ready.{source_sort, source_members, KindAfter, Holds, Ready, Refuses, Plans}
use Rattle.eval.proofs.ReadyLaws.{planned}

-- ---- the first node of a forest

-- what looks at nodes only is that of the first one and what follows it
module _ {A : Type 0} (of : Forest → A) (tokens : (t : Token) (f : Forest) → of (leaf t f) ≡ of f) (rule : List ℕ) where
  node_ignores : Ignores of_node of
  node_ignores = record { tokens = λ t f e. tokens t f; nodes = λ k s f l e. absurd (false≢true (sym e ∙ le-leb ROOT k l)) }

  pub node_from : {tree : List ℕ} {level from at : ℕ} → FoundAt of_node tree level from at → of (forest_from rule tree level from) ≡ of (forest_from rule tree level at)
  node_from f = ignored_found node_ignores rule f

  pub node_first : {tree : List ℕ} {level from at : ℕ} → FoundAt of_node tree level from at
      → of (forest_from rule tree level from) ≡ of (node (kind_at tree at) (children_at rule tree at) (forest_from rule tree level (at + ROW)))
  node_first {tree} {level} {from} {at} f =
      node_from f
      ∙ ap of (forest_node rule tree level at f.whole (found_level f) (leb-true ROOT (kind_at tree at) (found_kind f))
      ∙ ap (λ (l : ℕ). node (kind_at tree at) (forest_from rule tree (l + 1) (at + ROW)) (forest_from rule tree level (at + ROW))) (sym (found_level f)))

  pub node_none : {tree : List ℕ} {level from : ℕ} → FoundNowhere of_node tree level from → of (forest_from rule tree level from) ≡ of nil
  node_none n = ignored_none node_ignores rule n

-- ---- a pipeline's source

source_is : (image : List ℕ) (k : ℕ) (s f : Forest) → source_of image (node k s f) ≡ collection (source_sort k) (source_members image k s)
unfolding source_of all_components diagnostics_of source_members
source_is image k s f = whether (eqb k IDENT_EXPR) (λ e. rw (e) refl) (λ e. rw (e) refl)

module _ (rule image tree : List ℕ) (at : ℕ) where
  pub source_found : {source : ℕ} → FoundAt of_node tree (level_at tree at + 1) (at + ROW) source
      → source_of image (children_at rule tree at) ≡ collection (source_sort (kind_at tree source)) (source_members image (kind_at tree source) (children_at rule tree source))
  unfolding source_of
  source_found {source} f =
      node_first (source_of image) (λ t g. refl) rule f
      ∙ source_is image (kind_at tree source) (children_at rule tree source) (forest_from rule tree (level_at tree at + 1) (source + ROW))

  source_none : FoundNowhere of_node tree (level_at tree at + 1) (at + ROW) → source_of image (children_at rule tree at) ≡ refused ParseErrors
  unfolding source_of
  source_none n = node_none (source_of image) (λ t g. refl) rule n

-- a refusal of the source is that of the pipeline
refusal_stays : (image : List ℕ) (calls : List Call) (r : Refusal) → calls_give image calls (refused r) ≡ refused r
unfolding calls_give call_gives
refusal_stays image [] r = refl
refusal_stays image (call ∷ calls) r = refusal_stays image calls r

-- ---- what is known of a pipeline

-- it is planned
pub plan_ready : {rule tree : List ℕ} {at : ℕ} {rows : List PlacedCall} {given : Result Plan Refusal} {plan : Plan} → Plans rule tree at rows given → given ≡ Ok plan → Ready rule tree at rows plan
plan_ready {rule} {tree} {at} {rows} p e = subst (Plans rule tree at rows) e p

module _ (rule tree : List ℕ) (at : ℕ) where
  -- there is no source
  pub no_source : {found : Option ℕ} → found ≡ first_row of_node tree (level_at tree at + 1) (at + ROW) → found ≡ None → Refuses rule tree at ParseErrors
  unfolding eval_pipeline
  no_source e h =
      record {
        refused = λ image.
            ap (calls_give image (calls_of (children_at rule tree at))) (source_none rule image tree at (row_absent (sym e ∙ h)))
            ∙ refusal_stays image (calls_of (children_at rule tree at)) ParseErrors;
      }

  -- there is one
  module _ {found : Option ℕ} {source : ℕ} (e : found ≡ first_row of_node tree (level_at tree at + 1) (at + ROW)) (s : found ≡ Some source) where
    pub pipeline_calls : calls_of (children_at rule tree at) ≡ calls_of (forest_from rule tree (level_at tree at + 1) source)
    unfolding calls_of
    pipeline_calls = node_from calls_of (λ t g. refl) rule (row_found (sym e ∙ s))

    module _ {rows : List PlacedCall} {count : ℕ} (h : Holds rule tree (calls_of (forest_from rule tree (level_at tree at + 1) source)) rows count)
        {number : ValueKind} {given : Result ValueKind Refusal} (n : number ≡ sort_kind (source_sort (kind_at tree source))) (a : KindAfter (take count rows) number given) where
      -- the calls from the source on are all
      holds : Holds rule tree (calls_of (children_at rule tree at)) rows count
      holds = subst (λ (cs : List Call). Holds rule tree cs rows count) (sym pipeline_calls) h

      pub planned_refused : {r : Refusal} {plan : Result Plan Refusal} → given ≡ Err r → plan ≡ Err r → Plans rule tree at rows plan
      unfolding eval_pipeline
      planned_refused {r} g is =
          subst (Plans rule tree at rows) (sym is)
          (record {
            refused = λ image.
                ap (calls_give image (calls_of (children_at rule tree at))) (source_found rule image tree at (row_found (sym e ∙ s)))
                ∙ calls_refused image (calls_of (children_at rule tree at)) (source_sort (kind_at tree source)) (source_members image (kind_at tree source) (children_at rule tree source)) r
                (sym (planned rule tree (sort_kind (source_sort (kind_at tree source))) (calls_of (children_at rule tree at)) a n holds.calls) ∙ g);
          })

      pub planned_ready : {kind : ValueKind} → given ≡ Ok kind → Ready rule tree at rows (record { source = source; calls = count; kind = kind })
      planned_ready g =
          record {
            found = row_found (sym e ∙ s);
            holds = holds;
            comes = sym (planned rule tree (sort_kind (source_sort (kind_at tree source))) (calls_of (children_at rule tree at)) a n holds.calls) ∙ g;
          }
