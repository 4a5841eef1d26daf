-- The truth of a node by the rows below it: its first node, its operands one row after the other. Assumes nothing.
use mathlib.Core.Path.{◌≡◌, refl, sym, ap, ◌∙◌, subst}
use mathlib.Core.Bool.{Bool, true, false, not, beq, false≢true}
use mathlib.Core.List.{List}
use Prim.Native.Nat.{ℕ, ◌+◌, ◌≤◌, ◌<◌}
use native.Mathlib.Omega.{arith}
use lib.ListN.{length, drop}
use borrow.Author.Tests.{le-leb, lt-leb, leb-true}
use Rattle.syntax.specs.Kind.{ROOT, BINARY_EXPR, UNARY_EXPR, PAREN_EXPR}
use Rattle.trees.specs.Green.{Forest}
use Rattle.predicate.specs.declared.atom.Member.{Member}
use Rattle.predicate.specs.declared.Evaluator.{Evaluator}
use Rattle.predicate.specs.declared.Truth.{Truth}
use Rattle.predicate.specs.declared.Operands.{Operands}
use Rattle.predicate.specs.Truth.{or_after, joined_by, joined, sort_of, settle, truths, truth}
use Rattle.predicate.specs.Rows.{ROW, kind_at, level_at, forest_from, children_at, node_at, is_below, of_node, past_below}
use Rattle.predicate.specs.Eval.{truth_at, FoundAt, FoundNowhere, Skips, settled_at, Evaluated, Inner, joined_from, Joined, Operand, Joins}
use Rattle.predicate.proofs.RowLaws.{row_there, below_row, row_below, passed_row, passed_stop}
use Rattle.predicate.proofs.AtomLaws.{node_truth, settled_kind}
use Rattle.predicate.proofs.ForestLaws.{forest_below, forest_ends, forest_token, forest_node, forest_skip, passed_passed, found_passed, found_level, found_kind, Ignores, ignored_none, ignored_found}

-- no row is at a place
pub truth_missing : (rule image tree : List ℕ) (m : Member) (at : ℕ) → length tree < at + ROW → false ≡ truth image m (node_at rule tree at)
unfolding truth truths node_at
truth_missing rule image tree m at h = sym (rw (lt-leb (at + ROW) (length tree) h))

-- a node by the rows below its own
module _ (ev : Evaluator) where
  module _ (at : ℕ) (h : at + ROW ≤ length ev.tree.now) where
    pub truth_binary : kind_at ev.tree.now at ≡ BINARY_EXPR → truth_at ev at ≡ joined_from ev (level_at ev.tree.now at) (record { at = at + ROW; or = false; before = true })
    unfolding settle sort_of joined_from
    truth_binary e = node_truth ev at h ∙ sym (settled_kind ev at e)

    pub truth_unary : kind_at ev.tree.now at ≡ UNARY_EXPR → truth_at ev at ≡ not (truth ev.image.now ev.member (children_at ev.rule.now ev.tree.now at))
    unfolding settle sort_of truth
    truth_unary e = node_truth ev at h ∙ sym (settled_kind ev at e)

    pub truth_paren : kind_at ev.tree.now at ≡ PAREN_EXPR → truth_at ev at ≡ truth ev.image.now ev.member (children_at ev.rule.now ev.tree.now at)
    unfolding settle sort_of truth
    truth_paren e = node_truth ev at h ∙ sym (settled_kind ev at e)

  -- the truth of a forest is that of its first node
  truth_ignores : Ignores of_node (truth ev.image.now ev.member)
  unfolding truth truths
  truth_ignores = record { tokens = λ t f h. refl; nodes = λ k s f l h. absurd (false≢true (sym h ∙ le-leb ROOT k l)) }

  -- no node is below a level from a place on, or the one found is the first
  pub inner_none : (level from : ℕ) → FoundNowhere of_node ev.tree.now level from → false ≡ truth ev.image.now ev.member (forest_from ev.rule.now ev.tree.now level from)
  unfolding truth truths
  inner_none level from f = sym (ignored_none truth_ignores ev.rule.now f)

  pub inner_found : (level from at : ℕ) → FoundAt of_node ev.tree.now level from at → truth ev.image.now ev.member (forest_from ev.rule.now ev.tree.now level from) ≡ truth_at ev at
  unfolding truth truths node_at
  inner_found level from at f =
      ignored_found truth_ignores ev.rule.now f
      ∙ ap (truth ev.image.now ev.member) (forest_node ev.rule.now ev.tree.now level at f.whole (found_level f) (leb-true ROOT (kind_at ev.tree.now at) (found_kind f)))
      ∙ sym (rw (le-leb (at + ROW) (length ev.tree.now) f.whole, found_level f))

-- an operand that cannot change the truth so far, and one that decides it
decided : (or before operand : Bool) → beq before or ≡ true → joined_by or before operand ≡ before
decided true true operand e = refl
decided true false operand e = absurd (false≢true e)
decided false true operand e = absurd (false≢true e)
decided false false operand e = refl

undecided : (or before operand : Bool) → beq before or ≡ false → joined_by or before operand ≡ operand
undecided true true operand e = absurd (false≢true (sym e))
undecided true false operand e = refl
undecided false true operand e = refl
undecided false false operand e = absurd (false≢true (sym e))

-- the rows below a level from a place on end where those end that follow the node found and its own
pub inner_skip : {tree : List ℕ} {level from at past next : ℕ} → FoundAt of_node tree (level + 1) from at → Skips tree (level_at tree at) (at + ROW) past → Skips tree level past next → Skips tree level from next
inner_skip {tree} {level} {from} {at} {past} {next} f s t =
    let over : drop past tree ≡ past_below (level + 1) (drop (at + ROW) tree) = s.here ∙ ap (λ (l : ℕ). past_below l (drop (at + ROW) tree)) (found_level f) in
    let below = row_below tree level at f.whole (omega (arith, found_level f)) in
    record {
      later = omega (arith, f.later, s.later, t.later);
      here = t.here ∙ ap (past_below level) over ∙ passed_passed level (drop (at + ROW) tree) ∙ sym (passed_row tree level at below) ∙ sym (found_passed of_node level f);
    }

-- a row left to join is there
pub operand_there : {tree : List ℕ} {level : ℕ} {s : Operands} → Operand tree level s → s.at + ROW ≤ length tree
operand_there {tree} {level} {s} b = row_there tree s.at (below_row tree level s.at b.row).0

-- the operands of a forest, joined to what stands before it
abbrev joined_with : Evaluator → Operands → Forest → Bool
joined_with ev s f = joined s.or s.before f (truths ev.image.now ev.member f)

-- one row more of the operands
module _ (ev : Evaluator) {level : ℕ} {s : Operands} (b : Operand ev.tree.now level s) where
  there : s.at + ROW ≤ length ev.tree.now
  there = operand_there b

  lower : level < level_at ev.tree.now s.at
  lower = (below_row ev.tree.now level s.at b.row).1

  -- a row further below is no operand and no operator
  pub joins_deeper : level + 1 < level_at ev.tree.now s.at → Joins ev level s (record s { at = s.at + ROW })
  unfolding joined_from
  joins_deeper l =
      record {
        value = sym (ap (joined_with ev s) (forest_below ev.rule.now ev.tree.now (level + 1) s.at there l));
        later = omega arith;
        here = sym (passed_row ev.tree.now level s.at b.row);
      }

  module _ (l : level_at ev.tree.now s.at ≤ level + 1) where
    level_is : level_at ev.tree.now s.at ≡ level + 1
    level_is = omega (arith, lower)

    -- a token may be an operator
    pub joins_token : kind_at ev.tree.now s.at < ROOT → {or : Bool} → or ≡ or_after (kind_at ev.tree.now s.at) s.or → Joins ev level s (record s { at = s.at + ROW; or = or })
    unfolding joined_from joined truths
    joins_token k e =
        record {
          value =
              ap (λ (o : Bool). joined_from ev level (record s { at = s.at + ROW; or = o })) e
              ∙ sym (ap (joined_with ev s) (forest_token ev.rule.now ev.tree.now (level + 1) s.at there level_is k));
          later = omega arith;
          here = sym (passed_row ev.tree.now level s.at b.row);
        }

    -- an operand is joined to what stands before it
    operand : (k : ROOT ≤ kind_at ev.tree.now s.at) {next : ℕ} → Skips ev.tree.now (level + 1) (s.at + ROW) next
        → joined_from ev level (record s { at = next; before = joined_by s.or s.before (truth_at ev s.at) }) ≡ joined_from ev level s
    unfolding joined_from joined truths
    operand k {next} n =
        let joins : Bool → Bool = λ t. joined_with ev (record s { before = joined_by s.or s.before t }) (forest_from ev.rule.now ev.tree.now (level + 1) (s.at + ROW)) in
        let inside : ℕ → Forest = λ l. forest_from ev.rule.now ev.tree.now (l + 1) (s.at + ROW) in
        ap (joined_with ev (record s { before = joined_by s.or s.before (truth_at ev s.at) })) (forest_skip ev.rule.now n)
        ∙ ap joins (node_truth ev s.at there)
        ∙ ap (λ (l : ℕ). joins (settle ev.image.now ev.member (sort_of (kind_at ev.tree.now s.at)) (inside l) (truths ev.image.now ev.member (inside l)))) level_is
        ∙ sym (ap (joined_with ev s) (forest_node ev.rule.now ev.tree.now (level + 1) s.at there level_is k))

    passed : {next : ℕ} → Skips ev.tree.now (level + 1) (s.at + ROW) next → past_below level (drop next ev.tree.now) ≡ past_below level (drop s.at ev.tree.now)
    passed n = ap (past_below level) n.here ∙ passed_passed level (drop (s.at + ROW) ev.tree.now) ∙ sym (passed_row ev.tree.now level s.at b.row)

    joins_operand : (k : ROOT ≤ kind_at ev.tree.now s.at) {next : ℕ} (after : Bool) → Skips ev.tree.now (level + 1) (s.at + ROW) next → joined_by s.or s.before (truth_at ev s.at) ≡ after
        → Joins ev level s (record s { at = next; before = after })
    joins_operand k {next} after n e =
        record {
          value = ap (λ (t : Bool). joined_from ev level (record s { at = next; before = t })) (sym e) ∙ operand k n;
          later = omega (arith, n.later);
          here = passed n;
        }

    -- it is passed over where it cannot change the truth so far, and else it is the truth so far
    pub joins_decided : ROOT ≤ kind_at ev.tree.now s.at → beq s.before s.or ≡ true → {next : ℕ} → Skips ev.tree.now (level + 1) (s.at + ROW) next → Joins ev level s (record s { at = next })
    joins_decided k e n = joins_operand k s.before n (decided s.or s.before (truth_at ev s.at) e)

    pub joins_open : ROOT ≤ kind_at ev.tree.now s.at → beq s.before s.or ≡ false → {next : ℕ} {value : Bool} → Skips ev.tree.now (level_at ev.tree.now s.at) (s.at + ROW) next → value ≡ truth_at ev s.at → Joins ev level s (record s { at = next; before = value })
    joins_open k e {next} {value} n v =
        joins_operand k value (subst (λ (l : ℕ). Skips ev.tree.now l (s.at + ROW) next) level_is n) (ap (joined_by s.or s.before) (sym v) ∙ undecided s.or s.before value e)

-- how far the operands from a place on are joined
pub record Joining (ev : Evaluator) (level from : ℕ) (s : Operands) : Type 0 where
  pub value : joined_from ev level s ≡ joined_from ev level (record { at = from; or = false; before = true })
  pub later : from ≤ s.at
  pub here : past_below level (drop s.at ev.tree.now) ≡ past_below level (drop from ev.tree.now)

module _ {ev : Evaluator} {level from : ℕ} where
  pub joining_end : {s : Operands} → Joining ev level from s → is_below ev.tree.now level s.at ≡ false → Joined ev level from (record { value = s.before; next = s.at })
  unfolding joined_from joined truths
  joining_end {s} j h =
      record {
        value = sym (ap (joined_with ev s) (forest_ends ev.rule.now ev.tree.now level s.at h)) ∙ j.value;
        next = record { later = j.later; here = sym (passed_stop ev.tree.now level s.at h) ∙ j.here };
      }

-- what the functions of the cycle give, by what those that they call gave
module _ {ev : Evaluator} where
  module _ {at : ℕ} (h : at + ROW ≤ length ev.tree.now) where
    pub evaluated_binary : {r : Truth} → kind_at ev.tree.now at ≡ BINARY_EXPR → Joined ev (level_at ev.tree.now at) (at + ROW) r → Evaluated ev at r
    evaluated_binary k j = record { value = j.value ∙ sym (truth_binary ev at h k); next = j.next }

    pub evaluated_unary : {r : Truth} → kind_at ev.tree.now at ≡ UNARY_EXPR → Inner ev (level_at ev.tree.now at) (at + ROW) r → Evaluated ev at (record r { value = not r.value })
    evaluated_unary k i = record { value = ap not i.value ∙ sym (truth_unary ev at h k); next = i.next }

    pub evaluated_paren : {r : Truth} → kind_at ev.tree.now at ≡ PAREN_EXPR → Inner ev (level_at ev.tree.now at) (at + ROW) r → Evaluated ev at r
    evaluated_paren k i = record { value = i.value ∙ sym (truth_paren ev at h k); next = i.next }

    pub evaluated_atom : {value : Bool} {next : ℕ} → value ≡ settled_at ev at → Skips ev.tree.now (level_at ev.tree.now at) (at + ROW) next → Evaluated ev at (record { value = value; next = next })
    evaluated_atom v s = record { value = v ∙ sym (node_truth ev at h); next = s }

  pub inner_empty : {level from next : ℕ} → FoundNowhere of_node ev.tree.now (level + 1) from → Skips ev.tree.now level from next → Inner ev level from (record { value = false; next = next })
  inner_empty {level} {from} f n = record { value = inner_none ev (level + 1) from f; next = n }

  pub inner_first : {level from at next : ℕ} {r : Truth} → FoundAt of_node ev.tree.now (level + 1) from at → Evaluated ev at r → Skips ev.tree.now level r.next next → Inner ev level from (record { value = r.value; next = next })
  inner_first {level} {from} {at} f e n = record { value = e.value ∙ sym (inner_found ev (level + 1) from at f); next = inner_skip f e.next n }
