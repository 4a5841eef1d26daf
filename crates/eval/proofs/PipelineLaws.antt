-- What a pipeline, a comparison and a rule's tree come to, by what was planned and what arrived. Assumes nothing.
use mathlib.Core.Path.{◌≡◌, refl, sym, ap, ap₂, ◌∙◌, subst}
use mathlib.Core.Bool.{Bool, true, false, false≢true}
use mathlib.Core.List.{List, [], ◌∷◌, ◌++◌}
use mathlib.Core.Option.{Option, none, some}
use Rattle.std.specs.Prelude.{unwrap_or, Result, Ok, Err}
use Rattle.std.specs.Prelude as std
use Prim.Native.Nat.{ℕ, ◌+◌, ◌≤◌, ◌<◌}
use native.Mathlib.Omega.{arith}
use lib.Dec.{eqb}
use lib.ListN.{length, take, set, replicate, length-replicate}
use borrow.Author.Tests.{eq-eqb, ne_eqb, ltb-true}
use Rattle.syntax.specs.Kind.{INT_LIT, DOT_CALL, COUNT_COMPARE_EXPR}
use Rattle.syntax.specs.Kinds.{number}
use Rattle.syntax.specs.declared.kind.Kind.{Kind}
use Rattle.syntax.specs.declared.kind.Kind.TheVariants.{Neq}
use Rattle.syntax.specs.declared.refusal.Refusal.{Refusal}
use Rattle.syntax.specs.declared.refusal.Refusal.TheVariants.{ParseErrors, ComparisonNotCountable, IntegerTooLarge}
use Rattle.syntax.proofs.BoolLaws.{whether}
use Rattle.trees.specs.Green.{Forest, nil, leaf, node, dot_calls}
use Rattle.predicate.specs.declared.atom.Member.{Member}
use Rattle.predicate.specs.declared.atom.Member.TheVariants.{Component}
use Rattle.predicate.specs.Truth.{first_text}
use Rattle.predicate.specs.Rows.{ROW, kind_at as tree_kind, level_at, children_at, of_node, first_row}
use Rattle.predicate.specs.Eval.{FoundNowhere}
use Rattle.predicate.proofs.NodeLaws.{row_found, row_absent}
use Rattle.meaning.specs.declared.ValueKind.{ValueKind}
use Rattle.meaning.specs.Value.{Outcome, boolean, refused, sort_kind, collection_table, with_members}
use Rattle.meaning.specs.declared.Method.{Method}
use Rattle.meaning.specs.declared.Method.TheVariants.{Where, All, Any, None, Count, Features, Diagnostics}
use Rattle.meaning.specs.Calls.{Call, calls_give, true_for, how_many}
use Rattle.meaning.specs.Pipeline.{calls_of, source_of, eval_pipeline}
use Rattle.meaning.specs.Compare.{operator_holds, against, compared, operator_of, integer_of}
use Rattle.meaning.specs.Outcome.{first_kind, first_inner, eval_count_compare, eval_node}
use Rattle.meaning.specs.Walk.{is_last, is_quantifier, plan_of, arrivals, arrive_by, last_call, method_in, last_method, last_test, judged, settled}
use Rattle.meaning.proofs.WalkLaws.{Ends, calls_settled, plan_ends, how_many_most}
use Rattle.calls.specs.declared.value.Value.{Value}
use Rattle.calls.specs.Answer.{Outcome as Answer, answer_of}
use Rattle.calls.specs.Integer.{integer_for}
use Rattle.calls.proofs.CompareLaws.{against_for, against_integer}
use Rattle.eval.specs.declared.walk.Tally.{Tally}
use Rattle.eval.specs.declared.ready.Call.{Call as PlacedCall}
use Rattle.eval.specs.declared.ready.Plan.{Plan}
use Rattle.eval.specs.Ready.{call_in, calls_in, source_sort, source_members, LastMethod, Ready, Plans}
use Rattle.eval.specs.Feed.{State, state_of, listed, decided, Decides, Stands, walked}
use Rattle.eval.specs.Pipeline.{CALLS, FewCalls, Evaluates, Counts, OperatorAt, Gives}
use Rattle.eval.proofs.CallLaws.{calls_set}
use Rattle.eval.proofs.PlanLaws.{node_first, node_none, source_found, plan_ready}
use Rattle.eval.proofs.ValueLaws.{operator_or_neq}

-- ---- the calls of a tree are few

calls_fewer : (f : Forest) → length (calls_of f) ≤ dot_calls f
unfolding calls_of dot_calls
calls_fewer nil = omega arith
calls_fewer (leaf t f) = calls_fewer f
calls_fewer (node k s f) =
    let h = calls_fewer f in
    whether (eqb k DOT_CALL) (λ q. rw (q, calls_of) (omega arith)) (λ q. rw (q, calls_of) (omega arith))

pub calls_room : {rule tree : List ℕ} {at room : ℕ} → FewCalls rule tree at → CALLS ≤ room → length (calls_of (children_at rule tree at)) < room
calls_room {rule} {tree} {at} h r = omega (arith, calls_fewer (children_at rule tree at), h.few)

-- and as many are planned
pub planned_room : {rule tree : List ℕ} {at room : ℕ} (rows : List PlacedCall) {given : Result Plan Refusal} {plan : Plan} → FewCalls rule tree at → CALLS ≤ room
    → Plans rule tree at rows given → given ≡ Ok plan → plan.calls < room
planned_room rows h r p e = omega (arith, calls_room h r, (plan_ready p e).holds.number)

-- so are those of the first node in it
pub inner_fewer : (f : Forest) → dot_calls (first_inner f) ≤ dot_calls f
unfolding first_inner dot_calls
inner_fewer nil = omega arith
inner_fewer (leaf t f) = inner_fewer f
inner_fewer (node k s f) = omega arith

pub inner_few : {rule tree : List ℕ} {at inner : ℕ} {found : std.Option ℕ} → FewCalls rule tree at → found ≡ first_row of_node tree (level_at tree at + 1) (at + ROW) → found ≡ std.Some inner
    → FewCalls rule tree inner
unfolding first_inner
inner_few {rule} {tree} {at} h e s =
    record { few = omega (arith, h.few, inner_fewer (children_at rule tree at), ap dot_calls (node_first first_inner (λ t g. refl) rule (row_found (sym e ∙ s)))) }

-- ---- a pipeline

-- the table by the kind that the calls come to
abbrev Listing : ValueKind → Option Call → Type 0
Listing kind last = (method : Method) (arrived passed : ℕ) (members : List Member) (table : List ℕ)
    → with_members (listed last members) table ≡ collection_table (settled kind method arrived passed members) table

judged_table : (method : Method) (arrived passed : ℕ) (table : List ℕ) → collection_table (judged method arrived passed) table ≡ with_members [] table
judged_table Where arrived passed table = refl
judged_table All arrived passed table = refl
judged_table Any arrived passed table = refl
judged_table None arrived passed table = refl
judged_table Count arrived passed table = refl
judged_table Features arrived passed table = refl
judged_table Diagnostics arrived passed table = refl

listing : (kind : ValueKind) (last : Option Call) → Ends kind last → Listing kind last
unfolding settled
listing ValueKind.Components last e method arrived passed members table = rw e refl
listing ValueKind.Features last e method arrived passed members table = rw e refl
listing ValueKind.Diagnostics last e method arrived passed members table = rw e refl
listing ValueKind.Boolean last e method arrived passed members table = rw e.1 (sym (judged_table method arrived passed table))
listing ValueKind.Count last e method arrived passed members table = rw e.1 refl

-- ---- a quantifier that is decided

-- the last call decides nothing where rows are written, and `count` decides nothing at all
pub last_decides : (rule tree : List ℕ) {rows : List PlacedCall} {n : Method} → LastMethod rows n → Decides n (calls_in rule tree rows)
unfolding last_method
last_decides rule tree {rows} l =
    record { unlisted = λ q ms. go (last_call (calls_in rule tree rows)) (subst (λ (m : Method). is_quantifier m ≡ true) (l.method rule tree) q) ms }
  where
    go : (last : Option Call) → is_quantifier (method_in last) ≡ true → (ms : List Member) → listed last ms ≡ []
    go none q ms = absurd (false≢true q)
    go (some call) q ms = refl

pub count_decides : (calls : List Call) → Decides Count calls
count_decides calls = record { unlisted = λ q ms. absurd (false≢true q) }

-- only a boolean is decided
decided_boolean : (kind : ValueKind) (last : Option Call) (arrived passed : ℕ) → Ends kind last → decided (method_in last) arrived passed ≡ true → kind ≡ ValueKind.Boolean
decided_boolean ValueKind.Components last arrived passed e d = absurd (false≢true (rw e at d))
decided_boolean ValueKind.Features last arrived passed e d = absurd (false≢true (rw e at d))
decided_boolean ValueKind.Diagnostics last arrived passed e d = absurd (false≢true (rw e at d))
decided_boolean ValueKind.Boolean last arrived passed e d = refl
decided_boolean ValueKind.Count last arrived passed e d = absurd (false≢true (rw (ap method_in e.1 ∙ e.2) at d))

-- and is judged by that alone
abbrev decision : Method → Outcome
decision Where = boolean false false
decision All = boolean false false
decision Any = boolean true false
decision None = boolean false false
decision Count = boolean false false
decision Features = boolean false false
decision Diagnostics = boolean false false

judged_decided : (last : Method) (arrived passed : ℕ) → passed ≤ arrived → decided last arrived passed ≡ true → judged last arrived passed ≡ decision last
judged_decided Where arrived passed h d = refl
judged_decided All arrived passed h d =
    let l = ltb-true passed arrived d in
    rw (ne_eqb passed arrived (λ e. omega arith), ne_eqb arrived 0 (λ e. omega arith)) refl
judged_decided Any arrived passed h d = rw d refl
judged_decided None arrived passed h d =
    let l = ltb-true 0 passed d in
    rw (ne_eqb passed 0 (λ e. omega arith), ne_eqb arrived 0 (λ e. omega arith)) refl
judged_decided Count arrived passed h d = refl
judged_decided Features arrived passed h d = refl
judged_decided Diagnostics arrived passed h d = refl

-- a pipeline that is refused
pub pipeline_refused : (rule image tree : List ℕ) (at : ℕ) (rows : List PlacedCall) {given : Result Plan Refusal} {table : List ℕ} {r : Refusal} {answer : Answer}
    → Plans rule tree at rows given → given ≡ Err r → answer ≡ Err r → Evaluates (eval_pipeline image (children_at rule tree at)) table table answer
pipeline_refused rule image tree at rows {table = table} p e is =
    let f = subst (Plans rule tree at rows) e p in
    record { outcome = is ∙ ap answer_of (sym (f.refused image)); table = ap (λ (o : Outcome). collection_table o table) (sym (f.refused image)) }

-- one that is ready, and the members that arrive
module _ (rule image tree : List ℕ) (at : ℕ) {rows : List PlacedCall} {plan : Plan} (p : Ready rule tree at rows plan) where
  abbrev members : List Member
  members = source_members image (tree_kind tree plan.source) (children_at rule tree plan.source)

  abbrev calls : List Call
  calls = calls_in rule tree (take plan.calls rows)

  abbrev came : List Member
  came = arrivals image calls members

  plan_is : plan_of (sort_kind (source_sort (tree_kind tree plan.source))) calls ≡ Ok plan.kind
  plan_is = ap (plan_of (sort_kind (source_sort (tree_kind tree plan.source)))) p.holds.calls ∙ p.comes

  pub pipeline_settled : eval_pipeline image (children_at rule tree at)
      ≡ settled plan.kind (last_method calls) (length came) (how_many (last_test image calls) came) came
  unfolding eval_pipeline
  pipeline_settled =
      ap₂ (calls_give image) (sym p.holds.calls) (source_found rule image tree at p.found)
      ∙ calls_settled image calls (source_sort (tree_kind tree plan.source)) members plan.kind plan_is

  ends : Ends plan.kind (last_call calls)
  ends = plan_ends calls (source_sort (tree_kind tree plan.source)) plan.kind plan_is

  abbrev passing : ℕ
  passing = how_many (last_test image calls) came

  module _ (t : Tally) (method : Method) (table after : List ℕ) (r : Value) (w : Stands method (state_of t after) (walked image calls members table))
      (m : LastMethod (take plan.calls rows) method) (g : Gives plan.kind method t r) where
    -- all members were sent
    given_whole : state_of t after ≡ walked image calls members table
        → Ok r ≡ answer_of (settled plan.kind (last_method calls) (length came) passing came)
    unfolding walked last_test
    given_whole e =
        g.given came (sym (ap (λ (s : State). s.arrived) e))
        ∙ λ i. answer_of (settled plan.kind (m.method rule tree i) (e i).arrived (e i).passed came)

    -- or the quantifier was decided before
    given_decided : decided method t.arrived t.passed ≡ true
        → Ok r ≡ answer_of (settled plan.kind (last_method calls) (length came) passing came)
    unfolding walked last_test last_method settled
    given_decided d =
        g.given (replicate t.arrived (Component 0)) (length-replicate t.arrived (Component 0))
        ∙ ap answer_of
        ((λ i. settled (is i) (m.method rule tree i) t.arrived t.passed (replicate t.arrived (Component 0)))
        ∙ judged_decided (last_method calls) t.arrived t.passed w.fewer first
        ∙ sym (judged_decided (last_method calls) (length came) passing (how_many_most (last_test image calls) came) (rw (m.method rule tree) at (w.done d)))
        ∙ λ i. settled (sym is i) (last_method calls) (length came) passing came)
      where
        first : decided (last_method calls) t.arrived t.passed ≡ true
        first = rw (m.method rule tree) at d

        is : plan.kind ≡ ValueKind.Boolean
        is = decided_boolean plan.kind (last_call calls) t.arrived t.passed ends first

  pub pipeline_given : {t : Tally} {method : Method} {table after : List ℕ} {r : Value} → Stands method (state_of t after) (walked image calls members table)
      → LastMethod (take plan.calls rows) method → Gives plan.kind method t r
      → Evaluates (eval_pipeline image (children_at rule tree at)) table after (Ok r)
  unfolding walked
  pipeline_given {t} {method} {table} {after} {r} w m g =
      record {
        outcome =
            whether (decided method t.arrived t.passed) (given_decided t method table after r w m g) (λ e. given_whole t method table after r w m g (w.same e))
            ∙ ap answer_of (sym pipeline_settled);
        table =
            w.table
            ∙ listing plan.kind (last_call calls) ends (last_method calls) (length came) passing came table
            ∙ ap (λ (o : Outcome). collection_table o table) (sym pipeline_settled);
      }

-- ---- a `count` behind the calls

-- it lets the same members arrive, and is the last if there is none before it
count_behind : (image : List ℕ) (calls : List Call) (call : Call) (ms : List Member) → call.method ≡ Count → arrivals image (calls ++ (call ∷ [])) ms ≡ arrivals image calls ms
unfolding arrivals arrive_by
count_behind image [] call ms e = rw e refl
count_behind image (c ∷ calls) call ms e = ap (λ (later : List Member → List Member). arrive_by image c.method (true_for image c.args) later ms) (λ i xs. count_behind image calls call xs e i)

count_lists : (calls : List Call) (call : Call) (ms : List Member) → call.method ≡ Count → listed (last_call (calls ++ (call ∷ []))) ms ≡ []
unfolding last_call
count_lists [] call ms e = rw e refl
count_lists (c ∷ calls) call ms e = whether (is_last c.method) (λ q. rw q refl) (λ q. rw q (count_lists calls call ms e))

module _ (rule image tree : List ℕ) (plan : Plan) (rows : List PlacedCall) (h : plan.calls < length rows) where
  -- the call `count` behind the first ones
  abbrev count_call : PlacedCall
  count_call = record { method = Count; args = 0 }

  abbrev counted : List PlacedCall
  counted = set rows plan.calls count_call

  pub counts : {t : Tally} {table after : List ℕ}
      → Stands Count (state_of t after) (walked image (calls_in rule tree (take (plan.calls + 1) counted)) (source_members image (tree_kind tree plan.source) (children_at rule tree plan.source)) table)
      → Counts rule image tree plan rows table after t.arrived
  unfolding walked
  counts {t} {table} {after} w =
      record {
        members =
            ap (λ (s : State). s.arrived) (w.same refl)
            ∙ ap (λ (cs : List Call). length (arrivals image cs ms)) (calls_set rule tree plan.calls rows count_call h)
            ∙ ap length (count_behind image first last ms refl);
        table =
            w.table
            ∙ ap (λ (cs : List Call). with_members (listed (last_call cs) (arrivals image cs ms)) table) (calls_set rule tree plan.calls rows count_call h)
            ∙ ap (λ (ms : List Member). with_members ms table) (count_lists first last (arrivals image (first ++ (last ∷ [])) ms) refl);
      }
    where
      ms : List Member
      ms = source_members image (tree_kind tree plan.source) (children_at rule tree plan.source)

      first : List Call
      first = calls_in rule tree (take plan.calls rows)

      last : Call
      last = call_in rule tree count_call

-- ---- a comparison

-- a boolean is not countable; what else was settled is compared by how many arrived
boolean_compared : (operator right : ℕ) (method : Method) (arrived passed : ℕ) → compared operator right (judged method arrived passed) ≡ refused ComparisonNotCountable
unfolding compared
boolean_compared operator right Where arrived passed = refl
boolean_compared operator right All arrived passed = refl
boolean_compared operator right Any arrived passed = refl
boolean_compared operator right None arrived passed = refl
boolean_compared operator right Count arrived passed = refl
boolean_compared operator right Features arrived passed = refl
boolean_compared operator right Diagnostics arrived passed = refl

settled_compared : (operator right : ℕ) (kind : ValueKind) (method : Method) (passed : ℕ) (ms : List Member) → (kind ≡ ValueKind.Boolean → ⊥)
    → compared operator right (settled kind method (length ms) passed ms) ≡ against operator (length ms) right
unfolding compared settled
settled_compared operator right ValueKind.Components method passed ms h = refl
settled_compared operator right ValueKind.Features method passed ms h = refl
settled_compared operator right ValueKind.Diagnostics method passed ms h = refl
settled_compared operator right ValueKind.Boolean method passed ms h = absurd (h refl)
settled_compared operator right ValueKind.Count method passed ms h = refl

-- `eval_count_compare` without a pipeline, and of one that is refused
module _ (rule image tree : List ℕ) (at : ℕ) where
  abbrev comparison : Outcome
  comparison = eval_count_compare image (children_at rule tree at)

  as_refused : {table : List ℕ} {answer : Answer} (r : Refusal) → answer ≡ Err r → comparison ≡ refused r → Evaluates comparison table table answer
  as_refused {table} r is e = record { outcome = is ∙ ap answer_of (sym e); table = ap (λ (o : Outcome). collection_table o table) (sym e) }

  -- no node stands in the comparison
  pub compare_none : {found : std.Option ℕ} {table : List ℕ} → found ≡ first_row of_node tree (level_at tree at + 1) (at + ROW) → found ≡ std.None → Evaluates comparison table table (Err ParseErrors)
  unfolding eval_count_compare eval_pipeline first_inner calls_of calls_give source_of compared
  compare_none e h =
      as_refused ParseErrors refl
      (ap (λ (f : Forest). compared (operator_of (children_at rule tree at)) (integer_of (children_at rule tree at)) (eval_pipeline image f))
      (node_none first_inner (λ t f. refl) rule (row_absent (sym e ∙ h))))

  -- the pipeline in it
  module _ {found : std.Option ℕ} {pipeline : ℕ} (f : found ≡ first_row of_node tree (level_at tree at + 1) (at + ROW)) (s : found ≡ std.Some pipeline) where
    inner_is : first_inner (children_at rule tree at) ≡ children_at rule tree pipeline
    unfolding first_inner
    inner_is = node_first first_inner (λ t g. refl) rule (row_found (sym f ∙ s))

    abbrev compared_with : Outcome → Outcome
    compared_with o = compared (operator_of (children_at rule tree at)) (integer_of (children_at rule tree at)) o

    by_pipeline : {o : Outcome} → eval_pipeline image (children_at rule tree pipeline) ≡ o → comparison ≡ compared_with o
    unfolding eval_count_compare
    by_pipeline e = ap compared_with (ap (eval_pipeline image) inner_is ∙ e)

    module _ (rows : List PlacedCall) {given : Result Plan Refusal} (p : Plans rule tree pipeline rows given) where
      pub compare_refused : {r : Refusal} {table : List ℕ} {answer : Answer} → given ≡ Err r → answer ≡ Err r → Evaluates comparison table table answer
      unfolding compared
      compare_refused {r} e is =
          let q = subst (Plans rule tree pipeline rows) e p in
          as_refused r is (by_pipeline (q.refused image))

      module _ {plan : Plan} (g : given ≡ Ok plan) where
        ready : Ready rule tree pipeline rows plan
        ready = plan_ready p g

        pub compare_boolean : {table : List ℕ} → plan.kind ≡ ValueKind.Boolean → Evaluates comparison table table (Err ComparisonNotCountable)
        unfolding settled
        compare_boolean e =
            as_refused ComparisonNotCountable refl
            (by_pipeline (pipeline_settled rule image tree pipeline ready ∙ ap (λ (k : ValueKind). settled k method (length ms) passed ms) e)
            ∙ boolean_compared (operator_of (children_at rule tree at)) (integer_of (children_at rule tree at)) method (length ms) passed)
          where
            ms : List Member
            ms = came rule image tree pipeline ready

            method : Method
            method = last_method (calls rule image tree pipeline ready)

            passed : ℕ
            passed = how_many (last_test image (calls rule image tree pipeline ready)) (came rule image tree pipeline ready)

        -- what else is countable
        module _ (h : plan.kind ≡ ValueKind.Boolean → ⊥) {digits : List ℕ} {integer : std.Option ℕ} (d : digits ≡ first_text INT_LIT (children_at rule tree at)) (n : integer ≡ integer_for digits) where
          against_is : comparison ≡ against_for (operator_of (children_at rule tree at)) (length (came rule image tree pipeline ready)) integer
          unfolding integer_of
          against_is =
              by_pipeline (pipeline_settled rule image tree pipeline ready)
              ∙ settled_compared (operator_of (children_at rule tree at)) (integer_of (children_at rule tree at)) plan.kind _ _ (came rule image tree pipeline ready) h
              ∙ against_integer (operator_of (children_at rule tree at)) (length (came rule image tree pipeline ready)) (first_text INT_LIT (children_at rule tree at))
              ∙ ap (against_for (operator_of (children_at rule tree at)) (length (came rule image tree pipeline ready))) (sym (n ∙ ap integer_for d))

          pub compare_large : {table : List ℕ} → integer ≡ std.None → Evaluates comparison table table (Err IntegerTooLarge)
          compare_large e = as_refused IntegerTooLarge refl (against_is ∙ ap (against_for (operator_of (children_at rule tree at)) (length (came rule image tree pipeline ready))) e)

          pub compare_given : {right left : ℕ} {operator : std.Option Kind} {table after : List ℕ} {b : Bool} → integer ≡ std.Some right → OperatorAt tree at operator
              → Counts rule image tree plan rows table after left → b ≡ operator_holds (number (unwrap_or operator Neq)) left right
              → Evaluates comparison table after (Ok (Value.Bool b))
          compare_given {right} {left} {operator} {table} e o c b =
              record {
                outcome =
                    ap (λ (v : Bool). Ok (Value.Bool v)) (b ∙ operator_or_neq operator left right ∙ λ i. operator_holds (o.operator rule i) (c.members i) right)
                    ∙ ap answer_of (sym is);
                table = c.table ∙ ap (λ (o : Outcome). collection_table o table) (sym is);
              }
            where
              is : comparison ≡ boolean (operator_holds (operator_of (children_at rule tree at)) (length (came rule image tree pipeline ready)) right) false
              is = against_is ∙ ap (against_for (operator_of (children_at rule tree at)) (length (came rule image tree pipeline ready))) e

-- ---- `eval_node`

module _ (rule image tree : List ℕ) where
  -- nothing stands in the root
  pub node_empty : {found : std.Option ℕ} {table : List ℕ} → found ≡ first_row of_node tree (level_at tree 0 + 1) ROW → found ≡ std.None → Evaluates (eval_node image (children_at rule tree 0)) table table (Err ParseErrors)
  unfolding eval_node eval_pipeline first_kind first_inner calls_of calls_give source_of
  node_empty {table = table} e h = record { outcome = ap answer_of (sym is); table = ap (λ (o : Outcome). collection_table o table) (sym is) }
    where
      nowhere : FoundNowhere of_node tree (level_at tree 0 + 1) ROW
      nowhere = row_absent (sym e ∙ h)

      is : eval_node image (children_at rule tree 0) ≡ refused ParseErrors
      is = rw (node_none first_kind (λ t f. refl) rule nowhere, node_none first_inner (λ t f. refl) rule nowhere) refl

  module _ {found : std.Option ℕ} {at : ℕ} (f : found ≡ first_row of_node tree (level_at tree 0 + 1) ROW) (s : found ≡ std.Some at) where
    kind_is : first_kind (children_at rule tree 0) ≡ tree_kind tree at
    unfolding first_kind
    kind_is = node_first first_kind (λ t g. refl) rule (row_found (sym f ∙ s))

    children_are : first_inner (children_at rule tree 0) ≡ children_at rule tree at
    unfolding first_inner
    children_are = node_first first_inner (λ t g. refl) rule (row_found (sym f ∙ s))

    pub node_compare : {table after : List ℕ} {r : Answer} → tree_kind tree at ≡ COUNT_COMPARE_EXPR → Evaluates (eval_count_compare image (children_at rule tree at)) table after r
        → Evaluates (eval_node image (children_at rule tree 0)) table after r
    unfolding eval_node
    node_compare {table} {after} {r} e v = subst (λ (o : Outcome). Evaluates o table after r) (sym is) v
      where
        is : eval_node image (children_at rule tree 0) ≡ eval_count_compare image (children_at rule tree at)
        is = rw (kind_is, eq-eqb (tree_kind tree at) COUNT_COMPARE_EXPR e, children_are) refl

    pub node_pipeline : {table after : List ℕ} {r : Answer} → (tree_kind tree at ≡ COUNT_COMPARE_EXPR → ⊥) → Evaluates (eval_pipeline image (children_at rule tree at)) table after r
        → Evaluates (eval_node image (children_at rule tree 0)) table after r
    unfolding eval_node
    node_pipeline {table} {after} {r} e v = subst (λ (o : Outcome). Evaluates o table after r) (sym is) v
      where
        is : eval_node image (children_at rule tree 0) ≡ eval_pipeline image (children_at rule tree at)
        is = rw (kind_is, ne_eqb (tree_kind tree at) COUNT_COMPARE_EXPR e, children_are) refl
