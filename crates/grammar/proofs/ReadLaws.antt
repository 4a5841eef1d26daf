-- The parser reads the grammar: of the tokens of a predicate, of calls and of a pipeline it makes their trees, with no error. Assumes
-- nothing.
use mathlib.Core.Path.{◌≡◌, refl, sym, ◌∙◌}
use mathlib.Core.List.{List, [], ◌∷◌, ◌++◌, append_assoc}
use mathlib.Core.Bool.{Bool, true, false, ◌&&◌, ◌||◌, and-true, and-false, or-true, or-false, true≢false}
use Prim.Native.Nat.{ℕ, ◌+◌, ◌-◌, ◌≤◌}
use Prim.Native.String.{String}
use native.Mathlib.Omega.{arith}
use borrow.Author.Tests.{ne_eqb}
use lib.Dec.{eqb}
use Rattle.syntax.specs.Kind.{WHITESPACE, IDENT, DOT, L_PAREN, R_PAREN, AND_KW, OR_KW, NONE, DOT_CALL, CALL_ARGS, BINARY_EXPR, UNARY_EXPR, PAREN_EXPR}
use Rattle.syntax.proofs.BoolLaws.{whether, neither}
use Rattle.lexer.specs.Lex.{Token}
use Rattle.trees.specs.Green.{Forest, nil, leaf, node, ◌⊹◌}
use Rattle.trees.specs.Look.{is_blank, at_kind, op_ahead, has_binary_op_at_level, at_predicate_method}
use Rattle.trees.specs.Parse.{Parsed, Parser, join, ◌▹◌, in_node, choose, eat_ws, bump, expect, predicate_args, parse_method, parse_dot_call, parse_source, Mode, OrExpr, OrRest, AndExpr, AndRest, Atom as AtomMode, Calls, step, parse, parse_pipeline}
use Rattle.trees.proofs.ParseLaws.{parse_pipeline_is}
use Rattle.trees.proofs.StepLaws.{parse_step}
use Rattle.grammar.specs.Grammar.{word, quoted, dot, opening, closing, equals, and_word, or_word, not_word, Field, category, kind, direction, severity, message, field_word, Part, OrGroup, AndGroup, Atom, Predicate, last_group, or_then, last_atom, and_then, negated, bracketed, has_text, is_connected, message_has, field_is, tokens_of, Source, components, analysis, Call, where_call, all_call, any_call, none_call, count_call, features_call, diagnostics_call, source_tokens, with_predicate, call_tokens, calls_tokens}
use Rattle.grammar.specs.Trees.{among, binary, operands, predicate_tree, with_predicate_tree, call_tree, calls_tree, source_tree, read, first, pipeline_then}

-- ---- the scan for an operator

-- of these tokens the scan notes only that something was passed
record Plain (op k : ℕ) : Type 0 where
  blank : k ≡ WHITESPACE → ⊥
  opens : k ≡ L_PAREN → ⊥
  closes : k ≡ R_PAREN → ⊥
  other : k ≡ op → ⊥

-- what the scan sees of an operator's token, and of what stands around it: z at the depth where it looks
sees : (a z g x : Bool) {y : Bool} → y ≡ (g && z) || x → ◌≡◌ {A = Bool} (elim (a && (z && true)) [ true ↦ true | false ↦ y ]) (((a || g) && z) || x)
sees true true g x e = refl
sees true false true x e = e
sees true false false x e = e
sees false z g x e = e

before : (g z r x : Bool) → (g && z) || ((r && z) || x) ≡ ((g || r) && z) || x
before true true r x = refl
before true false true x = refl
before true false false x = refl
before false z r x = refl

among_atom : (op : ℕ) (a : Predicate Atom) → among op a ≡ false
unfolding among
among_atom op (negated a) = refl
among_atom op (bracketed p) = refl
among_atom op (has_text w) = refl
among_atom op is_connected = refl
among_atom op (message_has w) = refl
among_atom op (field_is f w) = refl

field_kind : (f : Field) → (field_word f).kind ≡ IDENT
field_kind category = refl
field_kind kind = refl
field_kind direction = refl
field_kind severity = refl
field_kind message = refl

-- the operators are `and` and `or`
module _ {op : ℕ} (low : AND_KW ≤ op) (high : op ≤ OR_KW) where
  scan_plain : (d : ℕ) (found : Bool) (t : Token) (w : List Token) → Plain op t.kind → op_ahead op d found (t ∷ w) ≡ op_ahead op d true w
  unfolding op_ahead
  scan_plain d found t w p = rw (ne_eqb _ _ p.blank, ne_eqb _ _ p.opens, ne_eqb _ _ p.closes, ne_eqb _ _ p.other, op_ahead)

  -- a closing bracket leaves the depth that its opening one found
  scan_close : (d : ℕ) (w : List Token) → op_ahead op (d + 1) true (closing ∷ w) ≡ op_ahead op d true w
  unfolding op_ahead
  scan_close d w =
      let e : d + 1 - 1 ≡ d = omega arith in
      rw (ne_eqb (d + 1) 0 (λ z. omega arith), op_ahead, e)

  -- an operator, and what is seen after it
  scan_op : (d : ℕ) (t : Token) (w : List Token) (b x : Bool) → AND_KW ≤ t.kind → t.kind ≤ OR_KW → op_ahead op d true w ≡ (b && eqb d 0) || x
      → op_ahead op d true (t ∷ w) ≡ ((eqb t.kind op || b) && eqb d 0) || x
  unfolding op_ahead
  scan_op d t w b x l h e =
      rw (ne_eqb t.kind WHITESPACE (omega arith), ne_eqb t.kind L_PAREN (omega arith), ne_eqb t.kind R_PAREN (omega arith), op_ahead)
      (sees (eqb t.kind op) (eqb d 0) b x e)

  -- a string in brackets
  scan_string : (d : ℕ) (found : Bool) (t : List ℕ) (w : List Token) → op_ahead op d found (opening ∷ quoted t ∷ closing ∷ w) ≡ op_ahead op d true w
  unfolding op_ahead
  scan_string d found t w = scan_plain (d + 1) true (quoted t) (closing ∷ w) (omega arith) ∙ scan_close d w

  -- it passes over a predicate, and sees the operators outside its brackets at the depth where it looks
  scan : (d : ℕ) (found : Bool) {part : Part} (p : Predicate part) (w : List Token)
      → op_ahead op d found (tokens_of p ++ w) ≡ (among op p && eqb d 0) || op_ahead op d true w
  unfolding op_ahead tokens_of among
  scan d found (last_group g) w = scan d found g w
  scan d found (or_then g p) w =
      let r = op_ahead op d true w in
      let e = scan_op d or_word (tokens_of p ++ w) (among op p) r (omega arith) (omega arith) (scan d true p w) in
      rw (append_assoc (tokens_of g) (or_word ∷ tokens_of p) w, scan d found g (or_word ∷ (tokens_of p ++ w)), e)
      (before (among op g) (eqb d 0) (eqb OR_KW op || among op p) r)
  scan d found (last_atom a) w = rw (scan d found a w, among_atom op a)
  scan d found (and_then a g) w =
      let e = scan_op d and_word (tokens_of g ++ w) (among op g) (op_ahead op d true w) (omega arith) (omega arith) (scan d true g w) in
      rw (append_assoc (tokens_of a) (and_word ∷ tokens_of g) w, scan d found a (and_word ∷ (tokens_of g ++ w)), among_atom op a) e
  scan d found (negated a) w = scan_plain d found not_word (tokens_of a ++ w) (omega arith) ∙ rw (scan d true a w, among_atom op a)
  scan d found (bracketed p) w =
      rw (append_assoc (tokens_of p) (closing ∷ []) w, scan (d + 1) true p (closing ∷ w), ne_eqb (d + 1) 0 (λ z. omega arith), and-false) (scan_close d w)
  scan d found (has_text t) w = scan_plain d found (word "has") (opening ∷ quoted t ∷ closing ∷ w) (omega arith) ∙ scan_string d true t w
  scan d found is_connected w = scan_plain d found (word "connected") w (omega arith)
  scan d found (message_has t) w =
      let us = opening ∷ quoted t ∷ closing ∷ w in
      scan_plain d found (word "message") (dot ∷ word "contains" ∷ us) (omega arith)
      ∙ scan_plain d true dot (word "contains" ∷ us) (omega arith)
      ∙ scan_plain d true (word "contains") us (omega arith)
      ∙ scan_string d true t w
  scan d found (field_is f t) w =
      scan_plain d found (field_word f) (equals ∷ quoted t ∷ w) (rw (field_kind f) (omega arith))
      ∙ scan_plain d true equals (quoted t ∷ w) (omega arith)
      ∙ scan_plain d true (quoted t) w (omega arith)

-- ---- one after the other

⊹-nil : (f : Forest) → f ⊹ nil ≡ f
unfolding ◌⊹◌
⊹-nil nil = refl
⊹-nil (leaf t f) = rw (⊹-nil f)
⊹-nil (node k s f) = rw (⊹-nil f)

pub ⊹-assoc : (f g h : Forest) → (f ⊹ g) ⊹ h ≡ f ⊹ (g ⊹ h)
unfolding ◌⊹◌
⊹-assoc nil g h = refl
⊹-assoc (leaf t f) g h = rw (⊹-assoc f g h)
⊹-assoc (node k s f) g h = rw (⊹-assoc f g h)

▹-assoc : (p q r : Parser) (ts : List Token) → (p ▹ q ▹ r) ts ≡ (p ▹ (q ▹ r)) ts
unfolding ◌▹◌ join
▹-assoc p q r ts =
    let x = p ts in
    let y = q x.rest in
    let z = r y.rest in
    rw (⊹-assoc x.made y.made z.made, append_assoc x.errors y.errors z.errors)

-- p makes f of the tokens ts, with no error, and leaves us
record Makes (p : Parser) (ts : List Token) (f : Forest) (us : List Token) : Type 0 where
  made : p ts ≡ read f us

infixl 60 ◌then◌
◌then◌ : {p q : Parser} {ts us vs : List Token} {f g : Forest} → Makes p ts f us → Makes q us g vs → Makes (p ▹ q) ts (f ⊹ g) vs
unfolding ◌▹◌ join
a then b = record { made = rw (a.made, b.made) }

then_done : {p q : Parser} {ts us : List Token} {f : Forest} → Makes p ts f us → Makes q us nil us → Makes (p ▹ q) ts f us
then_done {f = f} a b = rw (⊹-nil f) at (a then b)

in_node_lem : {p : Parser} {ts us : List Token} {f : Forest} (k : ℕ) → Makes p ts f us → Makes (in_node k p) ts (node k f nil) us
unfolding in_node
in_node_lem k a = record { made = rw a.made }

-- by one step
by_step : {ts us : List Token} {f : Forest} (m : Mode) → Makes (step parse m) ts f us → Makes (parse m) ts f us
by_step {ts} m a = record { made = parse_step m ts ∙ a.made }

-- ---- predicates

-- what may follow a predicate: nothing, or a closing bracket
pub data Ends : List Token → Type 0 where
  ended : Ends []
  shut : (w : List Token) → Ends (closing ∷ w)

ends_kind : {w : List Token} → Ends w → (k : ℕ) → AND_KW ≤ k → k ≤ OR_KW → at_kind k w ≡ false
unfolding at_kind
ends_kind ended k l h = ne_eqb NONE k (omega arith)
ends_kind (shut w) k l h = ne_eqb R_PAREN k (omega arith)

ends_scan : {w : List Token} → Ends w → (op : ℕ) → op_ahead op 0 true w ≡ false
unfolding op_ahead
ends_scan ended op = refl
ends_scan (shut w) op = refl

-- a group of operands: all of them, and one that stands alone
record Group (op : ℕ) (m rest : Mode) {part : Part} (p : Predicate part) (w : List Token) : Type 0 where
  loop : Makes (parse m ▹ parse rest) (tokens_of p ++ w) (operands p) w
  alone : among op p ≡ false → Makes (parse m) (tokens_of p ++ w) (operands p) w

-- what the scan sees decides whether they stand in a node
group_read : {op : ℕ} {m rest : Mode} {part : Part} {p : Predicate part} {w : List Token} → AND_KW ≤ op → op ≤ OR_KW → Group op m rest p w
    → Makes (choose (has_binary_op_at_level op) (in_node BINARY_EXPR (parse m ▹ parse rest)) (parse m)) (tokens_of p ++ w)
    (binary (among op p || op_ahead op 0 true w) (operands p)) w
unfolding choose has_binary_op_at_level binary
group_read {op} {p = p} {w} low high r =
    let e : op_ahead op 0 false (tokens_of p ++ w) ≡ among op p || op_ahead op 0 true w = rw and-true at (scan low high 0 false p w) in
    whether (among op p || op_ahead op 0 true w)
    (λ t. record { made = rw (choose, e, t) (in_node_lem BINARY_EXPR r.loop).made })
    (λ t. record { made = rw (choose, e, t) (r.alone (neither _ _ t).0).made })

-- the next token, and the symbols
bump_read : (t : Token) (ts : List Token) → is_blank t ≡ false → Makes bump (t ∷ ts) (leaf t nil) ts
unfolding bump
bump_read t ts e = record { made = rw (e, eat_ws) }

module _ (w : List Token) where
  dot_read : Makes (expect DOT) (dot ∷ w) (leaf dot nil) w
  unfolding expect
  dot_read = record { made = refl }

  open_read : Makes (expect L_PAREN) (opening ∷ w) (leaf opening nil) w
  unfolding expect
  open_read = record { made = refl }

  shut_read : Makes (expect R_PAREN) (closing ∷ w) (leaf closing nil) w
  unfolding expect
  shut_read = record { made = refl }

-- a rest that begins with an operator, and one that does not
or_rest : {ts us : List Token} {f : Forest} → Makes (parse AndExpr ▹ parse OrRest) ts f us → Makes (parse OrRest) (or_word ∷ ts) (leaf or_word f) us
unfolding step
or_rest {ts} a = by_step OrRest (record { made = ▹-assoc bump (parse AndExpr) (parse OrRest) (or_word ∷ ts) ∙ (bump_read or_word ts refl then a).made })

and_rest : {ts us : List Token} {f : Forest} → Makes (parse AtomMode ▹ parse AndRest) ts f us → Makes (parse AndRest) (and_word ∷ ts) (leaf and_word f) us
unfolding step
and_rest {ts} a = by_step AndRest (record { made = ▹-assoc bump (parse AtomMode) (parse AndRest) (and_word ∷ ts) ∙ (bump_read and_word ts refl then a).made })

or_none : (w : List Token) → at_kind OR_KW w ≡ false → Makes (parse OrRest) w nil w
unfolding step
or_none w e = by_step OrRest (record { made = rw (choose, e) })

and_none : (w : List Token) → at_kind AND_KW w ≡ false → Makes (parse AndRest) w nil w
unfolding step
and_none w e = by_step AndRest (record { made = rw (choose, e) })

-- an and group, and a predicate
and_read : {g : Predicate AndGroup} {w : List Token} → Group AND_KW AtomMode AndRest g w
    → Makes (parse AndExpr) (tokens_of g ++ w) (binary (among AND_KW g || op_ahead AND_KW 0 true w) (operands g)) w
unfolding step
and_read r = by_step AndExpr (group_read (omega arith) (omega arith) r)

or_read : {p : Predicate OrGroup} {w : List Token} → Ends w → Group OR_KW AndExpr OrRest p w → Makes (parse OrExpr) (tokens_of p ++ w) (predicate_tree p) w
unfolding step predicate_tree
or_read e r = by_step OrExpr (rw (ends_scan e OR_KW, or-false) at (group_read (omega arith) (omega arith) r))

-- what is read of each part of a predicate, and what may follow it
abbrev Reading : (part : Part) → Predicate part → Type 0
Reading OrGroup p = (w : List Token) → Ends w → Group OR_KW AndExpr OrRest p w
Reading AndGroup g = (w : List Token) → at_kind AND_KW w ≡ false → Group AND_KW AtomMode AndRest g w
Reading Atom a = (w : List Token) → Makes (parse AtomMode) (tokens_of a ++ w) (operands a) w

last_group_lem : (g : Predicate AndGroup) → Reading AndGroup g → Reading OrGroup (last_group g)
unfolding tokens_of operands
last_group_lem g r w e =
    let a = rw (ends_scan e AND_KW, or-false) at (and_read (r w (ends_kind e AND_KW (omega arith) (omega arith)))) in
    record { loop = then_done a (or_none w (ends_kind e OR_KW (omega arith) (omega arith))); alone = λ _. a }

-- past an `or` the scan for `and` goes on
scan_or : (p : Predicate OrGroup) {w : List Token} → Ends w → op_ahead AND_KW 0 true (or_word ∷ (tokens_of p ++ w)) ≡ among AND_KW p
unfolding op_ahead
scan_or p {w} e = scan (omega arith) (omega arith) 0 true p w ∙ rw (ends_scan e AND_KW, or-false, and-true)

or_then_lem : (g : Predicate AndGroup) (p : Predicate OrGroup) → Reading AndGroup g → Reading OrGroup p → Reading OrGroup (or_then g p)
unfolding tokens_of operands among at_kind
or_then_lem g p r q w e =
    let a = rw (scan_or p e) at (and_read (r (or_word ∷ (tokens_of p ++ w)) refl)) in
    record { loop = rw append_assoc (a then or_rest (q w e).loop); alone = λ z. absurd (true≢false (sym (or-true (among OR_KW g)) ∙ z)) }

last_atom_lem : (a : Predicate Atom) → Reading Atom a → Reading AndGroup (last_atom a)
unfolding tokens_of operands
last_atom_lem a r w e = record { loop = then_done (r w) (and_none w e); alone = λ _. r w }

and_then_lem : (a : Predicate Atom) (g : Predicate AndGroup) → Reading Atom a → Reading AndGroup g → Reading AndGroup (and_then a g)
unfolding tokens_of operands among
and_then_lem a g r q w e =
    record { loop = rw append_assoc (r (and_word ∷ (tokens_of g ++ w)) then and_rest (q w e).loop); alone = λ z. absurd (true≢false z) }

negated_read : (a : Predicate Atom) → Reading Atom a → Reading Atom (negated a)
unfolding tokens_of operands step
negated_read a r w = by_step AtomMode (record { made = (in_node_lem UNARY_EXPR (bump_read not_word (tokens_of a ++ w) refl then r w)).made })

bracketed_read : (p : Predicate OrGroup) → Reading OrGroup p → Reading Atom (bracketed p)
unfolding tokens_of operands step predicate_tree expect
bracketed_read p r w =
    let inside = or_read (shut w) (r (closing ∷ w) (shut w)) in
    let ts : List Token = tokens_of p ++ closing ∷ w in
    rw append_assoc (by_step AtomMode (record { made = (in_node_lem PAREN_EXPR (bump_read opening ts refl then inside then shut_read w)).made }))

field_read : (f : Field) (t : List ℕ) → Reading Atom (field_is f t)
unfolding tokens_of operands step
field_read category t w = by_step AtomMode (record { made = refl })
field_read kind t w = by_step AtomMode (record { made = refl })
field_read direction t w = by_step AtomMode (record { made = refl })
field_read severity t w = by_step AtomMode (record { made = refl })
field_read message t w = by_step AtomMode (record { made = refl })

reading : {part : Part} (p : Predicate part) → Reading part p
unfolding tokens_of operands step
reading (last_group g) = last_group_lem g (reading g)
reading (or_then g p) = or_then_lem g p (reading g) (reading p)
reading (last_atom a) = last_atom_lem a (reading a)
reading (and_then a g) = and_then_lem a g (reading a) (reading g)
reading (negated a) = negated_read a (reading a)
reading (bracketed p) = bracketed_read p (reading p)
reading (has_text t) = λ w. by_step AtomMode (record { made = refl })
reading is_connected = λ w. by_step AtomMode (record { made = refl })
reading (message_has t) = λ w. by_step AtomMode (record { made = refl })
reading (field_is f t) = field_read f t

predicate_made : (p : Predicate OrGroup) (w : List Token) → Ends w → Makes (parse OrExpr) (tokens_of p ++ w) (predicate_tree p) w
predicate_made p w e = or_read e (reading p w e)

pub predicate_read : (p : Predicate OrGroup) (w : List Token) → Ends w → parse OrExpr (tokens_of p ++ w) ≡ read (predicate_tree p) w
predicate_read p w e = (predicate_made p w e).made

-- ---- calls and pipelines

then_first : {p : Parser} {ts us : List Token} {f : Forest} → Makes p ts f us → (q : Parser) → (p ▹ q) ts ≡ first f (q us)
unfolding ◌▹◌ join first
then_first a q = rw a.made

predicate_method : {ts us : List Token} {f : Forest} (q : Parser) → at_predicate_method ts ≡ true → Makes (bump ▹ predicate_args q) ts f us
    → Makes (parse_method q) ts f us
unfolding parse_method
predicate_method q e a = record { made = rw (choose, e) a.made }

-- a method with a predicate in brackets
method_made : (m : String) (p : Predicate OrGroup) (v : List Token) → at_predicate_method (word m ∷ []) ≡ true
    → Makes (parse_dot_call (parse OrExpr)) (dot ∷ word m ∷ opening ∷ (tokens_of p ++ closing ∷ v)) (with_predicate_tree m p) v
unfolding parse_dot_call with_predicate_tree
method_made m p v e =
    let ts : List Token = tokens_of p ++ closing ∷ v in
    let args = in_node_lem CALL_ARGS (open_read ts then predicate_made p (closing ∷ v) (shut v) then shut_read v) in
    in_node_lem DOT_CALL (dot_read (word m ∷ opening ∷ ts) then predicate_method (parse OrExpr) e (bump_read (word m) (opening ∷ ts) refl then args))

method_read : (m : String) (p : Predicate OrGroup) (v : List Token) → at_predicate_method (word m ∷ []) ≡ true
    → parse Calls (with_predicate m p ++ v) ≡ first (with_predicate_tree m p) (parse Calls v)
unfolding step first
method_read m p v e =
    rw append_assoc (parse_step Calls (dot ∷ word m ∷ opening ∷ (tokens_of p ++ closing ∷ v)) ∙ then_first (method_made m p v e) (parse Calls))

call_read : (c : Call) (v : List Token) → parse Calls (call_tokens c ++ v) ≡ first (call_tree c) (parse Calls v)
unfolding step call_tree first
call_read (where_call p) v = method_read "where" p v refl
call_read (all_call p) v = method_read "all" p v refl
call_read (any_call p) v = method_read "any" p v refl
call_read (none_call p) v = method_read "none" p v refl
call_read count_call v = parse_step Calls _
call_read features_call v = parse_step Calls _
call_read diagnostics_call v = parse_step Calls _

first_first : (f g : Forest) (x : Parsed) → first f (first g x) ≡ first (f ⊹ g) x
unfolding first
first_first f g x = rw (⊹-assoc f g x.made)

pub calls_read : (cs : List Call) (v : List Token) → parse Calls (calls_tokens cs ++ v) ≡ first (calls_tree cs) (parse Calls v)
unfolding calls_tokens calls_tree first
calls_read [] v = refl
calls_read (c ∷ cs) v =
    rw (append_assoc (call_tokens c) (calls_tokens cs) v, call_read c (calls_tokens cs ++ v), calls_read cs v) (first_first (call_tree c) (calls_tree cs) (parse Calls v))

source_read : (s : Source) (v : List Token) → Makes parse_source (source_tokens s ++ v) (source_tree s) v
unfolding parse_source source_tree
source_read components v = record { made = refl }
source_read (analysis name) v = record { made = refl }

-- the tree of a pipeline, of which so much is read
pub pipeline_read : (s : Source) (cs : List Call) (v : List Token)
    → parse_pipeline (source_tokens s ++ (calls_tokens cs ++ v)) ≡ pipeline_then s cs (parse Calls v)
unfolding in_node pipeline_then first
pipeline_read s cs v =
    let us : List Token = calls_tokens cs ++ v in
    rw (parse_pipeline_is, in_node, then_first (source_read s us) (parse Calls), calls_read cs v)
