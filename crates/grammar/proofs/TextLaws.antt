-- The tokens of texts made of texts: no token runs on from one into the next. Assumes nothing.
use mathlib.Core.Path.{◌≡◌, refl, sym, ap, ◌∙◌}
use mathlib.Core.List.{List, [], ◌∷◌, ◌++◌, append_assoc, append-nil}
use mathlib.Core.Bool.{true, or-true}
use Prim.Native.Nat.{ℕ}
use borrow.Author.Tests.{eqb-true}
use lib.Dec.{T}
use Rattle.syntax.specs.Kind.{WHITESPACE}
use Rattle.syntax.specs.Text.{ascii, is}
use Rattle.syntax.proofs.BoolLaws.{whether, true→T}
use Rattle.lexer.specs.Lex.{Token, lex}
use Rattle.lexer.specs.Tokens.{has_quote, is_closed, closed}
use Rattle.lexer.proofs.LexLaws.{Joint, joint_kind, lex_joint, lex_nil, lex_joint_first, closed_append}
use Rattle.trees.specs.Look.{is_blank}
use Rattle.grammar.specs.Grammar.{solid, word, quoted, dot, opening, closing, and_word, or_word, not_word, category, kind, direction, severity, message, Part, OrGroup, Predicate, last_group, or_then, last_atom, and_then, negated, bracketed, has_text, is_connected, message_has, field_is, tokens_of, ReadWhole, Source, components, analysis, Call, where_call, all_call, any_call, none_call, count_call, features_call, diagnostics_call, source_tokens, with_predicate, call_tokens, calls_tokens, ReadPipeline}
use Rattle.grammar.specs.Texts.{Method, where_method, all_method, any_method, none_method, method_name, method_text, call_text, and_text, or_text, not_text}
use Rattle.grammar.proofs.BlankLaws.{solid_append}

-- ---- every quote of the grammar's tokens is closed

quote_last : (w : List ℕ) → has_quote (w ++ ascii "'") ≡ true
unfolding has_quote
quote_last [] = refl
quote_last (b ∷ w) = rw (quote_last w) (or-true (is "'" b))

quoted_closed : (w : List ℕ) → is_closed (quoted w) ≡ true
unfolding is_closed
quoted_closed w = quote_last w

closed_predicate : {part : Part} (p : Predicate part) → closed (tokens_of p) ≡ true
unfolding closed tokens_of
closed_predicate (last_group g) = closed_predicate g
closed_predicate (or_then g p) = rw (closed_append (tokens_of g) (or_word ∷ tokens_of p), closed_predicate g) (closed_predicate p)
closed_predicate (last_atom a) = closed_predicate a
closed_predicate (and_then a g) = rw (closed_append (tokens_of a) (and_word ∷ tokens_of g), closed_predicate a) (closed_predicate g)
closed_predicate (negated a) = closed_predicate a
closed_predicate (bracketed p) = rw (closed_append (tokens_of p) (closing ∷ []), closed_predicate p)
closed_predicate (has_text w) = rw (quoted_closed w)
closed_predicate is_connected = refl
closed_predicate (message_has w) = rw (quoted_closed w)
closed_predicate (field_is category w) = rw (quoted_closed w)
closed_predicate (field_is kind w) = rw (quoted_closed w)
closed_predicate (field_is direction w) = rw (quoted_closed w)
closed_predicate (field_is severity w) = rw (quoted_closed w)
closed_predicate (field_is message w) = rw (quoted_closed w)

closed_brackets : (p : Predicate OrGroup) → closed (tokens_of p ++ (closing ∷ [])) ≡ true
unfolding closed
closed_brackets p = rw (closed_append (tokens_of p) (closing ∷ []), closed_predicate p)

closed_call : (c : Call) → closed (call_tokens c) ≡ true
unfolding closed
closed_call (where_call p) = closed_brackets p
closed_call (all_call p) = closed_brackets p
closed_call (any_call p) = closed_brackets p
closed_call (none_call p) = closed_brackets p
closed_call count_call = refl
closed_call features_call = refl
closed_call diagnostics_call = refl

closed_calls : (cs : List Call) → closed (calls_tokens cs) ≡ true
unfolding closed calls_tokens
closed_calls [] = refl
closed_calls (c ∷ cs) = rw (closed_append (call_tokens c) (calls_tokens cs), closed_call c) (closed_calls cs)

closed_source : (s : Source) → closed (source_tokens s) ≡ true
unfolding closed
closed_source components = refl
closed_source (analysis name) = rw (quoted_closed name)

-- blanks are closed
pub closed_solid : (ts : List Token) → closed (solid ts) ≡ closed ts
unfolding closed solid
closed_solid [] = refl
closed_solid (t ∷ ts) =
    whether (is_blank t) (λ e. rw (e, solid, eqb-true t.kind WHITESPACE e) (closed_solid ts)) (λ e. rw (e, solid, closed_solid ts))

-- so are those of a text that is read whole
whole_closed : {p : List ℕ} → ReadWhole p → T (closed (lex p))
whole_closed {p} r = rw (← (closed_solid (lex p)), r.whole) (true→T (closed_predicate r.predicate))

pipeline_closed : {c : List ℕ} → ReadPipeline c → T (closed (lex c))
pipeline_closed {c} r = rw (← (closed_solid (lex c)), r.whole, closed_append, closed_source r.source) (true→T (closed_calls r.calls))

-- ---- joints

solid_nil : solid [] ≡ []
unfolding solid
solid_nil = refl

-- a text that begins with `.`, `(` or `)` behind one whose quotes are closed
solid_joint : {k : ℕ} → Joint k → (a b : List ℕ) → T (closed (lex a)) → solid (lex (a ++ k ∷ b)) ≡ solid (lex a) ++ solid (lex (k ∷ b))
solid_joint {k} j a b t = ap solid (lex_joint j a b t) ∙ solid_append (lex a) (lex (k ∷ b))

-- a predicate in brackets
shut_text : {p : List ℕ} → ReadWhole p → (z : List ℕ) → solid (lex (p ++ (ascii ")" ++ z))) ≡ solid (lex p) ++ (closing ∷ solid (lex z))
unfolding solid joint_kind
shut_text {p} r z =
    solid_joint Joint.closing p z (whole_closed r) ∙ ap (λ (ts : List Token). solid (lex p) ++ solid ts) (lex_joint_first Joint.closing z)

-- `(P)`, and a text after it
abbrev bracket_text : List ℕ → List ℕ → List ℕ
bracket_text p z = ascii "(" ++ (p ++ (ascii ")" ++ z))

pub bracket_text_lem : {p : List ℕ} → ReadWhole p → (z : List ℕ) → solid (lex (bracket_text p z)) ≡ opening ∷ (solid (lex p) ++ (closing ∷ solid (lex z)))
unfolding solid joint_kind
bracket_text_lem {p} r z =
    ap solid (lex_joint_first Joint.opening (p ++ (ascii ")" ++ z))) ∙ ap (λ (ts : List Token). opening ∷ ts) (shut_text r z)

-- ---- calls

method_first : (m : Method) (z : List ℕ) → lex (method_text m z) ≡ dot ∷ word (method_name m) ∷ opening ∷ lex z
unfolding lex
method_first where_method z = refl
method_first all_method z = refl
method_first any_method z = refl
method_first none_method z = refl

-- `.method(P)` and a text after it
pub call_first : (m : Method) {p : List ℕ} → ReadWhole p → (z : List ℕ)
    → solid (lex (call_text m p z)) ≡ dot ∷ word (method_name m) ∷ opening ∷ (solid (lex p) ++ (closing ∷ solid (lex z)))
unfolding solid
call_first m {p} r z = rw (method_first m (p ++ (ascii ")" ++ z)), shut_text r z)

-- the same behind a pipeline
pub call_text_lem : {c : List ℕ} → ReadPipeline c → (m : Method) {p : List ℕ} → ReadWhole p → (z : List ℕ)
    → solid (lex (c ++ call_text m p z)) ≡ solid (lex c) ++ (dot ∷ word (method_name m) ∷ opening ∷ (solid (lex p) ++ (closing ∷ solid (lex z))))
call_text_lem {c} r m {p} q z =
    let b = ascii (method_name m) ++ (ascii "(" ++ (p ++ (ascii ")" ++ z))) in
    solid_joint Joint.dot c b (pipeline_closed r) ∙ ap (λ (ts : List Token). solid (lex c) ++ ts) (call_first m q z)

-- `.count()` and a text after it
pub count_first : (z : List ℕ) → solid (lex (ascii ".count()" ++ z)) ≡ dot ∷ word "count" ∷ opening ∷ closing ∷ solid (lex z)
unfolding lex solid
count_first z = refl

pub count_then : {c : List ℕ} → ReadPipeline c → (z : List ℕ)
    → solid (lex (c ++ (ascii ".count()" ++ z))) ≡ solid (lex c) ++ (dot ∷ word "count" ∷ opening ∷ closing ∷ solid (lex z))
count_then {c} r z = rw (solid_joint Joint.dot c (ascii "count()" ++ z) (pipeline_closed r), count_first z)

-- ---- pipelines with one call more

calls_tokens_append : (cs ds : List Call) → calls_tokens (cs ++ ds) ≡ calls_tokens cs ++ calls_tokens ds
unfolding calls_tokens
calls_tokens_append [] ds = refl
calls_tokens_append (c ∷ cs) ds = rw (calls_tokens_append cs ds) (sym (append_assoc (call_tokens c) (calls_tokens cs) (calls_tokens ds)))

-- the call of a method that takes a predicate
abbrev pub method_call : Method → Predicate OrGroup → Call
method_call where_method p = where_call p
method_call all_method p = all_call p
method_call any_method p = any_call p
method_call none_method p = none_call p

pub method_tokens : (m : Method) (p : Predicate OrGroup) → call_tokens (method_call m p) ≡ with_predicate (method_name m) p
method_tokens where_method p = refl
method_tokens all_method p = refl
method_tokens any_method p = refl
method_tokens none_method p = refl

-- the tokens of a pipeline, of a call behind it and of what follows
more_tokens : (s : Source) (cs : List Call) (c : Call) (ts : List Token)
    → (source_tokens s ++ calls_tokens cs) ++ (call_tokens c ++ ts) ≡ source_tokens s ++ (calls_tokens (cs ++ (c ∷ [])) ++ ts)
unfolding calls_tokens
more_tokens s cs c ts = rw (calls_tokens_append cs (c ∷ []), append-nil (call_tokens c)) (simp append_assoc)

pub call_tokens_lem : {c p : List ℕ} (r : ReadPipeline c) (m : Method) (q : ReadWhole p) (z : List ℕ)
    → solid (lex (c ++ call_text m p z)) ≡ source_tokens r.source ++ (calls_tokens (r.calls ++ (method_call m q.predicate ∷ [])) ++ solid (lex z))
call_tokens_lem {c} {p} r m q z =
    call_text_lem r m q z
    ∙ rw (r.whole, q.whole, ← (more_tokens r.source r.calls (method_call m q.predicate) (solid (lex z))), method_tokens m q.predicate)
    (simp append_assoc)

pub call_last : {c p : List ℕ} (r : ReadPipeline c) (m : Method) (q : ReadWhole p)
    → solid (lex (c ++ call_text m p [])) ≡ source_tokens r.source ++ calls_tokens (r.calls ++ (method_call m q.predicate ∷ []))
call_last r m q = call_tokens_lem r m q [] ∙ rw (lex_nil, solid_nil, append-nil)

abbrev pub call_pipeline : {c p : List ℕ} → ReadPipeline c → (m : Method) → ReadWhole p → ReadPipeline (c ++ call_text m p [])
call_pipeline r m q = record { source = r.source; calls = r.calls ++ (method_call m q.predicate ∷ []); whole = call_last r m q }

pub count_tokens : {c : List ℕ} (r : ReadPipeline c) (z : List ℕ)
    → solid (lex (c ++ (ascii ".count()" ++ z))) ≡ source_tokens r.source ++ (calls_tokens (r.calls ++ (count_call ∷ [])) ++ solid (lex z))
count_tokens r z = count_then r z ∙ rw r.whole (more_tokens r.source r.calls count_call (solid (lex z)))

-- ---- predicates

-- what `(P) and (Q)`, `(P) or (Q)` and `not (P)` are as predicates
abbrev and_predicate : Predicate OrGroup → Predicate OrGroup → Predicate OrGroup
and_predicate p q = last_group (and_then (bracketed p) (last_atom (bracketed q)))

abbrev or_predicate : Predicate OrGroup → Predicate OrGroup → Predicate OrGroup
or_predicate p q = or_then (last_atom (bracketed p)) (last_group (last_atom (bracketed q)))

abbrev not_predicate : Predicate OrGroup → Predicate OrGroup
not_predicate p = last_group (last_atom (negated (bracketed p)))

and_first : (z : List ℕ) → solid (lex (ascii " and (" ++ z)) ≡ and_word ∷ opening ∷ solid (lex z)
unfolding lex solid
and_first z = refl

or_first : (z : List ℕ) → solid (lex (ascii " or (" ++ z)) ≡ or_word ∷ opening ∷ solid (lex z)
unfolding lex solid
or_first z = refl

not_first : (z : List ℕ) → solid (lex (ascii "not (" ++ z)) ≡ not_word ∷ opening ∷ solid (lex z)
unfolding lex solid
not_first z = refl

shut_last : {p : List ℕ} (r : ReadWhole p) → solid (lex (p ++ ascii ")")) ≡ tokens_of r.predicate ++ (closing ∷ [])
unfolding lex solid
shut_last r = rw (← r.whole) (shut_text r [])

module _ {p q : List ℕ} (r : ReadWhole p) (s : ReadWhole q) where
  pub and_tokens : solid (lex (and_text p q)) ≡ tokens_of (and_predicate r.predicate s.predicate)
  unfolding tokens_of
  and_tokens = rw (bracket_text_lem r (ascii " and (" ++ (q ++ ascii ")")), and_first (q ++ ascii ")"), shut_last s, r.whole) (simp append_assoc)

  pub or_tokens : solid (lex (or_text p q)) ≡ tokens_of (or_predicate r.predicate s.predicate)
  unfolding tokens_of
  or_tokens = rw (bracket_text_lem r (ascii " or (" ++ (q ++ ascii ")")), or_first (q ++ ascii ")"), shut_last s, r.whole) (simp append_assoc)

  abbrev pub and_whole : ReadWhole (and_text p q)
  and_whole = record { predicate = and_predicate r.predicate s.predicate; whole = and_tokens }

  abbrev pub or_whole : ReadWhole (or_text p q)
  or_whole = record { predicate = or_predicate r.predicate s.predicate; whole = or_tokens }

module _ {p : List ℕ} (r : ReadWhole p) where
  pub not_tokens : solid (lex (not_text p)) ≡ tokens_of (not_predicate r.predicate)
  unfolding tokens_of
  not_tokens = rw (not_first (p ++ ascii ")"), shut_last r)

  abbrev pub not_whole : ReadWhole (not_text p)
  not_whole = record { predicate = not_predicate r.predicate; whole = not_tokens }
