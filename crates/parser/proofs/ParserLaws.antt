-- What the parser's methods ask and leave, put together as the definitions are, and what its looks see. Assumes nothing.
use mathlib.Core.Path.{◌≡◌, refl, sym, ap, ◌∙◌}
use mathlib.Core.List.{List, [], ◌∷◌}
use mathlib.Core.Bool.{Bool, true, false, ◌&&◌}
use Prim.Native.Nat.{ℕ, ◌+◌, ◌-◌, ◌≤◌, ◌<◌, ◌^◌}
use native.Mathlib.Omega.{arith}
use lib.Dec.{eqb}
use lib.ListN.{length, take, drop, length-drop}
use lib.Seq.{sets}
use Rattle.std.specs.Option.{option_map}
use Rattle.std.specs.Prelude.{Option, Some, None, Result, Ok, Err, MatchResult}
use borrow.Author.Tests.{ne_eqb}
use Rattle.syntax.specs.Text.{ascii, same}
use Rattle.lexer.specs.Lex.{Token, lex}
use Rattle.lexer.proofs.ReadLaws.{lex_length}
use Rattle.reader.specs.declared.Row.{Row}
use Rattle.reader.specs.Reader.{row_at, kind_at, past_ws}
use Rattle.reader.specs.Reader as reader
use Rattle.trees.specs.Look.{skip_ws, at_kind, at_ident, first_kind, tail_of, current_text, is_comparison, at_text, at_predicate_method, at_plain_method}
use Rattle.trees.specs.Parse.{Parser, done, next, next_is, bump, fails, fails_ahead, ◌▹◌, in_node, choose, eat_ws, next_is_ident, parse_dot_call, parse, OrExpr}
use Rattle.trees.specs.Rows.{error_rows}
use Rattle.trees.proofs.PlaceLaws.{tail_drop, past_here, past_within, kind_is, current_is, Seen, seen, unseen}
use Rattle.trees.proofs.LookLaws as looks
use Rattle.trees.proofs.StepLaws.{sees_kind, next_ahead, bump_ahead}
use Rattle.trees.proofs.TreeLaws.{eat_rest, skip_twice}
use Rattle.trees.proofs.CycleLaws.{dot_ahead}
use Rattle.syntax.specs.Kind.{DOT, EQ_EQ, NEQ, GE, GT, LE, LT, IDENT}
use Rattle.syntax.specs.Kinds.{number, Names}
use Rattle.trees.specs.declared.Cursor.{Cursor}
use Rattle.syntax.specs.declared.kind.Kind.{Kind}
use Rattle.syntax.specs.declared.kind.UnknownKind.{UnknownKind}
use Rattle.trees.proofs.WritingLaws as writing
use Rattle.parser.specs.declared.ExprParser.{ExprParser}
use Rattle.parser.specs.Parser.{left, token_ahead, Ready, Asks, Keeps, Did, Started, Finished, Inside, Reported, is_predicate_method, is_plain_method}

pub keeps_same : {s : ExprParser} → Keeps s s
keeps_same = record { rule = refl; tokens = refl; ops = refl; tree = refl; errors = refl }

pub keeps_then : {s n r : ExprParser} → Keeps s n → Keeps n r → Keeps s r
keeps_then a b =
    record { rule = b.rule ∙ a.rule; tokens = b.tokens ∙ a.tokens; ops = b.ops ∙ a.ops; tree = b.tree ∙ a.tree; errors = b.errors ∙ a.errors }

module _ {s n : ExprParser} {p : Parser} (d : Did s n p) where
  pub ready_then : Ready s → Ready n
  ready_then r = rw (d.keeps.rule, d.keeps.tokens, d.keeps.ops) record { here = writing.ready_then d.did r.here; short = r.short; ops = r.ops }

  pub did_then : {r : ExprParser} {q : Parser} → Did n r q → Did s r (p ▹ q)
  did_then b =
      record {
        keeps = keeps_then d.keeps b.keeps;
        level = b.level ∙ d.level;
        did = writing.did_then d.did (rw (d.keeps.rule, d.level) at b.did);
      }

module _ {s : ExprParser} {p : Parser} (q : Parser) where
  pub asks_first : Asks s (p ▹ q) → Asks s p
  asks_first a = record { ready = a.ready; room = writing.asks_first p q a.room }

pub asks_then : {s n : ExprParser} {p q : Parser} → Asks s (p ▹ q) → Did s n p → Asks n q
asks_then {p = p} {q} a d =
    record { ready = ready_then d a.ready; room = rw (d.keeps.rule, d.keeps.tokens, d.level) (writing.asks_then p q a.room d.did) }

-- fewer tokens are left where the place is further on, and never more
module _ {s n : ExprParser} {p : Parser} (d : Did s n p) where
  pub fewer : s.at.token < n.at.token → length (left n) < length (left s)
  fewer h = rw d.keeps.rule (simp length-drop (omega (arith, d.did.wrote.within)))

  pub no_more : length (left n) ≤ length (left s)
  no_more = rw d.keeps.rule (simp length-drop (omega (arith, d.did.wrote.ahead)))

pub next_fewer : {s n : ExprParser} → 0 < length (left s) → Did s n next → length (left n) < length (left s)
next_fewer h d = fewer d (next_ahead h d.did)

module _ {s n : ExprParser} {found : Bool} where
  pub bump_fewer : (k : Kind) → found ≡ at_kind (number k) (left s) → found ≡ true → Did s n bump → length (left n) < length (left s)
  bump_fewer k f e d = let h = looks.kind_named k in fewer d (bump_ahead (sees_kind (number k) (λ q. omega arith)) (sym f ∙ e) d.did)

  pub dot_fewer : found ≡ at_kind DOT (left s) → found ≡ true → Did s n (parse_dot_call (parse OrExpr)) → length (left n) < length (left s)
  dot_fewer f e d = fewer d (dot_ahead (sym f ∙ e) d.did)

-- past blanks no blank comes next
module _ {s n : ExprParser} (d : Did s n eat_ws) where
  eaten : skip_ws (left n) ≡ left n
  eaten = let r : left n ≡ skip_ws (left s) = rw d.keeps.rule (d.did.wrote.rest ∙ eat_rest (left s)) in ap skip_ws r ∙ skip_twice (left s) ∙ sym r

  pub eaten_kind : {found : Bool} (k : Kind) → found ≡ next_is (number k) (left n) → found ≡ at_kind (number k) (left n)
  unfolding at_kind next_is
  eaten_kind k e = rw eaten e

  pub eaten_ident : {found : Bool} (w : List ℕ) → found ≡ at_ident w (left n) → found ≡ next_is_ident w (left n)
  unfolding at_ident next_is_ident
  eaten_ident w e = rw eaten at e

-- ---- a node

-- room for its row, and a level below
module _ {s : ExprParser} (k : ℕ) (a : (p : Parser) × Asks s (in_node k p)) where
  pub node_room : s.at.row + 4 ≤ length s.tree.now
  node_room = writing.node_room k a.0 a.1.room

  pub node_level : s.level + 1 < 2 ^ 32
  node_level = writing.node_level k a.0 a.1.room

module _ {s n : ExprParser} {k row : ℕ} {p : Parser} (a : Asks s (in_node k p)) (o : Started s n k row) where
  pub asks_node : Asks n p
  asks_node =
      let r = writing.asks_node k p a.room o.started in
      record {
        ready = rw (o.keeps.rule, o.keeps.tokens, o.keeps.ops) record { here = r.fits.ready; short = a.ready.short; ops = a.ready.ops };
        room = rw (o.keeps.rule, o.keeps.tokens, o.errors, o.level) r;
      }

  pub inside : {r : ExprParser} → Did n r p → Inside r row
  inside d =
      record {
        room = rw o.row_is (omega (arith, writing.node_room k p a.room, writing.started_long o.started, writing.tree_long d.did));
        level = omega (arith, o.level, d.level);
      }

-- the node's own row takes no token
pub started_left : {s n : ExprParser} {k row : ℕ} → Started s n k row → left n ≡ left s
started_left o = let e = ap (λ (c : Cursor). c.token) o.started.cursor in rw (o.keeps.rule, e)

pub node_fewer : {s n r : ExprParser} {j row : ℕ} {found : Bool} (k : Kind) → found ≡ at_kind (number k) (left s) → found ≡ true → Started s n j row → Did n r bump
    → length (left r) < length (left s)
node_fewer k f e o d = omega (arith, bump_fewer k (rw (started_left o) f) e d, ap length (started_left o))

pub did_node : {s n r t : ExprParser} {k row : ℕ} {p : Parser} → Started s n k row → Did n r p → Finished r t row → Did s t (in_node k p)
did_node o d f =
    record {
      keeps = keeps_then o.keeps (keeps_then d.keeps f.keeps);
      level = omega (arith, o.level, d.level, f.level);
      did = rw f.errors (writing.did_node o.started (rw (o.keeps.rule, o.level, o.errors) at d.did) (rw o.row_is at f.finished));
    }

-- ---- one definition for another that is the same, and a choice

module _ {p q : Parser} (e : p ≡ q) where
  pub asks_is : {s : ExprParser} → Asks s p → Asks s q
  asks_is a = record { ready = a.ready; room = writing.asks_is e a.room }

  pub did_is : {s n : ExprParser} → Did s n q → Did s n p
  did_is d = record { keeps = d.keeps; level = d.level; did = writing.did_is e d.did }

module _ {s : ExprParser} {p q : Parser} (e : p (left s) ≡ q (left s)) where
  pub asks_as : Asks s p → Asks s q
  asks_as a = record { ready = a.ready; room = writing.asks_as e a.room }

  pub did_as : {n : ExprParser} → Did s n q → Did s n p
  did_as d = record { keeps = d.keeps; level = d.level; did = writing.did_as e d.did }

-- a choice, by what the code found of its test
module _ {s : ExprParser} {found : Bool} (test : List Token → Bool) (other : Parser) (f : found ≡ test (left s)) where
  pub asks_true : {p : Parser} → found ≡ true → Asks s (choose test p other) → Asks s p
  asks_true {p} e a = asks_as (writing.choose_true test p other (left s) (sym f ∙ e)) a

  pub asks_false : {p : Parser} → found ≡ false → Asks s (choose test other p) → Asks s p
  asks_false {p} e a = asks_as (writing.choose_false test other p (left s) (sym f ∙ e)) a

  pub did_true : {n : ExprParser} {p : Parser} → found ≡ true → Did s n p → Did s n (choose test p other)
  did_true {p = p} e d = did_as (writing.choose_true test p other (left s) (sym f ∙ e)) d

  pub did_false : {n : ExprParser} {p : Parser} → found ≡ false → Did s n p → Did s n (choose test other p)
  did_false {p = p} e d = did_as (writing.choose_false test other p (left s) (sym f ∙ e)) d

-- nothing is done
pub did_done : {s : ExprParser} → Ready s → Did s s done
did_done r = record { keeps = keeps_same; level = refl; did = writing.did_done r.here }

-- ---- a loop: after what was done from s to d, q is left of p

pub record Ongoing (s d : ExprParser) (p q : Parser) : Type 0 where
  pub asks : Asks d q
  pub rest : (r : ExprParser) → Did d r q → Did s r p
  pub fewer : length (left d) ≤ length (left s)

-- s with c for its place
abbrev pub with_place : ExprParser → Cursor → ExprParser
with_place s c = record { rule = s.rule; tokens = s.tokens; tree = s.tree; errors = s.errors; level = s.level; at = c; ops = s.ops }

pub ongoing_start : {s : ExprParser} {p : Parser} → Asks s p → Ongoing s s p p
ongoing_start a = record { asks = a; rest = λ r d. d; fewer = omega arith }

module _ {s d : ExprParser} {p : Parser} where
  pub ongoing_as : {q r : Parser} → q (left d) ≡ r (left d) → Ongoing s d p q → Ongoing s d p r
  ongoing_as e g = record { asks = asks_as e g.asks; rest = λ n w. g.rest n (did_as e w); fewer = g.fewer }

  pub ongoing_end : Ongoing s d p done → Did s d p
  ongoing_end g = g.rest d (did_done g.asks.ready)

  module _ {q : Parser} (r : Parser) (g : Ongoing s d p (q ▹ r)) where
    pub ongoing_asks : Asks d q
    ongoing_asks = asks_first r g.asks

    pub ongoing_next : {n : ExprParser} → Did d n q → Ongoing s n p r
    ongoing_next w = record { asks = asks_then g.asks w; rest = λ a b. g.rest a (did_then w b); fewer = omega (arith, g.fewer, no_more w) }

-- ---- looks

-- the methods, by the text of the first token that is no blank
module _ {text : List ℕ} {found : Bool} (ts : List Token) (t : text ≡ current_text ts) where
  pub predicate_method : found ≡ is_predicate_method text → found ≡ at_predicate_method ts
  unfolding at_predicate_method at_text
  predicate_method e = rw t at e

  pub count_method : found ≡ same text (ascii "count") → found ≡ at_text (ascii "count") ts
  unfolding at_text
  count_method e = rw t at e

  pub plain_method : found ≡ is_plain_method text → found ≡ at_plain_method ts
  unfolding at_plain_method at_text
  plain_method e = rw t at e

same_word : {k k' : ℕ} {x x' : List ℕ} (w : List ℕ) → k ≡ k' → x ≡ x' → (eqb k IDENT && same x w) ≡ (eqb k' IDENT && same x' w)
same_word w p q = rw (p, q)

module _ {s : ExprParser} (r : Ready s) where
  pub current_here : reader.current_kind s.tokens.now s.at.token ≡ first_kind (skip_ws (left s))
  current_here = current_is (lex s.rule.now) r.here.rows s.at.token

  pub next_here : kind_at s.tokens.now s.at.token ≡ first_kind (left s)
  next_here = kind_is (lex s.rule.now) r.here.rows s.at.token

  -- whether a token is left, as the code finds it
  module _ {found : Option Row} (f : found ≡ row_at s.tokens.now s.at.token) where
    kind_left : option_map (λ (row : Row). row.kind) found ≡ first_kind (left s)
    unfolding kind_at
    kind_left = rw f next_here

    pub some_left : {row : Row} → found ≡ Some row → 0 < length (left s)
    some_left e = looks.some_there (left s) (rw (← kind_left, e) refl)

    pub none_left : found ≡ None → length (left s) ≤ 0
    none_left e = looks.none_there (left s) (rw (← kind_left, e) refl)

  -- the place past blanks
  pub ahead_here : drop (past_ws s.tokens.now s.at.token) (lex s.rule.now) ≡ skip_ws (left s)
  ahead_here = past_here (lex s.rule.now) r.here.rows s.at.token

  pub ahead_within : past_ws s.tokens.now s.at.token ≤ length (lex s.rule.now)
  ahead_within = past_within (lex s.rule.now) r.here.rows s.at.token r.here.within

  pub peek_here : reader.current_kind s.tokens.now (past_ws s.tokens.now s.at.token + 1) ≡ first_kind (skip_ws (tail_of (skip_ws (left s))))
  peek_here =
      let i = past_ws s.tokens.now s.at.token in
      current_is (lex s.rule.now) r.here.rows (i + 1) ∙ ap (λ (us : List Token). first_kind (skip_ws us)) (tail_drop (lex s.rule.now) i ∙ ap tail_of ahead_here)

  -- the row of the first token that is no blank, as the code looks for it
  module _ {o : Option Row} (found : o ≡ token_ahead s) where
    text_there : {row : Row} → o ≡ Some row → Seen s.rule.now (past_ws s.tokens.now s.at.token) row
    text_there e = seen s.rule.now r.here.rows _ (sym e ∙ found)

    none_there : o ≡ None → skip_ws (left s) ≡ []
    none_there e = sym ahead_here ∙ unseen s.rule.now r.here.rows _ (sym e ∙ found)

    pub text_here : {row : Row} → o ≡ Some row → take (row.end - row.first) (drop row.first s.rule.now) ≡ current_text (left s)
    text_here e = let w = text_there e in w.text ∙ sym (rw (← ahead_here, w.here))

    pub text_end : o ≡ None → [] ≡ current_text (left s)
    text_end e = rw (none_there e)

    -- a word, by one look
    pub ident_here : {row : Row} (w : List ℕ) → o ≡ Some row → at_ident w (left s) ≡ (eqb row.kind IDENT && same (take (row.end - row.first) (drop row.first s.rule.now)) w)
    unfolding at_ident
    ident_here w e = let t = text_there e in rw (← ahead_here, t.here) (same_word w (sym t.kind) (sym t.text))

    pub ident_end : (w : List ℕ) → o ≡ None → at_ident w (left s) ≡ false
    unfolding at_ident
    ident_end w e = rw (none_there e)

    -- the bytes of a token are within the rule
    pub text_within : {row : Row} → o ≡ Some row → (row.first ≤ row.end) × (row.end ≤ length s.rule.now)
    text_within e = let w = text_there e in (omega (arith, w.end), w.within)

  pub tokens_few : length (lex s.rule.now) < 2 ^ 32
  tokens_few = omega (arith, lex_length s.rule.now, r.short)

  -- a place among the tokens is a number with room for one more
  pub place_small : (i : ℕ) → i ≤ length (lex s.rule.now) → i + 1 < 2 ^ 64
  place_small i h = omega (arith, lex_length s.rule.now, r.short)

  -- the row of an error at a place
  module _ (i form k : ℕ) where
    abbrev pub error_of : List ℕ
    error_of = error_rows (length s.rule.now) (record { form = form; expected = k; left = drop i (lex s.rule.now) } ∷ [])

    pub error_here : {row : Row} → Some row ≡ row_at s.tokens.now i → (form ∷ k ∷ row.first ∷ row.end ∷ []) ≡ error_of
    error_here e = sym (writing.error_here s.rule.now i form k (seen s.rule.now r.here.rows i e))

    pub error_end : None ≡ row_at s.tokens.now i → (form ∷ k ∷ length s.rule.now ∷ length s.rule.now ∷ []) ≡ error_of
    error_end e = sym (writing.error_end s.rule.now i form k (unseen s.rule.now r.here.rows i e))

-- ---- a token and an error

module _ {s : ExprParser} {row : Row} {found : Option Row} (a : Asks s next) (f : found ≡ row_at s.tokens.now s.at.token) (e : found ≡ Some row) where
  token_there : Seen s.rule.now s.at.token row
  token_there = seen s.rule.now a.ready.here.rows _ (sym e ∙ f)

  pub token_room : s.at.row + 4 ≤ length s.tree.now
  token_room = let w = token_there in let l : 0 < length (left s) = rw w.here (omega arith) in looks.next_room a.room.fits l

  pub token_small : s.at.token + 1 < 2 ^ 64
  token_small = place_small a.ready s.at.token a.ready.here.within

  pub did_token : {t : List ℕ} {c : Cursor} → t ≡ sets s.tree.now s.at.row (row.kind ∷ s.level ∷ s.at.byte ∷ row.end ∷ [])
      → c ≡ record { token = s.at.token + 1; byte = row.end; row = s.at.row + 4; error = s.at.error }
      → Rattle.trees.specs.Writing.Did (lex s.rule.now) s.tree.now t s.errors.now s.errors.now s.level s.at c next
  did_token w p = rw p (writing.did_next a.ready.here token_there w)

pub did_end : {s : ExprParser} {found : Option Row} → Ready s → found ≡ row_at s.tokens.now s.at.token → found ≡ None → Did s s next
did_end {s} r f e = record { keeps = keeps_same; level = refl; did = writing.did_next_end r.here (unseen s.rule.now r.here.rows _ (sym e ∙ f)) }

module _ {s : ExprParser} (form k : ℕ) where
  pub fail_room : Asks s (fails form k) → s.at.error + 4 ≤ length s.errors.now
  fail_room a = looks.fail_room form k a.room

  pub did_fail : {n : ExprParser} → Ready s → Reported s n form k (left s) → Did s n (fails form k)
  did_fail {n} r w =
      record { keeps = w.keeps; level = w.level; did = rw (w.at, w.tree) (writing.did_fail s.rule.now form k r.here s.tree.now s.level w.errors) }

module _ {s : ExprParser} (form : ℕ) where
  pub fail_ahead_room : Asks s (fails_ahead form) → s.at.error + 4 ≤ length s.errors.now
  fail_ahead_room a = looks.fail_ahead_room form a.room

  pub did_fail_ahead : {n : ExprParser} → Ready s → Reported s n form 0 (skip_ws (left s)) → Did s n (fails_ahead form)
  did_fail_ahead {n} r w =
      record { keeps = w.keeps; level = w.level; did = rw (w.at, w.tree) (writing.did_fail_ahead s.rule.now form r.here s.tree.now s.level w.errors) }

-- a number that names a kind is a comparison's where the kind is one; another is none
pub compared_named : (n : ℕ) (o : Result Kind UnknownKind) {r : Bool} → Names n o → MatchResult o (λ k. r ≡ is_comparison (number k)) (λ _. r ≡ false) → r ≡ is_comparison n
unfolding is_comparison
compared_named n (Ok k) a m = rw a at m
compared_named n (Err e) a m =
    let h = a.0 in
    m ∙ sym (rw (ne_eqb n GE (λ q. omega arith), ne_eqb n GT (λ q. omega arith), ne_eqb n LE (λ q. omega arith), ne_eqb n LT (λ q. omega arith), ne_eqb n EQ_EQ (λ q. omega arith), ne_eqb n NEQ (λ q. omega arith)))
