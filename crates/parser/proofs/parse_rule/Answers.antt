-- `parse_rule` meets its contract: test by test, and what the root's rows are in the tables. Assumes nothing.
use mathlib.Core.Path.{refl, sym, ◌∙◌}
use native.Mathlib.Omega.{arith}
use borrow.Author.Tests.{lt-ltb, le-ltb}
use Prim.Native.Nat.{◌*◌}
use lib.ListN.{take}
use Rattle.lexer.specs.Lex.{lex}
use Rattle.trees.specs.Parse.{parse_root}
use Rattle.trees.specs.Read.{check_tables}
use Rattle.trees.specs.Writing.{Asks}
use Rattle.trees.proofs.BoundLaws.{asks_root}
use Rattle.trees.proofs.ReadLaws.{Lexes, start, room, lexes, lex_refuses_not, rooted, rows_read_lem}
use Rattle.parser.proofs.parse_rule.Goals.{In_ok-n}
use Rattle.parser.proofs.parse_rule.Goals as goal

pub returns-then-rule-gt-MAX_RULE : goal.returns-then-rule-gt-MAX_RULE
unfolding check_tables
returns-then-rule-gt-MAX_RULE c = rw (lt-ltb _ _ c.if-rule-gt-MAX_RULE.true) record { answer = refl; tokens = refl; tree = refl; errors = refl }

pub returns-then-tables_short : goal.returns-then-tables_short
unfolding check_tables
returns-then-tables_short c = rw (le-ltb _ _ c.if-rule-gt-MAX_RULE.false, sym c.tables_short.ensures ∙ c.if-tables_short.true) record { answer = refl; tokens = refl; tree = refl; errors = refl }

-- what `lex` wrote, and that the tables have room for what the root makes of it
lexed : (c : In_ok-n) → Lexes c.args.rule.now c.args.tokens.now c.lex.new.tokens c.in_ok-n.n
lexed c = lexes c.if-rule-gt-MAX_RULE.false (room _ _ _ _ (sym c.tables_short.ensures ∙ c.if-tables_short.false)).tokens c.lex.ensures (c.in_ok-n.was {u = tt})

asked : (c : In_ok-n) → Asks (lex c.args.rule.now) (take (3 * c.in_ok-n.n) c.lex.new.tokens) c.args.tree.now c.args.errors.now 0 start parse_root
asked c =
    let r = room _ _ _ _ (sym c.tables_short.ensures ∙ c.if-tables_short.false) in
    asks_root c.args.rule.now (lexed c).rows r.tree r.errors c.if-rule-gt-MAX_RULE.false

pub returns-in_err-n : goal.returns-in_err-n
returns-in_err-n c = absurd (lex_refuses_not c.if-rule-gt-MAX_RULE.false (room _ _ _ _ (sym c.tables_short.ensures ∙ c.if-tables_short.false)).tokens c.lex.ensures (c.in_err-n.was {u = tt}))

pub overflow_mul-n : goal.overflow_mul-n
overflow_mul-n c = omega (arith, (lexed (goal.at.overflow_mul-n c).In_ok-n).few)

pub slice_bounds-parse_tokens-end : goal.slice_bounds-parse_tokens-end
slice_bounds-parse_tokens-end c = (lexed (goal.at.slice_bounds-parse_tokens-end c).In_ok-n).within

pub slice_bounds-parse_tokens-end-2 : goal.slice_bounds-parse_tokens-end-2
slice_bounds-parse_tokens-end-2 c = (lexed (goal.at.slice_bounds-parse_tokens-end-2 c).In_ok-n).part

pub parse_tokens-end-requires : goal.parse_tokens-end-requires
parse_tokens-end-requires c = record { asks = asked (goal.at.parse_tokens-end-requires c).In_ok-n; short = omega arith }

pub returns : goal.returns
unfolding check_tables
returns c =
    let l = lexed (goal.at.returns c).In_ok-n in
    let q = rooted c.args.rule.now c.parse_tokens-end.ensures (asked (goal.at.returns c).In_ok-n) in
    rw (le-ltb _ _ c.if-rule-gt-MAX_RULE.false, sym c.tables_short.ensures ∙ c.if-tables_short.false) record { answer = rows_read_lem l.count q.rows q.found; tokens = l.table; tree = q.tree; errors = q.errors }
