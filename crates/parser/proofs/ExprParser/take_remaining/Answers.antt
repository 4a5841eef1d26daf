-- `take_remaining` writes all tokens left, and going on from each place ends as the whole does. Assumes nothing.
use mathlib.Core.Path.{◌≡◌, refl}
use native.Mathlib.Omega.{arith}
use lib.ListN.{length-drop}
use Rattle.std.specs.Prelude.{Option, Some}
use Rattle.std.proofs.Common.{rules}
use Rattle.reader.specs.declared.Row.{Row}
use Rattle.reader.specs.Reader.{row_at}
use Rattle.trees.specs.declared.Cursor.{Cursor}
use Rattle.trees.specs.Parse.{next, remaining, ◌▹◌}
use Rattle.trees.proofs.LookLaws.{remaining_next, remaining_end}
use Rattle.parser.specs.declared.ExprParser.{ExprParser}
use Rattle.parser.specs.Parser.{Asks}
use Rattle.parser.proofs.ParserLaws.{Ongoing, with_place, some_left, none_left, token_room, token_small, did_token, ongoing_as, ongoing_asks, ongoing_next, ongoing_end}
use Rattle.parser.proofs.ExprParser.take_remaining.Goals as goal

-- where a token is left, it is written next
module _ {s : ExprParser} (d : ExprParser) (at : Cursor) (h : d.tokens ≡ s.tokens) (g : Ongoing s (with_place d at) remaining remaining) where
  module _ {found : Option Row} {row : Row} (f : found ≡ row_at s.tokens.now at.token) (e : found ≡ Some row) where
    going : Ongoing s (with_place d at) remaining (next ▹ remaining)
    going = ongoing_as (remaining_next _ (some_left g.asks.ready (rw h f) e)) g

    asks : Asks (with_place d at) next
    asks = ongoing_asks _ going

pub put_leaf-requires-clause-room : goal.put_leaf-requires-clause-room
put_leaf-requires-clause-room c =
    let f = rw (c.new.ensures.0, c.new.ensures.1) at c.row.ensures in
    let i = c.loop-token.invariant in
    token_room (asks c.loop-token.self c.loop-token.at i.0 i.1 f c.in-Some.is) (rw i.0 f) c.in-Some.is

pub put_leaf-requires-clause-small : goal.put_leaf-requires-clause-small
put_leaf-requires-clause-small c =
    let f = rw (c.new.ensures.0, c.new.ensures.1) at c.row.ensures in
    let i = c.loop-token.invariant in
    omega (arith, token_small (asks c.loop-token.self c.loop-token.at i.0 i.1 f c.in-Some.is) (rw i.0 f) c.in-Some.is)

pub loop-token-smaller : goal.loop-token-smaller
loop-token-smaller c =
    let f = rw (c.new.ensures.0, c.new.ensures.1) at c.row.ensures in
    let i = c.loop-token.invariant in
    let l = simp length-drop at (some_left i.1.asks.ready (rw i.0 f) c.in-Some.is) in
    rw c.put_leaf.ensures.past (simp length-drop (omega (arith, l)))

pub loop-token-preserved : goal.loop-token-preserved
loop-token-preserved c =
    let f = rw (c.new.ensures.0, c.new.ensures.1) at c.row.ensures in
    let i = c.loop-token.invariant in
    let a = asks c.loop-token.self c.loop-token.at i.0 i.1 f c.in-Some.is in (
      i.0,
      ongoing_next _ (going c.loop-token.self c.loop-token.at i.0 i.1 f c.in-Some.is)
          (record {
            keeps = search rules;
            level = refl;
            did = did_token a (rw i.0 f) c.in-Some.is c.put_leaf.ensures.leaf c.put_leaf.ensures.past;
          }),
    )

pub returns : goal.returns
returns c =
    let f = rw (c.new.ensures.0, c.new.ensures.1) at c.row.ensures in
    let i = c.loop-token.invariant in
    ongoing_end (ongoing_as (remaining_end _ (none_left i.1.asks.ready (rw i.0 f) c.in_default.is)) i.1)
