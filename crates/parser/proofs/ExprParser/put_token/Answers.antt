-- `put_token` writes the next token as a leaf, if there is one. Assumes nothing.
use mathlib.Core.Path.{refl}
use native.Mathlib.Omega.{arith}
use Rattle.std.proofs.Common.{rules}
use Rattle.parser.proofs.ParserLaws.{did_end, did_token, token_room, token_small}
use Rattle.parser.proofs.ExprParser.put_token.Goals as goal

pub put_leaf-requires-clause-room : goal.put_leaf-requires-clause-room
put_leaf-requires-clause-room c = token_room c.requires c.next_row.ensures c.in-Some.is

pub put_leaf-requires-clause-small : goal.put_leaf-requires-clause-small
put_leaf-requires-clause-small c = omega (arith, token_small c.requires c.next_row.ensures c.in-Some.is)

pub returns-in-Some : goal.returns-in-Some
returns-in-Some c =
    record {
      keeps = search rules;
      level = refl;
      did = did_token c.requires c.next_row.ensures c.in-Some.is c.put_leaf.ensures.leaf c.put_leaf.ensures.past;
    }

pub returns-in_default : goal.returns-in_default
returns-in_default c = did_end c.requires.ready c.next_row.ensures c.in_default.is
