-- `parse_tokens` begins at the front, and follows `parse_root`. Assumes nothing.
use mathlib.Core.Path.{refl}
use Rattle.std.proofs.Common.{rules}
use Rattle.trees.proofs.WritingLaws.{did_meet}
use Rattle.parser.proofs.parse_tokens.Goals as goal

pub last_ops-ops-requires : goal.last_ops-ops-requires
last_ops-ops-requires c = c.requires.asks.fits.ready.rows

pub parse_root-requires : goal.parse_root-requires
parse_root-requires c = record { ready = record { here = c.requires.asks.fits.ready; short = c.requires.short; ops = c.last_ops-ops.ensures }; room = c.requires.asks }

pub returns : goal.returns
returns c = did_meet (search rules) (search rules) refl c.parse_root.ensures.did
