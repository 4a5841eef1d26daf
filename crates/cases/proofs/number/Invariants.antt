-- `number` reads on: what is left gives the same number and the same rest. Assumes nothing.
use Rattle.std.proofs.Common.{◌≡◌, ◌≤◌, length}
use Rattle.cases.specs.File.{number, past_number}
use Rattle.cases.proofs.number.Given as goal

abbrev pub invariant-loop-byte : goal.invariant-loop-byte
invariant-loop-byte l = record {
  value : number l.value l.rest ≡ number 0 l.fn.input;
  rest : past_number l.value l.rest ≡ past_number 0 l.fn.input;
  small : l.value ≤ 9999999;
  shorter : length l.rest ≤ length l.fn.input;
}

abbrev pub decreases-loop-byte : goal.decreases-loop-byte
decreases-loop-byte l = length l.rest
