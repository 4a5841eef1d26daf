-- `write_by_word` appends piece after piece. Assumes nothing.
use Rattle.std.proofs.Common.{rules, ◌≡◌}
use Rattle.syntax.specs.Text.{ascii}
use Rattle.texts.proofs.AppendLaws.{wrote_then, wrote_none}
use Rattle.witness.proofs.WitnessLaws.{all_is, none_is, other_is}
use Rattle.witness.proofs.write_by_word.Goals as goal

pub returns-then-eq : goal.returns-then-eq
returns-then-eq c =
    let e : c.args.word.now ≡ ascii "all" = search rules in
    rw (all_is c.args.word.now c.args.before.now c.args.args.now e) (wrote_then (wrote_then (wrote_then c.append.ensures c.append-then-eq.ensures) c.append-then-eq-2.ensures) c.append-then-eq-3.ensures)

pub returns-then-eq-2 : goal.returns-then-eq-2
returns-then-eq-2 c =
    let e : c.args.word.now ≡ ascii "none" = search rules in
    rw (none_is c.args.word.now c.args.before.now c.args.args.now e) (wrote_then (wrote_then c.append-then-eq-2-2.ensures c.append-then-eq-2-3.ensures) c.append-then-eq-2-4.ensures)

pub returns-else-eq-2 : goal.returns-else-eq-2
returns-else-eq-2 c =
    let e : c.args.word.now ≡ ascii "all" → ⊥ = search rules in
    let f : c.args.word.now ≡ ascii "none" → ⊥ = search rules in
    rw (other_is c.args.word.now c.args.before.now c.args.args.now e f) wrote_none
