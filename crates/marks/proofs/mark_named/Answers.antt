-- `mark_named` gives `property_marks`: all marks are cleared, then properties are looked at one by one. Assumes nothing.
use mathlib.Core.Path.{ap, ◌∙◌}
use lib.ListN.{length}
use Rattle.std.proofs.Common.{rules}
use Rattle.marks.specs.Marks.{property_marks}
use Rattle.marks.proofs.MarkLaws.{marking_start, marking_on, marking_end, marked_named, marked_other}
use Rattle.marks.proofs.NameLaws.{named, other_set, other_name}
use Rattle.marks.proofs.mark_named.Goals as goal
use Rattle.marks.proofs.mark_named.Goals.{then-is+then-is-2, else-is, else-is-via-then-is+else-is-2, else-is-via-else-is}

pub loop-n-init : goal.loop-n-init
loop-n-init c =
    record {
      marking = marking_start _ _ _ (length c.args.marks.now) (c.fill.ensures.after (λ y h. search rules)) c.record_count-n-end.ensures;
      sets = (cc, cc);
      names = (cc, cc);
    }

pub loop-n-preserved : goal.loop-n-preserved
loop-n-preserved c =
    let at = c.loop-n.invariant in
    let looked = marking_on at.marking c.loop-n-test.true in
    elim c.if-is.branch [
      | then-is+then-is-2 w ↦ record { marking = looked (w.marks-is ∙ w.mark_owner.ensures ∙ marked_named _ _ _ _ _ (named _ _ _ _ (cc) (cc))); sets = (cc, cc); names = (cc, cc) }
      | else-is w ↦ elim w.else-is.branch [
        | else-is-via-then-is+else-is-2 v ↦ record { marking = looked (w.marks-is ∙ marked_other _ _ _ _ _ (other_name _ _ _ _ (cc) (cc))); sets = (cc, cc); names = (cc, cc) }
        | else-is-via-else-is v ↦ record { marking = looked (w.marks-is ∙ marked_other _ _ _ _ _ (other_set _ _ _ _ (cc))); sets = (cc, cc); names = (cc, cc) }
      ]
    ]

pub returns : goal.returns
returns c = marking_end c.loop-n.invariant.marking c.loop-n-test.false ∙ ap (property_marks _ _ _ 0) c.fill.ensures.len
