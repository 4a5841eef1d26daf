-- `mark_feature` gives `featured`, by the mark that it reads and the features of the component. Assumes nothing.
use Rattle.marks.proofs.MarkLaws.{featured_outside, featured_marked, featured_set, featured_unset}
use Rattle.marks.proofs.mark_feature.Goals as goal
use Rattle.marks.proofs.mark_feature.Goals.{else-place-marks-via-then-place-marks+then-marks-place-eq0+else-has_feature, else-place-marks-via-then-place-marks+else-marks-place-eq0, else-place-marks-via-else-place-marks}

pub returns-then-has_feature-clause-marks : goal.returns-then-has_feature-clause-marks
returns-then-has_feature-clause-marks c = featured_set _ _ _ _ c.if-marks-place-eq0.true c.has_feature.ensures.has c.if-has_feature.true

pub returns-else-place-marks : goal.returns-else-place-marks
returns-else-place-marks c = elim c.else-place-marks.branch [
  | else-place-marks-via-then-place-marks+then-marks-place-eq0+else-has_feature w ↦ record { marks = featured_unset _ _ _ _ w.if-marks-place-eq0.true w.has_feature.ensures.has w.if-has_feature.false; names = (cc, cc) }
  | else-place-marks-via-then-place-marks+else-marks-place-eq0 w ↦ record { marks = featured_marked _ _ _ _ w.if-marks-place-eq0.false; names = (cc, cc) }
  | else-place-marks-via-else-place-marks w ↦ record { marks = featured_outside _ _ _ _ w.if-place-marks.false; names = (cc, cc) }
]
