-- `is_told` goes by the kind of the row, by the field that it compares, and looks for a `has` among the marked rows. Assumes nothing.
use Rattle.std.proofs.Common.{rules}
use Rattle.eval.proofs.MarkedLaws.{row_compared, row_marked}
use Rattle.eval.proofs.marked.Sorts.is_told.Goals as goal

pub returns-in-Ok-CompareExpr : goal.returns-in-Ok-CompareExpr
returns-in-Ok-CompareExpr c = row_compared (search rules) c.ident.ensures c.asks_field.ensures

pub returns-in-Ok-CallExpr : goal.returns-in-Ok-CallExpr
returns-in-Ok-CallExpr c = row_marked (search rules) (c.if-has_row.ensures {u = tt})
