-- `put_error` writes an error at a token, or at the end of text. Assumes nothing.
use mathlib.Core.Path.{◌≡◌, refl, sym, ◌∙◌}
use Rattle.syntax.specs.Forms as forms
use Rattle.parser.specs.Parser.{expected_number}
use Rattle.std.proofs.Common.{rules}
use Rattle.parser.proofs.ParserLaws.{error_of, error_here, error_end}
use Rattle.parser.proofs.ExprParser.put_error.Goals.{in-Some, in-None}
use Rattle.parser.proofs.ExprParser.put_error.Goals as goal

pub returns : goal.returns
returns c i look =
    let form = forms.number c.args.form in
    let k = expected_number c.args.expected in
    let e : c.match-token.row ≡ error_of c.requires.ready i form k =
    elim c.match-token.branch [
      | in-Some w ↦ w.row-is ∙ rw (c.from-form.ensures, c.expected_number-expected.ensures) (error_here c.requires.ready i form k (sym w.in-Some.is ∙ look))
      | in-None w ↦ w.row-is ∙ rw (c.from-form.ensures, c.expected_number-expected.ensures) (error_end c.requires.ready i form k (sym w.in-None.is ∙ look))
    ] in
    record {
      keeps = search rules;
      level = refl;
      tree = refl;
      at = refl;
      errors = rw e at c.put_row.ensures;
    }
