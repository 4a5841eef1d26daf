-- The numbers of forms, and which form a number names. Assumes nothing: these are definitions.
use Rattle.std.specs.Prelude.{ℕ, ◌≡◌, Result, Ok, Err}
use Rattle.syntax.specs.Form.{EXPECT, EXPECT_IDENT, LEFT_OVER, SOURCE, METHOD, ATOM}
use Rattle.syntax.specs.declared.form.Form.{Form}
use Rattle.syntax.specs.declared.form.Form.TheVariants.{Expect, ExpectIdent, LeftOver, Source, Method, Atom}
use Rattle.syntax.specs.declared.form.UnknownForm.{UnknownForm}

-- the number of a form
abbrev pub number : Form → ℕ
number Expect = EXPECT
number ExpectIdent = EXPECT_IDENT
number LeftOver = LEFT_OVER
number Source = SOURCE
number Method = METHOD
number Atom = ATOM

-- what a number names: the form whose number it is, or none
abbrev pub Names : ℕ → Result Form UnknownForm → Type 0
Names n (Ok form) = number form ≡ n
Names n (Err e) = ((form : Form) → number form ≡ n → ⊥) × (e.0 ≡ n)
