-- What some rules print. Assumes nothing.
use mathlib.Core.Path.{◌≡◌, refl}
use mathlib.Core.Bool.{true}
use Rattle.syntax.specs.Text.{ascii}
use Rattle.syntax.specs.Form.{EXPECT, LEFT_OVER}
use Rattle.syntax.specs.Kind.{R_PAREN}
use Rattle.syntax.specs.declared.refusal.Refusal.TheVariants.{ParseErrors}
use Rattle.texts.specs.Text.{number_text}
use Rattle.texts.specs.Place.{place_text}
use Rattle.message.specs.Message.{kind_name, message_with, message_of}
use Rattle.calls.specs.declared.value.Value.{Value}
use Rattle.std.specs.Prelude.{Ok, Err}
use Rattle.calls.specs.Answer.{Outcome}
use Rattle.report.specs.Answer.{head_text}
use Rattle.report.specs.Error.{error_text}

pub three : head_text (Ok (Value.Count 3)) ≡ ascii "open\ncount: 3\n"
unfolding number_text
three = refl

pub one_bus : head_text (Ok (Value.Components 1)) ≡ ascii "open\n1 component\n"
unfolding number_text
one_bus = refl

pub of_none : head_text (Ok (Value.BoolWithWarning true)) ≡ ascii "pass\ntrue, of an empty collection: no member was there to be looked at\n"
of_none = refl

pub not_read : head_text (Err ParseErrors) ≡ ascii "refused\nrefusal 9: the rule has parse errors\n"
unfolding number_text
not_read = refl

-- at the end of text, behind which a line feed and blanks stand
pub not_closed : error_text (ascii "components.all(connected \n") EXPECT R_PAREN 26 26
    ≡ ascii "expected 'R_PAREN', found EOF\n  components.all(connected \n                          ^\n"
unfolding error_text place_text message_of message_with kind_name
not_closed = refl

-- in the second line, and a tab before it
pub left_over : error_text (ascii "components\n\t.count() xyz") LEFT_OVER 0 21 24 ≡ ascii "unexpected 'xyz'\n  \t.count() xyz\n  \t         ^^^\n"
unfolding error_text place_text message_of message_with kind_name
left_over = refl
