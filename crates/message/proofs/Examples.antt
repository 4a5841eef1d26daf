-- What the Rust writes for these rules, from the rows of their errors. Assumes nothing.
use mathlib.Core.Path.{◌≡◌, refl}
use Rattle.syntax.specs.Kind.{STRING_LIT, L_PAREN}
use Rattle.syntax.specs.Text.{ascii}
use Rattle.syntax.specs.Form.{EXPECT, EXPECT_IDENT, LEFT_OVER, SOURCE, METHOD, ATOM}
use Rattle.message.specs.Message.{kind_name, message_with, message_of}

pub no_argument : message_of (ascii "analysis") EXPECT STRING_LIT 8 8 ≡ ascii "expected 'STRING_LIT', found EOF"
unfolding message_of message_with kind_name
no_argument = refl

pub no_opening : message_of (ascii "analysis 'x'") EXPECT L_PAREN 9 12 ≡ ascii "expected 'L_PAREN', found ''x''"
unfolding message_of message_with kind_name
no_opening = refl

pub not_contains : message_of (ascii "components.where(message.has('a'))") EXPECT_IDENT 0 25 28 ≡ ascii "expected 'contains', found 'has'"
unfolding message_of message_with
not_contains = refl

pub after_message : message_of (ascii "components.where(message.") EXPECT_IDENT 0 25 25 ≡ ascii "expected 'contains', found EOF"
unfolding message_of message_with
after_message = refl

pub word_behind : message_of (ascii "components x") LEFT_OVER 0 11 12 ≡ ascii "unexpected 'x'"
unfolding message_of message_with
word_behind = refl

pub other_source : message_of (ascii "x") SOURCE 0 0 1 ≡ ascii "expected 'components' or 'analysis', found 'x'"
unfolding message_of message_with
other_source = refl

pub empty_rule : message_of (ascii "") SOURCE 0 0 0 ≡ ascii "expected 'components' or 'analysis', found 'EOF'"
unfolding message_of message_with
empty_rule = refl

pub number_method : message_of (ascii "components.5") METHOD 0 11 12 ≡ ascii "expected method name (where, all, any, none, count, features, diagnostics), found '5'"
unfolding message_of message_with
number_method = refl

pub no_method_lem : message_of (ascii "components.") METHOD 0 11 11 ≡ ascii "expected method name (where, all, any, none, count, features, diagnostics), found ''"
unfolding message_of message_with
no_method_lem = refl

pub empty_predicate : message_of (ascii "components.where(()") ATOM 0 18 19 ≡ ascii "expected 'not', 'has', 'connected', 'category', 'kind', 'direction', 'severity', 'message', or '(', found ')'"
unfolding message_of message_with
empty_predicate = refl

pub no_predicate : message_of (ascii "components.where(") ATOM 0 17 17 ≡ ascii "expected 'not', 'has', 'connected', 'category', 'kind', 'direction', 'severity', 'message', or '(', found 'EOF'"
unfolding message_of message_with
no_predicate = refl
