-- What lexer.rs asks of one byte. Assumes nothing: these are definitions.
use Rattle.std.specs.Prelude.{ℕ, Bool, false, cond, ◌&&◌, ◌||◌, eqb, leb}
use Rattle.syntax.specs.declared.kind.Kind.TheVariants.{Dot, LParen, RParen, EqEq, Neq, Ge, Gt, Le, Lt, Comma, Error}
use Rattle.syntax.specs.Text.{is, between}
use Rattle.lexer.specs.declared.Shape.{Shape}
use Rattle.lexer.specs.declared.Shape.TheVariants.{Blanks, Quoted, Symbol, Operator, Digits, Word, Character}

-- the blanks that begin a token: `b' ' | b'\t' | b'\n' | b'\r'`
unfoldable pub is_blank : ℕ → Bool
is_blank b = is " " b || is "\t" b || is "\n" b || is "\r" b

abbrev pub FORM_FEED : ℕ
FORM_FEED = 0x0C

-- `is_ascii_whitespace`: the blanks that go on a blank run, which a form feed does too
unfoldable pub is_ascii_whitespace : ℕ → Bool
unfolding is_blank
is_ascii_whitespace b = is_blank b || eqb b FORM_FEED

-- `is_ascii_digit`
unfoldable pub is_ascii_digit : ℕ → Bool
is_ascii_digit b = between "0" "9" b

-- `is_ident_start`
unfoldable pub is_ident_start : ℕ → Bool
is_ident_start b = between "a" "z" b || between "A" "Z" b || is "_" b

-- `is_ident_continue`
unfoldable pub is_ident_continue : ℕ → Bool
unfolding is_ident_start is_ascii_digit
is_ident_continue b = is_ident_start b || is_ascii_digit b

-- a trailing byte of a UTF-8 character
unfoldable pub is_trailing : ℕ → Bool
is_trailing b = leb 0x80 b && leb b 0xBF

-- the shape of the token that begins with this byte: the arms of `match bytes[pos]`, in their order.
-- A symbol has its kind; an operator has its kind alone, and its kind with a `=` behind it.
unfoldable pub shape_of : ℕ → Shape
unfolding is_blank is_ascii_digit is_ident_start
shape_of b =
    cond (is_blank b) Blanks
    (cond (is "'" b) Quoted
    (cond (is "." b) (Symbol Dot)
    (cond (is "(" b) (Symbol LParen)
    (cond (is ")" b) (Symbol RParen)
    (cond (is "," b) (Symbol Comma)
    (cond (is "=" b) (Operator Error EqEq)
    (cond (is "!" b) (Operator Error Neq)
    (cond (is ">" b) (Operator Gt Ge)
    (cond (is "<" b) (Operator Lt Le)
    (cond (is_ascii_digit b) Digits
    (cond (is_ident_start b) Word Character)))))))))))

-- whether a byte goes on a token of this shape, where such a token is a run of bytes
abbrev pub goes_on : Shape → ℕ → Bool
goes_on Blanks b = is_ascii_whitespace b
goes_on Digits b = is_ascii_digit b
goes_on Word b = is_ident_continue b
goes_on Character b = is_trailing b
goes_on Quoted b = false
goes_on (Symbol k) b = false
goes_on (Operator k m) b = false
