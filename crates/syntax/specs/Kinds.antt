-- The numbers of kinds, and which kind a number names. Assumes nothing: these are definitions.
use Rattle.std.specs.Prelude.{ℕ, ◌<◌, ◌≡◌, Result, Ok, Err}
use Rattle.syntax.specs.Kind.{WHITESPACE, IDENT, STRING_LIT, DOT, L_PAREN, R_PAREN, EQ_EQ, NEQ, GE, GT, LE, LT, INT_LIT, COMMA, AND_KW, OR_KW, NOT_KW, ERROR, ROOT, PIPELINE_EXPR, DOT_CALL, CALL_ARGS, BINARY_EXPR, UNARY_EXPR, COMPARE_EXPR, CALL_EXPR, PAREN_EXPR, LITERAL, IDENT_EXPR, CONTAINS_EXPR, COUNT_COMPARE_EXPR}
use Rattle.syntax.specs.declared.kind.Kind.{Kind}
use Rattle.syntax.specs.declared.kind.Kind.TheVariants.{Whitespace, Ident, StringLit, Dot, LParen, RParen, EqEq, Neq, Ge, Gt, Le, Lt, IntLit, Comma, AndKw, OrKw, NotKw, Error, Root, PipelineExpr, DotCall, CallArgs, BinaryExpr, UnaryExpr, CompareExpr, CallExpr, ParenExpr, Literal, IdentExpr, ContainsExpr, CountCompareExpr}
use Rattle.syntax.specs.declared.kind.UnknownKind.{UnknownKind}

-- the number of a kind
abbrev pub number : Kind → ℕ
number Whitespace = WHITESPACE
number Ident = IDENT
number StringLit = STRING_LIT
number Dot = DOT
number LParen = L_PAREN
number RParen = R_PAREN
number EqEq = EQ_EQ
number Neq = NEQ
number Ge = GE
number Gt = GT
number Le = LE
number Lt = LT
number IntLit = INT_LIT
number Comma = COMMA
number AndKw = AND_KW
number OrKw = OR_KW
number NotKw = NOT_KW
number Error = ERROR
number Root = ROOT
number PipelineExpr = PIPELINE_EXPR
number DotCall = DOT_CALL
number CallArgs = CALL_ARGS
number BinaryExpr = BINARY_EXPR
number UnaryExpr = UNARY_EXPR
number CompareExpr = COMPARE_EXPR
number CallExpr = CALL_EXPR
number ParenExpr = PAREN_EXPR
number Literal = LITERAL
number IdentExpr = IDENT_EXPR
number ContainsExpr = CONTAINS_EXPR
number CountCompareExpr = COUNT_COMPARE_EXPR

-- what a number names: the kind whose number it is, or none, where it is above the last kind's
abbrev pub Names : ℕ → Result Kind UnknownKind → Type 0
Names n (Ok kind) = number kind ≡ n
Names n (Err e) = (COUNT_COMPARE_EXPR < n) × (e.0 ≡ n)
