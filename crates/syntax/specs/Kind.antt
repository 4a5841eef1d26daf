-- syntax.rs: the kinds of tokens and nodes, in its order, counted from 0. Assumes nothing: these are definitions.
use Rattle.std.specs.Prelude.{ℕ}

-- tokens
abbrev pub WHITESPACE : ℕ
WHITESPACE = 0

abbrev pub IDENT : ℕ
IDENT = 1

abbrev pub STRING_LIT : ℕ
STRING_LIT = 2

abbrev pub DOT : ℕ
DOT = 3

abbrev pub L_PAREN : ℕ
L_PAREN = 4

abbrev pub R_PAREN : ℕ
R_PAREN = 5

abbrev pub EQ_EQ : ℕ
EQ_EQ = 6

abbrev pub NEQ : ℕ
NEQ = 7

abbrev pub GE : ℕ
GE = 8

abbrev pub GT : ℕ
GT = 9

abbrev pub LE : ℕ
LE = 10

abbrev pub LT : ℕ
LT = 11

abbrev pub INT_LIT : ℕ
INT_LIT = 12

abbrev pub COMMA : ℕ
COMMA = 13

-- keywords
abbrev pub AND_KW : ℕ
AND_KW = 14

abbrev pub OR_KW : ℕ
OR_KW = 15

abbrev pub NOT_KW : ℕ
NOT_KW = 16

-- a character that begins no token
abbrev pub ERROR : ℕ
ERROR = 17

-- nodes
abbrev pub ROOT : ℕ
ROOT = 18

abbrev pub PIPELINE_EXPR : ℕ
PIPELINE_EXPR = 19

abbrev pub DOT_CALL : ℕ
DOT_CALL = 20

abbrev pub CALL_ARGS : ℕ
CALL_ARGS = 21

abbrev pub BINARY_EXPR : ℕ
BINARY_EXPR = 22

abbrev pub UNARY_EXPR : ℕ
UNARY_EXPR = 23

abbrev pub COMPARE_EXPR : ℕ
COMPARE_EXPR = 24

abbrev pub CALL_EXPR : ℕ
CALL_EXPR = 25

abbrev pub PAREN_EXPR : ℕ
PAREN_EXPR = 26

abbrev pub LITERAL : ℕ
LITERAL = 27

abbrev pub IDENT_EXPR : ℕ
IDENT_EXPR = 28

abbrev pub CONTAINS_EXPR : ℕ
CONTAINS_EXPR = 29

abbrev pub COUNT_COMPARE_EXPR : ℕ
COUNT_COMPARE_EXPR = 30

-- `__LAST`: no token and no node has it. It stands for the kind of a token that is not there
abbrev pub NONE : ℕ
NONE = 31
