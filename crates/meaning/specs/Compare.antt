-- eval.rs `eval_count_compare`: `pipeline <op> <integer>`. Assumes nothing: these are definitions.
use Rattle.std.specs.Prelude.{ℕ, ◌+◌, ◌-◌, ◌*◌, Bool, true, false, cond, not, List, [], ◌∷◌, eqb, leb, ltb, length}
use Prim.Native.Char.{code}
use Rattle.syntax.specs.Kind.{GE, GT, LE, LT, EQ_EQ, INT_LIT, NONE}
use Rattle.syntax.specs.declared.refusal.Refusal.TheVariants.{ComparisonNotCountable, IntegerTooLarge}
use Rattle.trees.specs.Green.{Forest, nil, leaf, node}
use Rattle.trees.specs.Look.{is_comparison}
use Rattle.predicate.specs.Truth.{first_text}
use Rattle.meaning.specs.Value.{Outcome, collection, boolean, refused}

-- "18446744073709551615 is accepted, one more is refusal 16"
abbrev pub MAX_INTEGER : ℕ
MAX_INTEGER = 18446744073709551615

-- the number that decimal digits write, after those that wrote n; "Leading zeros are fine"
abbrev pub BASE : ℕ
BASE = 10

unfoldable pub decimal_from : ℕ → List ℕ → ℕ
decimal_from n [] = n
decimal_from n (digit ∷ digits) = decimal_from (BASE * n + (digit - code "0")) digits

unfoldable pub decimal : List ℕ → ℕ
unfolding decimal_from
decimal digits = decimal_from 0 digits

-- `>= > <= < == !=`, by the operator's kind
unfoldable pub operator_holds : ℕ → ℕ → ℕ → Bool
operator_holds operator left right =
    cond (eqb operator GE) (leb right left)
    (cond (eqb operator GT) (ltb right left)
    (cond (eqb operator LE) (leb left right)
    (cond (eqb operator LT) (ltb left right)
    (cond (eqb operator EQ_EQ) (eqb left right) (not (eqb left right))))))

-- a number of members or a count against the integer
unfoldable pub against : ℕ → ℕ → ℕ → Outcome
unfolding operator_holds
against operator left right = cond (ltb MAX_INTEGER right) (refused IntegerTooLarge) (boolean (operator_holds operator left right) false)

-- "A comparison takes a count or a collection, else 15"; the left side is judged before the integer
unfoldable pub compared : ℕ → ℕ → Outcome → Outcome
unfolding against
compared operator right (collection sort members) = against operator (length members) right
compared operator right (boolean value warned) = refused ComparisonNotCountable
compared operator right (Outcome.count n) = against operator n right
compared operator right (refused r) = refused r

-- the kind of the operator among a node's own tokens
unfoldable pub operator_of : Forest → ℕ
unfolding is_comparison
operator_of nil = NONE
operator_of (leaf t f) = elim (is_comparison t.kind) [ true ↦ t.kind | false ↦ operator_of f ]
operator_of (node k s f) = operator_of f

-- and the integer
unfoldable pub integer_of : Forest → ℕ
unfolding decimal first_text
integer_of f = decimal (first_text INT_LIT f)
