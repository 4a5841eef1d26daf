-- Texts made of texts: a call behind a pipeline, and `and`, `or` and `not` of predicates in brackets. Assumes nothing: these are
-- definitions.
use Rattle.std.specs.Prelude.{ℕ, List, ◌++◌}
use Prim.Native.String.{String}
use Rattle.syntax.specs.Text.{ascii}

-- the methods that take a predicate
pub data Method : Type 0 where
  where_method all_method any_method none_method : Method

abbrev pub method_name : Method → String
method_name where_method = "where"
method_name all_method = "all"
method_name any_method = "any"
method_name none_method = "none"

-- `.method(`, and a text after it
abbrev pub method_text : Method → List ℕ → List ℕ
method_text m z = ascii "." ++ (ascii (method_name m) ++ (ascii "(" ++ z))

-- `.method(P)`, and a text after it
abbrev pub call_text : Method → List ℕ → List ℕ → List ℕ
call_text m p z = method_text m (p ++ (ascii ")" ++ z))

-- `(P) and (Q)`, `(P) or (Q)`, `not (P)`
abbrev pub and_text : List ℕ → List ℕ → List ℕ
and_text p q = ascii "(" ++ (p ++ (ascii ") and (" ++ (q ++ ascii ")")))

abbrev pub or_text : List ℕ → List ℕ → List ℕ
or_text p q = ascii "(" ++ (p ++ (ascii ") or (" ++ (q ++ ascii ")")))

abbrev pub not_text : List ℕ → List ℕ
not_text p = ascii "not (" ++ (p ++ ascii ")")
