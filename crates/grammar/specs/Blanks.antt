-- What the parser gives, without blanks: what BlankLaws speaks of. No contract cites it. Assumes nothing: these are definitions.
use Rattle.std.specs.Prelude.{true, false, List, [], ◌∷◌}
use Rattle.trees.specs.Green.{Forest, nil, leaf, node}
use Rattle.trees.specs.Look.{is_blank}
use Rattle.trees.specs.Parse.{Error, Parsed}
use Rattle.grammar.specs.Grammar.{solid}

-- a forest without the tokens that are blanks
unfoldable pub no_blanks : Forest → Forest
no_blanks nil = nil
no_blanks (leaf t f) = elim (is_blank t) [ true ↦ no_blanks f | false ↦ leaf t (no_blanks f) ]
no_blanks (node k s f) = node k (no_blanks s) (no_blanks f)

-- errors without the blanks among the tokens left
unfoldable pub solid_errors : List Error → List Error
unfolding solid
solid_errors [] = []
solid_errors (e ∷ es) = record { form = e.form; expected = e.expected; left = solid e.left } ∷ solid_errors es

unfoldable pub strip : Parsed → Parsed
unfolding no_blanks solid_errors solid
strip p = record { made = no_blanks p.made; errors = solid_errors p.errors; rest = solid p.rest }
