-- eval.rs `eval_source`, `eval_pipeline`: the source and the calls of a pipeline's green tree. Of a tree without parse errors only: there a
-- source is one of two, and a method one of seven. Assumes nothing: these are definitions.
use Rattle.std.specs.Prelude.{ℕ, Bool, true, false, cond, List, [], ◌∷◌, map, eqb}
use Rattle.syntax.specs.Kind.{IDENT, DOT_CALL, CALL_ARGS, IDENT_EXPR}
use Rattle.syntax.specs.Text.{ascii, same}
use Rattle.syntax.specs.declared.refusal.Refusal.TheVariants.{ParseErrors}
use Rattle.trees.specs.Green.{Forest, nil, leaf, node}
use Rattle.board.specs.Image.{text, component_count, diagnostic_count, analysis}
use Rattle.predicate.specs.declared.atom.Member.{Member}
use Rattle.predicate.specs.declared.atom.Member.TheVariants.{Component, Diagnostic}
use Rattle.predicate.specs.Truth.{first_text, literal_of}
use Rattle.meaning.specs.Value.{components, diagnostics, Outcome, collection, refused}
use Rattle.meaning.specs.declared.Method.{Method}
use Rattle.meaning.specs.declared.Method.TheVariants.{Where, All, Any, None, Count, Features, Diagnostics}
use Rattle.meaning.specs.Calls.{Call, kept, up_from, calls_give}

-- `components`: every component of the board
unfoldable pub all_components : List ℕ → Outcome
unfolding up_from
all_components image = collection components (map Component (up_from 0 (component_count image)))

-- `analysis('name')`: the diagnostics whose analysis has this name
unfoldable pub is_of_analysis : List ℕ → List ℕ → Member → Bool
is_of_analysis image name (Component c) = false
is_of_analysis image name (Member.Feature c f) = false
is_of_analysis image name (Diagnostic d) = same (text image (analysis image d)) name

unfoldable pub diagnostics_of : List ℕ → List ℕ → Outcome
unfolding is_of_analysis kept up_from
diagnostics_of image name =
    collection diagnostics (kept (is_of_analysis image name) (map Diagnostic (up_from 0 (diagnostic_count image))))

-- `eval_source`: the first node of a pipeline; without one there were parse errors
unfoldable pub source_of : List ℕ → Forest → Outcome
unfolding all_components diagnostics_of literal_of
source_of image nil = refused ParseErrors
source_of image (leaf t f) = source_of image f
source_of image (node k s f) = cond (eqb k IDENT_EXPR) (all_components image) (diagnostics_of image (literal_of s))

-- `get_method_name`, by the word
unfoldable pub method_of : List ℕ → Method
method_of word =
    cond (same word (ascii "where")) Where
    (cond (same word (ascii "all")) All
    (cond (same word (ascii "any")) Any
    (cond (same word (ascii "none")) None
    (cond (same word (ascii "count")) Count
    (cond (same word (ascii "features")) Features Diagnostics)))))

-- `find_predicate_in_args`: what a DOT_CALL has in its CALL_ARGS
unfoldable pub args_of : Forest → Forest
args_of nil = nil
args_of (leaf t f) = args_of f
args_of (node k s f) = elim (eqb k CALL_ARGS) [ true ↦ s | false ↦ args_of f ]

abbrev pub call_of : Forest → Call
call_of f = record { method = method_of (first_text IDENT f); args = args_of f }

-- the DOT_CALLs of a pipeline, in order
unfoldable pub calls_of : Forest → List Call
unfolding method_of args_of first_text
calls_of nil = []
calls_of (leaf t f) = calls_of f
calls_of (node k s f) = elim (eqb k DOT_CALL) [ true ↦ call_of s ∷ calls_of f | false ↦ calls_of f ]

-- `eval_pipeline`, of a PIPELINE_EXPR's children
unfoldable pub eval_pipeline : List ℕ → Forest → Outcome
unfolding calls_give calls_of source_of
eval_pipeline image f = calls_give image (calls_of f) (source_of image f)
