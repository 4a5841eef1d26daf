-- All members of a source, sent into cleared rows. Assumes nothing.
use mathlib.Core.Path.{◌≡◌, refl, sym, ap, ◌∙◌, subst}
use mathlib.Core.List.{List, map}
use mathlib.Core.Option.{Option, none, some}
use Prim.Native.Nat.{ℕ, ◌≤◌}
use native.Mathlib.Nat.{zero-add}
use native.Mathlib.Omega.{arith}
use lib.ListN.{length}
use lib.Seq.{sets}
use borrow.Author.Tests.{eq-eqb, ne_eqb}
use Rattle.syntax.specs.Kind.{IDENT_EXPR}
use Rattle.trees.specs.Green.{Forest}
use Rattle.board.specs.Image.{component_count, diagnostic_count}
use Rattle.board.specs.WellFormed.{WellFormed, Room}
use Rattle.predicate.specs.declared.atom.Member.{Member}
use Rattle.predicate.specs.declared.atom.Member.TheVariants.{Component, Diagnostic}
use Rattle.predicate.specs.Truth.{literal_of}
use Rattle.meaning.specs.Value.{rows_of, whole_rows, with_members}
use Rattle.meaning.specs.declared.Method.{Method}
use Rattle.meaning.specs.Calls.{Call, kept, up_from, how_many}
use Rattle.meaning.specs.Pipeline.{is_of_analysis}
use Rattle.meaning.specs.Walk.{arrivals, last_call, test_in}
use Rattle.meaning.proofs.WalkLaws.{components_rows, diagnostics_rows, rows_length, whole_within}
use Rattle.eval.specs.declared.ready.Call.{Call as PlacedCall}
use Rattle.eval.specs.Ready.{calls_in, calls_from, source_members}
use Rattle.eval.specs.Feed.{begin, listed, arrive, fed, Decides, Fits, walked}
use Rattle.eval.proofs.ReadyLaws.{calls_all}
use Rattle.eval.proofs.TableLaws.{cleared, members_written, cleared_length}

-- what arrives has rows
pub record Rows (image : List ℕ) (calls : List Call) (members : List Member) (table : List ℕ) : Type 0 where
  pub fit : length (rows_of (arrivals image calls members)) ≤ whole_rows table

module _ {image : List ℕ} {calls : List Call} {members : List Member} {table : List ℕ} (r : Rows image calls members table) where
  pub rows_fits : {last : Method} {t : List ℕ} → Decides last calls → t ≡ cleared table → Fits last image calls members (begin t)
  rows_fits {t = t} d e =
      record {
        room = omega (arith, r.fit, rows_length (arrivals image calls members), whole_within table, cleared_length table, ap length e);
        fewer = omega arith;
        decides = d;
      }

  listed_fit : (last : Option Call) → length (rows_of (listed last (arrivals image calls members))) ≤ whole_rows table
  unfolding rows_of
  listed_fit none = r.fit
  listed_fit (some call) = omega arith

  pub rows_walked : {t : List ℕ} → t ≡ cleared table → fed image calls members (begin t) ≡ walked image calls members table
  unfolding fed arrive walked
  rows_walked {t} e =
      λ i. record {
        arrived = zero-add (length (arrivals image calls members)) i;
        passed = zero-add (how_many (test_in image (last_call calls)) (arrivals image calls members)) i;
        table = rows i;
      }
    where
      rows : sets t 0 (rows_of (listed (last_call calls) (arrivals image calls members))) ≡ with_members (listed (last_call calls) (arrivals image calls members)) table
      rows =
          ap (λ (t : List ℕ). sets t 0 (rows_of (listed (last_call calls) (arrivals image calls members)))) e
          ∙ members_written (listed (last_call calls) (arrivals image calls members)) table (listed_fit (last_call calls))

-- all calls are those from the first on
pub decides_all : {last : Method} (rule tree : List ℕ) (rows : List PlacedCall) → Decides last (calls_in rule tree rows) → Decides last (calls_from rule tree rows 0)
decides_all {last} rule tree rows d = subst (Decides last) (sym (calls_all rule tree rows)) d

-- the two sources
module _ (rule image tree : List ℕ) (rows : List PlacedCall) (table : List ℕ) (kind : ℕ) (f : Forest) where
  abbrev calls : List Call
  calls = calls_from rule tree rows 0

  pub components_fit_lem : WellFormed image → Room image (length table) → Rows image calls (map Component (up_from 0 (component_count image))) table
  components_fit_lem w r = record { fit = components_rows image calls table w r }

  pub diagnostics_fit_lem : (name : List ℕ) → Room image (length table) → Rows image calls (kept (is_of_analysis image name) (map Diagnostic (up_from 0 (diagnostic_count image)))) table
  diagnostics_fit_lem name r = record { fit = diagnostics_rows image calls (is_of_analysis image name) table r }

  walked_calls : (members : List Member) → walked image calls members table ≡ walked image (calls_in rule tree rows) members table
  walked_calls members = ap (λ (calls : List Call). walked image calls members table) (calls_all rule tree rows)

  pub components_walked : kind ≡ IDENT_EXPR → walked image calls (map Component (up_from 0 (component_count image))) table ≡ walked image (calls_in rule tree rows) (source_members image kind f) table
  unfolding source_members
  components_walked e = walked_calls _ ∙ rw (eq-eqb kind IDENT_EXPR e) refl

  pub diagnostics_walked : (name : List ℕ) → (kind ≡ IDENT_EXPR → ⊥) → name ≡ literal_of f
      → walked image calls (kept (is_of_analysis image name) (map Diagnostic (up_from 0 (diagnostic_count image)))) table ≡ walked image (calls_in rule tree rows) (source_members image kind f) table
  unfolding source_members
  diagnostics_walked name h e = walked_calls _ ∙ rw (ne_eqb kind IDENT_EXPR h, e) refl
