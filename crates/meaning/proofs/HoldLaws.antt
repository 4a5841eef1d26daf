-- The truth of a predicate's green tree is what the grammar says of its parts. Assumes nothing.
use mathlib.Core.Path.{◌≡◌, refl, sym, ap, ◌∙◌}
use mathlib.Core.Bool.{Bool, true, false, not, ◌&&◌, ◌||◌, and_assoc, or_assoc, or-true, true≢false}
use mathlib.Core.List.{List, ◌++◌}
use Prim.Native.Nat.{ℕ, suc, ◌-◌}
use native.Mathlib.Omega.{arith}
use lib.ListN.{length, take, length-append}
use lib.Seq.{take-append_seam}
use Rattle.syntax.specs.Kind.{IDENT, AND_KW, OR_KW, BINARY_EXPR, UNARY_EXPR, COMPARE_EXPR, CALL_EXPR, PAREN_EXPR, IDENT_EXPR, CONTAINS_EXPR}
use Rattle.syntax.specs.Text.{ascii}
use Rattle.syntax.proofs.BoolLaws.{neither}
use Rattle.trees.specs.Green.{Forest, nil, leaf, node, ◌⊹◌}
use Rattle.grammar.specs.Grammar.{quoted, field_word, opening, closing, or_word, and_word, not_word, Part, OrGroup, AndGroup, Atom, Predicate, last_group, or_then, last_atom, and_then, negated, bracketed, has_text, is_connected, message_has, field_is, Field, category, kind, direction, severity, message}
use Rattle.grammar.specs.Trees.{among, binary, operands, predicate_tree}
use Rattle.predicate.specs.declared.atom.Member.{Member}
use Rattle.predicate.specs.Truth.{content, first_text, literal_of, has, message_contains, compares, joined_by, joined, sort_of, settle, truths, truth}
use Rattle.meaning.specs.Holds.{holds}

-- the content of a string is what stands between its quotes
pub content_quoted : (w : List ℕ) → content (quoted w).text ≡ w
unfolding content
content_quoted w =
    let e : suc (length (w ++ ascii "'")) - 2 ≡ length w = omega (arith, length-append w (ascii "'")) in
    ap (λ (n : ℕ). take n (w ++ ascii "'")) e ∙ take-append_seam w (ascii "'")

module _ (image : List ℕ) (m : Member) where
  -- a forest is one node, of this truth
  pub record One (f : Forest) (v : Bool) : Type 0 where
    pub kind : ℕ
    pub inner : Forest
    pub shape : f ≡ node kind inner nil
    pub value : settle image m (sort_of kind) inner (truths image m inner) ≡ v

  -- it is an operand that is joined to what stands before it
  joined_one : (or before : Bool) {f : Forest} (g : Forest) {v : Bool} → One f v
      → joined or before (f ⊹ g) (truths image m (f ⊹ g)) ≡ joined or (joined_by or before v) g (truths image m g)
  unfolding joined truths ◌⊹◌
  joined_one or before g o = rw (o.shape, o.value)

  joined_lone : (or before : Bool) {f : Forest} {v : Bool} → One f v → joined or before f (truths image m f) ≡ joined_by or before v
  unfolding joined truths
  joined_lone or before o = rw (o.shape, o.value)

  -- it has this truth, also with a token after it
  one_truth : {f : Forest} {v : Bool} → One f v → truth image m f ≡ v
  unfolding truth truths
  one_truth o = rw (o.shape, o.value)

  one_truth_before : {f : Forest} (g : Forest) {v : Bool} → One f v → truth image m (f ⊹ g) ≡ v
  unfolding truth truths ◌⊹◌
  one_truth_before g o = rw (o.shape, o.value)

  -- what a part of a predicate means by its operands
  -- of an and group: they are joined by `and`, and without an `and` they are one
  record Group (g : Predicate AndGroup) : Type 0 where
    joins : (before : Bool) → joined false before (operands g) (truths image m (operands g)) ≡ before && holds image m g
    lone : among AND_KW g ≡ false → One (operands g) (holds image m g)

  -- of an or group: they are joined by `or`, the first to nothing, and without an `or` they are one
  record Groups (p : Predicate OrGroup) : Type 0 where
    first : joined false true (operands p) (truths image m (operands p)) ≡ holds image m p
    joins : (before : Bool) → joined true before (operands p) (truths image m (operands p)) ≡ before || holds image m p
    lone : among OR_KW p ≡ false → One (operands p) (holds image m p)

  abbrev Means : (part : Part) → Predicate part → Type 0
  Means OrGroup p = Groups p
  Means AndGroup g = Group g
  Means Atom a = One (operands a) (holds image m a)

  -- a group in its node
  group_one : (b : Bool) (g : Predicate AndGroup) → (b ≡ false → among AND_KW g ≡ false) → Group g → One (binary b (operands g)) (holds image m g)
  unfolding binary settle sort_of
  group_one true g n h = record { kind = BINARY_EXPR; inner = operands g; shape = refl; value = h.joins true }
  group_one false g n h = h.lone (n refl)

  groups_one : (b : Bool) (p : Predicate OrGroup) → (b ≡ false → among OR_KW p ≡ false) → Groups p → One (binary b (operands p)) (holds image m p)
  unfolding binary settle sort_of
  groups_one true p n h = record { kind = BINARY_EXPR; inner = operands p; shape = refl; value = h.first }
  groups_one false p n h = h.lone (n refl)

  -- each way to make a part, over the parts that it is made of
  last_groups : (g : Predicate AndGroup) → Group g → Groups (last_group g)
  unfolding operands holds
  last_groups g h =
      let o = group_one (among AND_KW g) g (λ e. e) h in
      record { first = joined_lone false true o; joins = λ before. joined_lone true before o; lone = λ e. o }

  or_groups : (g : Predicate AndGroup) (p : Predicate OrGroup) → Group g → Groups p → Groups (or_then g p)
  unfolding operands holds among joined truths
  or_groups g p h q =
      let o = group_one (among AND_KW g || among AND_KW p) g (λ e. (neither (among AND_KW g) (among AND_KW p) e).0) h in
      record {
        first = joined_one false true (leaf or_word (operands p)) o ∙ q.joins (holds image m g);
        joins =
            λ before.
            joined_one true before (leaf or_word (operands p)) o
            ∙ q.joins (before || holds image m g)
            ∙ or_assoc before (holds image m g) (holds image m p);
        lone = λ e. absurd (true≢false (sym (or-true (among OR_KW g)) ∙ e));
      }

  and_group : (a : Predicate Atom) (g : Predicate AndGroup) → One (operands a) (holds image m a) → Group g → Group (and_then a g)
  unfolding operands holds among joined truths
  and_group a g o q =
      record {
        joins =
            λ before.
            joined_one false before (leaf and_word (operands g)) o
            ∙ q.joins (before && holds image m a)
            ∙ and_assoc before (holds image m a) (holds image m g);
        lone = λ e. absurd (true≢false e);
      }

  negated_one : (a : Predicate Atom) → One (operands a) (holds image m a) → One (operands (negated a)) (holds image m (negated a))
  unfolding operands holds settle sort_of truths truth
  negated_one a o = record { kind = UNARY_EXPR; inner = leaf not_word (operands a); shape = refl; value = ap not (one_truth o) }

  bracketed_one : (p : Predicate OrGroup) → Groups p → One (operands (bracketed p)) (holds image m (bracketed p))
  unfolding operands holds settle sort_of truths truth
  bracketed_one p h =
      let f = binary (among OR_KW p) (operands p) in
      record {
        kind = PAREN_EXPR;
        inner = leaf opening (f ⊹ leaf closing nil);
        shape = refl;
        value = one_truth_before (leaf closing nil) (groups_one (among OR_KW p) p (λ e. e) h);
      }

  has_one : (w : List ℕ) → One (operands (has_text w)) (holds image m (has_text w))
  unfolding operands holds settle sort_of literal_of first_text
  has_one w = record { kind = CALL_EXPR; inner = _; shape = refl; value = ap (has image m) (content_quoted w) }

  message_one : (w : List ℕ) → One (operands (message_has w)) (holds image m (message_has w))
  unfolding operands holds settle sort_of literal_of first_text
  message_one w = record { kind = CONTAINS_EXPR; inner = _; shape = refl; value = ap (message_contains image m) (content_quoted w) }

  connected_one : One (operands is_connected) (holds image m is_connected)
  unfolding operands holds settle sort_of
  connected_one = record { kind = IDENT_EXPR; inner = _; shape = refl; value = refl }

  field_one : (f : Field) (w : List ℕ) → One (operands (field_is f w)) (holds image m (field_is f w))
  unfolding operands holds settle sort_of literal_of first_text
  field_one f w =
      record {
        kind = COMPARE_EXPR;
        inner = _;
        shape = refl;
        value = ap (λ (t : List ℕ). compares image m t (content (quoted w).text)) (go f) ∙ ap (compares image m (field_word f).text) (content_quoted w);
      }
    where
      go : (f : Field) → first_text IDENT (leaf (field_word f) nil) ≡ (field_word f).text
      go category = refl
      go kind = refl
      go direction = refl
      go severity = refl
      go message = refl

  means : {part : Part} (p : Predicate part) → Means part p
  unfolding operands holds among
  means (last_group g) = last_groups g (means g)
  means (or_then g p) = or_groups g p (means g) (means p)
  means (last_atom a) = record { joins = λ before. joined_lone false before (means a); lone = λ e. means a }
  means (and_then a g) = and_group a g (means a) (means g)
  means (negated a) = negated_one a (means a)
  means (bracketed p) = bracketed_one p (means p)
  means (has_text w) = has_one w
  means is_connected = connected_one
  means (message_has w) = message_one w
  means (field_is f w) = field_one f w

  predicate_one : (p : Predicate OrGroup) → One (predicate_tree p) (holds image m p)
  unfolding predicate_tree
  predicate_one p = groups_one (among OR_KW p) p (λ e. e) (means p)

  -- the truth of a predicate's tree, and where a token follows it
  pub predicate_holds : (p : Predicate OrGroup) → truth image m (predicate_tree p) ≡ holds image m p
  predicate_holds p = one_truth (predicate_one p)

  pub predicate_holds_before : (p : Predicate OrGroup) (g : Forest) → truth image m (predicate_tree p ⊹ g) ≡ holds image m p
  predicate_holds_before p g = one_truth_before g (predicate_one p)
