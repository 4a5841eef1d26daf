-- How long a member's line is. Assumes nothing.
use mathlib.Core.Bool.{Bool, true, ◌&&◌}
use mathlib.Core.List.{List, [], ◌∷◌}
use Prim.Native.Nat.{ℕ, zero, suc, zero-le, ◌+◌, ◌≤◌}
use native.Mathlib.Omega.{arith}
use borrow.Author.Tests.{leb-true}
use lib.Dec.{T, eqb, leb}
use lib.ListN.{length, get_or, length-append, length-take, length-drop}
use Rattle.syntax.proofs.BoolLaws.{whether, and_left, and_right, T→true}
use Rattle.texts.proofs.LengthLaws.{number_length, shown_length}
use Rattle.board.specs.Image.{category, feature_name, feature_kind, direction, severity, message, text, text_offset, string_length}
use Rattle.matching.specs.Words.{category_words, feature_kind_words, direction_words, severity_words}
use Rattle.calls.specs.declared.value.Value.{Value}
use Rattle.members.specs.Words.{first_word, category_text, feature_kind_text, direction_text, direction_part, severity_text}
use Rattle.members.specs.Member.{component_text, port_text, feature_text, diagnostic_text, member_text}

-- a field's words are short, and so is that of any number
abbrev LONGEST_WORD : ℕ
LONGEST_WORD = 23

abbrev are_short : List (List (List ℕ)) → Bool
are_short [] = true
are_short (words ∷ others) = leb (length (first_word words)) LONGEST_WORD && are_short others

word_length_lem : (words : List (List (List ℕ))) → T (are_short words) → (n : ℕ) → length (first_word (get_or words n [])) ≤ LONGEST_WORD
word_length_lem [] t n = omega arith
word_length_lem (w ∷ words) t zero = leb-true _ _ (T→true _ (and_left (leb (length (first_word w)) LONGEST_WORD) (are_short words) t))
word_length_lem (w ∷ words) t (suc n) = word_length_lem words (and_right (leb (length (first_word w)) LONGEST_WORD) (are_short words) t) n

category_length : (n : ℕ) → length (category_text n) ≤ LONGEST_WORD
unfolding category_text
category_length = word_length_lem category_words tt

kind_length : (n : ℕ) → length (feature_kind_text n) ≤ LONGEST_WORD
unfolding feature_kind_text
kind_length = word_length_lem feature_kind_words tt

direction_length : (n : ℕ) → length (direction_part n) ≤ 2 + LONGEST_WORD
unfolding direction_part direction_text
direction_length n = whether (eqb n 0) (λ t. rw t zero-le) (λ t. rw t (simp length-append (omega (arith, word_length_lem direction_words tt n))))

severity_length : (n : ℕ) → length (severity_text n) ≤ LONGEST_WORD
unfolding severity_text
severity_length = word_length_lem severity_words tt

-- a text of the image, and as it is shown
text_length : (image : List ℕ) (n : ℕ) → length (text image n) ≤ length image
unfolding text
text_length image n =
    whether (leb (text_offset image n + string_length image n) (length image)) (λ t. rw t (simp (length-take, length-drop) (omega arith))) (λ t. rw t zero-le)

component_length : (image : List ℕ) (c : ℕ) → length (component_text image c) ≤ 100
unfolding component_text
component_length image c = simp length-append (omega (arith, number_length c, category_length (category image c)))

port_length : (image : List ℕ) (f : ℕ) → length (port_text image f) ≤ 50
unfolding port_text
port_length image f = simp length-append (omega (arith, kind_length (feature_kind image f), direction_length (direction image f)))

feature_length : (image : List ℕ) (c f : ℕ) → length (feature_text image c f) ≤ length image + 100
unfolding feature_text
feature_length image c f =
    let name = text image (feature_name image f) in
    simp length-append (omega (arith, number_length c, shown_length name, text_length image (feature_name image f), port_length image f))

diagnostic_length : (image : List ℕ) (d : ℕ) → length (diagnostic_text image d) ≤ length image + 100
unfolding diagnostic_text
diagnostic_length image d =
    let told = text image (message image d) in
    simp length-append (omega (arith, severity_length (severity image d), shown_length told, text_length image (message image d)))

-- a member's line is at most as much longer than its image
pub member_length : (image : List ℕ) (value : Value) (first second : ℕ) → length (member_text image value first second) ≤ length image + 100
member_length image (Value.Components n) first second = omega (arith, component_length image first)
member_length image (Value.Features n) first second = feature_length image first second
member_length image (Value.Diagnostics n) first second = diagnostic_length image first
member_length image (Value.Bool holds) first second = zero-le
member_length image (Value.BoolWithWarning holds) first second = zero-le
member_length image (Value.Count n) first second = zero-le
