-- Laws of the messages: their parts, form by form, and their lengths. Assumes nothing.
use mathlib.Core.Path.{◌≡◌, refl, sym, ◌∙◌, subst}
use mathlib.Core.Bool.{Bool, true, false, cond, ◌&&◌}
use mathlib.Core.List.{List, [], ◌∷◌, ◌++◌}
use Prim.Native.Nat.{ℕ, zero-le, ◌+◌, ◌≤◌, ◌<◌}
use native.Mathlib.Omega.{arith}
use borrow.Author.Tests.{eqb-true, eqb-false, ne_eqb, leb-true}
use lib.Dec.{T, eqb, leb}
use lib.ListN.{length, length-append}
use Rattle.syntax.specs.Kind.{COUNT_COMPARE_EXPR}
use Rattle.syntax.specs.Forms.{number}
use Rattle.syntax.specs.declared.form.Form.{Form}
use Rattle.syntax.specs.declared.form.Form.TheVariants.{Expect, ExpectIdent, LeftOver, Source, Method, Atom}
use Rattle.syntax.specs.Text.{ascii, bytes_between}
use Rattle.syntax.proofs.BoolLaws.{whether, and_left, and_right, T→true}
use Rattle.syntax.proofs.TextLaws.{part_length}
use Rattle.syntax.specs.Form.{EXPECT, EXPECT_IDENT, LEFT_OVER, SOURCE, METHOD, ATOM}
use Rattle.message.specs.Message.{Name, names, name_in, kind_name, quoted, text_or_eof, found, message_with, message_of}
use Rattle.message.specs.Parts.{head_of, found_of}

-- every name of a list passes a test
abbrev all : (Name → Bool) → List Name → Bool
all p [] = true
all p (n ∷ ns) = p n && all p ns

-- what holds of no name, and of each name that passes and has this kind, holds of what is found
name_in_case : (p : Name → Bool) (P : List ℕ → Type 0) (k : ℕ) → P [] → ((n : Name) → p n ≡ true → k ≡ n.kind → P n.text)
    → (ns : List Name) → T (all p ns) → P (name_in ns k)
unfolding name_in
name_in_case p P k none some [] t = none
name_in_case p P k none some (n ∷ ns) t =
    let passes = T→true (p n) (and_left (p n) (all p ns) t) in
    let others = name_in_case p P k none some ns (and_right (p n) (all p ns) t) in
    whether (eqb k n.kind) (λ e. rw (e, name_in) (some n passes (eqb-true _ _ e))) (λ e. rw (e, name_in) others)

-- the most bytes of a kind's name
abbrev pub LONGEST_NAME : ℕ
LONGEST_NAME = 18

pub name_short : (k : ℕ) → length (kind_name k) ≤ LONGEST_NAME
unfolding kind_name names
name_short k =
    name_in_case (λ n. leb (length n.text) LONGEST_NAME) (λ text. length text ≤ LONGEST_NAME) k zero-le
    (λ n passes e. leb-true _ _ passes) names tt

-- a number above the last kind has no name
pub name_above : (k : ℕ) → COUNT_COMPARE_EXPR < k → kind_name k ≡ []
unfolding kind_name names
name_above k h =
    name_in_case (λ n. leb n.kind COUNT_COMPARE_EXPR) (λ text. text ≡ []) k refl
    (λ n passes e. absurd (omega (arith, leb-true n.kind COUNT_COMPARE_EXPR passes))) names tt

-- the token at the end of text, and one found
pub text_none : (text : List ℕ) → length text ≡ 0 → text_or_eof text ≡ ascii "EOF"
text_none [] z = refl
text_none (b ∷ s) z = absurd (omega arith)

pub text_some : (text : List ℕ) → (length text ≡ 0 → ⊥) → text_or_eof text ≡ text
text_some [] some = absurd (some refl)
text_some (b ∷ s) some = refl

pub found_none : (text : List ℕ) → length text ≡ 0 → found text ≡ ascii "EOF"
found_none [] z = refl
found_none (b ∷ s) z = absurd (omega arith)

pub found_some : (text : List ℕ) → (length text ≡ 0 → ⊥) → found text ≡ quoted text
found_some [] some = absurd (some refl)
found_some (b ∷ s) some = refl

-- a number that is no form
abbrev pub NoForm : ℕ → Type 0
NoForm n = (form : Form) → number form ≡ n → ⊥

no_form : {n : ℕ} → (n ≡ EXPECT → ⊥) → (n ≡ EXPECT_IDENT → ⊥) → (n ≡ LEFT_OVER → ⊥) → (n ≡ SOURCE → ⊥) → (n ≡ METHOD → ⊥) → (n ≡ ATOM → ⊥) → NoForm n
no_form n₁ n₂ n₃ n₄ n₅ n₆ Expect e = n₁ (sym e)
no_form n₁ n₂ n₃ n₄ n₅ n₆ ExpectIdent e = n₂ (sym e)
no_form n₁ n₂ n₃ n₄ n₅ n₆ LeftOver e = n₃ (sym e)
no_form n₁ n₂ n₃ n₄ n₅ n₆ Source e = n₄ (sym e)
no_form n₁ n₂ n₃ n₄ n₅ n₆ Method e = n₅ (sym e)
no_form n₁ n₂ n₃ n₄ n₅ n₆ Atom e = n₆ (sym e)

-- by cases on the form
by_form : (P : ℕ → Type 0) → P EXPECT → P EXPECT_IDENT → P LEFT_OVER → P SOURCE → P METHOD → P ATOM → ((n : ℕ) → NoForm n → P n) → (n : ℕ) → P n
by_form P p₁ p₂ p₃ p₄ p₅ p₆ none n =
    is EXPECT p₁ (λ n₁. is EXPECT_IDENT p₂ (λ n₂. is LEFT_OVER p₃ (λ n₃.
    is SOURCE p₄ (λ n₄. is METHOD p₅ (λ n₅. is ATOM p₆ (λ n₆. none n (no_form n₁ n₂ n₃ n₄ n₅ n₆)))))))
  where
    is : (k : ℕ) → P k → ((n ≡ k → ⊥) → P n) → P n
    is k y other = whether (eqb n k) (λ e. subst P (sym (eqb-true n k e)) y) (λ e. other (eqb-false n k e))

-- it has none of six texts
none_of : {n : ℕ} (p₁ p₂ p₃ p₄ p₅ p₆ : List ℕ) → NoForm n
    → cond (eqb n EXPECT) p₁ (cond (eqb n EXPECT_IDENT) p₂ (cond (eqb n LEFT_OVER) p₃ (cond (eqb n SOURCE) p₄ (cond (eqb n METHOD) p₅ (cond (eqb n ATOM) p₆ []))))) ≡ []
none_of {n} p₁ p₂ p₃ p₄ p₅ p₆ none =
    rw (other Expect, other ExpectIdent, other LeftOver, other Source, other Method, other Atom)
  where
    other : (form : Form) → eqb n (number form) ≡ false
    other form = ne_eqb _ _ (λ e. none form (sym e))

no_head : (f e : ℕ) → NoForm f → head_of f e ≡ []
unfolding head_of
no_head f e n = none_of _ _ _ _ _ _ n

no_found : (f : ℕ) (text : List ℕ) → NoForm f → found_of f text ≡ []
unfolding found_of
no_found f text n = none_of _ _ _ _ _ _ n

no_message : (f e : ℕ) (text : List ℕ) → NoForm f → message_with f e text ≡ []
unfolding message_with
no_message f e text n = none_of _ _ _ _ _ _ n

-- a message: the head, and what stands for the token found
message_parts : (e : ℕ) (text : List ℕ) (f : ℕ) → message_with f e text ≡ head_of f e ++ found_of f text
unfolding message_with head_of found_of
message_parts e text =
    by_form (λ f. message_with f e text ≡ head_of f e ++ found_of f text) refl refl refl refl refl refl
    (λ f n. no_message f e text n ∙ sym (rw (no_head f e n, no_found f text n)))

pub message_is : (rule : List ℕ) (form expected first end : ℕ) → message_of rule form expected first end ≡ head_of form expected ++ found_of form (bytes_between rule first end)
unfolding message_of
message_is rule form expected first end = message_parts expected (bytes_between rule first end) form

pub no_message_of : (rule : List ℕ) (form expected first end : ℕ) → NoForm form → message_of rule form expected first end ≡ []
unfolding message_of
no_message_of rule form expected first end n = no_message form expected (bytes_between rule first end) n

-- a head is short, and so is what stands for the token, but for its text
abbrev pub LONGEST_HEAD : ℕ
LONGEST_HEAD = 123

pub head_short : (e f : ℕ) → length (head_of f e) ≤ LONGEST_HEAD
unfolding head_of
head_short e =
    by_form (λ f. length (head_of f e) ≤ LONGEST_HEAD)
    (simp length-append (omega (arith, name_short e))) (omega arith) (omega arith) (omega arith) (omega arith) (omega arith)
    (λ f n. rw (no_head f e n) (omega arith))

pub found_short : (text : List ℕ) (f : ℕ) → length (found_of f text) ≤ length text + 5
unfolding found_of
found_short [] =
    by_form (λ f. length (found_of f []) ≤ 5) (omega arith) (omega arith) (omega arith) (omega arith) (omega arith) (omega arith)
    (λ f n. rw (no_found f [] n) (omega arith))
found_short (b ∷ s) =
    let quotes : length (quoted (b ∷ s)) ≤ length (b ∷ s) + 5 = simp length-append (omega arith) in
    by_form (λ f. length (found_of f (b ∷ s)) ≤ length (b ∷ s) + 5) quotes quotes quotes quotes quotes quotes (λ f n. rw (no_found f (b ∷ s) n) (omega arith))

-- a message of a rule of n bytes has at most n + 200 bytes
pub message_length : (rule : List ℕ) (form expected first end : ℕ) → length (message_of rule form expected first end) ≤ length rule + 200
unfolding message_of
message_length rule form expected first end =
    let text = bytes_between rule first end in
    rw (message_parts expected text form, length-append (head_of form expected) (found_of form text))
    (omega (arith, head_short expected form, found_short text form, part_length rule first end))
