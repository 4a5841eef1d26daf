-- A message written whole, and one that has no room. Assumes nothing.
use mathlib.Core.Path.{◌≡◌, refl, sym, ap, ◌∙◌}
use mathlib.Core.List.{List, ◌++◌}
use Prim.Native.Nat.{ℕ, zero-le, ◌+◌, ◌≤◌, ◌<◌}
use native.Mathlib.Omega.{arith}
use borrow.Author.Tests.{lt-ltb, le-ltb}
use lib.ListN.{length, length-append}
use Rattle.std.specs.declared.option.Option.TheVariants.{None, Some}
use Rattle.syntax.specs.Text.{bytes_between}
use Rattle.syntax.proofs.TextLaws.{part_length}
use Rattle.syntax.proofs.TableLaws.{sets_front}
use Rattle.texts.specs.declared.Writer.{Writer}
use Rattle.texts.specs.Append.{Written, Wrote, appended}
use Rattle.texts.proofs.AppendLaws.{wrote_then}
use Rattle.message.specs.Message.{message_of}
use Rattle.message.specs.Write.{Writes}
use Rattle.message.specs.Parts.{head_of, found_of}
use Rattle.message.proofs.MessageLaws.{NoForm, no_message_of, head_short, found_short, message_is}

whole_writes : {m : List ℕ} {before after : Writer} {n : ℕ} → Wrote m before after → before.at ≡ 0 → length m ≤ length before.out.now → n ≡ length m
    → Writes m before.out.now after.out.now (Some n)
unfolding appended
whole_writes {m} {before} w z h e =
    record {
      answer = rw (le-ltb _ _ h) (ap Some e);
      out = rw (le-ltb _ _ h) (rw z at (ap (λ (x : Written). x.bytes) w.appends) ∙ sets_front m before.out.now h);
    }

no_room_writes : {m before : List ℕ} → length before < length m → Writes m before before None
no_room_writes h = record { answer = rw (lt-ltb _ _ h); out = rw (lt-ltb _ _ h) }

-- the message of a number that is no form
pub no_form_writes : (rule : List ℕ) (form expected first end : ℕ) {before : List ℕ} → NoForm form → Writes (message_of rule form expected first end) before before (Some 0)
no_form_writes rule form expected first end {before} none =
    rw (no_message_of rule form expected first end none)
    (record { answer = rw (le-ltb (length before) 0 zero-le) refl; out = rw (le-ltb (length before) 0 zero-le) refl })

-- a message in two parts
module _ (rule : List ℕ) (form expected first end : ℕ) {g : ℕ} {head found text : List ℕ} (same : g ≡ form) (h : head ≡ head_of g expected) (t : text ≡ bytes_between rule first end) (f : found ≡ found_of g text) where
  both : head ++ found ≡ message_of rule form expected first end
  both = rw (h, f, t, same) (sym (message_is rule form expected first end))

  pub parts_short : length head + length found ≤ length rule + 200
  parts_short = omega (arith, ap length h, ap length f, ap length t, head_short expected g, found_short text g, part_length rule first end)

  module _ {m n : ℕ} (a : m ≡ length head) (b : n ≡ length found) where
    pub parts_lack : {before : List ℕ} → length before < m + n → Writes (message_of rule form expected first end) before before None
    parts_lack {before} few = rw (← both) (no_room_writes (rw (length-append head found) (omega arith)))

    pub parts_write : {before : List ℕ} {w x y : Writer} → w.out.now ≡ before → w.at ≡ 0 → m + n ≤ length before → Wrote head w x → Wrote found x y
        → Writes (message_of rule form expected first end) before y.out.now (Some (m + n))
    parts_write {before} {w} {x} {y} e z room p q =
        let all : m + n ≡ length (head ++ found) = rw (length-append head found) (omega arith) in
        let fits : length (head ++ found) ≤ length w.out.now = omega (arith, all, ap length e) in
        rw (← both, ← e) (whole_writes (wrote_then p q) z fits all)
