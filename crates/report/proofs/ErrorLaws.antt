-- A message written apart, and then shown. Assumes nothing.
use mathlib.Core.Path.{◌≡◌}
use mathlib.Core.List.{List}
use Prim.Native.Nat.{ℕ, ◌≤◌, ◌<◌}
use native.Mathlib.Omega.{arith}
use borrow.Author.Tests.{le-ltb, lt-ltb, ltb-true, ltb-false}
use lib.Dec.{ltb}
use lib.ListN.{length, take, drop, length-append}
use lib.Seq.{take-append_seam}
use Rattle.syntax.specs.Text.{ascii}
use Rattle.syntax.proofs.BoolLaws.{whether}
use Rattle.lexer.specs.Read.{MAX_RULE}
use Rattle.texts.specs.declared.Writer.{Writer}
use Rattle.texts.specs.Append.{Wrote}
use Rattle.texts.specs.Text.{shown}
use Rattle.std.specs.declared.option.Option.{Option}
use Rattle.std.specs.declared.option.Option.TheVariants.{None, Some}
use Rattle.message.specs.Message.{message_of}
use Rattle.message.specs.Write.{Writes}
use Rattle.message.proofs.MessageLaws.{message_length}
use Rattle.report.specs.Error.{ROOM, message_text}

-- what is written stands at the front, and had room
pub record Fits (m before after : List ℕ) (n : ℕ) : Type 0 where
  pub all : n ≡ length m
  pub room : length m ≤ length before
  pub front : take n after ≡ m
  pub within : n ≤ length after

module _ {m before after : List ℕ} {r : Option ℕ} (w : Writes m before after r) where
  pub fits : {n : ℕ} → r ≡ Some n → Fits m before after n
  fits {n} e =
      whether (ltb (length before) (length m))
      (λ t. let no : r ≡ None = rw t at w.answer in let z : ◌≡◌ {A = ℕ} 0 1 = cc in absurd (omega arith))
      (λ t.
      let yes : r ≡ Some (length m) = rw t at w.answer in
      let all : n ≡ length m = cc in
      let held = rw t at w.out in
      record {
        all = all;
        room = ltb-false _ _ t;
        front = rw (held, all) (take-append_seam m (drop (length m) before));
        within = rw held (simp length-append (omega arith));
      })

  pub lacks : r ≡ None → length before < length m
  lacks e =
      whether (ltb (length before) (length m)) (λ t. ltb-true _ _ t)
      (λ t. let yes : r ≡ Some (length m) = rw t at w.answer in let z : ◌≡◌ {A = ℕ} 0 1 = cc in absurd (omega arith))

-- a message shown from where it was written, and one that had no room
module _ (rule : List ℕ) (form expected first end : ℕ) {before held : List ℕ} {out after : Writer} {r : Option ℕ} (room : length before ≡ ROOM)
    (w : Writes (message_of rule form expected first end) before held r) where
  pub message_shown : {n : ℕ} → r ≡ Some n → Wrote (shown (take n held)) out after → Wrote (message_text rule form expected first end) out after
  unfolding message_text
  message_shown e p =
      let f = fits w e in
      let short : length (message_of rule form expected first end) ≤ ROOM = omega (arith, f.room) in
      rw (le-ltb ROOM _ short) (rw f.front at p)

  pub message_long : r ≡ None → Wrote (ascii "a message too long to show") out after → Wrote (message_text rule form expected first end) out after
  unfolding message_text
  message_long e p =
      let long : ROOM < length (message_of rule form expected first end) = omega (arith, lacks w e) in
      rw (lt-ltb ROOM _ long) p

-- a rule that is not too long has each message told
pub message_told : (rule : List ℕ) (form expected first end : ℕ) → length rule ≤ MAX_RULE → message_text rule form expected first end ≡ shown (message_of rule form expected first end)
unfolding message_text
message_told rule form expected first end h =
    let short : length (message_of rule form expected first end) ≤ ROOM = omega (arith, message_length rule form expected first end) in
    rw (le-ltb ROOM _ short)
