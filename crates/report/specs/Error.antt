-- A parse error in words: its message, and its place in the rule. Assumes nothing: these are definitions.
use Rattle.std.specs.Prelude.{ℕ, cond, List, ◌++◌, ltb, length}
use Rattle.syntax.specs.Text.{ascii}
use Rattle.texts.specs.Text.{shown, line}
use Rattle.texts.specs.Place.{place_text}
use Rattle.message.specs.Message.{message_of}

-- the room that the code has for a message
abbrev pub ROOM : ℕ
ROOM = 1024

-- the message on one line; a rule of 500 bytes has none that is too long (`message_told`, of proofs/ErrorLaws)
unfoldable pub message_text : (rule : List ℕ) (form expected first end : ℕ) → List ℕ
message_text rule form expected first end =
    let message = message_of rule form expected first end in
    cond (ltb ROOM (length message)) (ascii "a message too long to show") (shown message)

-- the lines of an error row
unfoldable pub error_text : (rule : List ℕ) (form expected first end : ℕ) → List ℕ
unfolding message_text
error_text rule form expected first end = line (message_text rule form expected first end) ++ place_text rule first end
