-- The parts of a message, as the code writes them one after the other. No reader of `message_of` needs this file.
-- Assumes nothing: these are definitions.
use Rattle.std.specs.Prelude.{ℕ, cond, List, [], ◌++◌, eqb, get_or}
use Rattle.syntax.specs.Text.{ascii}
use Rattle.syntax.specs.Form.{EXPECT, EXPECT_IDENT, LEFT_OVER, SOURCE, METHOD, ATOM}
use Rattle.message.specs.declared.Pieces.{Pieces}
use Rattle.message.specs.Message.{kind_name, quoted, text_or_eof, found}

-- the text of three pieces
abbrev pub whole : Pieces → List ℕ
whole p = p.first.now ++ p.middle.now ++ p.last.now

-- the n-th of some texts, from 0; nothing where there are fewer
unfoldable pub nth : List (List ℕ) → ℕ → List ℕ
nth texts n = get_or texts n []

-- what stands before the token found, of each form
unfoldable pub head_of : (form expected : ℕ) → List ℕ
head_of form expected =
    cond (eqb form EXPECT) (ascii "expected '" ++ kind_name expected ++ ascii "', found ")
    (cond (eqb form EXPECT_IDENT) (ascii "expected 'contains', found ")
    (cond (eqb form LEFT_OVER) (ascii "unexpected ")
    (cond (eqb form SOURCE) (ascii "expected 'components' or 'analysis', found ")
    (cond (eqb form METHOD) (ascii "expected method name (where, all, any, none, count, features, diagnostics), found ")
    (cond (eqb form ATOM) (ascii "expected 'not', 'has', 'connected', 'category', 'kind', 'direction', 'severity', 'message', or '(', found ")
    [])))))

-- what stands for the token found
unfoldable pub found_of : (form : ℕ) (text : List ℕ) → List ℕ
found_of form text =
    cond (eqb form EXPECT) (found text)
    (cond (eqb form EXPECT_IDENT) (found text)
    (cond (eqb form LEFT_OVER) (quoted text)
    (cond (eqb form SOURCE) (quoted (text_or_eof text))
    (cond (eqb form METHOD) (quoted text)
    (cond (eqb form ATOM) (quoted (text_or_eof text))
    [])))))
