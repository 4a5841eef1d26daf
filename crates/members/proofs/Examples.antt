-- The members of Board A, and of an image whose numbers are none of a field's. Assumes nothing.
use mathlib.Core.Path.{◌≡◌, refl}
use Rattle.syntax.specs.Text.{ascii}
use Rattle.texts.specs.Text.{number_text, shown}
use Rattle.board.specs.Boards.{board_a}
use Rattle.board.specs.Image.{field, pair_offset, word, little_endian, text}
use Rattle.calls.specs.declared.value.Value.{Value}
use Rattle.members.specs.Words.{category_text, feature_kind_text, direction_part}
use Rattle.members.specs.Member.{component_text, port_text, feature_text, member_text}

pub the_device : member_text board_a (Value.Components 2) 1 0 ≡ ascii "  component 1: device\n"
unfolding board_a component_text category_text number_text field pair_offset word little_endian
the_device = refl

pub the_probe : member_text board_a (Value.Features 1) 1 0 ≡ ascii "  component 1: feature probe, data_port, in\n"
unfolding board_a feature_text port_text feature_kind_text direction_part number_text shown text field pair_offset word little_endian
the_probe = refl

pub no_category : category_text 14 ≡ ascii "?"
unfolding category_text
no_category = refl

pub no_direction : direction_part 0 ≡ ascii ""
unfolding direction_part
no_direction = refl
