-- The starred cases of document 01 and the corners, computed. Assumes nothing.
use mathlib.Core.Path.{◌≡◌, refl}
use mathlib.Core.List.{map}
use Rattle.board.specs.Image.{little_endian, word, pair_offset, pair_length, record_count, field, text}
use Rattle.board.specs.Check.{laid, each, all_whole_records, sections_laid, sections_fit, strings_laid, strings_utf8, strings_fit, features_laid, components_fit, features_fit, connections_fit, properties_fit, diagnostics_fit, records_fit, collection_short}
use Rattle.board.specs.Boards.{board_a, board_b}
use Rattle.matching.specs.Search.{property_set_of, property_name_of}
use Rattle.matching.specs.Words.{category_matches, feature_kind_matches}
use Rattle.instance.specs.Instance.{component_connected, feature_connected, has_property, features_end, has_feature}
use Rattle.predicate.specs.Truth.{truth}
use Rattle.meaning.specs.Cases.{comes_to, starred, corners, ran}

-- each case comes to what document 01 says
cases_hold : (map ran starred ≡ map comes_to starred) × (map ran corners ≡ map comes_to corners)
unfolding starred corners ran truth board_a board_b little_endian word pair_offset pair_length record_count field text laid each all_whole_records sections_laid sections_fit strings_laid strings_utf8 strings_fit features_laid components_fit features_fit connections_fit properties_fit diagnostics_fit records_fit collection_short property_set_of property_name_of category_matches feature_kind_matches component_connected feature_connected has_property features_end has_feature
cases_hold = (refl, refl)

-- THE STARRED CASES
pub starred_hold : map ran starred ≡ map comes_to starred
starred_hold = cases_hold.0

pub corners_hold : map ran corners ≡ map comes_to corners
corners_hold = cases_hold.1
