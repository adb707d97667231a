-- To compute: `unfolding everything` opens each definition of these files. For examples; a proof names the few that it looks through.
use Rattle.dogwood_rules.specs.Basic.{cut_after, cut}
use Rattle.dogwood_rules.specs.Utf8.{size, bytes_of, encode, byte_length, low_second, high_second, second, third, read2, read3, read4, character, decode, marked, mark_of, text_of}
use Rattle.dogwood_rules.specs.Token.{kind_number, white, digit, letter, wordly, single, double, line_end, other, piece, closing, string_piece, token, tokenise, spell, placed, tokens, words_of}
use Rattle.dogwood_rules.specs.Stands.{symbol_stops, stops, stops_before}
use Rattle.dogwood_rules.specs.Tree.{is_whitespace, is_comment, blank, comment, comma, and_or, opener, closer, shown, joined, flat, tokens_of, trim_left, or_nothing, trim_right, trim_run, front, after_commas, before_and_ors, add_item, tidy, several, items_of, ahead, opened, open?, closed, run_of}
use Rattle.dogwood_rules.specs.Layout.{column, join_lines, empty, spaces, following, fit_or, fit_group, walk, layout}
use Rattle.dogwood_rules.specs.Outline.{add_span, spans, with_parts, statement, statements, up_to, from, within, beyond, parts_of, plain, gaps_ok, ascending, balanced, same_span, only_part, spans_of, each_ok, kind_ok, parts_ok, covered_ok, plain_ok, balance_ok, boundary, boundaries, bounds_ok, fits}
use Rattle.dogwood_rules.specs.File.{remarks, pieces, add_line, gap_after, part_lines, piece_text, join_pieces}
use Rattle.dogwood_rules.specs.Searches.{comment_in, or_else, first_comment, too_deep, deep_part, deep_opener}
use Rattle.dogwood_rules.specs.Source.{cut_up, decoded, source_of}
use Rattle.dogwood_rules.specs.Answer.{refused, checked, nested, filled, commented, fitted, answered, answer}
use Rattle.dogwood_rules.specs.Alone.{stopped, told, total, tokenised, verdict, tested}
use Rattle.dogwood_rules.specs.Readings.{nth, reading_of, reading}
use Rattle.dogwood_rules.specs.Made.{shown_as, joined_as, flat_as, fit_or_as, fit_group_as, walk_as, layout_as, cut_right, on_lines, gap_as, parts_as, piece_as, file_as}

unfoldable pub everything : Unit {0}
unfolding cut_after cut size bytes_of encode byte_length low_second high_second second third read2 read3 read4 character decode marked mark_of text_of kind_number white digit letter wordly single double line_end other piece closing string_piece token tokenise spell placed tokens words_of symbol_stops stops stops_before is_whitespace is_comment blank comment comma and_or opener closer shown joined flat tokens_of trim_left or_nothing trim_right trim_run front after_commas before_and_ors add_item tidy several items_of ahead opened open? closed run_of column join_lines empty spaces following fit_or fit_group walk layout add_span spans with_parts statement statements up_to from within beyond parts_of plain gaps_ok ascending balanced same_span only_part spans_of each_ok kind_ok parts_ok covered_ok plain_ok balance_ok boundary boundaries bounds_ok fits remarks pieces add_line gap_after part_lines piece_text join_pieces comment_in or_else first_comment too_deep deep_part deep_opener cut_up decoded source_of refused checked nested filled commented fitted answered answer stopped told total tokenised verdict tested nth reading_of reading shown_as joined_as flat_as fit_or_as fit_group_as walk_as layout_as cut_right on_lines gap_as parts_as piece_as file_as
everything = tt
