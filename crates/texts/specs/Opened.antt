-- Every definition of crates grammar and reading that a text's meaning is computed by, opened.
use Rattle.definition.specs.Open as opened
use Rattle.std.specs.Prelude.{ℕ}
use Rattle.grammar.specs.Grammar.{is_space, is_char, is_token, word_byte, agree, follows, pick_from, pick, attribute, has, added, pick_attribute, is_complete, may_end, owner, after, opens, name_step, value_step, value_ends, kind_of, content_step, name_at, less_step, tag_step, name_step_at, attribute_at, space_step, equals_step, attribute_step, quote_step, value_at, value_step_at, entity_at, entity_step, close_step, end_step, only, step_of, next, run, accepts, is_text, live_bytes, grammar_fault, in_grammar}
use Rattle.grammar.specs.Tables.{words, menus, attrs, kinds, needed, opened, owners, ends, bits, adds}
use Rattle.reading.specs.Tags.{noted, emitted, tags_from, tags_of}
use Rattle.reading.specs.Faults.{items_at, decoded, spelt, apostrophe, name_bytes, is_condition, decimal_from, states, value_of, ids_of, is_among, part_faults, tag_faults, faults, least, first_fault}
use Rattle.reading.specs.Content.{place_of, act_in, turn, facts_from, acts_in, list_of, rows_from, transitions_from, of_source, content_from, content_of, fresh, slots_of}
use Rattle.reading.specs.Layout.{row_cells, transition_cells, numbers_of, names_of, meaning, read_of, acts_at, row_back, transition_back, content}
use Rattle.reading.specs.Calls.{have_room, read_into, call_of}
use Rattle.reading.specs.Print.{digits, id_of, spaced, act_text, block_from, transition_text, inner_text, close_text, close_to, rows_text, print}

unfoldable pub everything : ℕ
unfolding opened.everything is_space is_char is_token word_byte agree follows pick_from pick attribute has added pick_attribute is_complete may_end owner after opens name_step value_step value_ends kind_of content_step name_at less_step tag_step name_step_at attribute_at space_step equals_step attribute_step quote_step value_at value_step_at entity_at entity_step close_step end_step only step_of next run accepts is_text live_bytes grammar_fault in_grammar words menus attrs kinds needed opened owners ends bits adds noted emitted tags_from tags_of items_at decoded spelt apostrophe name_bytes is_condition decimal_from states value_of ids_of is_among part_faults tag_faults faults least first_fault place_of act_in turn facts_from acts_in list_of rows_from transitions_from of_source content_from content_of fresh slots_of row_cells transition_cells numbers_of names_of meaning read_of acts_at row_back transition_back content have_room read_into call_of digits id_of spaced act_text block_from transition_text inner_text close_text close_to rows_text print
everything = 0
