-- One name that opens every definition of both halves, for a proof by computation: `unfolding everything`.
use Rattle.definition.specs.Rows.{fold, from, those, mem, is_empty, is_single, any, all, same, insert, with, union, intersection, minus, meets, subset, is_set, first, or_else, first_of, append, flat, onto, backwards}
use Rattle.definition.specs.Names.{is_letter, is_name_byte, grow, tokens, is_name, bare, is_descriptor, begins, matches, done_name, starts_well, is_id, before_zero, from_zero, zeros_after}
use Rattle.definition.specs.Tables.{row_count, transition_count, reference_count, descriptor_count, action_count, name_count, transition_base, reference_base, descriptor_base, action_base, tables_size, row_cell, transition_cell, reference_cell, descriptor_cell, action_cell, action_at, part, references_at, descriptors_at, block_at, kind_at, parent_at, id_at, entry_at, exit_at, list_at, list_block_at, source_at, events_at, condition_at, internal_at, targets_at, transition_block_at, slot_at, name_at, slot_of}
use Rattle.definition.specs.Tree.{ancestors, is_descendant, is_child, descendants, children, is_compound, is_atomic, is_domain_kind, default_targets, anchor, anchors}
use Rattle.definition.specs.Rules.{compiled_size, counts_fit, sizes_fit, block_fits, row_in_range, transition_in_range, reference_in_range, descriptor_in_range, arguments_fit, action_in_range, rule1, slot_fits, id_differs, id_fits, raise_fits, action_named, rule2, may_stand, parent_fits, is_history_of, needs_child, stands_well, rule3, nearest_common, is_apart, are_apart, is_under, initial_fits, default_fits, list_fits, blocks_fit, row_lists_fit, is_no_root, targets_fit, rule4, is_in_order, is_empty_option, condition_fits, has_use, spins, transition_fits, awaits_else, with_else, closed, nests, test_fits, branches_fit, row_branches_fit, transition_branches_fit, rule5, first_broken, verdict, keeps_rules}
use Rattle.definition.specs.Answers.{mode_no, mode_from, answer_no, status_no}
use Rattle.definition.specs.Compiled.{word, words, words_at, column, columns, compiled, own_numbers, is_compiled}
use Rattle.follower.specs.Selection.{matches_at, is_triggered, is_true, is_match, has_source, transitions_of, choice, add_once, choose, atomic_states, candidates, is_that, chooses, chooser, or_default, stand_ins, add_stand_ins, resolved, effective_targets, initial_targets, holds_all, is_own_domain, domain_of, domain, exit_set, is_conflict, is_in_the_way, keep_beside, admit, without_conflicts, selected}
use Rattle.follower.specs.Blocks.{trace_no, queued, at_if, at_else, at_end, after, perform, perform_if, performed_from, performed}
use Rattle.follower.specs.Microstep.{add_exits, exits, active_leaving, exit_effects, exiting, would_store, stored, storing, transition_effects, add_path, paths_below, add_targets, targeted, has_no_child_in, complete, entry_set, fell_to_default, add_fallen, fallen, add_fallen_initial, with_initial, initial_block, default_block, is_active_final, is_in_final, add_in_final, in_final, is_done_above, done_effects, active_at, default_effects, entry_effects, entering, staying, history_after, entry_of, configuration_after, fallen_of, effects}
use Rattle.follower.specs.Clock.{id_of, send_of, with_send, without, table_step, table_after, least_due, place_at, next_place, event_at, without_at, joining, join_due}
use Rattle.follower.specs.Follower.{no_history, ended_follower, is_final_under_root, mode_of, taking, selected_by, by_external, by_internal, by_eventless, closing_round, round_in, round, refusal_if, refusal, table_in, timed, first_entry, first_fallen, first_effects, first_follower, first_table, start_or, start, is_ended, post_answer, with_external, post, clock_answer, with_names, clocked_by, clocked, clock, stopped, counted, rest_status, unless_refused, proceed_by, proceed, run}
use Rattle.follower.specs.Legal.{children_fit, fits_row, is_legal, shallow_fits, is_atomic_below, deep_fits, is_storable, place_fits, history_fits, queue_fits, mode_fits, is_well_formed, timer_fits, clock_fits, is_well_timed}
use Rattle.follower.specs.Calls.{started_outcome, ran_outcome, follow, follow_all, at_rest}
use Rattle.follower.specs.Marked.{play_a, last_of}

unfoldable pub everything : Unit {0}
unfolding fold from those mem is_empty is_single any all same insert with union intersection minus meets subset is_set first or_else first_of append flat onto backwards is_letter is_name_byte grow tokens is_name bare is_descriptor begins matches done_name starts_well is_id before_zero from_zero zeros_after row_count transition_count reference_count descriptor_count action_count name_count transition_base reference_base descriptor_base action_base tables_size row_cell transition_cell reference_cell descriptor_cell action_cell action_at part references_at descriptors_at block_at kind_at parent_at id_at entry_at exit_at list_at list_block_at source_at events_at condition_at internal_at targets_at transition_block_at slot_at name_at slot_of ancestors is_descendant is_child descendants children is_compound is_atomic is_domain_kind default_targets anchor anchors compiled_size counts_fit sizes_fit block_fits row_in_range transition_in_range reference_in_range descriptor_in_range arguments_fit action_in_range rule1 slot_fits id_differs id_fits raise_fits action_named rule2 may_stand parent_fits is_history_of needs_child stands_well rule3 nearest_common is_apart are_apart is_under initial_fits default_fits list_fits blocks_fit row_lists_fit is_no_root targets_fit rule4 is_in_order is_empty_option condition_fits has_use spins transition_fits awaits_else with_else closed nests test_fits branches_fit row_branches_fit transition_branches_fit rule5 first_broken verdict keeps_rules mode_no mode_from answer_no status_no word words words_at column columns compiled own_numbers is_compiled matches_at is_triggered is_true is_match has_source transitions_of choice add_once choose atomic_states candidates is_that chooses chooser or_default stand_ins add_stand_ins resolved effective_targets initial_targets holds_all is_own_domain domain_of domain exit_set is_conflict is_in_the_way keep_beside admit without_conflicts selected trace_no queued at_if at_else at_end after perform perform_if performed_from performed add_exits exits active_leaving exit_effects exiting would_store stored storing transition_effects add_path paths_below add_targets targeted has_no_child_in complete entry_set fell_to_default add_fallen fallen add_fallen_initial with_initial initial_block default_block is_active_final is_in_final add_in_final in_final is_done_above done_effects active_at default_effects entry_effects entering staying history_after entry_of configuration_after fallen_of effects id_of send_of with_send without table_step table_after least_due place_at next_place event_at without_at joining join_due no_history ended_follower is_final_under_root mode_of taking selected_by by_external by_internal by_eventless closing_round round_in round refusal_if refusal table_in timed first_entry first_fallen first_effects first_follower first_table start_or start is_ended post_answer with_external post clock_answer with_names clocked_by clocked clock stopped counted rest_status unless_refused proceed_by proceed run children_fit fits_row is_legal shallow_fits is_atomic_below deep_fits is_storable place_fits history_fits queue_fits mode_fits is_well_formed timer_fits clock_fits is_well_timed started_outcome ran_outcome follow follow_all at_rest play_a last_of
everything = tt
