-- What crates above may cite.
pub use Rattle.fn_core.proofs.Among.{Has, EndsIn, IsFound, found_is, none_found, all_reached, has_range, from_range, has_map, has_flat_map, contains, range_ends, map_ends, flat_map_ends}
pub use Rattle.fn_core.proofs.Beginning.{other_is}
pub use Rattle.fn_core.proofs.Climbing.{calls_are_placed, found_last_is_mine, calls_stay_underway, rows_stay_for_filling}
pub use Rattle.fn_core.proofs.Entered.{direct_calls_are_alone, entries_stay, funnelled_calls_are_batched}
pub use Rattle.fn_core.proofs.Events.{one_word}
pub use Rattle.fn_core.proofs.Filling.{calls_always_go_on, legal_push, run_push}
pub use Rattle.fn_core.proofs.Follows.{few_left, follows, in_call, legal_parts, run_parts}
pub use Rattle.fn_core.proofs.Grows.{histories_grow, places_are_beyond, positions_fit, replies_are_bounded}
pub use Rattle.fn_core.proofs.Guards.{free_is, may_is}
pub use Rattle.fn_core.proofs.Homes.{word_found}
pub use Rattle.fn_core.proofs.Joins.{own_calls_stay}
pub use Rattle.fn_core.proofs.Laws.{additions_add_all, calls_stand_once, direct_replies_are_right, main_is_value, rows_are_lawful, words_are_small}
pub use Rattle.fn_core.proofs.Linked.{row_read-link}
pub use Rattle.fn_core.proofs.Lists.{length-list_of, list_of-set}
pub use Rattle.fn_core.proofs.Measure.{others_cost_nothing, steps_run_out}
pub use Rattle.fn_core.proofs.Members.{members_few}
pub use Rattle.fn_core.proofs.Names.{hand_owned, rows_have_names}
pub use Rattle.fn_core.proofs.Next.{next_is_own}
pub use Rattle.fn_core.proofs.Orders.{beginnings_leave, calls_are_of_passes, faultless_starts_are_starts, histories_go_on, logs_are_parted_and_joined, own_calls_leave, resting_passes_have_no_call, runs_go_on, steps_leave}
pub use Rattle.fn_core.proofs.Owned.{own_calls_are_in_order}
pub use Rattle.fn_core.proofs.Places.{kind_cases, same_kind-refl}
pub use Rattle.fn_core.proofs.Polls.{steps_follow}
pub use Rattle.fn_core.proofs.Short.{begin_short}
pub use Rattle.fn_core.proofs.Stays.{own_stays}
pub use Rattle.fn_core.proofs.Tells.{last_mine, over_mine, peek_word, steps_tell, words_are_found}
pub use Rattle.fn_core.proofs.Tries.{any_found, blocks_where, filter_keeps, filter_skips, holds_lets, lets_where, not_true, range_end, range_step}
