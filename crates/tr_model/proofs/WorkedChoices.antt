-- What the model leaves to choose: instances, threads, reports and ids.
use Rattle.std.proofs.Common.{◌≡◌, ℕ, pos, negsuc, List, [], ◌∷◌, ◌++◌, Bool, true, false, Some, map, None, refl}
use Rattle.tr_sigset.specs.Sets.{in_word}
use Rattle.tr_wait.specs.declared.waits.Which.TheVariants.{Any, One}
use Rattle.tr_tracee.specs.Threads.{no_options}
use Rattle.tr_group.specs.declared.stops.Action.TheVariants.{Catch}
use Rattle.tr_model.specs.declared.events.Event.TheVariants as event
use Rattle.tr_model.specs.declared.fates.Fate.TheVariants.{Pending}
use Rattle.tr_model.specs.declared.replies.Did.TheVariants.{Caught}
use Rattle.tr_model.specs.declared.replies.Reply.TheVariants as reply
use Rattle.tr_model.specs.declared.rows.Target.TheVariants as target
use Rattle.std.specs.Prelude.{is_some, ◌||◌}
use Rattle.tr_model.specs.Steps.{Admits, after, takes, is_new, number, waited_note}
use Rattle.tr_model.specs.Choices.{takes_by, takes_instance, gives_report, Choice, chosen_by, either, gives_id, no_choice, packed_id, packed_kind, packed_number}
use Rattle.tr_model.specs.StarterWaits.{ready_death, ready_note, has_death, note_wanted, ready_for_starter}
use Rattle.tr_model.specs.Waits.{ready, ready_thread}
use Rattle.tr_model.specs.Journals.{taken}
use Rattle.tr_model.specs.Runs.{Call}
use Rattle.tr_model.specs.Sends.{info}
use Rattle.tr_model.specs.Tables.{Table, thread_of}
use Rattle.tr_model.specs.Preferred.{least_new, new_id, preferred, taking_by}
use Rattle.tr_model.specs.Takes.{taken_from}
use Rattle.tr_model.specs.declared.choices.Kind.TheVariants as kind
use Rattle.tr_wait.specs.declared.status.Status.TheVariants as status
use Rattle.tr_model.proofs.Worked.{blocking, thread, acting, group_with, one, two, mask, action, take, trap, die_by, die, kill, take_any, seize_of, seize, reap, answers, ok, nothing, sent, took_with, took, left, trap_by, interrupt_of, group_record, leader, three_groups, second_blocks_two, exec_with_waiting_signals, ending_with_three_groups, dying_after_a_continue, alone, any_note, by, cloned, group_of, halt, interrupt}

-- Takes

-- of standard signals any one, of real-time signals the least
abbrev blocks_and_catches_four : Table
blocks_and_catches_four = group_with (blocking (10 ∷ 12 ∷ 34 ∷ 40 ∷ []) 10 ∷ []) (acting Catch (10 ∷ 12 ∷ 34 ∷ 40 ∷ []))

abbrev sending_four : List Call
sending_four = kill 40 ∷ kill 34 ∷ kill 12 ∷ kill 10 ∷ []

abbrev four_wait : List ℕ → Table
four_wait m = left blocks_and_catches_four (sending_four ++ mask m ∷ [])

abbrev may_be_taken : List ℕ → List Bool
may_be_taken m = map (takes (four_wait m) (thread_of (four_wait m) 10)) (1 ∷ 2 ∷ 3 ∷ 4 ∷ [])

any_standard_signal_may_be_taken : may_be_taken [] ≡ false ∷ false ∷ true ∷ true ∷ []
unfolding in_word
any_standard_signal_may_be_taken = refl

the_lower_real_time_signal_is_taken_where_standard_ones_are_blocked : may_be_taken (10 ∷ 12 ∷ []) ≡ false ∷ true ∷ false ∷ false ∷ []
unfolding in_word
the_lower_real_time_signal_is_taken_where_standard_ones_are_blocked = refl

the_higher_real_time_signal_is_taken_where_the_lower_is_blocked : may_be_taken (10 ∷ 12 ∷ 34 ∷ []) ≡ true ∷ false ∷ false ∷ false ∷ []
unfolding in_word
the_higher_real_time_signal_is_taken_where_the_lower_is_blocked = refl

abbrev exec_and_catch : List Call
exec_and_catch = exec_with_waiting_signals ++ action 40 Catch ∷ action 41 Catch ∷ mask [] ∷ []

the_own_queue_is_taken_before_the_shared_one : answers second_blocks_two (exec_and_catch ++ take ∷ take ∷ take ∷ take ∷ take ∷ []) ≡ sent 1 Pending ∷ sent 2 Pending ∷ sent 3 Pending ∷ sent 4 Pending ∷ ok ∷ ok ∷ ok ∷ ok ∷ ok ∷ ok ∷ took_with 10 3 40 (negsuc 5) 901 (pos 0) Caught ∷ took_with 10 4 40 (negsuc 5) 901 (pos 0) Caught ∷ took_with 10 1 41 (negsuc 5) 901 (pos 0) Caught ∷ took 10 2 40 Caught ∷ nothing ∷ []
unfolding in_word
the_own_queue_is_taken_before_the_shared_one = refl

-- free choice: the first of each queue's least number, no other
of_each_queue_the_first_of_its_least_number_may_be_taken : map (takes (left second_blocks_two exec_and_catch) (thread_of (left second_blocks_two exec_and_catch) 10)) (1 ∷ 2 ∷ 3 ∷ 4 ∷ 5 ∷ []) ≡ false ∷ true ∷ true ∷ false ∷ false ∷ []
unfolding in_word
of_each_queue_the_first_of_its_least_number_may_be_taken = refl

-- several threads can take a signal of their group
abbrev first_blocks_what_all_catch : Table
first_blocks_what_all_catch = group_with (blocking (12 ∷ []) 10 ∷ thread 11 ∷ thread 12 ∷ []) (acting Catch (12 ∷ []))

the_first_thread_that_can_take_takes_a_signal_of_its_group : answers first_blocks_what_all_catch (kill 12 ∷ take_any ∷ []) ≡ sent 1 Pending ∷ took 11 1 12 Caught ∷ []
unfolding in_word
the_first_thread_that_can_take_takes_a_signal_of_its_group = refl

abbrev two_can_take : Table
two_can_take = left first_blocks_what_all_catch (kill 12 ∷ [])

another_thread_that_can_take_may_take_it : Admits two_can_take 900 (event.TakeAny 10) (takes_by 12 1)
unfolding in_word
another_thread_that_can_take_may_take_it = (12, 1, refl, refl, refl)

only_threads_that_do_not_block_a_signal_may_take_it : map (λ id. takes two_can_take (thread_of two_can_take id) 1) (10 ∷ 11 ∷ 12 ∷ 13 ∷ []) ≡ false ∷ true ∷ true ∷ false ∷ []
unfolding in_word
only_threads_that_do_not_block_a_signal_may_take_it = refl

the_reply_of_a_take_names_the_thread_that_was_chosen : (after two_can_take (record { actor = 900; event = event.TakeAny 10; choice = takes_by 12 1 })).reply ≡ reply.Took Caught 12 (record { n = 1; sig = 12; info = info (pos 0) 901 (pos 0) })
unfolding in_word
the_reply_of_a_take_names_the_thread_that_was_chosen = refl

a_take_takes_the_chosen_instance_from_its_queue : taken (four_wait []) (record { actor = 10; event = event.Take 10; choice = takes_instance 3 }) ≡ Some (record { number = 3; signal = 12; queue = target.Group 10 })
unfolding in_word
a_take_takes_the_chosen_instance_from_its_queue = refl

-- Waits

-- two tracees have reports
abbrev two_reports : Table
two_reports = left two (seize no_options ∷ seize_of 11 no_options ∷ interrupt_of 11 ∷ interrupt_of 10 ∷ trap_by 11 ∷ trap ∷ [])

reports_are_ready_in_table_order : ready two_reports 900 Any ≡ 2 ∷ 1 ∷ []
unfolding in_word
reports_are_ready_in_table_order = refl

a_wait_may_give_any_of_two_reports : map (λ r. is_some (ready_thread two_reports 900 Any r)) (0 ∷ 1 ∷ 2 ∷ 3 ∷ []) ≡ false ∷ true ∷ true ∷ false ∷ []
unfolding in_word
a_wait_may_give_any_of_two_reports = refl

a_wait_for_one_thread_may_give_its_report_alone : map (λ r. is_some (ready_thread two_reports 900 (One 11) r)) (1 ∷ 2 ∷ []) ≡ true ∷ false ∷ []
unfolding in_word
a_wait_for_one_thread_may_give_its_report_alone = refl

a_wait_of_another_actor_may_give_none : map (λ r. is_some (ready_thread two_reports 901 Any r)) (1 ∷ 2 ∷ []) ≡ false ∷ false ∷ []
unfolding in_word
a_wait_of_another_actor_may_give_none = refl

-- the starter has one death and two notes to learn of
abbrev three_groups_left : Table
three_groups_left = left three_groups ending_with_three_groups

a_starters_wait_may_give_any_death_or_note : map (λ r. is_some (ready_death three_groups_left Any r) || is_some (ready_note three_groups_left Any (record { untraced = true; continued = false }) r)) (1 ∷ 2 ∷ 3 ∷ 4 ∷ 5 ∷ 6 ∷ 7 ∷ []) ≡ false ∷ false ∷ false ∷ true ∷ true ∷ true ∷ false ∷ []
unfolding in_word
a_starters_wait_may_give_any_death_or_note = refl

a_starters_wait_for_continued_groups_may_give_the_death_alone : map (λ r. is_some (ready_death three_groups_left Any r) || is_some (ready_note three_groups_left Any (record { untraced = false; continued = true }) r)) (3 ∷ 4 ∷ 5 ∷ 6 ∷ []) ≡ false ∷ true ∷ false ∷ false ∷ []
unfolding in_word
a_starters_wait_for_continued_groups_may_give_the_death_alone = refl

a_starters_wait_for_one_group_may_give_its_note_alone : map (λ r. is_some (ready_death three_groups_left (One 30) r) || is_some (ready_note three_groups_left (One 30) (record { untraced = true; continued = true }) r)) (4 ∷ 5 ∷ 6 ∷ []) ≡ false ∷ false ∷ true ∷ []
unfolding in_word
a_starters_wait_for_one_group_may_give_its_note_alone = refl

-- a choice that isn't preferred: group 30's note first
a_starters_wait_may_give_a_later_note_first : (after three_groups_left (record { actor = 1; event = event.StarterWait Any (record { untraced = true; continued = false }); choice = gives_report 6 })).reply ≡ reply.Waited 30 0x147f 6
unfolding in_word
a_starters_wait_may_give_a_later_note_first = refl

a_wait_may_give_the_death_or_the_note_of_a_group : map (λ r. is_some (ready_death (left one dying_after_a_continue) Any r) || is_some (ready_note (left one dying_after_a_continue) Any (record { untraced = true; continued = true }) r)) (1 ∷ 2 ∷ 3 ∷ 4 ∷ []) ≡ false ∷ true ∷ true ∷ false ∷ []
unfolding in_word
a_wait_may_give_the_death_or_the_note_of_a_group = refl

-- Ids

-- the ids that a new thread may get
new_ids_are_from_2_to_4194303 : map (is_new one) (0 ∷ 1 ∷ 2 ∷ 10 ∷ 11 ∷ 4194303 ∷ 4194304 ∷ []) ≡ false ∷ false ∷ true ∷ false ∷ true ∷ true ∷ false ∷ []
unfolding in_word
new_ids_are_from_2_to_4194303 = refl

-- a leader was reaped before the last thread of its group
abbrev two_groups : Table
two_groups = record one { threads = thread 10 ∷ thread 11 ∷ leader 20 ∷ []; groups = group_record 10 ∷ group_record 20 ∷ [] }

the_id_of_a_group_is_not_new_without_its_leader : map (is_new (left two_groups (seize_of 11 no_options ∷ kill 9 ∷ die_by 11 ∷ die ∷ reap ∷ []))) (10 ∷ 11 ∷ 12 ∷ 20 ∷ []) ≡ false ∷ false ∷ true ∷ false ∷ []
unfolding in_word
the_id_of_a_group_is_not_new_without_its_leader = refl

-- Choices as they are kept

-- one of each kind
abbrev each_choice : List Choice
each_choice = no_choice ∷ takes_instance 5 ∷ takes_by 11 5 ∷ gives_report 6 ∷ gives_id 12 ∷ []

-- the kind tells what was chosen
each_choice_has_its_kind : map packed_kind each_choice ≡ kind.Nothing ∷ kind.Instance ∷ kind.ThreadAndInstance ∷ kind.Report ∷ kind.NewId ∷ []
unfolding in_word
each_choice_has_its_kind = refl

-- the number is that of the instance or of the report
the_number_of_a_choice_is_of_its_instance_or_report : map packed_number each_choice ≡ 0 ∷ 5 ∷ 5 ∷ 6 ∷ 0 ∷ []
unfolding in_word
the_number_of_a_choice_is_of_its_instance_or_report = refl

-- the id is that of the thread, or the new one
the_id_of_a_choice_is_of_its_thread_or_new : map packed_id each_choice ≡ 0 ∷ 0 ∷ 11 ∷ 0 ∷ 12 ∷ []
unfolding in_word
the_id_of_a_choice_is_of_its_thread_or_new = refl

-- of two numbers the first counts
the_first_of_two_numbers_is_kept : either (Some 5) (Some 6) ∷ either None (Some 6) ∷ either None None ∷ [] ≡ 5 ∷ 6 ∷ 0 ∷ []
unfolding in_word
the_first_of_two_numbers_is_kept = refl

-- no event has such a choice
abbrev with_two_of_each : Choice
with_two_of_each = record { thread = Some 11; instance = Some 5; report = Some 6; new_id = Some 12 }

-- also of one choice
an_instance_is_kept_before_a_report_and_a_thread_before_a_new_id : packed_number with_two_of_each ∷ packed_id with_two_of_each ∷ [] ≡ 5 ∷ 11 ∷ []
unfolding in_word
an_instance_is_kept_before_a_report_and_a_thread_before_a_new_id = refl

-- and each is read back, by the numbers that its kind uses
a_choice_is_read_by_its_kind : map (λ k. chosen_by k 5 12) (kind.Nothing ∷ kind.Instance ∷ kind.ThreadAndInstance ∷ kind.Report ∷ kind.NewId ∷ []) ≡ no_choice ∷ takes_instance 5 ∷ takes_by 12 5 ∷ gives_report 5 ∷ gives_id 12 ∷ []
unfolding in_word
a_choice_is_read_by_its_kind = refl

-- What no choice gives

-- a choice that the model does not admit leads to nothing
a_choice_of_what_is_not_there_replies_nothing : map (λ e. (after one e).reply) (record { actor = 900; event = event.TakeAny 10; choice = takes_by 99 1 } ∷ record { actor = 900; event = event.TakeAny 10; choice = takes_by 10 1 } ∷ record { actor = 900; event = event.Wait Any; choice = gives_report 5 } ∷ []) ≡ reply.Nothing ∷ reply.Nothing ∷ reply.Nothing ∷ []
unfolding in_word
a_choice_of_what_is_not_there_replies_nothing = refl

-- a number that was not chosen is 0
a_number_that_was_not_chosen_is_0 : map number (Some 7 ∷ None ∷ []) ≡ 7 ∷ 0 ∷ []
unfolding in_word
a_number_that_was_not_chosen_is_0 = refl

-- a take by any thread is one by the thread that was chosen
a_take_by_any_thread_takes_the_signal : answers first_blocks_what_all_catch (kill 12 ∷ take_any ∷ take_any ∷ []) ≡ sent 1 Pending ∷ took 11 1 12 Caught ∷ nothing ∷ []
unfolding in_word
a_take_by_any_thread_takes_the_signal = refl

-- a thread with a mark to serve takes nothing, nor may it
a_thread_with_a_mark_may_not_take : answers (group_with (thread 10 ∷ blocking (12 ∷ []) 11 ∷ []) (acting Catch [])) (seize no_options ∷ interrupt ∷ kill 12 ∷ take_any ∷ []) ≡ ok ∷ ok ∷ sent 1 Pending ∷ nothing ∷ []
unfolding in_word
a_thread_with_a_mark_may_not_take = refl

-- so this product chooses nothing for it
nothing_is_preferred_for_a_thread_with_a_mark : preferred (left one (seize no_options ∷ kill 12 ∷ interrupt ∷ [])) 10 (event.Take 10) ≡ no_choice
unfolding in_word
nothing_is_preferred_for_a_thread_with_a_mark = refl

-- a thread takes from its own queue where something can be taken there, else from the shared one
the_queue_of_a_take_is_its_own_or_the_shared_one : map (λ o. taken_from o (thread 11)) (Some (record { n = 1; sig = 12; info = info (pos 0) 901 (pos 0) }) ∷ None ∷ []) ≡ target.Thread 11 ∷ target.Group 10 ∷ []
unfolding in_word
the_queue_of_a_take_is_its_own_or_the_shared_one = refl

-- the report of a dead leader is for the starter once nobody traces it
the_starter_may_not_be_given_the_report_of_a_tracee : map (λ r. is_some (ready_death (left one (seize no_options ∷ kill 9 ∷ die ∷ [])) Any r)) (0 ∷ 1 ∷ 2 ∷ []) ≡ false ∷ false ∷ false ∷ []
unfolding in_word
the_starter_may_not_be_given_the_report_of_a_tracee = refl

-- the note of a traced group waits
the_starter_may_not_be_given_the_note_of_a_traced_group : is_some (ready_note (left one (kill 20 ∷ take ∷ halt ∷ seize no_options ∷ [])) Any (record { untraced = true; continued = true }) 1) ≡ false
unfolding in_word
the_starter_may_not_be_given_the_note_of_a_traced_group = refl

-- no journal leads to a report of a thread that runs and that nobody traces
abbrev reporting_while_it_runs : Table
reporting_while_it_runs = record one { threads = record (thread 10) { report = Some (record { number = 7; status = status.Killed 9 }) } ∷ [] }

-- the starter learns of a death alone
the_starter_may_not_be_given_a_report_of_a_running_thread : ready_for_starter reporting_while_it_runs Any any_note ≡ []
unfolding in_word
the_starter_may_not_be_given_a_report_of_a_running_thread = refl

-- nor by its number
the_number_of_such_a_report_is_not_given : is_some (ready_death reporting_while_it_runs Any 7) ≡ false
unfolding in_word
the_number_of_such_a_report_is_not_given = refl

-- no journal leads to a noted group that nobody traces and whose leader is gone
abbrev noted_without_a_leader : Table
noted_without_a_leader = record one { threads = thread 11 ∷ []; groups = record (group_record 10) { note = Some (record { number = 7; status = status.Continued }) } ∷ [] }

-- the starter waits for groups whose leader is there
a_note_without_a_leader_is_not_given : is_some (ready_note noted_without_a_leader Any any_note 7) ≡ false
unfolding in_word
a_note_without_a_leader_is_not_given = refl

-- no flag asks for a note that is not there
a_note_that_is_not_there_is_not_wanted : note_wanted any_note None ≡ false
unfolding in_word
a_note_that_is_not_there_is_not_wanted = refl

-- nor has a leader that is not there a death
a_leader_that_is_not_there_has_no_death : has_death 0 None ≡ false
unfolding in_word
a_leader_that_is_not_there_has_no_death = refl

-- Least new ids

-- the least new id is looked for so often, from this id up
a_new_id_is_looked_for_this_often : map (λ tries. least_new two tries 10) (0 ∷ 1 ∷ 2 ∷ 3 ∷ 4 ∷ []) ≡ None ∷ None ∷ None ∷ Some 12 ∷ Some 12 ∷ []
unfolding in_word
a_new_id_is_looked_for_this_often = refl

-- the greatest id is tried before the least
the_greatest_id_is_new_above_all_others : answers (alone 4194302) (by 500 (event.CloneThread 4194302) ∷ []) ≡ cloned 4194303 ∷ []
unfolding in_word new_id
the_greatest_id_is_new_above_all_others = refl

-- and past it the least from 2 up
ids_begin_again_at_2 : answers (alone 4194303) (by 500 (event.CloneThread 4194303) ∷ []) ≡ cloned 2 ∷ []
unfolding in_word new_id
ids_begin_again_at_2 = refl

-- the search begins above the id of the group, not of the thread that clones
a_new_id_is_the_least_above_the_group : answers (group_of (thread 10 ∷ thread 20 ∷ [])) (by 500 (event.CloneThread 20) ∷ []) ≡ cloned 11 ∷ []
unfolding in_word new_id
a_new_id_is_the_least_above_the_group = refl

-- a wait for a note that is not there has nothing to tell
a_wait_without_a_note_replies_nothing : map waited_note (None ∷ Some (group_record 10) ∷ []) ≡ reply.Nothing ∷ reply.Nothing ∷ []
unfolding in_word
a_wait_without_a_note_replies_nothing = refl

-- What a step admits

-- a take of a signal that waits
a_thread_may_take_what_waits : Admits (four_wait []) 10 (event.Take 10) (takes_instance 3)
unfolding in_word
a_thread_may_take_what_waits = (3, refl, refl)

-- a wait for a later report
a_wait_may_give_a_later_report : Admits two_reports 900 (event.Wait Any) (gives_report 1)
unfolding in_word
a_wait_may_give_a_later_report = (1, refl, refl)

-- a wait of the starter for a later note
a_starters_wait_may_give_a_later_note : Admits three_groups_left 1 (event.StarterWait Any (record { untraced = true; continued = false })) (gives_report 6)
unfolding in_word
a_starters_wait_may_give_a_later_note = (6, refl, refl)

-- a clone with any new id
a_clone_may_get_any_new_id : Admits one 10 (event.CloneThread 10) (gives_id 500)
unfolding in_word
a_clone_may_get_any_new_id = (500, refl, refl)

-- and an attach, which chooses nothing
an_attach_chooses_nothing : Admits one 900 (event.Attach 10) no_choice
unfolding in_word
an_attach_chooses_nothing = refl

-- What is chosen

-- a choice has what its event leaves open, and nothing else
a_choice_has_nothing_else : no_choice ∷ takes_instance 5 ∷ takes_by 11 5 ∷ gives_report 6 ∷ gives_id 12 ∷ [] ≡ record { thread = None; instance = None; report = None; new_id = None } ∷ record { thread = None; instance = Some 5; report = None; new_id = None } ∷ record { thread = Some 11; instance = Some 5; report = None; new_id = None } ∷ record { thread = None; instance = None; report = Some 6; new_id = None } ∷ record { thread = None; instance = None; report = None; new_id = Some 12 } ∷ []
unfolding in_word
a_choice_has_nothing_else = refl

-- where nothing can be chosen nothing is
nothing_is_preferred_where_there_is_nothing : map (preferred one 10) (event.Take 99 ∷ event.TakeAny 99 ∷ event.Wait Any ∷ event.CloneThread 99 ∷ event.Attach 10 ∷ []) ≡ no_choice ∷ no_choice ∷ no_choice ∷ no_choice ∷ no_choice ∷ []
unfolding in_word
nothing_is_preferred_where_there_is_nothing = refl

-- nor by a thread without a signal
nothing_to_take_is_no_choice : taking_by 10 None ≡ no_choice
unfolding in_word
nothing_to_take_is_no_choice = refl
