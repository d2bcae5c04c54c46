-- What the laws are made of: what steps log and what waits consume, and a journal that meets the hypotheses.
use Rattle.std.proofs.Common.{◌≡◌, ℕ, ◌+◌, List, [], ◌∷◌, ◌++◌, Bool, true, false, Some, None, if◌then◌else◌, ◌==◌, map, refl, arith}
use Rattle.tr_sigset.specs.Sets.{in_word}
use Rattle.tr_wait.specs.declared.status.StopSig.TheVariants as stop_sig
use Rattle.tr_wait.specs.declared.waits.Which.TheVariants.{Any}
use Rattle.tr_tracee.specs.declared.life.Life.TheVariants as life
use Rattle.tr_tracee.specs.declared.life.Stop.TheVariants as stop
use Rattle.tr_tracee.specs.declared.thread.Thread.{Thread}
use Rattle.tr_tracee.specs.Threads.{no_options}
use Rattle.tr_wait.specs.declared.status.Status.TheVariants as status
use Rattle.tr_model.specs.declared.events.Event.TheVariants as event
use Rattle.tr_model.specs.declared.replies.Reply.TheVariants as reply
use Rattle.tr_model.specs.declared.rows.Target.TheVariants as target
use Rattle.tr_model.specs.Causes.{cause_of, quiet_of}
use Rattle.std.specs.Prelude.{◌≤◌, ◌*◌}
use Rattle.tr_model.specs.Entries.{Entry}
use Rattle.tr_model.specs.Steps.{Admits, Step, after, work_of}
use Rattle.tr_model.specs.Choices.{takes_instance, gives_report, takes_by}
use Rattle.tr_model.specs.Laws.{ConsumesStop, RestartStandsBetween, SomeRestarts}
use Rattle.tr_model.specs.Journals.{IsStart, Replay, taken, consumed_by, consumer, counts, ended_by, fate_of, held_numbers, killed_by, numbers_of, occurs, queue_of, raised_by, renamed_by, waiting_numbers}
use Rattle.tr_model.specs.Runs.{Call}
use Rattle.tr_model.specs.Tables.{Table}
use Rattle.tr_group.specs.declared.stops.Action.TheVariants.{Catch}
use Rattle.tr_model.specs.declared.fates.Fate.TheVariants.{Delivered, Flushed, Pending, Suppressed}
use Rattle.tr_model.proofs.Worked.{blocking, thread, group_of, one, two, mask, take, trap, die, exec_by, finish_by, tgkill, seize_of, seize, interrupt, cont, wait, with_exec, answers, ok, waited, left, unchosen, second_blocks_two, acting, any_note, cont_of, die_by, group_record, group_with, journal, kill, kill_of, leader, take_by}

-- Logs

-- what a step logs
a_kill_is_logged_as_delivered_to_its_group : (work_of one (unchosen 901 (event.Kill 10 9))).killed ≡ 10 ∷ []
unfolding in_word
a_kill_is_logged_as_delivered_to_its_group = refl

a_kill_is_logged_as_the_beginning_of_a_death : (work_of one (unchosen 901 (event.Kill 10 9))).dying ≡ 10 ∷ []
unfolding in_word
a_kill_is_logged_as_the_beginning_of_a_death = refl

an_exec_logs_the_id_that_passes_on : (work_of (left second_blocks_two (tgkill 11 41 ∷ exec_by 11 ∷ die ∷ [])) (unchosen 11 (event.Finish 11))).renamed ≡ 10 ∷ []
unfolding in_word
an_exec_logs_the_id_that_passes_on = refl

-- Exceptions

-- what is taken from one queue comes in order of acceptance, but for what an execve(2) brings into it
abbrev second_blocks_one : Table
second_blocks_one = group_of (thread 10 ∷ blocking (40 ∷ []) 11 ∷ [])

abbrev sending_to_both : List Call
sending_to_both = seize no_options ∷ tgkill 11 40 ∷ tgkill 10 40 ∷ []

abbrev sending_to_both_and_exec : List Call
sending_to_both_and_exec = sending_to_both ++ take ∷ cont 0 ∷ exec_by 11 ∷ die ∷ finish_by 11 ∷ mask [] ∷ []

the_leader_can_take_a_later_signal_before_an_exec : taken (left second_blocks_one sending_to_both) (record { actor = 10; event = event.Take 10; choice = takes_instance 2 }) ≡ Some (record { number = 2; signal = 40; queue = target.Thread 10 })
unfolding in_word
the_leader_can_take_a_later_signal_before_an_exec = refl

an_exec_brings_an_earlier_signal_into_the_leaders_queue : taken (left second_blocks_one sending_to_both_and_exec) (record { actor = 10; event = event.Take 10; choice = takes_instance 1 }) ≡ Some (record { number = 1; signal = 40; queue = target.Thread 10 })
unfolding in_word
an_exec_brings_an_earlier_signal_into_the_leaders_queue = refl

-- two stops of one id with neither restart nor death between them: an execve(2) is
abbrev stops_around_an_exec : List Call
stops_around_an_exec = seize no_options ∷ seize_of 11 with_exec ∷ interrupt ∷ trap ∷ wait ∷ exec_by 11 ∷ die ∷ finish_by 11 ∷ wait ∷ []

an_exec_stands_between_two_stops_of_one_id : answers two stops_around_an_exec ≡ ok ∷ ok ∷ ok ∷ ok ∷ waited 10 0x80057f 1 ∷ ok ∷ ok ∷ ok ∷ waited 10 0x4057f 2 ∷ []
unfolding in_word
an_exec_stands_between_two_stops_of_one_id = refl

an_exec_begins_no_death : (work_of (left two (seize no_options ∷ seize_of 11 with_exec ∷ interrupt ∷ trap ∷ wait ∷ [])) (unchosen 11 (event.Exec 11))).dying ≡ []
unfolding in_word
an_exec_begins_no_death = refl

-- A restart between two stops

-- the report of a wait is that of the stop that it tells of
abbrev trapped : Table
trapped = left one (seize no_options ∷ interrupt ∷ trap ∷ [])

a_wait_consumes_the_stop_that_it_gives : ConsumesStop trapped (record { actor = 900; event = event.Wait Any; choice = gives_report 1 }) (record (thread 10) { life = life.InStop (stop.Event stop_sig.Trap); trace = Some (record { tracer = 900; seized = true; options = no_options }); report = Some (record { number = 1; status = status.EventStop stop_sig.Trap }) })
unfolding in_word
a_wait_consumes_the_stop_that_it_gives = (Any, 1, record { number = 1; status = status.EventStop stop_sig.Trap }, refl, refl, refl, refl, tt)

-- an entry of an event that is neither refused nor quiet, with an admitted choice, is a step
step_of : (T : Table) (e : Entry) → cause_of T e.actor e.event ≡ None → quiet_of T e.actor e.event ≡ None → Admits T e.actor e.event e.choice → Step T e (after T e).reply (after T e).work.table
step_of T e a b c = record { not_refused = a; not_quiet = b; choice = c; reply = refl; table = refl }

-- a journal of eight entries with two waits
abbrev seize_entry : Entry
seize_entry = unchosen 900 (event.Seize 10 no_options)

abbrev interrupt_entry : Entry
interrupt_entry = unchosen 900 (event.Interrupt 10)

abbrev trap_entry : Entry
trap_entry = unchosen 10 (event.Trap 10)

abbrev wait_entry : ℕ → Entry
wait_entry r = record { actor = 900; event = event.Wait Any; choice = gives_report r }

abbrev cont_entry : Entry
cont_entry = unchosen 900 (event.Cont 10 0)

abbrev after_1 : Table
after_1 = (work_of one seize_entry).table

abbrev after_2 : Table
after_2 = (work_of after_1 interrupt_entry).table

abbrev after_3 : Table
after_3 = (work_of after_2 trap_entry).table

abbrev after_4 : Table
after_4 = (work_of after_3 (wait_entry 1)).table

abbrev after_5 : Table
after_5 = (work_of after_4 cont_entry).table

abbrev after_6 : Table
after_6 = (work_of after_5 interrupt_entry).table

abbrev after_7 : Table
after_7 = (work_of after_6 trap_entry).table

abbrev after_8 : Table
after_8 = (work_of after_7 (wait_entry 2)).table

one_is_a_start : IsStart one
unfolding in_word
one_is_a_start = record { threads = (record { life = refl; trace = refl; pausing = refl; stop_mark = refl; trap_mark = refl; note_mark = refl; joined = refl; report = refl }, tt); groups = (record { group_stop = refl; end = refl; note = refl }, tt); ids = λ n. once (10 == n); few_threads = small; few_groups = small; waiting = refl; accepted = refl; raised = refl }
  where
    small : 1 ≤ 1024
    small = omega arith

    once : (b : Bool) → (if b then 1 else 0) + 0 ≤ 1
    once true = omega arith
    once false = omega arith

three_entries_come_before_the_first_wait : Replay one (seize_entry ∷ interrupt_entry ∷ trap_entry ∷ []) (reply.Done ∷ reply.Done ∷ reply.Done ∷ []) after_3
unfolding in_word
three_entries_come_before_the_first_wait = (after_1, step_of one seize_entry refl refl refl, (after_2, step_of after_1 interrupt_entry refl refl refl, (after_3, step_of after_2 trap_entry refl refl refl, refl)))

three_entries_stand_between_two_waits : Replay after_4 (cont_entry ∷ interrupt_entry ∷ trap_entry ∷ []) (reply.Done ∷ reply.Done ∷ reply.Done ∷ []) after_7
unfolding in_word
three_entries_stand_between_two_waits = (after_5, step_of after_4 cont_entry refl refl refl, (after_6, step_of after_5 interrupt_entry refl refl refl, (after_7, step_of after_6 trap_entry refl refl refl, refl)))

the_first_wait_is_a_step : Step after_3 (wait_entry 1) (reply.Waited 10 0x80057f 1) after_4
unfolding in_word
the_first_wait_is_a_step = step_of after_3 (wait_entry 1) refl refl (1, refl, refl)

the_second_wait_is_a_step : Step after_7 (wait_entry 2) (reply.Waited 10 0x80057f 2) after_8
unfolding in_word
the_second_wait_is_a_step = step_of after_7 (wait_entry 2) refl refl (2, refl, refl)

abbrev tracee_seen : ℕ → Thread
tracee_seen r = record (thread 10) { life = life.InStop (stop.Event stop_sig.Trap); trace = Some (record { tracer = 900; seized = true; options = no_options }); report = Some (record { number = r; status = status.EventStop stop_sig.Trap }) }

the_first_wait_consumes_a_stop : ConsumesStop after_3 (wait_entry 1) (tracee_seen 1)
unfolding in_word
the_first_wait_consumes_a_stop = (Any, 1, record { number = 1; status = status.EventStop stop_sig.Trap }, refl, refl, refl, refl, tt)

the_second_wait_consumes_a_stop : ConsumesStop after_7 (wait_entry 2) (tracee_seen 2)
unfolding in_word
the_second_wait_consumes_a_stop = (Any, 2, record { number = 2; status = status.EventStop stop_sig.Trap }, refl, refl, refl, refl, tt)

-- the law applied
the_law_finds_a_restart_between_two_waits : RestartStandsBetween → SomeRestarts 10 900 10 after_4 (cont_entry ∷ interrupt_entry ∷ trap_entry ∷ [])
unfolding in_word
the_law_finds_a_restart_between_two_waits h = h one after_3 after_4 after_7 (seize_entry ∷ interrupt_entry ∷ trap_entry ∷ []) (cont_entry ∷ interrupt_entry ∷ trap_entry ∷ []) (reply.Done ∷ reply.Done ∷ reply.Done ∷ []) (reply.Done ∷ reply.Done ∷ reply.Done ∷ []) (wait_entry 1) (wait_entry 2) (reply.Waited 10 0x80057f 1) (tracee_seen 1) (tracee_seen 2) one_is_a_start three_entries_come_before_the_first_wait the_first_wait_is_a_step the_first_wait_consumes_a_stop three_entries_stand_between_two_waits the_second_wait_consumes_a_stop refl

-- without the Cont there is none: the law isn't true of everything
no_restart_stands_where_nothing_was_entered : SomeRestarts 10 900 10 after_4 [] → ⊥
no_restart_stands_where_nothing_was_entered h = h

-- What a journal did

-- two tracees hold a signal each, and two more wait
abbrev holding_two : List Call
holding_two = seize no_options ∷ seize_of 11 no_options ∷ tgkill 10 10 ∷ tgkill 11 12 ∷ take ∷ take_by 11 ∷ tgkill 11 15 ∷ kill 40 ∷ []

-- what waits, by its numbers
numbers_that_wait_stand_in_order_of_acceptance : waiting_numbers (left two holding_two).waiting ≡ 3 ∷ 4 ∷ []
unfolding in_word
numbers_that_wait_stand_in_order_of_acceptance = refl

-- and what stops hold
numbers_that_stops_hold_stand_in_table_order : held_numbers (left two holding_two).threads ≡ 1 ∷ 2 ∷ []
unfolding in_word
numbers_that_stops_hold_stand_in_table_order = refl

abbrev ending_two : List Call
ending_two = holding_two ++ cont 0 ∷ cont_of 11 12 ∷ []

-- what the entries ended, in their order
entries_end_signals_in_their_order : ended_by two (journal two ending_two) ≡ record { number = 1; fate = Suppressed } ∷ record { number = 2; fate = Delivered } ∷ []
unfolding in_word
entries_end_signals_in_their_order = refl

-- by its numbers
what_was_ended_has_its_numbers : numbers_of (ended_by two (journal two ending_two)) ≡ 1 ∷ 2 ∷ []
unfolding in_word
what_was_ended_has_its_numbers = refl

-- a number has a fate where it was accepted
only_an_accepted_number_has_a_fate : map (fate_of two (journal two holding_two) (left two holding_two)) (0 ∷ 1 ∷ 4 ∷ 5 ∷ []) ≡ None ∷ Some Pending ∷ Some Pending ∷ None ∷ []
unfolding in_word
only_an_accepted_number_has_a_fate = refl

-- and counts once, for that fate
a_number_counts_for_its_fate_alone : map (counts Flushed) (Some Flushed ∷ Some Delivered ∷ None ∷ []) ≡ 1 ∷ 0 ∷ 0 ∷ []
unfolding in_word
a_number_counts_for_its_fate_alone = refl

-- how often a number stands in a list
a_number_is_counted_as_often_as_it_stands : map (λ n. occurs n (2 ∷ 1 ∷ 2 ∷ [])) (1 ∷ 2 ∷ 3 ∷ []) ≡ 1 ∷ 2 ∷ 0 ∷ []
unfolding in_word
a_number_is_counted_as_often_as_it_stands = refl

-- what the entries raised, in their order
entries_raise_reports_in_their_order : map (λ r. r.number + 100 * r.id) (raised_by two (journal two holding_two)) ≡ 1001 ∷ 1102 ∷ []
unfolding in_word
entries_raise_reports_in_their_order = refl

abbrev starter_entry : ℕ → Entry
starter_entry r = record { actor = 1; event = event.StarterWait Any any_note; choice = gives_report r }

-- waits consume the report that was chosen, other entries none
waits_consume_reports_in_their_order : consumed_by (wait_entry 5 ∷ cont_entry ∷ starter_entry 6 ∷ []) ≡ 5 ∷ 6 ∷ []
unfolding in_word
waits_consume_reports_in_their_order = refl

-- for a tracer or the starter
a_report_is_consumed_for_a_tracer_or_the_starter : map consumer (wait_entry 5 ∷ cont_entry ∷ starter_entry 6 ∷ []) ≡ Some 900 ∷ None ∷ None ∷ []
unfolding in_word
a_report_is_consumed_for_a_tracer_or_the_starter = refl

-- two groups of two threads
abbrev two_pairs : Table
two_pairs = record one { threads = thread 10 ∷ thread 11 ∷ leader 20 ∷ record (thread 21) { group = 20 } ∷ []; groups = group_record 10 ∷ group_record 20 ∷ [] }

-- the ids that passed on, in their order
ids_that_pass_on_are_logged_in_their_order : renamed_by two_pairs (journal two_pairs (exec_by 11 ∷ die ∷ finish_by 11 ∷ exec_by 21 ∷ die_by 20 ∷ finish_by 21 ∷ [])) ≡ 10 ∷ 20 ∷ []
unfolding in_word
ids_that_pass_on_are_logged_in_their_order = refl

-- the groups that were killed, in their order
kills_are_logged_in_their_order : killed_by two_pairs (journal two_pairs (kill_of 20 9 ∷ kill_of 10 9 ∷ [])) ≡ 20 ∷ 10 ∷ []
unfolding in_word
kills_are_logged_in_their_order = refl

-- What a take took

abbrev second_catches_two : Table
second_catches_two = group_with (blocking (12 ∷ []) 10 ∷ thread 11 ∷ []) (acting Catch (10 ∷ 12 ∷ []))

abbrev waiting_for_both : Table
waiting_for_both = left second_catches_two (tgkill 11 10 ∷ kill 12 ∷ [])

abbrev take_of_11 : ℕ → Entry
take_of_11 n = record { actor = 11; event = event.Take 11; choice = takes_instance n }

abbrev take_any_by_11 : ℕ → Entry
take_any_by_11 n = record { actor = 900; event = event.TakeAny 10; choice = takes_by 11 n }

-- a thread takes from its own queue and from the shared one
a_take_is_of_the_own_or_the_shared_queue : map (λ n. taken waiting_for_both (take_of_11 n)) (1 ∷ 2 ∷ 3 ∷ []) ≡ Some (record { number = 1; signal = 10; queue = target.Thread 11 }) ∷ Some (record { number = 2; signal = 12; queue = target.Group 10 }) ∷ None ∷ []
unfolding in_word
a_take_is_of_the_own_or_the_shared_queue = refl

-- also by a take of any thread
a_take_by_any_thread_is_of_the_queue_of_its_taker : map (λ n. queue_of (taken waiting_for_both (take_any_by_11 n))) (1 ∷ 2 ∷ 3 ∷ []) ≡ Some (target.Thread 11) ∷ Some (target.Group 10) ∷ None ∷ []
unfolding in_word
a_take_by_any_thread_is_of_the_queue_of_its_taker = refl

-- other entries take nothing
an_entry_that_is_no_take_takes_nothing : queue_of (taken waiting_for_both cont_entry) ≡ None
unfolding in_word
an_entry_that_is_no_take_takes_nothing = refl

-- threads that run hold nothing
threads_that_run_hold_nothing : held_numbers two.threads ≡ []
unfolding in_word
threads_that_run_hold_nothing = refl
