-- clone(2) and execve(2), of tracees and beside them.
use Rattle.std.proofs.Common.{◌≡◌, pos, List, [], ◌∷◌, ◌++◌, length, true, false, Some, map, refl}
use Rattle.tr_sigset.specs.Sets.{in_word}
use Rattle.tr_wait.specs.declared.waits.Which.TheVariants.{One}
use Rattle.tr_tracee.specs.declared.life.End.TheVariants.{Exited}
use Rattle.tr_tracee.specs.declared.life.Life.TheVariants as life
use Rattle.tr_tracee.specs.Threads.{no_options}
use Rattle.tr_group.specs.declared.stops.Action.TheVariants.{Catch}
use Rattle.tr_group.specs.declared.stops.GroupStop.TheVariants as gs
use Rattle.tr_model.specs.Preferred.{new_id}
use Rattle.tr_model.specs.declared.events.Event.TheVariants as event
use Rattle.tr_model.specs.declared.fates.Fate.TheVariants.{Pending, Delivered}
use Rattle.tr_model.specs.declared.replies.Did.TheVariants.{Stopping, Reported}
use Rattle.tr_model.specs.declared.replies.Refusal.TheVariants.{Srch, Child, Busy, NotDue}
use Rattle.tr_model.specs.declared.rows.Target.TheVariants as target
use Rattle.tr_model.specs.Runs.{Refused, Call, Entered}
use Rattle.tr_model.specs.Tables.{members, queue}
use Rattle.tr_model.specs.declared.replies.Reply.TheVariants as reply
use Rattle.tr_model.proofs.Worked.{set_of, thread, acting, group_with, one, two, by, mask_of, mask, take_by, take, halt_by, halt, trap, die_by, die, exec_by, exec, finish_by, clone, kill, tgkill, attach, seize_of, seize, cont_of, cont, message_of, message, siginfo, wait, reap, with_clone, with_exec, with_exit, answers, ok, nothing, sent, took_with, took, took_attached, cloned, waited, told, told_signal, left, tally, sums, shared, own, signals_with, life_at, tracer_at, mask_at, exit_by, trap_by, attach_of, interrupt_of, options_of, wait_for, both, lives, ids, stop_marks, trap_marks, stops, attaching, attached, second_blocks_two, exec_with_waiting_signals}

-- clone(2)

abbrev cloning_traced : List Call
cloning_traced = seize with_clone ∷ clone ∷ wait ∷ message ∷ by 11 (event.Trap 11) ∷ wait ∷ []

-- a clone of a seized tracee is seized too, and traps; the parent tells its id
a_clone_of_a_tracee_is_traced : answers one cloning_traced ≡ ok ∷ cloned 11 ∷ waited 10 0x3057f 1 ∷ told 11 ∷ ok ∷ waited 11 0x80057f 2 ∷ []
unfolding in_word new_id
a_clone_of_a_tracee_is_traced = refl

-- a seized tracee makes a thread while a group-stop is in effect
abbrev cloning_in_a_group_stop : List Call
cloning_in_a_group_stop = seize with_clone ∷ kill 19 ∷ take ∷ cont 19 ∷ halt ∷ cont 0 ∷ clone ∷ []

a_clone_made_in_a_group_stop_shows_it_with_its_trap : answers one (cloning_in_a_group_stop ++ wait ∷ trap_by 11 ∷ wait ∷ halt_by 11 ∷ []) ≡ ok ∷ sent 1 Pending ∷ took 10 1 19 Reported ∷ ok ∷ ok ∷ ok ∷ cloned 11 ∷ waited 10 0x3057f 3 ∷ ok ∷ waited 11 0x80137f 4 ∷ Refused NotDue ∷ []
unfolding in_word new_id
a_clone_made_in_a_group_stop_shows_it_with_its_trap = refl

a_group_stop_stays_complete_at_a_clone : stops (left one cloning_in_a_group_stop) ≡ gs.Stopped 19 ∷ []
unfolding in_word new_id
a_group_stop_stays_complete_at_a_clone = refl

a_clone_made_in_a_group_stop_has_to_stop : stop_marks (left one cloning_in_a_group_stop) ≡ false ∷ true ∷ []
unfolding in_word new_id
a_clone_made_in_a_group_stop_has_to_stop = refl

-- and an attached one
abbrev cloning_an_attached_tracee_in_a_group_stop : List Call
cloning_an_attached_tracee_in_a_group_stop = attach ∷ take ∷ options_of 10 with_clone ∷ cont 19 ∷ halt ∷ cont 0 ∷ clone ∷ []

a_clone_of_an_attached_tracee_serves_its_stop_before_it_takes : answers one (cloning_an_attached_tracee_in_a_group_stop ++ take_by 11 ∷ halt_by 11 ∷ wait_for 11 ∷ []) ≡ sent 1 Pending ∷ took_attached ∷ ok ∷ ok ∷ ok ∷ ok ∷ cloned 11 ∷ Refused Busy ∷ ok ∷ waited 11 0x137f 4 ∷ []
unfolding in_word new_id
a_clone_of_an_attached_tracee_serves_its_stop_before_it_takes = refl

a_clone_of_an_attached_tracee_is_sent_a_stop : own (left one cloning_an_attached_tracee_in_a_group_stop) 11 ≡ 19 ∷ []
unfolding in_word new_id
a_clone_of_an_attached_tracee_is_sent_a_stop = refl

a_clone_of_an_attached_tracee_has_not_to_trap : trap_marks (left one cloning_an_attached_tracee_in_a_group_stop) ≡ false ∷ false ∷ []
unfolding in_word new_id
a_clone_of_an_attached_tracee_has_not_to_trap = refl

-- execve(2)

abbrev exec_with_option : List Call
exec_with_option = attaching ++ by 900 (event.SetOptions 10 with_exec) ∷ cont 0 ∷ exec ∷ wait ∷ message ∷ []

-- with the option a tracee stops in its exec, and tells the id that it had
an_exec_with_the_option_stops_the_tracee : answers one exec_with_option ≡ attached ++ ok ∷ ok ∷ ok ∷ waited 10 0x4057f 2 ∷ told 10 ∷ []
unfolding in_word
an_exec_with_the_option_stops_the_tracee = refl

abbrev exec_without_option : List Call
exec_without_option = attaching ++ cont 0 ∷ exec ∷ []

-- without it an attached tracee is sent a SIGTRAP
an_exec_without_the_option_sends_a_trap : own (left one exec_without_option) 10 ≡ 5 ∷ []
unfolding in_word
an_exec_without_the_option_sends_a_trap = refl

-- which is accepted
the_trap_of_an_exec_is_pending : tally one exec_without_option ≡ sums 2 1 0 0 1 0
unfolding in_word
the_trap_of_an_exec_is_pending = refl

-- and stops the tracee
the_trap_of_an_exec_stops_the_tracee : answers one (exec_without_option ++ take ∷ siginfo ∷ wait ∷ []) ≡ attached ++ ok ∷ ok ∷ took_with 10 2 5 (pos 0) 10 (pos 0) Reported ∷ told_signal 5 (pos 0) 10 ∷ waited 10 0x57f 2 ∷ []
unfolding in_word
the_trap_of_an_exec_stops_the_tracee = refl

abbrev exec_of_another : List Call
exec_of_another = seize_of 11 with_exec ∷ mask_of 11 (12 ∷ []) ∷ tgkill 11 12 ∷ exec_by 11 ∷ finish_by 11 ∷ die ∷ finish_by 11 ∷ wait ∷ message ∷ by 900 (event.Wait (One 11)) ∷ cont 0 ∷ []

-- a thread that is not the leader waits in its exec for the death of the others, and then has the leader's id
an_exec_of_another_thread_takes_the_id_of_the_leader : answers two exec_of_another ≡ ok ∷ ok ∷ sent 1 Pending ∷ ok ∷ Refused NotDue ∷ ok ∷ ok ∷ waited 10 0x4057f 1 ∷ told 11 ∷ Refused Child ∷ ok ∷ []
unfolding in_word
an_exec_of_another_thread_takes_the_id_of_the_leader = refl

-- one thread is left, under that id
one_thread_is_left_after_an_exec : map (λ t. t.id) (left two exec_of_another).threads ≡ 10 ∷ []
unfolding in_word
one_thread_is_left_after_an_exec = refl

-- it is traced as before
an_exec_keeps_the_tracer : tracer_at (left two exec_of_another) 10 ≡ Some 900
unfolding in_word
an_exec_keeps_the_tracer = refl

-- what waited for it waits for it
an_exec_keeps_the_own_queue : own (left two exec_of_another) 10 ≡ 12 ∷ []
unfolding in_word
an_exec_keeps_the_own_queue = refl

-- and its mask is the same
an_exec_keeps_the_mask : mask_at (left two exec_of_another) 10 ≡ Some (set_of (12 ∷ []))
unfolding in_word
an_exec_keeps_the_mask = refl

-- no signal was lost
a_signal_is_pending_after_an_exec : (tally two exec_of_another).pending ≡ 1
unfolding in_word
a_signal_is_pending_after_an_exec = refl

-- SIGKILL ends a thread in its exec, and the others
a_kill_ends_an_exec : answers two (seize_of 11 with_exec ∷ exec_by 11 ∷ kill 9 ∷ finish_by 11 ∷ die ∷ die_by 11 ∷ wait ∷ reap ∷ []) ≡ ok ∷ ok ∷ sent 1 Delivered ∷ Refused NotDue ∷ ok ∷ ok ∷ waited 11 9 1 ∷ waited 10 9 2 ∷ []
unfolding in_word
a_kill_ends_an_exec = refl

abbrev exec_of_the_leader : List Call
exec_of_the_leader = seize_of 11 with_exit ∷ exec ∷ die_by 11 ∷ wait ∷ message_of 11 ∷ cont_of 11 0 ∷ finish_by 10 ∷ die_by 11 ∷ finish_by 10 ∷ wait ∷ []

-- the leader waits in its exec for the others, which have their exit stops
an_exec_of_the_leader_waits_for_the_exit_stops_of_the_others : answers two exec_of_the_leader ≡ ok ∷ ok ∷ ok ∷ waited 11 0x6057f 1 ∷ told 0 ∷ ok ∷ Refused NotDue ∷ ok ∷ ok ∷ waited 11 0 2 ∷ []
unfolding in_word
an_exec_of_the_leader_waits_for_the_exit_stops_of_the_others = refl

-- it is alone then
the_leader_is_alone_after_its_exec : length (members (left two exec_of_the_leader) 10) ≡ 1
unfolding in_word
the_leader_is_alone_after_its_exec = refl

-- and runs
the_leader_runs_after_its_exec : life_at (left two exec_of_the_leader) 10 ≡ Some life.Free
unfolding in_word
the_leader_runs_after_its_exec = refl

-- a thread that is not the leader calls execve(2) while the leader is in its exit stop
abbrev exec_beside_an_exit_stop : List Call
exec_beside_an_exit_stop = seize with_exit ∷ exit_by 10 4 ∷ exec_by 11 ∷ []

an_exec_breaks_the_exit_stop_of_the_leader : answers two (exec_beside_an_exit_stop ++ wait ∷ cont 0 ∷ finish_by 11 ∷ die ∷ wait ∷ finish_by 11 ∷ wait ∷ []) ≡ ok ∷ ok ∷ ok ∷ nothing ∷ Refused Srch ∷ Refused NotDue ∷ ok ∷ nothing ∷ ok ∷ Refused Child ∷ []
unfolding in_word
an_exec_breaks_the_exit_stop_of_the_leader = refl

a_leader_in_its_exit_stop_keeps_its_end_at_an_exec : lives (left two exec_beside_an_exit_stop) ≡ life.Leaving (Exited 4) true ∷ life.Execing ∷ []
unfolding in_word
a_leader_in_its_exit_stop_keeps_its_end_at_an_exec = refl

one_thread_is_left_after_an_exec_beside_an_exit_stop : ids (left two (exec_beside_an_exit_stop ++ die ∷ finish_by 11 ∷ [])) ≡ 10 ∷ []
unfolding in_word
one_thread_is_left_after_an_exec_beside_an_exit_stop = refl

signals_of_a_thread_keep_their_order_in_an_exec : map (λ i. i.n) (queue (left second_blocks_two exec_with_waiting_signals) (target.Thread 10)) ≡ 1 ∷ 3 ∷ 4 ∷ []
unfolding in_word
signals_of_a_thread_keep_their_order_in_an_exec = refl

nothing_waits_for_a_former_id : own (left second_blocks_two exec_with_waiting_signals) 11 ≡ []
unfolding in_word
nothing_waits_for_a_former_id = refl

the_shared_queue_stays_in_an_exec : shared (left second_blocks_two exec_with_waiting_signals) ≡ 40 ∷ []
unfolding in_word
the_shared_queue_stays_in_an_exec = refl

-- an execve(2) during a group-stop
abbrev restarting_during_a_group_stop : List Call
restarting_during_a_group_stop = seize_of 11 no_options ∷ kill 19 ∷ take ∷ halt_by 11 ∷ cont_of 11 0 ∷ []

a_group_stop_waits_for_the_thread_that_took_it : stops (left two restarting_during_a_group_stop) ≡ gs.Stopping 19 ∷ []
unfolding in_word
a_group_stop_waits_for_the_thread_that_took_it = refl

an_exec_that_takes_the_last_mark_away_completes_a_group_stop : stops (left two (restarting_during_a_group_stop ++ exec_by 11 ∷ [])) ≡ gs.Stopped 19 ∷ []
unfolding in_word
an_exec_that_takes_the_last_mark_away_completes_a_group_stop = refl

a_group_stop_outlasts_an_exec : answers two (restarting_during_a_group_stop ++ exec_by 11 ∷ die ∷ finish_by 11 ∷ both ∷ kill 18 ∷ trap ∷ wait ∷ []) ≡ ok ∷ sent 1 Pending ∷ took 10 1 19 Stopping ∷ ok ∷ ok ∷ ok ∷ ok ∷ ok ∷ nothing ∷ sent 2 Pending ∷ ok ∷ waited 10 0x80057f 2 ∷ []
unfolding in_word
a_group_stop_outlasts_an_exec = refl

-- an attached thread that is not the leader calls execve(2)
abbrev exec_of_an_attached_thread : List Call
exec_of_an_attached_thread = attach_of 11 ∷ take_by 11 ∷ cont_of 11 0 ∷ exec_by 11 ∷ []

caught_signals_stay_caught_while_an_exec_waits : signals_with Catch (left (group_with (thread 10 ∷ thread 11 ∷ []) (acting Catch (12 ∷ []))) exec_of_an_attached_thread) ≡ 12 ∷ []
unfolding in_word
caught_signals_stay_caught_while_an_exec_waits = refl

caught_signals_have_the_default_action_after_an_exec : signals_with Catch (left (group_with (thread 10 ∷ thread 11 ∷ []) (acting Catch (12 ∷ []))) (exec_of_an_attached_thread ++ die ∷ finish_by 11 ∷ [])) ≡ []
unfolding in_word
caught_signals_have_the_default_action_after_an_exec = refl

the_trap_of_an_exec_tells_the_id_of_the_leader : answers two (exec_of_an_attached_thread ++ die ∷ finish_by 11 ∷ take ∷ []) ≡ sent 1 Pending ∷ took_with 11 1 19 (pos 128) 0 (pos 0) Reported ∷ ok ∷ ok ∷ ok ∷ ok ∷ took_with 10 2 5 (pos 0) 10 (pos 0) Reported ∷ []
unfolding in_word
the_trap_of_an_exec_tells_the_id_of_the_leader = refl

-- PTRACE_INTERRUPT of a thread that waits in its execve(2)
abbrev interrupting_an_exec : List Call
interrupting_an_exec = seize_of 11 no_options ∷ exec_by 11 ∷ interrupt_of 11 ∷ die ∷ finish_by 11 ∷ []

a_thread_interrupted_in_its_exec_traps_after_it : answers two (interrupting_an_exec ++ mask [] ∷ trap ∷ wait ∷ []) ≡ ok ∷ ok ∷ ok ∷ ok ∷ ok ∷ Refused Busy ∷ ok ∷ waited 10 0x80057f 1 ∷ []
unfolding in_word
a_thread_interrupted_in_its_exec_traps_after_it = refl

-- Clones beside others

-- a clone of a seized tracee is sent no signal
a_clone_of_a_seized_tracee_is_sent_nothing : own (left one cloning_traced) 11 ≡ []
unfolding in_word new_id
a_clone_of_a_seized_tracee_is_sent_nothing = refl

-- that of an attached one is sent its SIGSTOP by the kernel
the_stop_of_a_clone_has_no_sender : answers one (attach ∷ take ∷ options_of 10 with_clone ∷ cont 0 ∷ clone ∷ take_by 11 ∷ []) ≡ sent 1 Pending ∷ took_attached ∷ ok ∷ ok ∷ cloned 11 ∷ Entered (reply.Took Reported 11 (record { n = 2; sig = 19; info = record { code = pos 0; pid = 0; value = pos 0 } })) ∷ []
unfolding in_word new_id
the_stop_of_a_clone_has_no_sender = refl

-- a thread that is not the leader clones in a group-stop
abbrev cloning_beside_the_leader : List Call
cloning_beside_the_leader = seize_of 11 with_clone ∷ kill 19 ∷ take ∷ halt ∷ halt_by 11 ∷ cont_of 11 0 ∷ by 11 (event.CloneThread 11) ∷ []

-- the thread that clones stops, and tells the id
a_thread_that_is_not_the_leader_clones : answers two (cloning_beside_the_leader ++ wait ∷ message_of 11 ∷ []) ≡ ok ∷ sent 1 Pending ∷ took 10 1 19 Stopping ∷ ok ∷ ok ∷ ok ∷ cloned 12 ∷ waited 11 0x3057f 2 ∷ told 12 ∷ []
unfolding in_word new_id
a_thread_that_is_not_the_leader_clones = refl

-- its clone is traced as it is
a_clone_has_the_tracer_of_the_thread_that_cloned : tracer_at (left two cloning_beside_the_leader) 12 ≡ Some 900
unfolding in_word new_id
a_clone_has_the_tracer_of_the_thread_that_cloned = refl

-- and has to stop as its group does
a_clone_has_to_stop_with_its_group : stop_marks (left two cloning_beside_the_leader) ≡ false ∷ false ∷ true ∷ []
unfolding in_word new_id
a_clone_has_to_stop_with_its_group = refl

-- Execs beside a dead leader

abbrev exec_beside_a_dead_leader : List Call
exec_beside_a_dead_leader = exit_by 10 0 ∷ die ∷ exec_by 11 ∷ []

-- the last thread that lives waits for nobody, but its execve(2) is still to be done
a_thread_beside_a_dead_leader_waits_in_its_exec : lives (left two exec_beside_a_dead_leader) ≡ life.Dead (Exited 0) ∷ life.Execing ∷ []
unfolding in_word
a_thread_beside_a_dead_leader_waits_in_its_exec = refl

-- and then it has the leader's id
a_thread_takes_the_place_of_a_dead_leader : answers two (exec_beside_a_dead_leader ++ finish_by 11 ∷ mask_of 11 [] ∷ mask [] ∷ []) ≡ ok ∷ ok ∷ ok ∷ ok ∷ Refused Srch ∷ ok ∷ []
unfolding in_word
a_thread_takes_the_place_of_a_dead_leader = refl

-- What an exec ends

-- what another thread holds is flushed
an_exec_flushes_what_another_thread_holds : tally two (seize no_options ∷ tgkill 10 10 ∷ take ∷ exec_by 11 ∷ []) ≡ sums 1 0 0 0 0 1
unfolding in_word
an_exec_flushes_what_another_thread_holds = refl

-- a leader that is alone runs on at once
a_leader_alone_does_not_wait_in_its_exec : answers one (exec ∷ mask [] ∷ []) ≡ ok ∷ ok ∷ []
unfolding in_word
a_leader_alone_does_not_wait_in_its_exec = refl
