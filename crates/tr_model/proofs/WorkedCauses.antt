-- What is refused, and for which of several causes.
use Rattle.std.proofs.Common.{◌≡◌, [], ◌∷◌, true, List, None, Some, false, map, negsuc, pos, ℕ, refl}
use Rattle.tr_sigset.specs.Sets.{in_word}
use Rattle.tr_wait.specs.declared.waits.Which.TheVariants.{Any}
use Rattle.tr_tracee.specs.Threads.{no_options}
use Rattle.tr_group.specs.declared.stops.Action.TheVariants.{Ignore, Catch}
use Rattle.tr_model.specs.declared.events.Event.TheVariants as event
use Rattle.tr_model.specs.declared.fates.Fate.TheVariants.{Pending, Flushed}
use Rattle.tr_model.specs.declared.replies.Refusal.TheVariants.{Perm, Srch, Io, Child, Again, Inval, NotRunning, JournalFull, Unmodelled, Busy, NotDue}
use Rattle.tr_model.specs.declared.replies.Reply.TheVariants as reply
use Rattle.tr_model.specs.Runs.{Read, Refused, Call}
use Rattle.tr_model.specs.Tables.{Table}
use Rattle.tr_model.specs.declared.replies.Did.TheVariants.{Caught, Reported, Stopping}
use Rattle.tr_tracee.specs.declared.life.End.TheVariants.{Killed}
use Rattle.tr_model.specs.Preferred.{new_id}
use Rattle.tr_model.specs.Causes.{quiet_of}
use Rattle.tr_tracee.specs.declared.life.Life.TheVariants as life
use Rattle.tr_tracee.specs.declared.life.Stop.TheVariants as stop
use Rattle.tr_wait.specs.declared.status.StopSig.TheVariants as stop_sig
use Rattle.tr_model.proofs.Worked.{blocking, group_of, one, by, mask, action, die, kill, seize, interrupt, cont, listen, message, siginfo, reap, with_exit, answers, ok, sent, waited, told, tally, exit_by, attach_of, detach_of, three_groups, pause, clone, cloned, cont_of, count_up, die_by, exec, exit_group_by, finish_by, group_record, halt, kill_of, leader, mask_of, nothing, seize_of, set_of, sigqueue_of, take, take_by, tgkill, thread, took, took_with, trap, two, wait, wait_stopped}

-- Causes

abbrev one_entry : Table
one_entry = record (group_of (blocking (10 ∷ []) 10 ∷ [])) { entries = 1 }

-- with as many entries as the entry limit no more are made, but a signal 0 is answered
a_full_journal_takes_no_entry_but_answers_what_needs_none : answers one_entry (kill 10 ∷ kill 10 ∷ kill 0 ∷ []) ≡ sent 1 Pending ∷ Refused JournalFull ∷ Read reply.Exists ∷ []
unfolding in_word
a_full_journal_takes_no_entry_but_answers_what_needs_none = refl

-- one signal is accepted
a_full_journal_accepts_no_signal : (tally one_entry (kill 10 ∷ kill 10 ∷ kill 0 ∷ [])).accepted ≡ 1
unfolding in_word
a_full_journal_accepts_no_signal = refl

-- PTRACE_INTERRUPT, PTRACE_LISTEN, restarts and questions at an exit stop
requests_at_an_exit_stop_are_answered_by_the_kind_of_stop : answers one (seize with_exit ∷ exit_by 10 0 ∷ interrupt ∷ listen ∷ cont 65 ∷ siginfo ∷ message ∷ detach_of 10 0 ∷ die ∷ reap ∷ []) ≡ ok ∷ ok ∷ Refused Srch ∷ Refused Io ∷ Refused Io ∷ Refused Unmodelled ∷ told 0 ∷ ok ∷ ok ∷ waited 10 0 2 ∷ []
unfolding in_word
requests_at_an_exit_stop_are_answered_by_the_kind_of_stop = refl

-- the first cause in the order of the checks
of_several_causes_the_first_refuses : answers three_groups (by 901 (event.Tgkill 10 20 10) ∷ seize no_options ∷ cont 65 ∷ by 10 (event.Exit 20 0) ∷ attach_of 20 ∷ by 2 (event.StarterWait Any (record { untraced = true; continued = true })) ∷ []) ≡ Refused Srch ∷ ok ∷ Refused Srch ∷ ok ∷ Refused Perm ∷ Refused Child ∷ []
unfolding in_word
of_several_causes_the_first_refuses = refl

a_send_and_a_script_are_refused_by_their_first_cause : answers (record one { limit = 0 }) (by 901 (event.Kill 99 40) ∷ kill 65 ∷ kill 40 ∷ pause ∷ action 9 Ignore ∷ kill 12 ∷ mask [] ∷ []) ≡ Refused Srch ∷ Refused Inval ∷ Refused Again ∷ ok ∷ Refused NotRunning ∷ sent 1 Pending ∷ Refused NotRunning ∷ []
unfolding in_word
a_send_and_a_script_are_refused_by_their_first_cause = refl

-- Whoever asks

abbrev asking_for_another : List Call
asking_for_another = by 500 (event.SetAction 11 12 Catch) ∷ by 500 (event.Mask 11 (set_of (12 ∷ []))) ∷ tgkill 11 12 ∷ by 500 (event.Take 11) ∷ by 500 (event.Mask 11 (set_of [])) ∷ by 500 (event.Take 11) ∷ by 500 (event.Take 11) ∷ by 500 (event.Pause 11) ∷ by 500 (event.Mask 11 (set_of [])) ∷ []

-- an event is of the thread that it names, whoever asks for it
an_event_is_of_the_thread_that_it_names : answers two asking_for_another ≡ ok ∷ ok ∷ sent 1 Pending ∷ nothing ∷ ok ∷ took_with 11 1 12 (negsuc 5) 901 (pos 0) Caught ∷ nothing ∷ ok ∷ Refused NotRunning ∷ []
unfolding in_word
an_event_is_of_the_thread_that_it_names = refl

-- so is a trap
a_trap_is_of_the_tracee_that_it_names : answers two (seize no_options ∷ interrupt ∷ by 500 (event.Trap 10) ∷ wait ∷ []) ≡ ok ∷ ok ∷ ok ∷ waited 10 0x80057f 1 ∷ []
unfolding in_word
a_trap_is_of_the_tracee_that_it_names = refl

-- and a halt
a_halt_is_of_the_thread_that_it_names : answers one (kill 19 ∷ take ∷ by 500 (event.Halt 10) ∷ wait_stopped ∷ []) ≡ sent 1 Pending ∷ took 10 1 19 Stopping ∷ ok ∷ waited 10 0x137f 1 ∷ []
unfolding in_word
a_halt_is_of_the_thread_that_it_names = refl

abbrev cloning_and_ending_another : List Call
cloning_and_ending_another = by 500 (event.CloneThread 10) ∷ by 500 (event.Exec 11) ∷ by 500 (event.Finish 11) ∷ by 500 (event.Die 10) ∷ by 500 (event.Finish 11) ∷ by 500 (event.ExitGroup 10 7) ∷ by 500 (event.Die 10) ∷ reap ∷ []

-- and a clone, an execve(2) and the end of one, a death and an exit_group(2)
a_clone_an_exec_and_an_end_are_of_the_thread_that_they_name : answers one cloning_and_ending_another ≡ cloned 11 ∷ ok ∷ Refused NotDue ∷ ok ∷ ok ∷ ok ∷ ok ∷ waited 10 0x700 1 ∷ []
unfolding in_word new_id
a_clone_an_exec_and_an_end_are_of_the_thread_that_they_name = refl

-- and an _exit(2)
an_exit_is_of_the_thread_that_it_names : answers one (by 500 (event.Exit 10 3) ∷ die ∷ reap ∷ []) ≡ ok ∷ ok ∷ waited 10 0x300 1 ∷ []
unfolding in_word
an_exit_is_of_the_thread_that_it_names = refl

-- Threads

-- ESRCH where there is no such thread
an_event_wants_its_thread_to_be_there : answers one (mask_of 99 [] ∷ die_by 99 ∷ attach_of 99 ∷ cont_of 99 0 ∷ []) ≡ Refused Srch ∷ Refused Srch ∷ Refused Srch ∷ Refused Srch ∷ []
unfolding in_word
an_event_wants_its_thread_to_be_there = refl

-- while it pauses a thread does nothing of its own
a_thread_that_pauses_does_nothing_of_its_own : answers one (pause ∷ pause ∷ action 12 Ignore ∷ clone ∷ exec ∷ exit_by 10 0 ∷ exit_group_by 10 0 ∷ []) ≡ ok ∷ Refused NotRunning ∷ Refused NotRunning ∷ Refused NotRunning ∷ Refused NotRunning ∷ Refused NotRunning ∷ Refused NotRunning ∷ []
unfolding in_word new_id
a_thread_that_pauses_does_nothing_of_its_own = refl

-- nor in a ptrace-stop, where it takes no signal either, also with a mark to serve
a_stopped_thread_does_nothing_of_its_own : answers one (seize no_options ∷ interrupt ∷ trap ∷ mask [] ∷ interrupt ∷ take ∷ trap ∷ []) ≡ ok ∷ ok ∷ ok ∷ Refused NotRunning ∷ ok ∷ Refused NotRunning ∷ Refused NotDue ∷ []
unfolding in_word
a_stopped_thread_does_nothing_of_its_own = refl

-- a thread with a signal to take takes it first
a_thread_with_a_signal_to_take_is_busy : answers one (kill 12 ∷ mask [] ∷ []) ≡ sent 1 Pending ∷ Refused Busy ∷ []
unfolding in_word
a_thread_with_a_signal_to_take_is_busy = refl

-- a trap wants a mark, a death a thread that leaves, the end of an execve(2) one that waits for it
what_a_thread_is_not_asked_for_is_not_due : answers one (trap ∷ die ∷ finish_by 10 ∷ []) ≡ Refused NotDue ∷ Refused NotDue ∷ Refused NotDue ∷ []
unfolding in_word
what_a_thread_is_not_asked_for_is_not_due = refl

-- a thread serves its stop mark once it runs
a_stopped_tracee_with_a_stop_mark_does_not_halt : answers two (seize no_options ∷ tgkill 10 10 ∷ take ∷ kill 19 ∷ take_by 11 ∷ halt ∷ []) ≡ ok ∷ sent 1 Pending ∷ took_with 10 1 10 (negsuc 5) 901 (pos 0) Reported ∷ sent 2 Pending ∷ took 11 2 19 Stopping ∷ Refused NotDue ∷ []
unfolding in_word
a_stopped_tracee_with_a_stop_mark_does_not_halt = refl

-- a take by any thread wants the group
a_take_by_any_thread_wants_the_group_to_be_there : answers one (by 900 (event.TakeAny 99) ∷ []) ≡ Refused Srch ∷ []
unfolding in_word
a_take_by_any_thread_wants_the_group_to_be_there = refl

-- there is nothing to take for a thread that is not there
a_thread_that_is_not_there_can_take_nothing : quiet_of one 900 (event.Take 99) ≡ Some reply.Nothing
unfolding in_word
a_thread_that_is_not_there_can_take_nothing = refl

-- Signals

abbrev no_place : Table
no_place = record one { limit = 0 }

-- EINVAL before ESRCH, by each of the three calls
a_number_that_is_no_signal_refuses_a_send_first : answers no_place (kill_of 99 65 ∷ by 901 (event.Tgkill 10 99 65) ∷ sigqueue_of 99 65 ∷ tgkill 10 65 ∷ sigqueue_of 10 65 ∷ []) ≡ Refused Inval ∷ Refused Inval ∷ Refused Inval ∷ Refused Inval ∷ Refused Inval ∷ []
unfolding in_word
a_number_that_is_no_signal_refuses_a_send_first = refl

-- ESRCH before EAGAIN, and EAGAIN for a real-time signal alone
a_full_queue_refuses_a_real_time_signal_to_a_target_that_is_there : answers no_place (tgkill 99 40 ∷ sigqueue_of 99 40 ∷ tgkill 10 40 ∷ sigqueue_of 10 40 ∷ tgkill 10 12 ∷ sigqueue_of 10 10 ∷ []) ≡ Refused Srch ∷ Refused Srch ∷ Refused Again ∷ Refused Again ∷ sent 1 Pending ∷ sent 2 Pending ∷ []
unfolding in_word
a_full_queue_refuses_a_real_time_signal_to_a_target_that_is_there = refl

-- signal 0 asks whether the target is there
signal_0_asks_whether_a_thread_or_a_group_is_there : answers one (tgkill 10 0 ∷ sigqueue_of 10 0 ∷ tgkill 99 0 ∷ sigqueue_of 99 0 ∷ []) ≡ Read reply.Exists ∷ Read reply.Exists ∷ Refused Srch ∷ Refused Srch ∷ []
unfolding in_word
signal_0_asks_whether_a_thread_or_a_group_is_there = refl

-- SIGKILL and SIGSTOP have no action, nor have 0 and numbers above 64
an_action_is_of_a_signal_but_not_of_kill_or_stop : answers one (action 0 Ignore ∷ action 9 Ignore ∷ action 19 Ignore ∷ action 65 Ignore ∷ action 1 Ignore ∷ action 18 Ignore ∷ action 20 Ignore ∷ action 64 Ignore ∷ []) ≡ Refused Inval ∷ Refused Inval ∷ Refused Inval ∷ Refused Inval ∷ ok ∷ ok ∷ ok ∷ ok ∷ []
unfolding in_word
an_action_is_of_a_signal_but_not_of_kill_or_stop = refl

-- Tracees

-- a request is for the tracer alone
only_its_tracer_asks_for_a_stopped_tracee : answers one (seize no_options ∷ interrupt ∷ trap ∷ by 902 (event.Interrupt 10) ∷ by 902 (event.Cont 10 0) ∷ by 902 (event.Listen 10) ∷ by 902 (event.Detach 10 0) ∷ by 902 (event.SetOptions 10 no_options) ∷ by 902 (event.EventMessage 10) ∷ by 902 (event.SignalInfo 10) ∷ []) ≡ ok ∷ ok ∷ ok ∷ Refused Srch ∷ Refused Srch ∷ Refused Srch ∷ Refused Srch ∷ Refused Srch ∷ Refused Srch ∷ Refused Srch ∷ []
unfolding in_word
only_its_tracer_asks_for_a_stopped_tracee = refl

-- ESRCH before EIO
a_request_wants_a_stopped_tracee_first : answers one (interrupt ∷ seize no_options ∷ listen ∷ cont 65 ∷ detach_of 10 65 ∷ []) ≡ Refused Srch ∷ ok ∷ Refused Srch ∷ Refused Srch ∷ Refused Srch ∷ []
unfolding in_word
a_request_wants_a_stopped_tracee_first = refl

-- a restart and a detach pass on each signal, 64 too, but no greater number
the_greatest_number_of_a_restart_is_64 : answers one (seize no_options ∷ interrupt ∷ trap ∷ cont 65 ∷ cont 64 ∷ interrupt ∷ trap ∷ detach_of 10 65 ∷ detach_of 10 64 ∷ []) ≡ ok ∷ ok ∷ ok ∷ Refused Io ∷ ok ∷ ok ∷ ok ∷ Refused Io ∷ ok ∷ []
unfolding in_word
the_greatest_number_of_a_restart_is_64 = refl

-- PTRACE_SEIZE wants an untraced thread
a_tracee_is_not_seized_again : answers one (seize no_options ∷ seize no_options ∷ []) ≡ ok ∷ Refused Perm ∷ []
unfolding in_word
a_tracee_is_not_seized_again = refl

-- no journal leads to an event stop of an attached tracee
abbrev event_stop_of_an_attached_tracee : Table
event_stop_of_an_attached_tracee = group_of (record (thread 10) { life = life.InStop (stop.Event stop_sig.Trap); trace = Some (record { tracer = 900; seized = false; options = no_options }) } ∷ [])

-- PTRACE_LISTEN is for seized tracees, whatever their stop
an_attached_tracee_does_not_listen_in_any_stop : answers event_stop_of_an_attached_tracee (listen ∷ []) ≡ Refused Io ∷ []
unfolding in_word
an_attached_tracee_does_not_listen_in_any_stop = refl

-- Dying groups

-- no journal leads to a thread that runs in a dying group
abbrev free_in_a_dying_group : Table
free_in_a_dying_group = record two { groups = record (group_record 10) { end = Some (Killed 15) } ∷ [] }

-- nobody is traced any more where the group is dying
a_thread_of_a_dying_group_is_not_traced : answers free_in_a_dying_group (attach_of 11 ∷ seize_of 11 no_options ∷ attach_of 10 ∷ []) ≡ Refused Perm ∷ Refused Perm ∷ Refused Perm ∷ []
unfolding in_word
a_thread_of_a_dying_group_is_not_traced = refl

-- nor does a signal reach it
a_signal_to_a_dying_group_is_flushed : answers free_in_a_dying_group (tgkill 11 12 ∷ kill 12 ∷ []) ≡ sent 1 Flushed ∷ sent 2 Flushed ∷ []
unfolding in_word
a_signal_to_a_dying_group_is_flushed = refl

-- Limits

abbrev beside : ℕ → Table
beside others = record one { threads = thread 10 ∷ map leader (count_up 100 others) }

-- 1,024 threads are the most in the table
a_table_of_1024_threads_takes_no_more : answers (beside 1022) (clone ∷ clone ∷ []) ≡ cloned 11 ∷ Refused Again ∷ []
unfolding in_word new_id
a_table_of_1024_threads_takes_no_more = refl

abbrev sixty_four_threads : Table
sixty_four_threads = group_of (map thread (count_up 10 64))

-- 64 are the most in a group, whichever of them clones; one that pauses is refused for that first
a_group_of_64_threads_takes_no_more : answers sixty_four_threads (by 11 (event.CloneThread 11) ∷ pause ∷ clone ∷ []) ≡ Refused Again ∷ ok ∷ Refused NotRunning ∷ []
unfolding in_word new_id
a_group_of_64_threads_takes_no_more = refl

-- Listeners

-- a thread that listens serves its marks, but does nothing of its own
a_listener_does_nothing_of_its_own : answers one (seize no_options ∷ interrupt ∷ trap ∷ listen ∷ mask [] ∷ take ∷ []) ≡ ok ∷ ok ∷ ok ∷ ok ∷ Refused NotRunning ∷ Refused NotRunning ∷ []
unfolding in_word
a_listener_does_nothing_of_its_own = refl

-- PTRACE_LISTEN wants a PTRACE_EVENT_STOP
a_tracee_does_not_listen_in_a_signal_delivery_stop : answers one (seize no_options ∷ kill 10 ∷ take ∷ listen ∷ []) ≡ ok ∷ sent 1 Pending ∷ took 10 1 10 Reported ∷ Refused Io ∷ []
unfolding in_word
a_tracee_does_not_listen_in_a_signal_delivery_stop = refl

-- Questions

-- only a ptrace-stop that has a message or a signal answers for it
what_has_no_answer_is_not_answered : map (quiet_of one 900) (event.EventMessage 99 ∷ event.EventMessage 10 ∷ event.SignalInfo 99 ∷ event.SignalInfo 10 ∷ []) ≡ None ∷ None ∷ None ∷ None ∷ []
unfolding in_word
what_has_no_answer_is_not_answered = refl
