use Rattle.tr_kernel.proofs.events.check.Goals as goal

pub returns-in-Kill : goal.returns-in-Kill
returns-in-Kill c = rw c.in-Kill.is (c.check_kill.ensures c.args.actor)

pub returns-in-Tgkill : goal.returns-in-Tgkill
returns-in-Tgkill c = rw c.in-Tgkill.is (c.check_tgkill.ensures c.args.actor)

pub returns-in-Sigqueue : goal.returns-in-Sigqueue
returns-in-Sigqueue c = rw c.in-Sigqueue.is (c.check_sigqueue.ensures c.args.actor)

pub returns-in-Mask : goal.returns-in-Mask
returns-in-Mask c = rw c.in-Mask.is (c.check_mask.ensures c.args.actor)

pub returns-in-SetAction : goal.returns-in-SetAction
returns-in-SetAction c = rw c.in-SetAction.is (c.check_set_action.ensures c.args.actor)

pub returns-in-Pause : goal.returns-in-Pause
returns-in-Pause c = rw c.in-Pause.is (c.check_pause.ensures c.args.actor)

pub returns-in-Take : goal.returns-in-Take
returns-in-Take c = rw c.in-Take.is (c.check_take.ensures c.args.actor)

pub returns-in-TakeAny : goal.returns-in-TakeAny
returns-in-TakeAny c = rw c.in-TakeAny.is (c.check_take_any.ensures c.args.actor)

pub returns-in-Halt : goal.returns-in-Halt
returns-in-Halt c = rw c.in-Halt.is (c.check_halt.ensures c.args.actor)

pub returns-in-Trap : goal.returns-in-Trap
returns-in-Trap c = rw c.in-Trap.is (c.check_trap.ensures c.args.actor)

pub returns-in-Die : goal.returns-in-Die
returns-in-Die c = rw c.in-Die.is (c.check_die.ensures c.args.actor)

pub returns-in-CloneThread : goal.returns-in-CloneThread
returns-in-CloneThread c = rw c.in-CloneThread.is (c.check_clone_thread.ensures c.args.actor)

pub returns-in-Exec : goal.returns-in-Exec
returns-in-Exec c = rw c.in-Exec.is (c.check_exec.ensures c.args.actor)

pub returns-in-Finish : goal.returns-in-Finish
returns-in-Finish c = rw c.in-Finish.is (c.check_finish.ensures c.args.actor)

pub returns-in-Exit : goal.returns-in-Exit
returns-in-Exit c = rw c.in-Exit.is (c.check_exit.ensures c.args.actor)

pub returns-in-ExitGroup : goal.returns-in-ExitGroup
returns-in-ExitGroup c = rw c.in-ExitGroup.is (c.check_exit_group.ensures c.args.actor)

pub returns-in-Attach : goal.returns-in-Attach
returns-in-Attach c = rw c.in-Attach.is (c.check_attach.ensures c.args.actor)

pub returns-in-Seize : goal.returns-in-Seize
returns-in-Seize c = rw c.in-Seize.is (c.check_seize.ensures c.args.actor)

pub returns-in-Interrupt : goal.returns-in-Interrupt
returns-in-Interrupt c = rw c.in-Interrupt.is (c.check_interrupt.ensures)

pub returns-in-Cont : goal.returns-in-Cont
returns-in-Cont c = rw c.in-Cont.is (c.check_cont.ensures)

pub returns-in-Listen : goal.returns-in-Listen
returns-in-Listen c = rw c.in-Listen.is (c.check_listen.ensures)

pub returns-in-Detach : goal.returns-in-Detach
returns-in-Detach c = rw c.in-Detach.is (c.check_detach.ensures)

pub returns-in-SetOptions : goal.returns-in-SetOptions
returns-in-SetOptions c = rw c.in-SetOptions.is (c.check_set_options.ensures)

pub returns-in-EventMessage : goal.returns-in-EventMessage
returns-in-EventMessage c = rw c.in-EventMessage.is (c.check_event_message.ensures)

pub returns-in-SignalInfo : goal.returns-in-SignalInfo
returns-in-SignalInfo c = rw c.in-SignalInfo.is (c.check_signal_info.ensures)

pub returns-in-TracerExit : goal.returns-in-TracerExit
returns-in-TracerExit c = rw c.in-TracerExit.is (c.check_tracer_exit.ensures)

pub returns-in-Wait : goal.returns-in-Wait
returns-in-Wait c = rw c.in-Wait.is (c.check_wait.ensures)

pub returns-in-StarterWait : goal.returns-in-StarterWait
returns-in-StarterWait c = rw c.in-StarterWait.is (c.check_starter_wait.ensures)
