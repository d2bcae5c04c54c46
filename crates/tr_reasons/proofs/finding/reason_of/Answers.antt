use Rattle.std.proofs.Common.{◌∙◌, refl}
use Rattle.tr_reasons.proofs.Firsts.{first_alone}
use Rattle.tr_reasons.proofs.finding.reason_of.Goals as goal

pub returns-in-Kill : goal.returns-in-Kill
returns-in-Kill c = rw c.in-Kill.is (rw c.group_missing.ensures at c.send_reason.ensures)

pub returns-in-Tgkill : goal.returns-in-Tgkill
returns-in-Tgkill c = rw c.in-Tgkill.is (rw c.member_missing.ensures at c.send_reason-in-Tgkill.ensures)

pub returns-in-Sigqueue : goal.returns-in-Sigqueue
returns-in-Sigqueue c = rw c.in-Sigqueue.is (rw c.group_missing-in-Sigqueue.ensures at c.send_reason-in-Sigqueue.ensures)

pub returns-in-Mask : goal.returns-in-Mask
returns-in-Mask c = rw c.in-Mask.is c.own_at.ensures

pub returns-in-SetAction : goal.returns-in-SetAction
returns-in-SetAction c = rw c.in-SetAction.is c.set_action_at.ensures

pub returns-in-Pause : goal.returns-in-Pause
returns-in-Pause c = rw c.in-Pause.is c.own_at-in-Pause.ensures

pub returns-in-Take : goal.returns-in-Take
returns-in-Take c = rw c.in-Take.is c.take_at.ensures

pub returns-in-TakeAny : goal.returns-in-TakeAny
returns-in-TakeAny c = rw c.in-TakeAny.is (c.group_missing-in-TakeAny.ensures ∙ first_alone _)

pub returns-in-Halt : goal.returns-in-Halt
returns-in-Halt c = rw c.in-Halt.is c.halt_at.ensures

pub returns-in-Trap : goal.returns-in-Trap
returns-in-Trap c = rw c.in-Trap.is c.trap_at.ensures

pub returns-in-Die : goal.returns-in-Die
returns-in-Die c = rw c.in-Die.is c.die_at.ensures

pub returns-in-CloneThread : goal.returns-in-CloneThread
returns-in-CloneThread c = rw c.in-CloneThread.is c.clone_at.ensures

pub returns-in-Exec : goal.returns-in-Exec
returns-in-Exec c = rw c.in-Exec.is c.own_at-in-Exec.ensures

pub returns-in-Finish : goal.returns-in-Finish
returns-in-Finish c = rw c.in-Finish.is c.finish_at.ensures

pub returns-in-Exit : goal.returns-in-Exit
returns-in-Exit c = rw c.in-Exit.is c.own_at-in-Exit.ensures

pub returns-in-ExitGroup : goal.returns-in-ExitGroup
returns-in-ExitGroup c = rw c.in-ExitGroup.is c.own_at-in-ExitGroup.ensures

pub returns-in-Attach : goal.returns-in-Attach
returns-in-Attach c = rw c.in-Attach.is c.attach_at.ensures

pub returns-in-Seize : goal.returns-in-Seize
returns-in-Seize c = rw c.in-Seize.is c.attach_at-in-Seize.ensures

pub returns-in-Interrupt : goal.returns-in-Interrupt
returns-in-Interrupt c = rw c.in-Interrupt.is c.interrupt_at.ensures

pub returns-in-Cont : goal.returns-in-Cont
returns-in-Cont c = rw c.in-Cont.is c.restart_at.ensures

pub returns-in-Listen : goal.returns-in-Listen
returns-in-Listen c = rw c.in-Listen.is c.listen_at.ensures

pub returns-in-Detach : goal.returns-in-Detach
returns-in-Detach c = rw c.in-Detach.is c.restart_at-in-Detach.ensures

pub returns-in-SetOptions : goal.returns-in-SetOptions
returns-in-SetOptions c = rw c.in-SetOptions.is c.stopped_at.ensures

pub returns-in-EventMessage : goal.returns-in-EventMessage
returns-in-EventMessage c = rw c.in-EventMessage.is c.message_at.ensures

pub returns-in-SignalInfo : goal.returns-in-SignalInfo
returns-in-SignalInfo c = rw c.in-SignalInfo.is c.siginfo_at.ensures

pub returns-in-TracerExit : goal.returns-in-TracerExit
returns-in-TracerExit c = rw c.in-TracerExit.is refl

pub returns-in-Wait : goal.returns-in-Wait
returns-in-Wait c = rw c.in-Wait.is (c.no_tracee.ensures ∙ first_alone _)

pub returns-in-StarterWait : goal.returns-in-StarterWait
returns-in-StarterWait c = rw c.in-StarterWait.is (c.no_child.ensures ∙ first_alone _)
