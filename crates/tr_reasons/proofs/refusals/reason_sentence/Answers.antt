use Rattle.tr_reasons.proofs.refusals.reason_sentence.Goals as goal

pub returns-in-NoSignal : goal.returns-in-NoSignal
returns-in-NoSignal c = rw c.in-NoSignal.is (rw c.errors_page-in-NoSignal.ensures at c.above_all_signals.ensures)

pub returns-in-Pausing : goal.returns-in-Pausing
returns-in-Pausing c = rw c.in-Pausing.is c.because-in-Pausing.ensures

pub returns-in-HasMark : goal.returns-in-HasMark
returns-in-HasMark c = rw c.in-HasMark.is c.because-in-HasMark.ensures

pub returns-in-TableFull : goal.returns-in-TableFull
returns-in-TableFull c = rw c.in-TableFull.is c.because-in-TableFull.ensures

pub returns-in-GroupFull : goal.returns-in-GroupFull
returns-in-GroupFull c = rw c.in-GroupFull.is c.because-in-GroupFull.ensures

pub returns-in-OthersAlive : goal.returns-in-OthersAlive
returns-in-OthersAlive c = rw c.in-OthersAlive.is c.because-in-OthersAlive.ensures

pub returns-in-Ended : goal.returns-in-Ended
returns-in-Ended c = rw c.in-Ended.is c.because-in-Ended.ensures

pub returns-in-NotTracee : goal.returns-in-NotTracee
returns-in-NotTracee c = rw c.in-NotTracee.is c.because-in-NotTracee.ensures

pub returns-in-TraceeEnded : goal.returns-in-TraceeEnded
returns-in-TraceeEnded c = rw c.in-TraceeEnded.is c.because-in-TraceeEnded.ensures

pub returns-in-NoEventStop : goal.returns-in-NoEventStop
returns-in-NoEventStop c = rw c.in-NoEventStop.is c.because-in-NoEventStop.ensures

pub returns-in-NoRestartSignal : goal.returns-in-NoRestartSignal
returns-in-NoRestartSignal c = rw c.in-NoRestartSignal.is c.above_all_signals-in-NoRestartSignal.ensures

pub returns-in-NoMessage : goal.returns-in-NoMessage
returns-in-NoMessage c = rw c.in-NoMessage.is c.because-in-NoMessage.ensures

pub returns-in-NoChild : goal.returns-in-NoChild
returns-in-NoChild c = rw c.in-NoChild.is c.because-in-NoChild.ensures

pub returns-in-FixedAction : goal.returns-in-FixedAction
returns-in-FixedAction c = rw c.in-FixedAction.is (rw c.refusal_name.ensures at c.by_signal.ensures)
