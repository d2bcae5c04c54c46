use Rattle.std.proofs.Common.{◌≡◌, drop, length}
use Rattle.tr_starts.specs.Starts.{with_actions}
use Rattle.tr_table.proofs.opened.set_actions.Given as goal

abbrev pub invariant-loop-signal : goal.invariant-loop-signal
invariant-loop-signal l = (length l.actions ≡ 64) × (with_actions l.actions (drop l.signal-index l.listed) ≡ with_actions l.fn.actions l.listed)
