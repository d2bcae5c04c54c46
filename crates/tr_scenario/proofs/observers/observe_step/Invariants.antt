use Rattle.std.proofs.Common.{◌≡◌, ◌-◌, replicate}
use Rattle.tr_scenario.specs.RunTexts.{call_of}
use Rattle.tr_scenario.proofs.Seen.{IsSeen}
use Rattle.tr_scenario.proofs.observers.observe_step.Given as goal

abbrev pub invariant-loop : goal.invariant-loop
invariant-loop g l =
    let call = call_of l.step.actor l.step.event in
    record {
      seen : IsSeen g.O.Observer.knows l.fn.kernel l.fn.observer (replicate l.step.times call) l.kernel l.observer (replicate (l.step.times - l.counter) call);
      end : l.end ≡ l.step.times;
    }
