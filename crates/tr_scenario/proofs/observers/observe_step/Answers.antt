use Rattle.std.proofs.Common.{◌<◌, ◌+◌, ◌-◌, ◌∷◌, [], arith, replicate}
use Rattle.tr_scenario.specs.RunTexts.{call_of}
use Rattle.tr_scenario.proofs.Left.{none_of_many, one_of_many}
use Rattle.tr_scenario.proofs.Seen.{seen_at_end, seen_next, seen_once}
use Rattle.tr_scenario.proofs.observers.observe_step.Goals as goal

pub loop-preserved : goal.loop-preserved
loop-preserved g c =
    let s = c.args.step.now in
    let more : c.loop.counter < s.times = omega arith in
    let i = rw (one_of_many (call_of s.actor s.event) s.times c.loop.counter more) at c.loop.invariant.seen in
    record {
      seen = seen_next _ _ _ _ _ _ _ _ (call_of s.actor s.event ∷ []) (replicate (s.times - (c.loop.counter + 1)) (call_of s.actor s.event)) i (seen_once _ _ _ _ _ _ c.in_ok-make.ensures.known c.in_ok-make.ensures.makes);
      end = c.loop.invariant.end;
    }

pub returns-clause-ok : goal.returns-clause-ok
returns-clause-ok g c =
    let s = c.args.step.now in
    let none = none_of_many (call_of s.actor s.event) s.times c.loop.counter (omega arith) in
    seen_at_end _ _ _ _ _ _ (rw none at c.loop.invariant.seen)
