use Rattle.std.proofs.Common.{ℕ, arith, subst}
use Rattle.tr_model.specs.declared.replies.Reply.TheVariants.{Nothing}
use Rattle.tr_kernel.specs.declared.answers.Answer.TheVariants.{Read}
use Rattle.tr_hub.specs.Kept.{IsPossible}
use Rattle.tr_hub.specs.Seats.{event_of}
use Rattle.tr_hub.proofs.Tries.{found_nothing, nothing_is_possible, tried_last, waits_on}
use Rattle.tr_hub.proofs.hubs.Hub.wait_for.Goals as goal

pub loop-turn-preserved : goal.loop-turn-preserved
loop-turn-preserved g c =
    let i = c.loop-turn.invariant in
    let e = c.step-answer.ensures in
    let old = c.deref_mut-in-loop-turn.result.now.kernel in
    let new = c.step-answer.new.self.kernel in
    let is = found_nothing old new c.loop-turn.seat.actor c.args.what c.event-event.result c.step-answer.result _ c.in-Read.is c.event-event.ensures e.read in
    let possible = nothing_is_possible old new c.loop-turn.seat.actor c.args.what c.event-event.result c.step-answer.result _ c.in-Read.is c.event-event.ensures e.read e.kept.history in
    record {
      actor = rw (e.seat, is) i.actor;
      waits = waits_on c.loop-turn.turn c.args.seat.now c.loop-turn.seat c.step-answer.new.seat c.step-answer.result i.waits is e.seat;
      within = omega (arith, c.loop-turn-test.true);
      tried = λ some. subst (λ (a : ℕ). IsPossible a (event_of c.args.what) (Read Nothing)) i.actor possible;
    }

pub returns-in-Entered-clause-tried : goal.returns-in-Entered-clause-tried
returns-in-Entered-clause-tried g c =
    let is = c.in-Entered.is in
    tried_last c.args.turns c.loop-turn.turn c.args.seat.now c.loop-turn.seat c.step-answer.new.seat c.step-answer.result c.loop-turn.invariant.waits c.loop-turn-test.true c.step-answer.ensures.seat (λ e. cc)

pub returns-in-Refused-clause-tried : goal.returns-in-Refused-clause-tried
returns-in-Refused-clause-tried g c =
    let is = c.in-Refused.is in
    tried_last c.args.turns c.loop-turn.turn c.args.seat.now c.loop-turn.seat c.step-answer.new.seat c.step-answer.result c.loop-turn.invariant.waits c.loop-turn-test.true c.step-answer.ensures.seat (λ e. cc)
