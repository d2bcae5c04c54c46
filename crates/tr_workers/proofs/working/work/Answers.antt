use Rattle.std.proofs.Common.{refl, arith, length, sym, ◌∙◌}
use Rattle.tr_workers.specs.Follows.{IsAnswered, made}
use Rattle.tr_workers.proofs.Counts.{accepts_few, tallied_more}
use Rattle.tr_workers.proofs.Said.{has_turns, nothing_said, said_no, said_yes}
use Rattle.tr_workers.proofs.Walks.{none_yet, one_more}
use Rattle.tr_workers.proofs.working.work.Goals as goal

pub loop-turn-init : goal.loop-turn-init
loop-turn-init g c =
    let f = c.requires.fresh in
    record {
      so_far = rw (f.0, f.1, f.2, c.in_ok-calls.ensures.begun) (none_yet c.args.script.now.plan);
      tallied = rw (f.0, f.1, f.2, c.new-tally.ensures) (record { entries = refl; accepted = refl; refused = refl; few_entries = omega arith; few_refused = omega arith; few_accepted = omega arith });
      said = nothing_said (g.G.Gate.may_say c.args.gate.now c.args.worker) (g.P.Port.calls c.args.port.now) f.0;
      lasts = λ h. h;
      few = omega arith;
      at = (omega arith, omega arith);
    }

pub loop-turn-preserved-then-not-may : goal.loop-turn-preserved-then-not-may
loop-turn-preserved-then-not-may g c =
    let i = c.loop-turn.invariant in
    record {
      so_far = i.so_far;
      tallied = i.tallied;
      said = said_no (g.G.Gate.may_say c.args.gate.now c.args.worker) (g.P.Port.calls c.loop-turn.port) c.loop-turn.turn c.may.result i.said c.may.ensures c.if-not-may.true;
      lasts = i.lasts;
      few = omega arith;
      at = (omega arith, omega arith);
    }

pub loop-turn-preserved : goal.loop-turn-preserved
loop-turn-preserved g c =
    let i = c.loop-turn.invariant in
    let P = g.P.Port in
    let old = c.loop-turn.port in
    let e = c.call-answer.ensures in
    let event = c.in-Some.event in
    let answer = c.call-answer.result in
    let counts = c.in_ok-count.ensures in
    let answered : IsAnswered (made event answer) = (e.receipt, counts.answered) in
    record {
      so_far = rw (e.calls, e.receipts, e.told, c.tell.ensures) (one_more c.args.script.now.plan (P.calls old) (P.receipts old) (P.told old) c.loop-turn.calls event answer i.so_far (sym c.next.ensures ∙ c.in-Some.is) answered);
      tallied = rw (e.calls, e.receipts, e.told, counts.counted) (tallied_more (P.receipts old) (P.told old) (P.calls old) (length (P.receipts old)) event answer c.loop-turn.tally i.tallied (accepts_few event answer e.receipt) counts.answered);
      said = rw e.calls (said_yes (g.G.Gate.may_say c.args.gate.now c.args.worker) (P.calls old) c.loop-turn.turn c.may.result i.said c.may.ensures c.if-not-may.false);
      lasts = λ h. e.lasts (i.lasts h);
      few = omega arith;
      at = (omega arith, omega arith);
    }

pub returns-clause-turns : goal.returns-clause-turns
returns-clause-turns g c =
    has_turns (g.G.Gate.may_say c.args.gate.now c.args.worker) (g.P.Port.calls c.loop-turn.port) c.loop-turn.turn c.args.turns _ c.loop-turn.invariant.said (omega arith) (λ q. omega arith)
