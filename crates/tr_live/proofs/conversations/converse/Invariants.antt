use Rattle.tr_live.proofs.Talks.{Talk}
use Rattle.tr_live.proofs.conversations.converse.Given as goal

abbrev pub invariant-loop : goal.invariant-loop
invariant-loop g l =
    let shown = g.R.Source.shown in
    let taken = g.W.Sink.taken in
    let failures = g.W.Sink.failures in
    Talk (record { reader = shown l.fn.reader; taken = taken l.fn.writer; failures = failures l.fn.writer }) (record { reader = shown l.reader; taken = taken l.writer; failures = failures l.writer }) l.dialogue l.interruptions l.counter
