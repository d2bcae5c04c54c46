use Rattle.std.proofs.lemmas.Result.{err_from_is_err_and}
use Rattle.tr_live.proofs.Talks.{talk_again, talk_ended, talk_halted, talk_on}
use Rattle.tr_live.proofs.conversations.converse.Goals as goal
use Rattle.tr_live.proofs.conversations.converse.Goals.{in-Bytes+in_ok-hear-in-Bytes, in-Interrupted+else-interruptions-eq-INTERRUPTIONS}

pub returns-in_err-hear-in-Bytes : goal.returns-in_err-hear-in-Bytes
returns-in_err-hear-in-Bytes g c =
    let p = err_from_is_err_and c.from_residual.result c.from_residual.ensures.1 in
    rw (p.1, p.2) (talk_halted _ _ (g.R.Source.shown c.get.new.self) c.get.new.room _ _ _ c.in-Bytes.count c.loop.invariant c.in-Bytes.ensures _ c.in_err-hear-in-Bytes.ensures.said.0 _ _ c.in_err-hear-in-Bytes.ensures.said.1 c.in_err-hear-in-Bytes.ensures.said.2)

pub loop-preserved : goal.loop-preserved
loop-preserved g c = elim c.match-get.branch [
  | in-Bytes+in_ok-hear-in-Bytes w ↦
      rw (w.writer-is, w.dialogue-is, w.interruptions-is) (talk_on _ _ (g.R.Source.shown c.get.new.self) c.get.new.room _ _ _ w.in-Bytes.count c.loop.invariant w.in-Bytes.ensures _ w.in_ok-hear-in-Bytes.ensures.said.0 _ _ w.in-Bytes.count-test.1 w.in_ok-hear-in-Bytes.ensures.said.1 w.in_ok-hear-in-Bytes.ensures.said.2.0 w.in_ok-hear-in-Bytes.ensures.said.2.1 w.in_ok-hear-in-Bytes.ensures.heard)
  | in-Interrupted+else-interruptions-eq-INTERRUPTIONS w ↦
      rw (w.writer-is, w.dialogue-is, w.interruptions-is) (talk_again _ _ (g.R.Source.shown c.get.new.self) c.get.new.room _ _ _ c.loop.invariant w.in-Interrupted.ensures w.if-interruptions-eq-INTERRUPTIONS.false)
]

pub returns-in-Bytes-eq0 : goal.returns-in-Bytes-eq0
returns-in-Bytes-eq0 g c = talk_ended g.W.Sink.taken g.W.Sink.failures c.loop.writer c.end.new.writer _ _ _ c.get.new.room _ _ _ c.end.ensures.0 c.end.result c.loop.invariant (rw c.in-Bytes-eq0.field-0-test at c.in-Bytes-eq0.ensures) c.end.ensures.1 c.end.ensures.2
