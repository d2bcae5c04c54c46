use Rattle.std.proofs.Common.{◌+◌, ◌++◌, ◌∙◌, [], ap, append_assoc, arith, drop, get_or, length-append, sym}
use Rattle.std.proofs.lemmas.List.{append-nil}
use Rattle.std.proofs.lemmas.Result.{err_from_is_err_and}
use Rattle.tr_scenario.proofs.Halts.{halts_within}
use Rattle.tr_live.specs.Dialogues.{heard, heard_byte}
use Rattle.tr_live.proofs.Saying.{heard_at, said_at, said_none, said_of}
use Rattle.tr_live.proofs.dialogues.Dialogue.hear.Goals as goal

pub returns-in_err-hear_byte-clause-said : goal.returns-in_err-hear_byte-clause-said
returns-in_err-hear_byte-clause-said g c =
    let p = err_from_is_err_and c.from_residual.result c.from_residual.ensures.1 in
    let i = c.loop-byte.invariant in
    let bytes = c.args.bytes.now in
    let k = c.loop-byte.byte-index in
    let d = c.loop-byte.self in
    let first = c.in_err-hear_byte.ensures.said in
    let rest = said_of (heard_byte d (get_or bytes k 0)) (drop (k + 1) bytes) in
    let all = i.left (first.0 ++ rest.0) (said_at d bytes k first.0 rest.0 c.loop-byte-test.true first.1 rest.1) in
    rw (p.1, p.2) (all.0, all.1, halts_within _ (g.W.Sink.taken c.loop-byte.writer) _ first.0 rest.0 all.0 _ _ _ _ all.2 all.3 i.same first.2)

pub loop-byte-preserved : goal.loop-byte-preserved
loop-byte-preserved g c =
    let i = c.loop-byte.invariant in
    let bytes = c.args.bytes.now in
    let k = c.loop-byte.byte-index in
    let d = c.loop-byte.self in
    let taken = g.W.Sink.taken c.loop-byte.writer in
    let first = c.in_ok-hear_byte.ensures.said in
    let after = c.in_ok-hear_byte.ensures.heard in
    record {
      left = λ rest r.
          let all = i.left (first.0 ++ rest) (said_at d bytes k first.0 rest c.loop-byte-test.true first.1 (rw after at r)) in
          (all.0, all.1, ap (λ xs. xs ++ rest) first.2.0 ∙ (append_assoc taken first.0 rest ∙ all.2), omega (arith, all.3, length-append first.0 rest));
      heard = ap (λ x. heard x (drop (k + 1) bytes)) after ∙ (sym (heard_at d bytes k c.loop-byte-test.true) ∙ i.heard);
      same = first.2.1 ∙ i.same;
    }

pub returns-clause-said : goal.returns-clause-said
returns-clause-said g c =
    let i = c.loop-byte.invariant in
    let all = i.left [] (said_none c.loop-byte.self c.args.bytes.now c.loop-byte.byte-index c.loop-byte-test.false) in
    (all.0, all.1, (sym (append-nil (g.W.Sink.taken c.loop-byte.writer)) ∙ all.2, i.same))
