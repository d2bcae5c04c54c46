use Rattle.std.proofs.Common.{arith, length-set, ◌∙◌}
use Rattle.tr_status.proofs.Codes.{coded_all, coded_more}
use Rattle.tr_status.proofs.values.codes_of.Goals as goal

pub loop-place-preserved : goal.loop-place-preserved
loop-place-preserved c =
    let l = c.loop-place in (
      coded_more c.args.actions.now l.codes l.place c.code_of.result _ l.invariant.0 c.code_of.ensures (omega (arith, c.loop-place-test.true, l.invariant.1)) (omega (arith, c.loop-place-test.true, c.told-actions)),
      length-set l.codes l.place c.code_of.result ∙ l.invariant.1,
    )

pub returns : goal.returns
returns c =
    let l = c.loop-place in
    coded_all c.args.actions.now l.codes l.place l.invariant.0 (omega (arith, c.loop-place-test.false, l.invariant.1)) (omega (arith, c.loop-place-test.false, c.told-actions))
