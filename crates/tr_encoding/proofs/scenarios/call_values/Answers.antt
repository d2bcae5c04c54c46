use Rattle.std.proofs.Common.{sym}
use Rattle.tr_encoding.proofs.Made.{made_more}
use Rattle.tr_encoding.proofs.scenarios.call_values.Goals as goal

pub loop-call-preserved : goal.loop-call-preserved
loop-call-preserved c =
    made_more c.args.calls.now c.loop-call.call-index c.call-item.result c.loop-call.values.items c.push.new.self.items c.in_ok-call_value.field-0
    c.loop-call-test.true c.call-item.is c.loop-call.invariant c.in_ok-push.ensures.items c.in_ok-call_value.ensures.value c.in_ok-call_value.ensures.reads_back
