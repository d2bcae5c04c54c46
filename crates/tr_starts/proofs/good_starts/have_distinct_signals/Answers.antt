use Rattle.std.proofs.Common.{arith}
use Rattle.std.proofs.lemmas.Grind.{common_steps}
use Rattle.tr_starts.proofs.Ids.{first_once}
use Rattle.tr_starts.proofs.good_starts.have_distinct_signals.Goals as goal

pub returns-then-set_signal : goal.returns-then-set_signal
returns-then-set_signal c =
    let e = first_once (λ a. a.0) c.loop-rest.rest.now c.action-item.result c.in-len1-up.len_at_least in
    grind (arith, common_steps, e)

pub loop-rest-preserved : goal.loop-rest-preserved
loop-rest-preserved c =
    let e = first_once (λ a. a.0) c.loop-rest.rest.now c.action-item.result c.in-len1-up.len_at_least in
    grind (arith, common_steps, e)
