use Rattle.std.proofs.Common.{arith}
use Rattle.std.proofs.lemmas.Grind.{common_steps}
use Rattle.tr_sigset.specs.Sets.{of_word}
use Rattle.tr_starts.proofs.Ids.{first_new}
use Rattle.tr_starts.proofs.good_starts.are_new.Goals as goal

pub returns-then-has_thread : goal.returns-then-has_thread
returns-then-has_thread c =
    let e = first_new (λ t. t.0) c.loop-rest.rest.now c.args.groups.now (0, of_word 0) c.in-len1-up.len_at_least in
    grind (arith, common_steps, e)

pub loop-rest-preserved : goal.loop-rest-preserved
loop-rest-preserved c =
    let e = first_new (λ t. t.0) c.loop-rest.rest.now c.args.groups.now (0, of_word 0) c.in-len1-up.len_at_least in
    grind (arith, common_steps, e)
