use Rattle.std.proofs.Common.{◌-◌, Some, arith, get_or}
use Rattle.std.proofs.lemmas.Option.{slice_get-get_or}
use Rattle.tr_index.proofs.Following.{next_at}
use Rattle.tr_index.proofs.multiset.first_near.Goals as goal

pub returns-then-n-number : goal.returns-then-n-number
returns-then-n-number c =
    let xs = c.args.numbers.now in
    let i = c.args.likely in
    next_at xs c.args.n i (Some (get_or xs i 0)) c.requires
    (λ k l w. omega (arith, c.requires k (i - 1) 0 (omega (arith, l)) (omega (arith, c.if-likely-numbers.true)), c.if-numbers-likely.true))
    (λ w. omega (arith, c.if-n-number.true))
    (slice_get-get_or xs i 0 (omega (arith, c.if-likely-numbers.true)))
