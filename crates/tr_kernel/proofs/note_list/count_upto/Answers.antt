use Rattle.std.proofs.Common.{rules, of_calls, nat_le}
use Rattle.std.proofs.lemmas.Fn.{always_returns_same}
use Rattle.tr_kernel.proofs.Spread.{parted, upto_point}
use Rattle.tr_kernel.proofs.note_list.count_upto.Goals as goal

pub returns : goal.returns
returns c =
    let p = c.args.place in
    let ks = c.args.kept.now in
    upto_point p ks c.partition_point.result c.partition_point.ensures.bound
    (c.partition_point.ensures.partitioned (λ k. nat_le k.place p) (always_returns_same _ _ _ (λ a r f k. search (rules, of_calls))) (parted c.args.len p ks c.requires))
