use Rattle.std.proofs.Common.{arith, get_or, take}
use Rattle.std.proofs.lemmas.List.{take_more}
use Rattle.std.proofs.lemmas.Grind.{common_steps}
use Rattle.tr_reading.proofs.Repeats.{found_twice, once_more, seen_more}
use Rattle.tr_reading.proofs.reading.repeats.Goals as goal

pub returns-then-not-branch : goal.returns-then-not-branch
returns-then-not-branch c =
    let ns = c.args.numbers.now in
    let i = c.loop-number.number-index in
    grind (arith, common_steps, found_twice ns i, c.loop-number.invariant.seen (get_or ns i 0))

pub loop-number-preserved : goal.loop-number-preserved
loop-number-preserved c =
    let ns = c.args.numbers.now in
    let i = c.loop-number.number-index in
    let k = get_or ns i 0 in
    record {
      once = grind (arith, common_steps, take_more ns i 0, once_more (take i ns) k, c.loop-number.invariant.seen k);
      seen = λ q. grind (arith, common_steps, take_more ns i 0, seen_more q k (take i ns), c.loop-number.invariant.seen q, c.in_ok-insert.ensures.updates.0 q);
    }
