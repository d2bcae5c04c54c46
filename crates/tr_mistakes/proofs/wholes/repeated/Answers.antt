use Rattle.std.proofs.Common.{◌≡◌, ◌==◌, ◌∙◌, ◌+◌, Bool, true, false, Some, ap, arith, drop, get_or, if◌then◌else◌, sym, take}
use Rattle.std.proofs.lemmas.Grind.{common_steps}
use Rattle.std.proofs.lemmas.List.{take_more}
use Rattle.std.specs.List.{list_any}
use Rattle.tr_reading.proofs.Repeats.{seen_more}
use Rattle.tr_mistakes.specs.Wholes.{again}
use Rattle.tr_mistakes.proofs.Spoken.{again_left, as_not}
use Rattle.tr_mistakes.proofs.wholes.repeated.Goals as goal

pub returns-then-not-branch : goal.returns-then-not-branch
returns-then-not-branch c =
    let ns = c.args.numbers.now in
    let i = c.loop-number.number-index in
    let n = get_or ns i 0 in
    let met : list_any (λ m. m == n) (take i ns) ≡ true = sym (c.loop-number.invariant.seen n) ∙ as_not _ false (sym c.in_ok-insert.ensures.added ∙ c.if-not-branch.true) in
    ap (λ (b : Bool). if b then Some n else again (take (i + 1) ns) (drop (i + 1) ns)) (sym met) ∙ sym (again_left ns i c.loop-number-test.true) ∙ c.loop-number.invariant.rest

pub loop-number-preserved : goal.loop-number-preserved
loop-number-preserved c =
    let ns = c.args.numbers.now in
    let i = c.loop-number.number-index in
    let n = get_or ns i 0 in
    let unmet : list_any (λ m. m == n) (take i ns) ≡ false = sym (c.loop-number.invariant.seen n) ∙ as_not _ true (sym c.in_ok-insert.ensures.added ∙ c.if-not-branch.false) in
    record {
      rest = ap (λ (b : Bool). if b then Some n else again (take (i + 1) ns) (drop (i + 1) ns)) (sym unmet) ∙ sym (again_left ns i c.loop-number-test.true) ∙ c.loop-number.invariant.rest;
      seen = λ q. grind (arith, common_steps, take_more ns i 0, seen_more q n (take i ns), c.loop-number.invariant.seen q, c.in_ok-insert.ensures.updates.0 q);
    }
