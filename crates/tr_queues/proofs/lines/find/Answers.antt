use Rattle.std.proofs.Common.{◌≡◌, Some, rules, slice_get}
use Rattle.tr_queues.proofs.lines.find.Goals as goal

pub returns-in-Some-clause-place : goal.returns-in-Some-clause-place
returns-in-Some-clause-place g c =
    let m = c.args.map.now in
    let at : slice_get m.entries c.saturating_sub-last.result ≡ Some (c.in-Some.found.now, c.in-Some.value.now) = search rules in
    record { found = c.in-Some.found.now; value = c.in-Some.value.now; there = at; same = search rules }
