use Rattle.std.proofs.Common.{◌≡◌, Some, rules, slice_get}
use Rattle.std.proofs.lemmas.Map.Made.{lookup_key_passes}
use Rattle.indexmap.specs.IndexMap.{get_key_by}
use Rattle.tr_queues.proofs.lines.place_of.Goals as goal

pub returns-clause-place : goal.returns-clause-place
returns-clause-place g c =
    let eq = g.K.PartialEq.eq in
    let m = c.args.map.now in
    let key = c.args.key in
    let found = c.in_ok-place.field-0-1.now in
    let value = c.in_ok-place.field-0-2.now in
    let at : slice_get m.entries c.in_ok-place.place ≡ Some (found, value) = search rules in
    let named : get_key_by (eq key) m ≡ Some found = search rules in
    record { found = found; value = value; there = at; same = lookup_key_passes (eq key) m.entries found named }
