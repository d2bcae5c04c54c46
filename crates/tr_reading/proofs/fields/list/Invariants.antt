use Rattle.std.proofs.Common.{◌≡◌, drop}
use Rattle.serde_json.specs.View.{items_view}
use Rattle.tr_reading.specs.Fields.{each}
use Rattle.tr_reading.proofs.Each.{with_front}
use Rattle.tr_reading.proofs.fields.list.Given as goal

abbrev pub invariant-loop-value : goal.invariant-loop-value
invariant-loop-value g l = with_front l.items.items (each g.T.FromJson.reads (items_view (drop l.value-index l.value-items))) ≡ each g.T.FromJson.reads (items_view l.value-items)
