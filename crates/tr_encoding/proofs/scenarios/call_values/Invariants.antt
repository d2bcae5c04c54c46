use Rattle.std.proofs.Common.{◌≡◌, All, map, take}
use Rattle.serde_json.specs.View.{view}
use Rattle.tr_encoding.specs.Calls.{IsReadBack, call_data}
use Rattle.tr_encoding.proofs.scenarios.call_values.Given as goal

abbrev pub invariant-loop-call : goal.invariant-loop-call
invariant-loop-call l = (map view l.values.items ≡ map call_data (take l.call-index l.calls)) × All IsReadBack (take l.call-index l.calls)
