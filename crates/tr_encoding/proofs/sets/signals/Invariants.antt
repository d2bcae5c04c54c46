use Rattle.std.proofs.Common.{◌≡◌, map}
use Rattle.serde_json.specs.View.{view}
use Rattle.tr_encoding.specs.Sets.{number_list, signals_to}
use Rattle.tr_encoding.proofs.sets.signals.Given as goal

abbrev pub invariant-loop-place : goal.invariant-loop-place
invariant-loop-place l = map view l.values.items ≡ number_list (signals_to l.place l.set)
