use Rattle.std.proofs.Common.{◌≡◌, drop, map, not}
use Rattle.std.specs.List.{list_any}
use Rattle.tr_starts.specs.Starts.{no_repeat}
use Rattle.tr_reading.proofs.reading.some_acts_twice.Given as goal

abbrev pub invariant-loop-group : goal.invariant-loop-group
invariant-loop-group l = list_any (λ g. not (no_repeat (map (λ a. a.0) g.actions))) (drop l.group-index l.groups) ≡ list_any (λ g. not (no_repeat (map (λ a. a.0) g.actions))) l.groups
