use Rattle.std.proofs.Common.{◌≡◌, ◌+◌, drop}
use Rattle.tr_reading.specs.Workers.{members_of}
use Rattle.tr_reading.proofs.reading.has_few_members.Given as goal

abbrev pub invariant-loop-script : goal.invariant-loop-script
invariant-loop-script l = l.left + members_of l.scripts ≡ 10000 + members_of (drop l.script-index l.scripts)
