use Rattle.std.proofs.Common.{◌≡◌, length, map, take}
use Rattle.tr_status.specs.Private.{code_of}
use Rattle.tr_status.proofs.values.codes_of.Given as goal

-- those before the place are written
abbrev pub invariant-loop-place : goal.invariant-loop-place
invariant-loop-place l = (take l.place l.codes ≡ map code_of (take l.place l.actions)) × (length l.codes ≡ 64)
