use Rattle.std.proofs.Common.{◌≡◌, ◌++◌, drop, take}
use Rattle.tr_kernel.specs.Notes.{times}
use Rattle.tr_kernel.proofs.Transfers.{transferred}
use Rattle.tr_kernel.proofs.notes.count_transfer.Given as goal

abbrev pub invariant-loop-place : goal.invariant-loop-place
invariant-loop-place l =
    (l.transfers ≡ l.fn.transfers)
    × (transferred l.id l.fn.transfers.items ≡ take l.place l.fn.transfers.items ++ transferred l.id (drop l.place l.fn.transfers.items))
    × (times l.id (drop l.place l.fn.transfers.items) ≡ times l.id l.fn.transfers.items)
