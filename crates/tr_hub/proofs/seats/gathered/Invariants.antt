use Rattle.std.proofs.Common.{◌≡◌, ◌+◌, ◌≤◌, vec_len}
use Rattle.std.specs.Prelude.{sum_by}
use Rattle.tr_hub.specs.Seats.{SeatState}
use Rattle.tr_hub.proofs.seats.gathered.Given as goal

abbrev pub invariant-loop-seat : goal.invariant-loop-seat
invariant-loop-seat g l = record {
  entry_parts : l.shares.entries.parts + vec_len l.seats ≡ vec_len l.initial.seats + 1;
  accepted_parts : l.shares.accepted.parts + vec_len l.seats ≡ vec_len l.initial.seats + 1;
  entry_sum : l.shares.entries.amount + sum_by (λ (s : SeatState). s.entries) l.seats.items ≡ sum_by (λ (s : SeatState). s.entries) l.initial.seats.items;
  accepted_sum : l.shares.accepted.amount + sum_by (λ (s : SeatState). s.accepted) l.seats.items ≡ sum_by (λ (s : SeatState). s.accepted) l.initial.seats.items;
  entries_apart : l.shares.entries.parts ≤ g.E.Ledger.parts;
  accepted_apart : l.shares.accepted.parts ≤ g.A.Ledger.parts;
}

abbrev pub decreases-loop-seat : goal.decreases-loop-seat
decreases-loop-seat g l = vec_len l.seats
