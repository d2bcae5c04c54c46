use Rattle.std.proofs.Common.{◌≡◌, ◌==◌, ◌<◌, ◌≤◌, ◌-◌, ℕ, false, get_or, length}
use Rattle.tr_threads.proofs.roster_list.place_in.Given as goal

-- none of those that were looked at is the id
abbrev pub invariant-loop-place : goal.invariant-loop-place
invariant-loop-place l = record {
  within : l.place ≤ length l.ids;
  others : (k : ℕ) → k < l.place → (get_or l.ids k 0 == l.id) ≡ false;
}

abbrev pub decreases-loop-place : goal.decreases-loop-place
decreases-loop-place l = length l.ids - l.place
