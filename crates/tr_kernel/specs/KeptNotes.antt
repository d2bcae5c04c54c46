-- What private contracts see of what the entries have in common to the laws.
use Rattle.std.specs.Prelude.{ℕ, ◌+◌, ◌^◌, ◌<◌, ◌≤◌, List, vec_capacity, vec_len}
use Rattle.tr_kernel.specs.declared.notes.IdTransfer.{IdTransfer}
use Rattle.tr_kernel.specs.declared.notes.Notes.TheInside.{Inside}

-- all groups whose death began and how often each id has passed on, and how many deaths one more entry may begin
pub record KeptNotes : Type 0 where
  pub dying : List ℕ
  pub transfers : List IdTransfer
  pub room : ℕ

abbrev pub kept_notes : Inside → KeptNotes
kept_notes n = record { dying = n.dying.items; transfers = n.transfers.items; room = n.room }

-- where so many deaths may begin, there is a place for each and for an id; and fewer than 2 ^ 32 deaths will have begun
pub record HasPlaces (n : Inside) : Type 0 where
  pub dying : vec_len n.dying + n.room ≤ vec_capacity n.dying
  pub few : vec_len n.dying + n.room < 2 ^ 32
  pub transfers : 0 < n.room → vec_len n.transfers < vec_capacity n.transfers
