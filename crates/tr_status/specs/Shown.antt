-- The pieces of a status, of the values that the code has ready.
use Rattle.std.specs.Prelude.{ℕ, List, [], ◌∷◌, codes, decimal}
use Rattle.tr_status.specs.declared.statuses.Front.{Front}
use Rattle.tr_status.specs.declared.values.Masks.{Masks}

-- the lines before those of the sets, but for the last newline
abbrev pub front_pieces : Front → List (List ℕ)
front_pieces v =
    codes "Name:\t" ∷ v.name.now ∷
    codes "\nState:\t" ∷ v.state.now ∷
    codes "\nTgid:\t" ∷ decimal v.tgid ∷
    codes "\nPid:\t" ∷ decimal v.pid ∷
    codes "\nPPid:\t1\nTracerPid:\t" ∷ decimal v.tracer ∷
    codes "\nThreads:\t" ∷ decimal v.threads ∷
    codes "\nSigQ:\t" ∷ decimal v.queued ∷ codes "/" ∷ decimal v.limit ∷ []

-- the lines of the sets, after a newline
abbrev pub masks_pieces : Masks → List (List ℕ)
masks_pieces m =
    codes "\nSigPnd:\t" ∷ m.own ∷
    codes "\nShdPnd:\t" ∷ m.shared ∷
    codes "\nSigBlk:\t" ∷ m.blocked ∷
    codes "\nSigIgn:\t" ∷ m.ignored ∷
    codes "\nSigCgt:\t" ∷ m.caught ∷ codes "\n" ∷ []
