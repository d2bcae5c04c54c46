-- What a comparison of another system's answers with the model finds.
use Rattle.std.specs.Prelude.{◌≡◌, suc, ◌<◌, List, [], ◌∷◌, length, map, take, Result, Ok, Err}
use Rattle.tr_model.specs.Compare.{IsAdmitted, IsVerdict, Lets}
use Rattle.tr_model.specs.Compare as model
use Rattle.tr_kernel.specs.Heard.{HasAnswered}
use Rattle.tr_kernel.specs.States.{IsWithheld, State}
use Rattle.tr_oracle.specs.declared.verdicts.Told.{Told}
use Rattle.tr_oracle.specs.declared.verdicts.Unheard.{Unheard}
use Rattle.tr_oracle.specs.declared.verdicts.Verdict.{Verdict}
use Rattle.tr_oracle.specs.declared.verdicts.Verdict.TheVariants.{Agrees, Differs}

-- a call with its answer, as the model has it
abbrev pub told_of : Told → model.Told
told_of x = record { call = record { actor = x.actor; event = x.event }; answer = x.answer }

-- a record of answers, as the model has it
abbrev pub record_of : List Told → List model.Told
record_of xs = map told_of xs

-- the kernel has given these answers, one after the other: each is let be, and changes it as an answer does
abbrev pub HasGiven : State → List model.Told → State → Type 0
HasGiven s [] u = u ≡ s
HasGiven s (x ∷ xs) u = (m : State) × Lets s.table x.call x.answer m.table × HasAnswered s x.call.actor x.call.event x.answer m × HasGiven m xs u

-- The verdict of the record. The kernel has given all its answers, or those before the place that differs. Without a
-- verdict the model lets all answers be, that of the place too; the kernel has given those before it, and can't go on.
abbrev pub Finds : State → List model.Told → Result Verdict Unheard → State → Type 0
Finds s xs (Ok Agrees) u = IsVerdict s.table xs (Ok u.table) × HasGiven s xs u
Finds s xs (Ok (Differs k)) u = IsVerdict s.table xs (Err k) × HasGiven s (take k xs) u
Finds s xs (Err e) u = (e.place < length xs) × IsAdmitted s.table (take (suc e.place) xs) × HasGiven s (take e.place xs) u × IsWithheld u e.why
