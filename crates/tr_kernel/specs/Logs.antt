-- What a call did beside its answer.
use Rattle.std.specs.Prelude.{ℕ, List, [], Bool, true, false}
use Rattle.tr_model.specs.declared.fates.Ending.{Ending}
use Rattle.tr_model.specs.declared.raises.Raise.{Raise}
use Rattle.tr_model.specs.Compare.{entry_for}
use Rattle.tr_model.specs.Moves.{Work}
use Rattle.tr_model.specs.Preferred.{preferred}
use Rattle.tr_model.specs.Runs.{Call}
use Rattle.tr_model.specs.Steps.{work_of}
use Rattle.tr_model.specs.Tables.{Table}

-- the signals that it ended and how, the reports that it raised, and the ids that it gave to another thread, in order
pub record Log : Type 0 where
  pub ended : List Ending
  pub raises : List Raise
  pub renamed : List ℕ

abbrev pub no_log : Log
no_log = record { ended = []; raises = []; renamed = [] }

abbrev pub log_of : Work → Log
log_of w = record { ended = w.ended; raises = w.raises; renamed = w.renamed }

-- of a call at a table: that of its entry, with this product's choice; nothing where it makes none
abbrev pub logged : Bool → Table → Call → Log
logged true T c = log_of (work_of T (entry_for c (preferred T c.actor c.event)))
logged false T c = no_log
