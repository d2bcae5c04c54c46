-- A run of calls, each made with this product's choice.
use Rattle.std.specs.Prelude.{ℕ, List, [], ◌∷◌, ◌++◌, length, Bool, true, false, nat_le, Result, Ok, Err}
use Rattle.tr_model.specs.declared.checked.Checked.{Checked}
use Rattle.tr_model.specs.declared.checked.Checked.TheVariants.{Quiet, Due}
use Rattle.tr_model.specs.Entries.{Entry}
use Rattle.tr_model.specs.declared.events.Event.{Event}
use Rattle.tr_model.specs.declared.replies.Refusal.{Refusal}
use Rattle.tr_model.specs.declared.replies.Refusal.TheVariants.{JournalFull}
use Rattle.tr_model.specs.declared.replies.Reply.{Reply}
use Rattle.tr_model.specs.Preferred.{check}
use Rattle.tr_model.specs.Steps.{after}
use Rattle.tr_model.specs.Tables.{Table}

-- a new entry with its reply, a reply without an entry, or a refusal
pub data Answer : Type 0 where
  Entered : Reply → Answer
  Read : Reply → Answer
  Refused : Refusal → Answer

-- an event that an actor asks for; its choice isn't made yet
pub record Call : Type 0 where
  pub actor : ℕ
  pub event : Event

-- the table and the entries so far, and each call's answer
pub record State : Type 0 where
  pub table : Table
  pub journal : List Entry
  pub answers : List Answer

-- a run begins at a table, with an empty journal and without answers
abbrev pub begun_at : Table → State
begun_at T = record { table = T; journal = []; answers = [] }

-- an answer that makes no entry: table and journal stay as they are
abbrev pub answered : Answer → State → State
answered x s = record s { answers = s.answers ++ x ∷ [] }

-- the entry is the journal's last, the table is the one that its step leads to, and its reply is the answer
abbrev pub entered : State → Entry → State
entered s e =
    let x = after s.table e in
    record { table = x.work.table; journal = s.journal ++ e ∷ []; answers = s.answers ++ Entered x.reply ∷ [] }

-- a journal with as many entries as the entry limit takes no more
abbrev pub unless_full : State → Entry → Bool → State
unless_full s e true = answered (Refused JournalFull) s
unless_full s e false = entered s e

-- what comes of a call that a check finds so
abbrev pub made : State → Call → Result Checked Refusal → State
made s c (Err why) = answered (Refused why) s
made s c (Ok (Quiet r)) = answered (Read r) s
made s c (Ok (Due x)) = unless_full s (record { actor = c.actor; event = c.event; choice = x }) (nat_le s.table.entries (length s.journal))

-- a check of the model's, or one that refuses more
abbrev pub Check : Type 0
Check = Table → ℕ → Event → Result Checked Refusal

-- a call is checked at the table as it stands when its turn comes
abbrev pub call_by : Check → State → Call → State
call_by check s c = made s c (check s.table c.actor c.event)

-- one call after the other, each at the table that the earlier ones left
abbrev pub calls_by : Check → State → List Call → State
calls_by check s [] = s
calls_by check s (c ∷ cs) = calls_by check (call_by check s c) cs

-- one call, by the model's own check
abbrev pub call : State → Call → State
call = call_by check

-- all calls from a table on, by the model's own check
abbrev pub run : Table → List Call → State
run T cs = calls_by check (begun_at T) cs
