-- What a contract sees of a step under way.
use Rattle.std.specs.Prelude.{◌≡◌, ℕ, ◌+◌, ◌≤◌, length, Option, None}
use Rattle.tr_model.specs.Entries.{Entry}
use Rattle.tr_model.specs.declared.events.Event.{Event}
use Rattle.tr_model.specs.declared.replies.Reply.{Reply}
use Rattle.tr_model.specs.declared.rows.Target.{Target}
use Rattle.tr_model.specs.Journals.{queue_of, taken}
use Rattle.tr_model.specs.Moves.{Work, begin}
use Rattle.tr_model.specs.Steps.{Outcome, after}
use Rattle.tr_model.specs.Choices.{no_choice}
use Rattle.tr_model.specs.Tables.{Table}
use Rattle.tr_steps.specs.News.{News}

-- the model's work, for how many more moves there is a place, and whose queue a take took from
pub record UnderWay : Type 0 where
  pub work : Work
  pub room : ℕ
  pub taken_from : Option Target

-- what it did beside what it ended
abbrev pub news_of : UnderWay → News
news_of u = record { raises = u.work.raises; dying = u.work.dying; killed = u.work.killed; renamed = u.work.renamed; taken_from = u.taken_from }

-- a step that did nothing yet
abbrev pub begun : Table → UnderWay
begun T = record { work = begin T; room = 0; taken_from = None }

-- this move of the model, in the places of at most n moves; no group is added
pub record Moves (f : Work → Work) (n : ℕ) (old new : UnderWay) : Type 0 where
  pub work : new.work ≡ f old.work
  pub room : old.room ≤ new.room + n
  pub groups : length new.work.table.groups ≤ length old.work.table.groups
  pub taken_from : new.taken_from ≡ old.taken_from

-- the entry of an event that leaves nothing open
abbrev pub entry : ℕ → Event → Entry
entry a e = record { actor = a; event = e; choice = no_choice }

-- what came of a whole step: reply and work, and the queue that a take took from
pub record ComesTo (o : Outcome) (q : Option Target) (new : UnderWay) (r : Reply) : Type 0 where
  pub reply : r ≡ o.reply
  pub work : new.work ≡ o.work
  pub taken_from : new.taken_from ≡ q

-- the step of an entry at a table, as the model has it
abbrev pub IsStepOf : Table → Entry → UnderWay → Reply → Type 0
IsStepOf T e new r = ComesTo (after T e) (queue_of (taken T e)) new r
