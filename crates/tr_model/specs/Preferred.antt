-- The choices that this product makes where the model leaves one, and what a check answers with them.
use Rattle.std.specs.Prelude.{ℕ, ◌+◌, ◌-◌, zero, suc, List, [], ◌∷◌, Option, Some, None, Result, Ok, Err, if◌then◌else◌}
use Rattle.std.specs.Option.{option_or}
use Rattle.tr_pending.specs.declared.instance.Instance.{Instance}
use Rattle.tr_pending.specs.Waiting.{best_of}
use Rattle.tr_tracee.specs.declared.thread.Thread.{Thread}
use Rattle.tr_tracee.specs.Threads.{is_ready_to_take}
use Rattle.tr_model.specs.declared.checked.Checked.{Checked}
use Rattle.tr_model.specs.declared.checked.Checked.TheVariants.{Quiet, Due}
use Rattle.tr_model.specs.Choices.{Choice, gives_id, gives_report, no_choice, takes_by, takes_instance}
use Rattle.tr_model.specs.declared.events.Event.{Event}
use Rattle.tr_model.specs.declared.events.Event.TheVariants as event
use Rattle.tr_model.specs.declared.replies.Refusal.{Refusal}
use Rattle.tr_model.specs.declared.replies.Reply.{Reply}
use Rattle.tr_model.specs.declared.rows.Target.TheVariants as target
use Rattle.tr_model.specs.Causes.{cause_of, quiet_of}
use Rattle.tr_model.specs.Steps.{is_new}
use Rattle.tr_model.specs.Tables.{Table, members, queue, thread_of}
use Rattle.tr_model.specs.Takes.{can_take}
use Rattle.tr_model.specs.StarterWaits.{ready_for_starter}
use Rattle.tr_model.specs.Waits.{ready}

-- Takes: the own queue before the shared one, the least number first, by the first thread in table order

-- a free thread without marks takes the least unblocked number, the earliest of one number, its own queue first
abbrev pub best_for : Table → Thread → Option Instance
best_for T t = if is_ready_to_take t then option_or (best_of t.mask (queue T (target.Thread t.id))) (best_of t.mask (queue T (target.Group t.group))) else None

-- Take: the instance by its number; without one there is nothing to choose
abbrev pub taking : Option Instance → Choice
taking None = no_choice
taking (Some i) = takes_instance i.n

-- TakeAny: the thread that takes, and the instance by its number
abbrev pub taking_by : ℕ → Option Instance → Choice
taking_by id None = no_choice
taking_by id (Some i) = takes_by id i.n

-- Take names its thread, so only the instance is chosen
abbrev pub take_choice : Table → Option Thread → Choice
take_choice T None = no_choice
take_choice T (Some t) = taking (best_for T t)

-- the first thread that can take anything takes what it would take by itself
abbrev pub take_any_choice : Table → List Thread → Choice
take_any_choice T [] = no_choice
take_any_choice T (t ∷ ts) = if can_take T t then taking_by t.id (best_for T t) else take_any_choice T ts

-- Waits: the first report in table order

-- of the reports that are ready a wait gives the first
abbrev pub reporting : List ℕ → Choice
reporting [] = no_choice
reporting (r ∷ rs) = gives_report r

-- Clones: the least free id above the group's, past the greatest id from 2 up

-- the least new id among so many, from this one up
abbrev pub least_new : Table → ℕ → ℕ → Option ℕ
least_new T zero id = None
least_new T (suc tries) id = let later = least_new T tries (id + 1) in if is_new T id then Some id else later

-- where every id above the group's is in use, the least new one from 2 up, or 0 where none is new at all
abbrev pub or_from_2 : Table → Option ℕ → ℕ
or_from_2 T (Some id) = id
or_from_2 T None = or_none (least_new T 4194302 2)
  where
    or_none : Option ℕ → ℕ
    or_none None = 0
    or_none (Some id) = id

-- the least id above this one that no thread and no group has, else the least from 2 up
unfoldable pub new_id : Table → ℕ → ℕ
new_id T g = or_from_2 T (least_new T (4194303 - g) (g + 1))

-- the search begins above the id of the thread group, whichever thread of it clones
abbrev pub clone_choice : Table → Option Thread → Choice
clone_choice T None = no_choice
clone_choice T (Some t) = gives_id (new_id T t.group)

-- one of the choices that the model admits; an event that leaves none has no choice
abbrev pub preferred : Table → ℕ → Event → Choice
preferred T a (event.Take id) = take_choice T (thread_of T id)
preferred T a (event.TakeAny g) = take_any_choice T (members T g)
preferred T a (event.Wait which) = reporting (ready T a which)
preferred T a (event.StarterWait which flags) = reporting (ready_for_starter T which flags)
preferred T a (event.CloneThread id) = clone_choice T (thread_of T id)
preferred T a _ = no_choice

-- What a check answers

-- answered without an entry where that is possible, else an entry with this choice is due
abbrev pub quiet_or : Option Reply → Choice → Result Checked Refusal
quiet_or (Some r) c = Ok (Quiet r)
quiet_or None c = Ok (Due c)

-- a cause to refuse goes before every other answer
abbrev pub refused_or : Option Refusal → Result Checked Refusal → Result Checked Refusal
refused_or (Some why) r = Err why
refused_or None r = r

-- refused for its first cause, answered at once, or due with this product's choice
abbrev pub check : Table → ℕ → Event → Result Checked Refusal
check T a e = refused_or (cause_of T a e) (quiet_or (quiet_of T a e) (preferred T a e))
