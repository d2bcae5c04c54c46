-- What a call is about, its words, and the marks at its event line.
use Rattle.std.specs.Prelude.{ℕ, ◌+◌, List, [], ◌∷◌, Bool, true, false, nat_lt, if◌then◌else◌, codes, decimal, Option, Some, None}
use Rattle.tr_model.specs.declared.events.Event.{Event}
use Rattle.tr_model.specs.declared.events.Event.TheVariants as event
use Rattle.tr_model.specs.declared.replies.Reply.TheVariants.{Waited}
use Rattle.tr_model.specs.declared.rows.Target.{Target}
use Rattle.tr_model.specs.declared.rows.Target.TheVariants as target
use Rattle.tr_model.specs.Runs.{Answer, Call, Entered, Refused}
use Rattle.tr_reading.specs.Kinds.{event_name}
use Rattle.tr_scenario.specs.Replies.{refusal_text}
use Rattle.tr_figures.specs.declared.styles.Style.{Style}
use Rattle.tr_figures.specs.declared.styles.Style.TheVariants as style
use Rattle.tr_figures.specs.Elements.{Elements, all, cross, line, none, rect, words}
use Rattle.tr_figures.specs.Lives.{signal_name}

-- the thread or the group that an event names
abbrev pub aim : Event → Option Target
aim (event.Kill g s) = Some (target.Group g)
aim (event.Tgkill g id s) = Some (target.Thread id)
aim (event.Sigqueue g s v) = Some (target.Group g)
aim (event.Mask id m) = Some (target.Thread id)
aim (event.SetAction id s h) = Some (target.Thread id)
aim (event.Pause id) = Some (target.Thread id)
aim (event.Take id) = Some (target.Thread id)
aim (event.TakeAny g) = Some (target.Group g)
aim (event.Halt id) = Some (target.Thread id)
aim (event.Trap id) = Some (target.Thread id)
aim (event.Die id) = Some (target.Thread id)
aim (event.CloneThread id) = Some (target.Thread id)
aim (event.Exec id) = Some (target.Thread id)
aim (event.Finish id) = Some (target.Thread id)
aim (event.Exit id code) = Some (target.Thread id)
aim (event.ExitGroup id code) = Some (target.Thread id)
aim (event.Attach id) = Some (target.Thread id)
aim (event.Seize id o) = Some (target.Thread id)
aim (event.Interrupt id) = Some (target.Thread id)
aim (event.Cont id s) = Some (target.Thread id)
aim (event.Listen id) = Some (target.Thread id)
aim (event.Detach id s) = Some (target.Thread id)
aim (event.SetOptions id o) = Some (target.Thread id)
aim (event.EventMessage id) = Some (target.Thread id)
aim (event.SignalInfo id) = Some (target.Thread id)
aim event.TracerExit = None
aim (event.Wait which) = None
aim (event.StarterWait which flags) = None

-- a thread does it by itself
abbrev pub is_own : Event → Bool
is_own (event.Mask id m) = true
is_own (event.SetAction id s h) = true
is_own (event.Pause id) = true
is_own (event.Take id) = true
is_own (event.TakeAny g) = true
is_own (event.Halt id) = true
is_own (event.Trap id) = true
is_own (event.Die id) = true
is_own (event.CloneThread id) = true
is_own (event.Exec id) = true
is_own (event.Finish id) = true
is_own (event.Exit id code) = true
is_own (event.ExitGroup id code) = true
is_own _ = false

-- the signal that it names; a restart with 0 names none
abbrev pub signal_of : Event → Option ℕ
signal_of (event.Kill g s) = Some s
signal_of (event.Tgkill g id s) = Some s
signal_of (event.Sigqueue g s v) = Some s
signal_of (event.SetAction id s h) = Some s
signal_of (event.Cont id s) = if nat_lt 0 s then Some s else None
signal_of (event.Detach id s) = if nat_lt 0 s then Some s else None
signal_of _ = None

-- Its words

-- after a space, the name of a signal
abbrev pub signal_words : Option ℕ → List (List ℕ)
signal_words None = []
signal_words (Some s) = codes " " ∷ signal_name s ∷ []

abbrev pub id_of : Target → ℕ
id_of (target.Thread id) = id
id_of (target.Group g) = g

-- after a space, the id of a thread or a group, and then a signal
abbrev pub aim_words : Option Target → Option ℕ → List (List ℕ)
aim_words None s = []
aim_words (Some t) s = codes " " ∷ decimal (id_of t) ∷ signal_words s

-- who asks for what
abbrev pub call_words : Call → List (List ℕ)
call_words c = decimal c.actor ∷ codes " " ∷ event_name c.event ∷ aim_words (aim c.event) (signal_of c.event)

-- what it is, or why it was refused
abbrev pub chip_words : Event → Answer → List (List ℕ)
chip_words e (Refused why) = refusal_text why ∷ []
chip_words e x = event_name e ∷ signal_words (signal_of e)

-- Its marks

-- whom its arrow joins to the actor: of a wait that was answered the thread or group that it tells of
abbrev pub aim_of : Event → Answer → Option Target
aim_of (event.Wait which) (Entered (Waited id word report)) = Some (target.Thread id)
aim_of (event.StarterWait which flags) (Entered (Waited id word report)) = Some (target.Group id)
aim_of e x = aim e

-- the class of the arrow of a wait: one that took no report is a request alone
abbrev pub style_of_wait : Answer → Style
style_of_wait (Entered r) = style.Takes
style_of_wait x = style.Request

-- the class of its arrow
abbrev pub arrow_style : Event → Answer → Style
arrow_style e (Refused why) = style.Refused
arrow_style (event.Kill g s) x = style.Send
arrow_style (event.Tgkill g id s) x = style.Send
arrow_style (event.Sigqueue g s v) x = style.Send
arrow_style (event.Wait which) x = style_of_wait x
arrow_style (event.StarterWait which flags) x = style_of_wait x
arrow_style e x = style.Request

-- from an actor's lane to that of a thread or a group, where it ends in a dot
abbrev pub arrow : Style → Option ℕ → Option ℕ → Elements
arrow s (Some a) (Some x) = all (line s (a + 46) 10 (x + 124) 10 ∷ rect s (x + 118) 7 6 6 ∷ [])
arrow s _ _ = none

-- where a call that is refused aimed
abbrev pub refusal_cross : Answer → Option ℕ → Elements
refusal_cross (Refused why) (Some x) = cross style.Refused (x + 104)
refusal_cross _ _ = none

-- where its chip is: in the lane of the thread that does it by itself, else in that of its actor
abbrev pub chip_place : Bool → Option ℕ → Option ℕ → Option ℕ
chip_place true actor (Some x) = Some (x + 130)
chip_place _ actor lane = actor

abbrev pub chip : Style → Option ℕ → List (List ℕ) → Elements
chip s None t = none
chip s (Some x) t = all (rect style.Chip x 2 114 16 ∷ words s (x + 4) 14 t ∷ [])

-- the lanes of its actor, and of the thread or group that it aims at, begin here, where they have one
abbrev pub marks : Event → Answer → Option ℕ → Option ℕ → Elements
marks e x actor lane = all (
    arrow (arrow_style e x) actor lane ∷
    refusal_cross x lane ∷
    chip (arrow_style e x) (chip_place (is_own e) actor lane) (chip_words e x) ∷ [])
