-- What a call says beside whom it is about and which signal it names.
use Rattle.std.specs.Prelude.{ℕ, List, [], ◌∷◌, Bool, true, false, codes, decimal}
use Rattle.std.specs.Fmt.{signed_decimal}
use Rattle.tr_sigset.specs.Sets.{has}
use Rattle.tr_lanes.specs.Digits.{set_digits}
use Rattle.tr_wait.specs.declared.waits.Which.{Which}
use Rattle.tr_wait.specs.declared.waits.Which.TheVariants.{Any, One}
use Rattle.tr_tracee.specs.declared.thread.Options.{Options}
use Rattle.tr_group.specs.declared.stops.Action.{Action}
use Rattle.tr_group.specs.declared.stops.Action.TheVariants.{Catch, Default, Ignore}
use Rattle.tr_model.specs.declared.events.Event.{Event}
use Rattle.tr_model.specs.declared.events.Event.TheVariants as event
use Rattle.tr_figures.specs.declared.styles.Style.TheVariants as style
use Rattle.tr_figures.specs.Elements.{Elements, none, words}

abbrev pub which_words : Which → List (List ℕ)
which_words Any = codes "for any" ∷ []
which_words (One id) = codes "for " ∷ decimal id ∷ []

abbrev pub action_word : Action → List ℕ
action_word Default = codes "default"
action_word Ignore = codes "ignore"
action_word Catch = codes "catch"

abbrev pub option_word : Bool → List ℕ → List ℕ
option_word true word = word
option_word false word = []

-- the options that are set
abbrev pub option_words : Options → List (List ℕ)
option_words o = codes "options" ∷ option_word o.clone (codes " clone") ∷ option_word o.exec (codes " exec") ∷ option_word o.exit (codes " exit") ∷ option_word o.exitkill (codes " exitkill") ∷ []

-- under the words of a call
abbrev pub detail_line : List (List ℕ) → Elements
detail_line ws = words style.Dim 64 30 ws

abbrev pub detail : Event → Elements
detail (event.Exit id code) = detail_line (codes "code " ∷ decimal code ∷ [])
detail (event.ExitGroup id code) = detail_line (codes "code " ∷ decimal code ∷ [])
detail (event.Wait which) = detail_line (which_words which)
detail (event.StarterWait which flags) = detail_line (which_words which)
detail (event.Seize id o) = detail_line (option_words o)
detail (event.SetOptions id o) = detail_line (option_words o)
detail (event.SetAction id s how) = detail_line (action_word how ∷ [])
detail (event.Sigqueue g s v) = detail_line (codes "value " ∷ signed_decimal v ∷ [])
detail (event.Mask id set) = detail_line (codes "blocks " ∷ set_digits (has set) ∷ [])
detail _ = none
