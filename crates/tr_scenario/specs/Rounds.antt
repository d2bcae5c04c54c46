-- A serial run of workers: they make their turns in rounds.
use Rattle.std.specs.Prelude.{ℕ, zero, suc, ◌+◌, ◌-◌, List, [], ◌∷◌, ◌++◌, map, Option, Some, None}
use Rattle.tr_model.specs.declared.events.Event.{Event}
use Rattle.tr_model.specs.Runs.{Answer, Entered, Read, Refused, Call, State, call}
use Rattle.tr_workers.specs.declared.scripts.Script.{Script}
use Rattle.tr_workers.specs.declared.working.Ended.{Ended}
use Rattle.tr_workers.specs.declared.working.Ended.TheVariants.{AtEnd, OutOfTurns}
use Rattle.tr_workers.specs.declared.working.Tally.{Tally}
use Rattle.tr_workers.specs.Scripts.{begun, next, told}
use Rattle.tr_scenario.specs.declared.rounds.Player.{Player}
use Rattle.tr_scenario.specs.Lines.{entries_of, worker_line}
use Rattle.tr_scenario.specs.RunTexts.{call_of, calls_text, state_after, unanswered}

-- Players: workers in rounds

-- nothing is counted yet
abbrev pub no_tally : Tally
no_tally = record { entries = 0; accepted = 0; refused = 0; outcome = OutOfTurns }

-- before its first call
abbrev pub player_of : Script → Player
player_of s = record { actor = s.actor; calls = begun s.plan; tally = no_tally }

-- how many refusals it tells of
abbrev pub refusals_of : Answer → ℕ
refusals_of (Entered r) = 0
refusals_of (Read r) = 0
refusals_of (Refused why) = 1

-- one answer more, to a call that accepted so many signals
abbrev pub tallied : Tally → ℕ → Answer → Tally
tallied t accepted x = record {
  entries = t.entries + entries_of x;
  accepted = t.accepted + accepted;
  refused = t.refused + refusals_of x;
  outcome = t.outcome;
}

-- its call accepted so many signals, and got this answer
abbrev pub player_after : Player → ℕ → List Answer → Player
player_after p accepted [] = p
player_after p accepted (x ∷ xs) = record { actor = p.actor; calls = told p.calls x; tally = tallied p.tally accepted x }

-- Turns and rounds

-- the calls that are made, and the players after them
pub record Played : Type 0 where
  pub calls : List Call
  pub players : List Player

-- the call of this event, if there is one
abbrev pub turn_with : State → Player → Option Event → Played
turn_with s p None = record { calls = []; players = p ∷ [] }
turn_with s p (Some e) =
    let c : Call = call_of p.actor e in
    let after : State = call (unanswered s) c in
    record { calls = c ∷ []; players = player_after p (after.table.accepted - s.table.accepted) after.answers ∷ [] }

-- a player makes its next call, if its script has one left
abbrev pub turn : State → Player → Played
turn s p = turn_with s p (next p.calls)

-- one turn of each, in their order
abbrev pub round : State → List Player → Played
round s [] = record { calls = []; players = [] }
round s (p ∷ ps) =
    let one : Played = turn s p in
    let rest : Played = round (state_after s one.calls) ps in
    record { calls = one.calls ++ rest.calls; players = one.players ++ rest.players }

-- so many rounds; a player that has ended makes no call in them
abbrev pub rounds : ℕ → State → List Player → Played
rounds zero s ps = record { calls = []; players = ps }
rounds (suc n) s ps =
    let one : Played = round s ps in
    let rest : Played = rounds n (state_after s one.calls) one.players in
    record { calls = one.calls ++ rest.calls; players = rest.players }

-- at most so many turns each
unfoldable pub most_turns : ℕ
most_turns = 100000

-- all rounds of these scripts
abbrev pub all_rounds : State → List Script → Played
all_rounds s scripts = rounds most_turns s (map player_of scripts)

-- The lines

-- at the end no call is left
abbrev pub ended_with : Option Event → Ended
ended_with None = AtEnd
ended_with (Some e) = OutOfTurns

-- what it counted, and how it ended
abbrev pub final_tally : Player → Tally
final_tally p = record p.tally { outcome = ended_with (next p.calls) }

-- one after the other
abbrev pub player_lines : List Player → List ℕ
player_lines [] = []
player_lines (p ∷ ps) = worker_line p.actor (final_tally p) ++ player_lines ps

-- what is told of the calls, and the lines of the workers
abbrev pub rounds_text : (State → Call → List ℕ) → State → Played → List ℕ
rounds_text tell s x = calls_text tell s x.calls ++ player_lines x.players
