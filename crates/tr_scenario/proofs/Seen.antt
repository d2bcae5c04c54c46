-- What an observer knows while the calls of a run are made.
use Rattle.std.proofs.Common.{◌≡◌, ◌∙◌, List, [], ◌∷◌, ◌++◌, ap, sym, refl, None, OnOk, Result, Ok, Err, ℕ, map}
use Rattle.tr_model.specs.Runs as runs
use Rattle.tr_model.specs.Runs.{Call}
use Rattle.tr_kernel.specs.States.{State}
use Rattle.tr_workers.specs.Scripts.{next}
use Rattle.tr_workers.specs.declared.scripts.Script.{Script}
use Rattle.tr_reading.specs.declared.faults.ScenarioFault.{ScenarioFault}
use Rattle.tr_scenario.specs.declared.rounds.Player.{Player}
use Rattle.tr_scenario.specs.Kernels.{Makes, so_far}
use Rattle.tr_scenario.specs.Observers.{Observes, observed}
use Rattle.tr_scenario.specs.Rounds.{Played, all_rounds, most_turns, player_of, rounds, turn}
use Rattle.tr_scenario.specs.RunTexts.{state_after, unanswered}
use Rattle.tr_scenario.proofs.CallTexts.{state_after_append, state_after_cons}
use Rattle.tr_scenario.proofs.Left.{no_later}
use Rattle.tr_scenario.proofs.Turns.{makes_nothing, turn_at_end}

observed_none : {X : Type 0} (knows : X → runs.State → Call → X) (x : X) (s : runs.State) (cs : List Call) → observed knows x s cs ≡ observed knows x (state_after s []) cs
unfolding state_after
observed_none knows x s [] = refl
observed_none knows x s (c ∷ cs) = refl

observed_append : {X : Type 0} (knows : X → runs.State → Call → X) (x : X) (s : runs.State) (cs ds : List Call) →
    observed knows x s (cs ++ ds) ≡ observed knows (observed knows x s cs) (state_after s cs) ds
observed_append knows x s [] ds = observed_none knows x s ds
observed_append knows x s (c ∷ cs) ds =
    let y = knows x (unanswered s) c in
    observed_append knows y (state_after s (c ∷ [])) cs ds ∙ ap (λ t. observed knows (observed knows y (state_after s (c ∷ [])) cs) t ds) (sym (state_after_cons s c cs))

-- Of all calls, begun at a kernel, some are left at another, and the observer takes note of them yet.
pub record IsSeen {X : Type 0} (knows : X → runs.State → Call → X) (start : State) (x_start : X) (all : List Call) (k : State) (x : X) (rest : List Call) : Type 0 where
  pub known : observed knows x (so_far k) rest ≡ observed knows x_start (so_far start) all
  pub begun : k.start ≡ start.start
  pub later : state_after (so_far k) rest ≡ state_after (so_far start) all

pub seen_at_start : {X : Type 0} (knows : X → runs.State → Call → X) (k : State) (x : X) (all : List Call) → IsSeen knows k x all k x all
seen_at_start knows k x all = record { known = refl; begun = refl; later = refl }

pub seen_next : {X : Type 0} (knows : X → runs.State → Call → X) (start k k_next : State) (x_start x x_next : X) (all cs ds : List Call) →
    IsSeen knows start x_start all k x (cs ++ ds) → Observes knows x x_next k k_next cs → IsSeen knows start x_start all k_next x_next ds
seen_next knows start k k_next x_start x x_next all cs ds i o = record {
  known = (λ j. observed knows (o.known j) (o.makes.state j) ds) ∙ sym (observed_append knows x (so_far k) cs ds) ∙ i.known;
  begun = o.makes.start ∙ i.begun;
  later = ap (λ s. state_after s ds) o.makes.state ∙ sym (state_after_append (so_far k) cs ds) ∙ i.later;
}

pub seen_at_end : {X : Type 0} (knows : X → runs.State → Call → X) (start k : State) (x_start x : X) (all : List Call) → IsSeen knows start x_start all k x [] → Observes knows x_start x start k all
seen_at_end knows start k x_start x all i = record { known = i.known; makes = record { start = i.begun; state = sym (no_later k) ∙ i.later } }

-- one call
pub seen_once : {X : Type 0} (knows : X → runs.State → Call → X) (k k_next : State) (x x_next : X) (c : Call) → x_next ≡ knows x (so_far k) c → Makes k k_next (c ∷ []) → Observes knows x x_next k k_next (c ∷ [])
seen_once knows k k_next x x_next c h m = record { known = h; makes = m }

-- the turn of a player that has ended
pub none_seen : {X : Type 0} (knows : X → runs.State → Call → X) (k : State) (x : X) (p : Player) → next p.calls ≡ None → Observes knows x x k k (turn (so_far k) p).calls
none_seen knows k x p h =
    let none : (turn (so_far k) p).calls ≡ [] = ap (λ (t : Played). t.calls) (turn_at_end (so_far k) p h) in
    record { known = rw none refl; makes = makes_nothing k p h }

-- all rounds
pub rounds_seen : {X Y : Type 0} (knows : X → runs.State → Call → X) (k k_next : State) (x x_next : X) (turns : ℕ) (ps : List Player) (scripts : List Script) (r : Result Y ScenarioFault) → turns ≡ most_turns → ps ≡ map player_of scripts →
    OnOk r (Observes knows x x_next k k_next (rounds turns (so_far k) ps).calls) → OnOk r (Observes knows x x_next k k_next (all_rounds (so_far k) scripts).calls)
rounds_seen knows k k_next x x_next turns ps scripts (Ok y) most are h = rw (most, are) at h
rounds_seen knows k k_next x x_next turns ps scripts (Err e) most are h = tt
