-- Turns and rounds, as loops make them.
use Rattle.std.proofs.Common.{◌≡◌, ◌≤◌, ◌<◌, ◌+◌, ◌-◌, ◌∙◌, ℕ, zero, suc, List, [], ◌∷◌, ◌++◌, ap, sym, refl, append_assoc, append-nil, length, length-append, drop_of_length-le, get_or, set, take, drop, drop-cons, add-one, Option, Some, None, Bool, true, false, is_none, map, OnOk, Result, Ok, Err, arith}
use Rattle.std.proofs.Math.Seq.{take-append_seam}
use Rattle.std.proofs.lemmas.Bool.{and_parts}
use Rattle.std.specs.List.{list_all}
use Rattle.tr_model.specs.declared.events.Event.{Event}
use Rattle.tr_model.specs.declared.replies.Refusal.TheVariants.{NoMemory}
use Rattle.tr_model.specs.Runs as runs
use Rattle.tr_hub.specs.Answers.{accepted_in}
use Rattle.tr_kernel.specs.declared.answers.Answer.{Answer}
use Rattle.tr_kernel.specs.declared.answers.Answer.TheVariants.{Entered, Read, Refused}
use Rattle.tr_kernel.specs.States.{State}
use Rattle.tr_workers.specs.declared.scripts.Script.{Script}
use Rattle.tr_workers.specs.declared.working.Tally.{Tally}
use Rattle.tr_workers.specs.Follows.{heard}
use Rattle.tr_workers.specs.Scripts.{next, told}
use Rattle.tr_workers.specs.Tallies.{counted}
use Rattle.tr_scenario.specs.declared.rounds.Player.{Player}
use Rattle.tr_scenario.specs.Kernels.{Answers, Makes, lacks_memory, so_far}
use Rattle.tr_scenario.specs.Private.{AreLow, IsLow}
use Rattle.tr_status.specs.Writing.{IsFront}
use Rattle.tr_reading.specs.declared.faults.ScenarioFault.{ScenarioFault}
use Rattle.tr_reading.specs.declared.faults.ScenarioFault.TheVariants as fault
use Rattle.tr_scenario.specs.Printing.{IsHalt}
use Rattle.tr_scenario.specs.Rounds.{Played, all_rounds, most_turns, player_after, player_lines, player_of, round, rounds, rounds_text, tallied, turn, turn_with}
use Rattle.tr_scenario.specs.RunTexts.{call_of, calls_text, state_after}
use Rattle.tr_scenario.proofs.Filled.{fills_pushed, halts_first, halts_unpushed}
use Rattle.tr_scenario.proofs.Left.{no_later}

-- A turn

-- an answer more
abbrev pub player_with : Player → Answer → Player
player_with p x = record { actor = p.actor; calls = told p.calls (heard x); tally = counted p.tally x }

tallied_is_counted : (t : Tally) (x : Answer) → tallied t (accepted_in x) (heard x) ≡ counted t x
tallied_is_counted t (Entered r) =
    let refused : t.refused + 0 ≡ t.refused = omega arith in
    λ i. record { entries = t.entries + 1; accepted = t.accepted + r.accepted; refused = refused i; outcome = t.outcome }
tallied_is_counted t (Read r) =
    let entries : t.entries + 0 ≡ t.entries = omega arith in
    let accepted : t.accepted + 0 ≡ t.accepted = omega arith in
    let refused : t.refused + 0 ≡ t.refused = omega arith in
    λ i. record { entries = entries i; accepted = accepted i; refused = refused i; outcome = t.outcome }
tallied_is_counted t (Refused why) =
    let entries : t.entries + 0 ≡ t.entries = omega arith in
    let accepted : t.accepted + 0 ≡ t.accepted = omega arith in
    λ i. record { entries = entries i; accepted = accepted i; refused = t.refused + 1; outcome = t.outcome }

-- a player that has ended makes no call
pub turn_at_end : (s : runs.State) (p : Player) → next p.calls ≡ None → turn s p ≡ record { calls = []; players = p ∷ [] }
turn_at_end s p h = ap (turn_with s p) h

pub fills_nothing : (tell : runs.State → runs.Call → List ℕ) (k : State) (p : Player) (taken kept : List ℕ) (failures : ℕ) → next p.calls ≡ None →
    (taken ++ kept ≡ taken ++ (kept ++ calls_text tell (so_far k) (turn (so_far k) p).calls)) × (length kept ≤ length (kept ++ calls_text tell (so_far k) (turn (so_far k) p).calls)) × (failures ≡ failures)
fills_nothing tell k p taken kept failures h =
    let none : (turn (so_far k) p).calls ≡ [] = ap (λ (x : Played). x.calls) (turn_at_end (so_far k) p h) in
    rw (none, append-nil kept) (refl, omega arith, refl)

pub makes_nothing : (k : State) (p : Player) → next p.calls ≡ None → Makes k k (turn (so_far k) p).calls
makes_nothing k p h =
    let none : (turn (so_far k) p).calls ≡ [] = ap (λ (x : Played). x.calls) (turn_at_end (so_far k) p h) in
    rw none (record { start = refl; state = sym (no_later k) })

-- another makes one
pub turn_calls : (s : runs.State) (p : Player) (e : Event) → next p.calls ≡ Some e → (turn s p).calls ≡ call_of p.actor e ∷ []
turn_calls s p e h = ap (λ o. (turn_with s p o).calls) h

pub turn_players : (k : State) (p : Player) (e : Event) (x : Answer) → next p.calls ≡ Some e → Answers k (call_of p.actor e) x → (turn (so_far k) p).players ≡ player_with p x ∷ []
turn_players k p e x h a =
    ap (λ o. (turn_with (so_far k) p o).players) h
    ∙ (λ i. player_after p (a.accepted i) (a.answers i) ∷ [])
    ∙ ap (λ (t : Tally). record { actor = p.actor; calls = told p.calls (heard x); tally = t } ∷ []) (tallied_is_counted p.tally x)

-- an answer more, and no more than 1,024 signals
pub low_with : (n : ℕ) (p : Player) (x : Answer) → accepted_in x ≤ 1024 → IsLow n p → IsLow (n + 1) (player_with p x)
low_with n p (Entered r) few l = record { entries = omega (arith, l.entries); accepted = omega (arith, l.accepted, few); refused = omega (arith, l.refused) }
low_with n p (Read r) few l = record { entries = omega (arith, l.entries); accepted = omega (arith, l.accepted); refused = omega (arith, l.refused) }
low_with n p (Refused why) few l = record { entries = omega (arith, l.entries); accepted = omega (arith, l.accepted); refused = omega (arith, l.refused) }

pub lower : (m n : ℕ) (p : Player) → m ≤ n → IsLow m p → IsLow n p
lower m n p h l = record { entries = omega (arith, l.entries, h); accepted = omega (arith, l.accepted, h); refused = omega (arith, l.refused, h) }

pub all_lower : (m n : ℕ) (ps : List Player) → m ≤ n → AreLow m ps → AreLow n ps
all_lower m n [] h l = tt
all_lower m n (p ∷ ps) h l = (lower m n p h l.0, all_lower m n ps h l.1)

pub none_counted : (scripts : List Script) → AreLow 0 (map player_of scripts)
none_counted [] = tt
none_counted (s ∷ ss) = (record { entries = omega arith; accepted = omega arith; refused = omega arith }, none_counted ss)

pub low_at : (n : ℕ) (ps : List Player) (i : ℕ) (d : Player) → i < length ps → AreLow n ps → IsLow n (get_or ps i d)
low_at n [] i d h l = absurd (omega (arith, h))
low_at n (p ∷ ps) zero d h l = l.0
low_at n (p ∷ ps) (suc i) d h l = low_at n ps i d (omega (arith, h)) l.1

pub low_one_more : (n : ℕ) (ps : List Player) (p : Player) → AreLow n ps → IsLow n p → AreLow n (ps ++ p ∷ [])
low_one_more n [] p l h = (h, tt)
low_one_more n (q ∷ ps) p l h = (l.0, low_one_more n ps p l.1 h)

-- refused memory is no answer
pub not_refused : (x : Answer) → lacks_memory x ≡ false → x ≡ Refused NoMemory → ⊥
not_refused x enough h = let lacking : lacks_memory x ≡ true = ap lacks_memory h in cc

-- A round

pub round_from : (s : runs.State) (ps : List Player) (i : ℕ) (d : Player) → i < length ps →
    round s (drop i ps) ≡ round s (get_or ps i d ∷ drop (i + 1) ps)
round_from s ps i d h = ap (round s) (drop-cons ps i d h ∙ ap (λ k. get_or ps i d ∷ drop k ps) (sym (add-one i)))

pub rest_calls : (s : runs.State) (ps : List Player) (i : ℕ) (d : Player) → i < length ps →
    (round s (drop i ps)).calls ≡ (turn s (get_or ps i d)).calls ++ (round (state_after s (turn s (get_or ps i d)).calls) (drop (i + 1) ps)).calls
rest_calls s ps i d h = ap (λ (x : Played). x.calls) (round_from s ps i d h)

pub rest_made : (k k_next : State) (ps : List Player) (i : ℕ) (d : Player) → i < length ps → Makes k k_next (turn (so_far k) (get_or ps i d)).calls →
    (round (so_far k) (drop i ps)).calls ≡ (turn (so_far k) (get_or ps i d)).calls ++ (round (so_far k_next) (drop (i + 1) ps)).calls
rest_made k k_next ps i d h m =
    rest_calls (so_far k) ps i d h ∙ ap (λ s. (turn (so_far k) (get_or ps i d)).calls ++ (round s (drop (i + 1) ps)).calls) (sym m.state)

-- some players had their turns
pub record IsRound (start : State) (all : List Player) (k : State) (players : List Player) (i : ℕ) : Type 0 where
  pub done : List Player
  pub number : length done ≡ i
  pub parts : players ≡ done ++ drop i all
  pub later : (round (so_far start) all).players ≡ done ++ (round (so_far k) (drop i all)).players
  pub low : (n : ℕ) → AreLow n all → AreLow (n + 1) done

pub none_played : (k : State) (all : List Player) → IsRound k all k all 0
none_played k all = record { done = []; number = refl; parts = refl; later = refl; low = λ n l. tt }

at_seam : (xs ys : List Player) (y d : Player) → get_or (xs ++ y ∷ ys) (length xs) d ≡ y
at_seam [] ys y d = refl
at_seam (x ∷ xs) ys y d = at_seam xs ys y d

set_seam : (xs ys : List Player) (y z : Player) → set (xs ++ y ∷ ys) (length xs) z ≡ (xs ++ z ∷ []) ++ ys
set_seam [] ys y z = refl
set_seam (x ∷ xs) ys y z = ap (λ zs. x ∷ zs) (set_seam xs ys y z)

parts_at : (start k : State) (all players : List Player) (i : ℕ) (d : Player) → (r : IsRound start all k players i) → i < length all → players ≡ r.done ++ get_or all i d ∷ drop (i + 1) all
parts_at start k all players i d r h = r.parts ∙ ap (λ xs. r.done ++ xs) (drop-cons all i d h ∙ ap (λ n. get_or all i d ∷ drop n all) (sym (add-one i)))

-- the next turn is that of the player who was there before the round
pub player_at : (start k : State) (all players : List Player) (i : ℕ) (d : Player) → IsRound start all k players i → i < length all → get_or players i d ≡ get_or all i d
player_at start k all players i d r h =
    ap (λ xs. get_or xs i d) (parts_at start k all players i d r h)
    ∙ ap (λ n. get_or (r.done ++ get_or all i d ∷ drop (i + 1) all) n d) (sym r.number)
    ∙ at_seam r.done (drop (i + 1) all) (get_or all i d) d

-- one more had its turn
pub one_played : (start k k_next : State) (all players : List Player) (i : ℕ) (d q : Player) → IsRound start all k players i → i < length all → Makes k k_next (turn (so_far k) (get_or all i d)).calls →
    (turn (so_far k) (get_or all i d)).players ≡ q ∷ [] → ((n : ℕ) → IsLow n (get_or all i d) → IsLow (n + 1) q) → IsRound start all k_next (set players i q) (i + 1)
one_played start k k_next all players i d q r h m is low =
    let p = get_or all i d in
    let rest = (round (so_far k_next) (drop (i + 1) all)).players in
    let from : (round (so_far k) (drop i all)).players ≡ (q ∷ []) ++ rest =
    ap (λ (x : Played). x.players) (round_from (so_far k) all i d h) ∙ (λ j. is j ++ (round (sym m.state j) (drop (i + 1) all)).players) in
    record {
      done = r.done ++ q ∷ [];
      number = omega (arith, length-append r.done (q ∷ []), r.number);
      parts =
          ap (λ xs. set xs i q) (parts_at start k all players i d r h)
          ∙ ap (λ n. set (r.done ++ p ∷ drop (i + 1) all) n q) (sym r.number)
          ∙ set_seam r.done (drop (i + 1) all) p q;
      later = r.later ∙ ap (λ xs. r.done ++ xs) from ∙ sym (append_assoc r.done (q ∷ []) rest);
      low = λ n l. low_one_more (n + 1) r.done q (r.low n l) (low n (low_at n all i d h l));
    }

-- all had their turns
pub all_played : (start k : State) (all players : List Player) (i : ℕ) → IsRound start all k players i → length all ≤ i → (players ≡ (round (so_far start) all).players) × ((n : ℕ) → AreLow n all → AreLow (n + 1) players)
all_played start k all players i r h =
    let none : drop i all ≡ [] = drop_of_length-le all h in
    let players_are : players ≡ r.done = r.parts ∙ ap (λ xs. r.done ++ xs) none ∙ append-nil r.done in
    let later : (round (so_far start) all).players ≡ r.done = r.later ∙ ap (λ xs. r.done ++ (round (so_far k) xs).players) none ∙ append-nil r.done in
    (players_are ∙ sym later, λ n l. rw players_are (r.low n l))

-- Rounds

pub one_round_more : (turns i : ℕ) (s : runs.State) (ps : List Player) → i < turns → rounds (turns - i) s ps ≡ rounds (suc (turns - (i + 1))) s ps
one_round_more turns i s ps h = let e : turns - i ≡ suc (turns - (i + 1)) = omega arith in ap (λ n. rounds n s ps) e

pub no_round_more : (turns i : ℕ) (s : runs.State) (ps : List Player) → turns ≤ i → rounds (turns - i) s ps ≡ record { calls = []; players = ps }
no_round_more turns i s ps h = let e : turns - i ≡ 0 = omega arith in ap (λ n. rounds n s ps) e

pub rounds_from : (turns i : ℕ) (s : runs.State) (ps : List Player) → i < turns →
    (rounds (turns - i) s ps).calls ≡ (round s ps).calls ++ (rounds (turns - (i + 1)) (state_after s (round s ps).calls) (round s ps).players).calls
rounds_from turns i s ps h = ap (λ (x : Played). x.calls) (one_round_more turns i s ps h)

-- a round was made
pub record IsNext (k k_next : State) (ps ps_next : List Player) : Type 0 where
  pub makes : Makes k k_next (round (so_far k) ps).calls
  pub players : ps_next ≡ (round (so_far k) ps).players

pub rounds_made_next : (turns i : ℕ) (k k_next : State) (ps ps_next : List Player) → i < turns → IsNext k k_next ps ps_next →
    (rounds (turns - i) (so_far k) ps).calls ≡ (round (so_far k) ps).calls ++ (rounds (turns - (i + 1)) (so_far k_next) ps_next).calls
rounds_made_next turns i k k_next ps ps_next h m =
    rounds_from turns i (so_far k) ps h ∙ (λ j. (round (so_far k) ps).calls ++ (rounds (turns - (i + 1)) (sym m.makes.state j) (sym m.players j)).calls)

pub players_next : (turns i : ℕ) (k k_next : State) (ps ps_next : List Player) → i < turns → IsNext k k_next ps ps_next →
    (rounds (turns - i) (so_far k) ps).players ≡ (rounds (turns - (i + 1)) (so_far k_next) ps_next).players
players_next turns i k k_next ps ps_next h m =
    ap (λ (x : Played). x.players) (one_round_more turns i (so_far k) ps h) ∙ (λ j. (rounds (turns - (i + 1)) (sym m.makes.state j) (sym m.players j)).players)

-- each of the players has ended
abbrev pub at_end : List Player → Bool
at_end ps = list_all (λ (p : Player). is_none (next p.calls)) ps

ended : (o : Option Event) → is_none o ≡ true → o ≡ None
ended None h = refl
ended (Some e) h = cc

round_at_end : (s : runs.State) (ps : List Player) → at_end ps ≡ true → round s ps ≡ record { calls = []; players = ps }
round_at_end s [] h = refl
round_at_end s (p ∷ ps) h =
    let each = and_parts (is_none (next p.calls)) (at_end ps) h in
    let one = turn_at_end s p (ended (next p.calls) each.0) in
    ap (λ (x : Played). let rest : Played = round (state_after s x.calls) ps in record { calls = x.calls ++ rest.calls; players = x.players ++ rest.players }) one
    ∙ ap (λ (rest : Played). record { calls = rest.calls; players = p ∷ rest.players }) (round_at_end (state_after s []) ps each.1)

-- no further call is made
pub rounds_at_end : (n : ℕ) (s : runs.State) (ps : List Player) → at_end ps ≡ true → rounds n s ps ≡ record { calls = []; players = ps }
rounds_at_end zero s ps h = refl
rounds_at_end (suc n) s ps h =
    ap (λ (x : Played). let rest : Played = rounds n (state_after s x.calls) x.players in record { calls = x.calls ++ rest.calls; players = rest.players }) (round_at_end s ps h)
    ∙ rounds_at_end n (state_after s []) ps h

-- all of a vector's items were written
pub all_written : (n : ℕ) (items old new : List Player) → length old ≡ n → length new ≡ length old → take n (new ++ drop (length new) items) ≡ new
all_written n items old new len same = ap (λ (i : ℕ). take i (new ++ drop (length new) items)) (sym (same ∙ len)) ∙ take-append_seam new (drop (length new) items)

-- The text

pub most_are : 100000 ≡ most_turns
unfolding most_turns
most_are = refl

-- a halt before the lines of the workers
pub rounds_halted : (tell : runs.State → runs.Call → List ℕ) (old new page : List ℕ) (f f_new : ℕ) (e : ScenarioFault) (s : runs.State) (turns : ℕ) (ps : List Player) (scripts : List Script) → turns ≡ most_turns → ps ≡ map player_of scripts →
    IsFront old new (page ++ calls_text tell s (rounds turns s ps).calls) × IsHalt e f f_new → IsFront old new (page ++ rounds_text tell s (all_rounds s scripts)) × IsHalt e f f_new
rounds_halted tell old new page f f_new e s turns ps scripts most are h =
    let x = all_rounds s scripts in
    halts_first old new page (calls_text tell s x.calls) (player_lines x.players) e f f_new (rw (most, are) at h)

module _ {K : Type 0} (tell : runs.State → runs.Call → List ℕ) (taken : K → List ℕ) (failures : K → ℕ) (old mid : K) (page page_mid : List ℕ) (s : runs.State) (turns : ℕ) (ps : List Player) (scripts : List Script) (most : turns ≡ most_turns) (are : ps ≡ map player_of scripts)
    (went : (taken mid ++ page_mid ≡ taken old ++ (page ++ calls_text tell s (rounds turns s ps).calls)) × (length page_mid ≤ length (page ++ calls_text tell s (rounds turns s ps).calls)) × (failures mid ≡ failures old)) where
  -- want of memory for them
  pub rounds_unpushed : IsFront (taken old) (taken mid) (page ++ rounds_text tell s (all_rounds s scripts)) × IsHalt fault.NoMemory (failures old) (failures mid)
  rounds_unpushed =
      let x = all_rounds s scripts in
      halts_unpushed taken failures old mid page page_mid (calls_text tell s x.calls) (player_lines x.players) (rw (most, are) at went)

  pub rounds_pushed : (after : List Player) (page_new : List ℕ) → after ≡ (rounds turns s ps).players → page_new ≡ page_mid ++ player_lines after →
      (taken mid ++ page_new ≡ taken old ++ (page ++ rounds_text tell s (all_rounds s scripts))) × (length page_new ≤ length (page ++ rounds_text tell s (all_rounds s scripts))) × (failures mid ≡ failures old)
  rounds_pushed after page_new players pushed =
      let x = all_rounds s scripts in
      fills_pushed taken failures old mid page page_mid page_new (calls_text tell s x.calls) (player_lines x.players) (rw (most, are) at went) (rw (players, most, are) at pushed)

pub rounds_made : {X : Type 0} (k k_next : State) (turns : ℕ) (ps : List Player) (scripts : List Script) (r : Result X ScenarioFault) → turns ≡ most_turns → ps ≡ map player_of scripts →
    Makes k k_next (rounds turns (so_far k) ps).calls → OnOk r (Makes k k_next (all_rounds (so_far k) scripts).calls)
rounds_made k k_next turns ps scripts (Ok x) most are h = rw (most, are) at h
rounds_made k k_next turns ps scripts (Err e) most are h = tt
