-- The calls of a comparison, one after the other.
use Rattle.std.proofs.Common.{◌≡◌, ◌≤◌, ◌<◌, ◌+◌, ◌∙◌, ℕ, List, [], ◌∷◌, ◌++◌, ap, sym, refl, inl, inr, append-nil, append_assoc, length, length-append, get_or, drop, add-one, replicate, subst, Bool, true, false, Ok, Err, arith}
use Rattle.std.proofs.lemmas.List.{drop_more}
use Rattle.tr_kernel.specs.States.{State}
use Rattle.tr_status.specs.Writing.{IsFront}
use Rattle.tr_reading.specs.declared.faults.ScenarioFault.{ScenarioFault}
use Rattle.tr_reading.specs.declared.faults.ScenarioFault.TheVariants.{NoMemory}
use Rattle.tr_scenario.specs.Printing.{Fills, IsHalt}
use Rattle.tr_scenario.proofs.Halts.{front_none}
use Rattle.tr_answers.specs.declared.records.Answered.{Answered}
use Rattle.tr_answers.specs.Comparisons.{Asked, Differs, Goes, asked_by, asked_from, difference_line, made_line}
use Rattle.tr_answers.specs.Compares.{Starts}
use Rattle.tr_answers.specs.Private.{IsTried, Walks}

-- Calls, and more calls after them

pub goes_on : (s m u : State) (qs rs : List Asked) (text more : List ℕ) → Goes s qs text m → Goes m rs more u → Goes s (qs ++ rs) (text ++ more) u
goes_on s m u [] rs text more g h = subst (λ k. Goes k rs (text ++ more) u) g.1 (subst (λ t. Goes m rs (t ++ more) u) (sym g.0) h)
goes_on s m u (q ∷ qs) rs text more g h =
    (g.0, g.1, g.2 ++ more, g.3, goes_on g.1 m u qs rs g.2 more g.4 h, ap (λ t. t ++ more) g.5 ∙ append_assoc (made_line q g.0 q.expected) g.2 more)

differs_on : (s m : State) (qs rs : List Asked) (text more : List ℕ) → Goes s qs text m → Differs m rs more → Differs s (qs ++ rs) (text ++ more)
differs_on s m qs rs text more g d = record {
  before = qs ++ d.before;
  call = d.call;
  rest = d.rest;
  calls = ap (λ xs. qs ++ xs) d.calls ∙ sym (append_assoc qs d.before (d.call ∷ d.rest));
  at = d.at;
  lines = text ++ d.lines;
  goes = goes_on s m d.at qs d.before text d.lines g d.goes;
  answer = d.answer;
  refuted = d.refuted;
  whole = ap (λ xs. text ++ xs) d.whole ∙ sym (append_assoc text d.lines (difference_line d.at d.call d.answer));
}

differs_before : (s : State) (qs rs : List Asked) (text : List ℕ) → Differs s qs text → Differs s (qs ++ rs) text
differs_before s qs rs text d = record {
  before = d.before;
  call = d.call;
  rest = d.rest ++ rs;
  calls = ap (λ xs. xs ++ rs) d.calls ∙ append_assoc d.before (d.call ∷ d.rest) rs;
  at = d.at;
  lines = d.lines;
  goes = d.goes;
  answer = d.answer;
  refuted = d.refuted;
  whole = d.whole;
}

starts_on : (s m : State) (qs rs : List Asked) (text more : List ℕ) → Goes s qs text m → Starts m rs more → Starts s (qs ++ rs) (text ++ more)
starts_on s m qs rs text more g h =
    (qs ++ h.0, h.1, h.2, ap (λ xs. qs ++ xs) h.3 ∙ sym (append_assoc qs h.0 h.1), goes_on s m h.2 qs h.0 text more g h.4)

starts_before : (s : State) (qs rs : List Asked) (text : List ℕ) → Starts s qs text → Starts s (qs ++ rs) text
starts_before s qs rs text h = (h.0, h.1 ++ rs, h.2, ap (λ xs. xs ++ rs) h.3 ∙ append_assoc h.0 h.1 rs, h.4)

-- A walk that goes on

-- Of all calls some are made and some are left; of their lines some are kept back.
pub record IsGoing (s : State) (all : List Asked) (taken_start page : List ℕ) (failures_start : ℕ) (k : State) (left : List Asked) (taken kept : List ℕ) (failures : ℕ) : Type 0 where
  pub done : List Asked
  pub text : List ℕ
  pub calls : all ≡ done ++ left
  pub goes : Goes s done text k
  pub came : taken ++ kept ≡ taken_start ++ (page ++ text)
  pub shorter : length kept ≤ length (page ++ text)
  pub same : failures ≡ failures_start

pub going_at_start : (s : State) (all : List Asked) (taken kept : List ℕ) (failures : ℕ) → IsGoing s all taken kept failures s all taken kept failures
going_at_start s all taken kept failures = record {
  done = [];
  text = [];
  calls = refl;
  goes = (refl, refl);
  came = ap (λ xs. taken ++ xs) (sym (append-nil kept));
  shorter = omega (arith, length-append kept []);
  same = refl;
}

came_on : (start page text taken kept more taken_new kept_new : List ℕ) →
    taken ++ kept ≡ start ++ (page ++ text) → taken_new ++ kept_new ≡ taken ++ (kept ++ more) → taken_new ++ kept_new ≡ start ++ (page ++ (text ++ more))
came_on start page text taken kept more taken_new kept_new came went =
    went ∙ (sym (append_assoc taken kept more) ∙ (ap (λ xs. xs ++ more) came ∙ (append_assoc start (page ++ text) more ∙ ap (λ xs. start ++ xs) (append_assoc page text more))))

shorter_on : (page text kept more kept_new : List ℕ) → length kept ≤ length (page ++ text) → length kept_new ≤ length (kept ++ more) → length kept_new ≤ length (page ++ (text ++ more))
shorter_on page text kept more kept_new h k = omega (arith, length-append page text, length-append page (text ++ more), length-append text more, length-append kept more)

pub going_next : {K : Type 0} (taken : K → List ℕ) (failures : K → ℕ) (old mid new : K) (page kept kept_new : List ℕ) (s k u : State) (all cs ds : List Asked) →
    IsGoing s all (taken old) page (failures old) k (cs ++ ds) (taken mid) kept (failures mid) → Walks taken failures mid new kept kept_new k u cs (Ok true) →
    IsGoing s all (taken old) page (failures old) u ds (taken new) kept_new (failures new)
going_next taken failures old mid new page kept kept_new s k u all cs ds i w = record {
  done = i.done ++ cs;
  text = i.text ++ w.0;
  calls = i.calls ∙ sym (append_assoc i.done cs ds);
  goes = goes_on s k u i.done cs i.text w.0 i.goes w.1;
  came = came_on (taken old) page i.text (taken mid) kept w.0 (taken new) kept_new i.came w.2.0;
  shorter = shorter_on page i.text kept w.0 kept_new i.shorter w.2.1;
  same = w.2.2 ∙ i.same;
}

-- the walk came to a difference
pub going_differs : {K : Type 0} (taken : K → List ℕ) (failures : K → ℕ) (old mid new : K) (page kept kept_new : List ℕ) (s k u : State) (all cs ds : List Asked) →
    IsGoing s all (taken old) page (failures old) k (cs ++ ds) (taken mid) kept (failures mid) → Walks taken failures mid new kept kept_new k u cs (Ok false) →
    Walks taken failures old new page kept_new s u all (Ok false)
going_differs taken failures old mid new page kept kept_new s k u all cs ds i w = (
  i.text ++ w.0,
  subst (λ qs. Differs s qs (i.text ++ w.0)) (sym i.calls) (differs_on s k i.done (cs ++ ds) i.text w.0 i.goes (differs_before k cs ds w.0 w.1)),
  (
    came_on (taken old) page i.text (taken mid) kept w.0 (taken new) kept_new i.came w.2.0,
    shorter_on page i.text kept w.0 kept_new i.shorter w.2.1,
    w.2.2 ∙ i.same,
  ),
)

-- it halted
pub going_halted : {K : Type 0} (taken : K → List ℕ) (failures : K → ℕ) (old mid new : K) (page kept kept_new : List ℕ) (s k u : State) (all cs ds : List Asked) (e : ScenarioFault) →
    IsGoing s all (taken old) page (failures old) k (cs ++ ds) (taken mid) kept (failures mid) → Walks taken failures mid new kept kept_new k u cs (Err e) →
    Walks taken failures old new page kept_new s u all (Err e)
going_halted taken failures old mid new page kept kept_new s k u all cs ds e i w = (
  i.text ++ w.0,
  elim w.1 [
    | inl h ↦ inl (subst (λ qs. Starts s qs (i.text ++ w.0)) (sym i.calls) (starts_on s k i.done (cs ++ ds) i.text w.0 i.goes (starts_before k cs ds w.0 h)))
    | inr h ↦ inr (subst (λ qs. Differs s qs (i.text ++ w.0)) (sym i.calls) (differs_on s k i.done (cs ++ ds) i.text w.0 i.goes (differs_before k cs ds w.0 h)))
  ],
  (w.2.0, came_on (taken old) page i.text (taken mid) kept w.0 (taken new) w.2.0 i.came w.2.1, shorter_on page i.text kept w.0 w.2.0 i.shorter w.2.2),
  rw i.same at w.3,
)

-- no call is left
pub going_at_end : {K : Type 0} (taken : K → List ℕ) (failures : K → ℕ) (old new : K) (page kept : List ℕ) (s k : State) (all : List Asked) →
    IsGoing s all (taken old) page (failures old) k [] (taken new) kept (failures new) → Walks taken failures old new page kept s k all (Ok true)
going_at_end taken failures old new page kept s k all i =
    (i.text, subst (λ qs. Goes s qs i.text k) (sym (i.calls ∙ append-nil i.done)) i.goes, (i.came, i.shorter, i.same))

-- One call

-- memory was refused before its line was kept back
pub tried_lacking : {K : Type 0} (taken : K → List ℕ) (failures : K → ℕ) (old : K) (page page_new : List ℕ) (s u : State) (q : Asked) →
    Walks taken failures old old page page_new s u (q ∷ []) (Err NoMemory)
tried_lacking taken failures old page page_new s u q = ([], inl ([], q ∷ [], s, refl, (refl, refl)), front_none (taken old) (page ++ []), inl (refl, refl))

made_text : (page page_new line : List ℕ) → page_new ≡ page ++ line → page_new ++ [] ≡ page ++ (line ++ [])
made_text page page_new line is = ap (λ xs. xs ++ []) is ∙ append_assoc page line []

told_text : (page page_new line : List ℕ) → page_new ≡ page ++ line → page_new ++ [] ≡ page ++ line
told_text page page_new line is = append-nil page_new ∙ is

refuted_alone : (s u : State) (q : Asked) (page page_new : List ℕ) → (t : IsTried s u q page page_new false) → Differs s (q ∷ []) (difference_line s q t.0)
refuted_alone s u q page page_new t = record {
  before = [];
  call = q;
  rest = [];
  calls = refl;
  at = s;
  lines = [];
  goes = (refl, refl);
  answer = t.0;
  refuted = t.1;
  whole = refl;
}

-- what was kept back came on
pub tried : {K : Type 0} (taken : K → List ℕ) (failures : K → ℕ) (old new : K) (page page_mid page_new : List ℕ) (s u : State) (q : Asked) (is_made : Bool) →
    IsTried s u q page page_mid is_made → Fills {X = Unit {0}} taken failures old new page_mid page_new [] (Ok tt) → Walks taken failures old new page page_new s u (q ∷ []) (Ok is_made)
tried taken failures old new page page_mid page_new s u q true t f =
    let line = made_line q t.0 q.expected in
    let e = made_text page page_mid line t.2 in
    (line ++ [], (t.0, u, [], t.1, (refl, refl), refl), (rw e at f.0, rw e at f.1, f.2))
tried taken failures old new page page_mid page_new s u q false t f =
    let line = difference_line s q t.0 in
    let e = told_text page page_mid line t.2 in
    (line, refuted_alone s u q page page_mid t, (rw e at f.0, rw e at f.1, f.2))

-- or the run halted
pub tried_halted : {K : Type 0} (taken : K → List ℕ) (failures : K → ℕ) (old new : K) (page page_mid page_new : List ℕ) (s u : State) (q : Asked) (is_made : Bool) (e : ScenarioFault) →
    IsTried s u q page page_mid is_made → IsFront (taken old) (taken new) (page_mid ++ []) × IsHalt e (failures old) (failures new) → Walks taken failures old new page page_new s u (q ∷ []) (Err e)
tried_halted taken failures old new page page_mid page_new s u q true e t h =
    let line = made_line q t.0 q.expected in
    (line ++ [], inl (q ∷ [], [], u, refl, (t.0, u, [], t.1, (refl, refl), refl)), rw (made_text page page_mid line t.2) at h.0, h.1)
tried_halted taken failures old new page page_mid page_new s u q false e t h =
    let line = difference_line s q t.0 in
    (line, inr (refuted_alone s u q page page_mid t), rw (told_text page page_mid line t.2) at h.0, h.1)

-- The calls that are left, as loops come to them

pub calls_of_step : (steps : List Answered) (i : ℕ) (a : Answered) → a ≡ get_or steps i a → i < length steps →
    asked_from (i + 1) (drop i steps) ≡ replicate a.step.times (asked_by (i + 1) a) ++ asked_from (i + 1 + 1) (drop (i + 1) steps)
calls_of_step steps i a at h =
    ap (asked_from (i + 1)) (drop_more steps i a h ∙ ap (λ x. x ∷ drop (i + 1) steps) (sym at))
    ∙ ap (λ n. replicate a.step.times (asked_by (i + 1) a) ++ asked_from n (drop (i + 1) steps)) (sym (add-one (i + 1)))
