-- The last change of a step, where no stop but one group's can be complete.
use Rattle.std.proofs.Common.{◌≡◌, ◌∙◌, ◌==◌, ◌≤◌, ◌&&◌, ◌||◌, ◌⊎◌, inl, inr, ℕ, List, [], ◌∷◌, Option, None, Some, Bool, true, false, not, map, filter, length, cond, arith, ap, eq-eqb, refl, sym, true≢false}
use Rattle.std.specs.List.{list_any}
use Rattle.std.proofs.lemmas.Bool.{cases_eq, ne_eqb}
use Rattle.tr_wait.specs.declared.status.Status.{Status}
use Rattle.tr_wait.specs.declared.status.Status.TheVariants as status
use Rattle.tr_tracee.specs.declared.thread.Thread.{Thread}
use Rattle.tr_group.specs.declared.stops.GroupStop.{GroupStop}
use Rattle.tr_group.specs.declared.stops.GroupStop.TheVariants.{No, Stopped, Stopping}
use Rattle.tr_group.specs.GroupStops.{completed, is_stopping}
use Rattle.tr_model.specs.declared.rows.Group.{Group}
use Rattle.tr_model.specs.GroupStops.{complete_group_stop, complete_group_stops, complete_stop, completed_group, note_stop}
use Rattle.tr_model.specs.Moves.{Work, each, group_changed, note, only_group, regroup, when, with_note}
use Rattle.tr_model.specs.Tables.{group_in, has_traced, stop_in_effect, stop_of}
use Rattle.tr_table.specs.Settled.{can_complete, has_mark}
use Rattle.tr_table.proofs.Unsettling.{elsewhere, same_group}

-- where no group's stop is under way, none can be complete, whichever group is asked for
pub none_in : (xs : List Group) → length (filter (λ x. is_stopping x.group_stop) xs) ≡ 0 → (g : ℕ) → is_stopping (stop_of (group_in xs g)) ≡ false
none_in [] z g = refl
none_in (x ∷ xs) z g = go (is_stopping x.group_stop) refl z (none_in xs) (x.tgid == g)
  where
    rest : List Group
    rest = filter (λ y. is_stopping y.group_stop) xs

    go : (s : Bool) → is_stopping x.group_stop ≡ s → length (cond s (x ∷ rest) rest) ≡ 0 → (length rest ≡ 0 → (g : ℕ) → is_stopping (stop_of (group_in xs g)) ≡ false)
        → (b : Bool) → is_stopping (stop_of (cond b (Some x) (group_in xs g))) ≡ false
    go true e k r b = absurd (omega (arith, k))
    go false e k r true = e
    go false e k r false = r k g

abbrev can : Work → ℕ → Bool
can w g = can_complete w.table.threads w.table.groups g

all_stay : (gs : List ℕ) (w : Work) → ((g : ℕ) → can w g ≡ false) → each gs complete_group_stop w ≡ w
all_stay [] w h = refl
all_stay (g ∷ gs) w h = ap (λ (b : Bool). each gs complete_group_stop (when b (complete_stop g) w)) (h g) ∙ all_stay gs w h

pub none_complete : (w : Work) → ((g : ℕ) → can w g ≡ false) → complete_group_stops w ≡ w
none_complete w h = all_stay (map (λ x. x.tgid) w.table.groups) w h

-- the group whose stop can be complete is there
pub some_there : (ts : List Thread) (xs : List Group) (g : ℕ) → can_complete ts xs g ≡ true → 1 ≤ length xs
some_there ts [] g e = absurd (true≢false (sym e))
some_there ts (x ∷ xs) g e = omega arith

-- the completion of a group's stop leaves no other that can be complete

stop_noted : (n m : ℕ) (s : Status) (g : ℕ) (xs : List Group) → stop_of (group_in (group_changed n (with_note m s) xs) g) ≡ stop_of (group_in xs g)
stop_noted n m s g [] = refl
stop_noted n m s g (x ∷ xs) = go (x.tgid == n) (stop_noted n m s g xs)
  where
    go : (b : Bool) → stop_of (group_in (group_changed n (with_note m s) xs) g) ≡ stop_of (group_in xs g) → stop_of (group_in (cond b (with_note m s x ∷ xs) (x ∷ group_changed n (with_note m s) xs)) g) ≡ stop_of (group_in (x ∷ xs) g)
    go true r = elim (x.tgid == g) as (λ d. stop_of (cond d (Some (with_note m s x)) (group_in xs g)) ≡ stop_of (cond d (Some x) (group_in xs g))) [ true ↦ refl | false ↦ refl ]
    go false r = elim (x.tgid == g) as (λ d. stop_of (cond d (Some x) (group_in (group_changed n (with_note m s) xs) g)) ≡ stop_of (cond d (Some x) (group_in xs g))) [ true ↦ refl | false ↦ r ]

noted : (n : ℕ) (o : Option ℕ) (w : Work) (g : ℕ) → can (note_stop n o w) g ≡ can w g
noted n None w g = refl
noted n (Some s) w g = go (not (has_traced w.table n))
  where
    go : (b : Bool) → can (when b (note n (status.Stopped s)) w) g ≡ can w g
    go true = ap (λ t. is_stopping t && not (has_mark w.table.threads g)) (stop_noted n _ _ g w.table.groups)
    go false = refl

stopped : (s : GroupStop) → is_stopping (completed s) ≡ false
stopped No = refl
stopped (Stopping s) = refl
stopped (Stopped s) = refl

own_completed : (n : ℕ) (xs : List Group) → is_stopping (stop_of (group_in (map (only_group n completed_group) xs) n)) ≡ false
own_completed n [] = refl
own_completed n (x ∷ xs) = go (cases_eq x.tgid n) (own_completed n xs)
  where
    go : (x.tgid ≡ n) ⊎ (x.tgid ≡ n → ⊥) → is_stopping (stop_of (group_in (map (only_group n completed_group) xs) n)) ≡ false → is_stopping (stop_of (group_in (only_group n completed_group x ∷ map (only_group n completed_group) xs) n)) ≡ false
    go (inl e) r = rw (eq-eqb x.tgid n e, eq-eqb x.tgid n e) (stopped x.group_stop)
    go (inr e) r = rw (ne_eqb x.tgid n e, ne_eqb x.tgid n e) r

after_own : (n : ℕ) (w : Work) → ((g : ℕ) → (n ≡ g → ⊥) → can w g ≡ false) → (g : ℕ) → can (complete_group_stop n w) g ≡ false
after_own n w h g = go (can w n) refl (cases_eq n g)
  where
    v : Work
    v = regroup (only_group n completed_group) w

    go : (b : Bool) → can w n ≡ b → (n ≡ g) ⊎ (n ≡ g → ⊥) → can (when b (complete_stop n) w) g ≡ false
    go false k (inl e) = ap (can w) (sym e) ∙ k
    go false k (inr e) = h g e
    go true k (inl e) = noted n (stop_in_effect w.table n) v g ∙ (ap (can v) (sym e) ∙ ap (λ (b : Bool). b && not (has_mark w.table.threads n)) (own_completed n w.table.groups))
    go true k (inr e) = noted n (stop_in_effect w.table n) v g ∙ (ap (λ o. is_stopping (stop_of o) && not (has_mark w.table.threads g)) (same_group w.table.groups v.table.groups g (elsewhere n g completed_group (λ x. refl) e w.table.groups)) ∙ h g e)

one_goes : (n : ℕ) (gs : List ℕ) (w : Work) → ((g : ℕ) → (n ≡ g → ⊥) → can w g ≡ false) → each gs complete_group_stop w ≡ cond (list_any (λ m. m == n) gs) (complete_group_stop n w) w
one_goes n [] w h = refl
one_goes n (g ∷ gs) w h = go (cases_eq g n) (one_goes n gs w h)
  where
    go : (g ≡ n) ⊎ (g ≡ n → ⊥) → each gs complete_group_stop w ≡ cond (list_any (λ m. m == n) gs) (complete_group_stop n w) w
        → each gs complete_group_stop (complete_group_stop g w) ≡ cond (list_any (λ m. m == n) (g ∷ gs)) (complete_group_stop n w) w
    go (inl e) r =
        let one : each gs complete_group_stop (complete_group_stop g w) ≡ complete_group_stop n w = ap (λ (m : ℕ). each gs complete_group_stop (complete_group_stop m w)) e ∙ all_stay gs (complete_group_stop n w) (after_own n w h) in
        rw (eq-eqb g n e) one
    go (inr e) r =
        let rest : each gs complete_group_stop (complete_group_stop g w) ≡ each gs complete_group_stop w = ap (λ (b : Bool). each gs complete_group_stop (when b (complete_stop g) w)) (h g (λ k. e (sym k))) in
        rw (ne_eqb g n e) (rest ∙ r)

nowhere : (n : ℕ) (xs : List Group) → list_any (λ m. m == n) (map (λ (x : Group). x.tgid) xs) ≡ false → group_in xs n ≡ None
nowhere n [] h = refl
nowhere n (x ∷ xs) h = go (x.tgid == n) h (nowhere n xs)
  where
    go : (b : Bool) → (b || list_any (λ m. m == n) (map (λ (x : Group). x.tgid) xs)) ≡ false → (list_any (λ m. m == n) (map (λ (x : Group). x.tgid) xs) ≡ false → group_in xs n ≡ None) → cond b (Some x) (group_in xs n) ≡ None
    go true k r = absurd (true≢false k)
    go false k r = r k

pub one_complete : (n : ℕ) (w : Work) → ((g : ℕ) → (n ≡ g → ⊥) → can w g ≡ false) → complete_group_stops w ≡ complete_group_stop n w
one_complete n w h = one_goes n gs w h ∙ go (list_any (λ m. m == n) gs) refl
  where
    gs : List ℕ
    gs = map (λ x. x.tgid) w.table.groups

    go : (b : Bool) → list_any (λ m. m == n) gs ≡ b → cond b (complete_group_stop n w) w ≡ complete_group_stop n w
    go true k = refl
    go false k = sym (ap (λ (b : Bool). when b (complete_stop n) w) (ap (λ o. is_stopping (stop_of o) && not (has_mark w.table.threads n)) (nowhere n w.table.groups k)))
