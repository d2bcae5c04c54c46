-- Takes of one signal from one queue are in the order of their numbers.
use Rattle.std.proofs.Common.{◌≡◌, ◌≢◌, ℕ, ◌+◌, ◌<◌, ◌≤◌, List, [], ◌∷◌, ◌++◌, true, false, Some, None, Option, refl, sym, ap, ◌∙◌, map, filter, Bool, not, ◌&&◌, ◌||◌, ◌==◌, ◌⊎◌, inl, inr, if◌then◌else◌, arith, cond, nat_lt, true≢false, append-nil, append_assoc, subst, ⊎_elim}
use Rattle.std.proofs.lemmas.Bool.{cases_lt, or_right, ltb-false, eqb-false, eqb-true, and_parts, and_from, cases_eq, eq-eqb}
use Rattle.std.proofs.lemmas.Option.{none-some, same_Some}
use Rattle.tr_pending.specs.declared.instance.Instance.{Instance}
use Rattle.tr_tracee.specs.declared.life.End.{End}
use Rattle.tr_tracee.specs.declared.life.Stop.{Stop}
use Rattle.tr_tracee.specs.declared.life.Stop.TheVariants as stop
use Rattle.tr_model.specs.declared.rows.Target.{Target}
use Rattle.tr_model.specs.declared.rows.Target.TheVariants as target
use Rattle.std.specs.List.{list_all}
use Rattle.tr_tracee.specs.declared.thread.Thread.{Thread}
use Rattle.tr_model.specs.Choices.{Choice}
use Rattle.tr_model.specs.declared.events.Event.{Event}
use Rattle.tr_model.specs.declared.events.Event.TheVariants as event
use Rattle.tr_model.specs.Entries.{Entry}
use Rattle.tr_model.specs.declared.replies.Reply.{Reply}
use Rattle.tr_model.proofs.Kept.{act_on-kept, Kept, any, any_of, always-kept, settle-kept, itself}
use Rattle.tr_model.proofs.OneFate.{waits, one, Sound, born_past, born_small, replay_sound, start_sound}
use Rattle.tr_model.proofs.Names.{take_renames_nothing}
use Rattle.tr_model.specs.declared.rows.Waiting.{Waiting}
use Rattle.tr_model.specs.declared.fates.Ending.{Ending}
use Rattle.tr_model.specs.Journals.{IsIn, Taken}
use Rattle.tr_model.specs.Laws.{PassesOn}
use Rattle.tr_model.specs.Moves.{Work}
use Rattle.tr_model.specs.Tables.{Table}
use Rattle.tr_tracee.specs.Lives.{held}
use Rattle.tr_model.specs.GroupStops
use Rattle.tr_model.specs.Journals
use Rattle.tr_model.specs.Laws
use Rattle.tr_tracee.specs.Lives
use Rattle.tr_model.specs.Moves
use Rattle.tr_sigset.specs.Sets
use Rattle.tr_sigset.specs.Signals
use Rattle.tr_model.specs.Steps
use Rattle.tr_model.specs.Tables
use Rattle.tr_model.specs.Takes
use Rattle.tr_tracee.specs.Threads
use Rattle.tr_tracee.specs.Ends as TraceeEnds
use Rattle.tr_tracee.specs.Stops as TraceeStops
use Rattle.tr_model.proofs.Among.{Among, among_filter, filter_among, is_in-last}
use Rattle.tr_model.proofs.Compared.{numbered_among}

pub all_among : {A : Type 0} (p : A → Bool) (x : A) (xs : List A) → list_all p xs ≡ true → Among x xs → p x ≡ true
all_among p x [] a h = absurd h
all_among p x (y ∷ ys) a (inl s) = ap p s ∙ (and_parts _ _ a).0
all_among p x (y ∷ ys) a (inr m) = all_among p x ys (and_parts _ _ a).1 m

in_queue : (x : Waiting) (ws : List Waiting) → Among x ws → Among x.instance (map (λ w. w.instance) ws)
in_queue x [] h = absurd h
in_queue x (y ∷ ys) (inl e) = inl (ap (λ (w : Waiting). w.instance) e)
in_queue x (y ∷ ys) (inr m) = inr (in_queue x ys m)

from_queue : (i : Instance) (ws : List Waiting) → Among i (map (λ w. w.instance) ws) → (x : Waiting) × Among x ws × (x.instance ≡ i)
from_queue i [] h = absurd h
from_queue i (y ∷ ys) (inl e) = (y, inl refl, sym e)
from_queue i (y ∷ ys) (inr m) = let r = from_queue i ys m in (r.0, inr r.1, r.2)

same_yes : (q r : Target) → q ≡ r → Tables.same_target q r ≡ true
same_yes (target.Thread a) r e = subst (λ x. Tables.same_target (target.Thread a) x ≡ true) e (eq-eqb a a refl)
same_yes (target.Group a) r e = subst (λ x. Tables.same_target (target.Group a) x ≡ true) e (eq-eqb a a refl)

same_is : (q r : Target) → Tables.same_target q r ≡ true → r ≡ q
same_is (target.Thread a) (target.Thread b) e = ap target.Thread (sym (eqb-true a b e))
same_is (target.Group a) (target.Group b) e = ap target.Group (sym (eqb-true a b e))
same_is (target.Thread a) (target.Group b) e = absurd (true≢false (sym e))
same_is (target.Group a) (target.Thread b) e = absurd (true≢false (sym e))

-- what a choice from a queue says of that queue
pub record Chosen (T : Table) (q : Target) (i : Instance) : Type 0 where
  pub there : (x : Waiting) × Among x T.waiting × (x.instance ≡ i) × (x.target ≡ q)
  pub least : (x : Waiting) → Among x T.waiting → x.target ≡ q → x.instance.sig ≡ i.sig → i.n ≤ x.instance.n

not_before : (i j : Instance) → j.sig ≡ i.sig → not (Takes.goes_before j i) ≡ true → i.n ≤ j.n
not_before i j e h = go (nat_lt j.n i.n) refl
  where
    parts : (x y z : Bool) → not (x || y || z) ≡ true → z ≡ false
    parts x y true h = absurd (true≢false (sym h ∙ ap not (or_right (x || y) true refl)))
    parts x y false h = refl

    go : (b : Bool) → nat_lt j.n i.n ≡ b → i.n ≤ j.n
    go true l = absurd (true≢false (sym (and_from _ _ (eq-eqb j.sig i.sig e) l) ∙ parts (not (Signals.is_real_time j.sig) && Signals.is_real_time i.sig) (Signals.is_real_time j.sig && nat_lt j.sig i.sig) (j.sig == i.sig && nat_lt j.n i.n) h))
    go false l = ltb-false j.n i.n l

chosen : (T : Table) (t : Thread) (q : Target) (n : ℕ) (i : Instance) → Takes.with_number n (Takes.choices_from T t q) ≡ Some i → Chosen T q i × (i.n ≡ n) × (Threads.is_ready_to_take t ≡ true)
chosen T t q n i e = go (Threads.is_ready_to_take t) refl e
  where
    us : List Instance
    us = Takes.unblocked t.mask (Tables.queue T q)

    main : Takes.with_number n (Takes.choices_in (Takes.unblocked t.mask (Tables.queue T q))) ≡ Some i → Chosen T q i × (i.n ≡ n)
    main e =
        let f = numbered_among n i _ e in
        let c = filter_among (λ i. list_all (λ j. not (Takes.goes_before j i)) (Takes.unblocked t.mask (Tables.queue T q))) i (Takes.unblocked t.mask (Tables.queue T q)) f.0 in
        let u = filter_among (λ i. not (Sets.has t.mask i.sig)) i (Tables.queue T q) c.0 in
        let w = from_queue i _ u.0 in
        let v = filter_among (λ w. Tables.same_target q w.target) w.0 T.waiting w.1 in (
          record {
            there = (w.0, v.0, w.2, same_is q w.0.target v.1);
            least = λ x m tx sx.
                let in_q = in_queue x _ (among_filter (λ w. Tables.same_target q w.target) x T.waiting m (same_yes q x.target (sym tx))) in
                let open_x : not (Sets.has t.mask x.instance.sig) ≡ true = ap (λ k. not (Sets.has t.mask k)) sx ∙ u.1 in
                not_before i x.instance sx (all_among (λ j. not (Takes.goes_before j i)) x.instance (Takes.unblocked t.mask (Tables.queue T q)) c.1 (among_filter (λ i. not (Sets.has t.mask i.sig)) x.instance (Tables.queue T q) in_q open_x));
          },
          f.1,
        )

    go : (b : Bool) → Threads.is_ready_to_take t ≡ b → Takes.with_number n (if b then Takes.choices_in (Takes.unblocked t.mask (Tables.queue T q)) else []) ≡ Some i → Chosen T q i × (i.n ≡ n) × (Threads.is_ready_to_take t ≡ true)
    go true r e = let m = main e in (m.0, m.1, r)
    go false r e = absurd (none-some i e)

-- Every instance of the signal that waits in the queue was accepted later

abbrev After : Target → ℕ → ℕ → Waiting → Type 0
After q s n x = x.target ≡ q → x.instance.sig ≡ s → n < x.instance.n

abbrev AllAfter : Target → ℕ → ℕ → List Waiting → Type 0
AllAfter q s n [] = Unit {0}
AllAfter q s n (x ∷ xs) = After q s n x × AllAfter q s n xs

all_after_in : (q : Target) (s n : ℕ) (x : Waiting) (ws : List Waiting) → AllAfter q s n ws → Among x ws → After q s n x
all_after_in q s n x [] h m = absurd m
all_after_in q s n x (y ∷ ws) h (inl e) = subst (After q s n) (sym e) h.0
all_after_in q s n x (y ∷ ws) h (inr m) = all_after_in q s n x ws h.1 m

all_after-append : (q : Target) (s n : ℕ) (xs ys : List Waiting) → AllAfter q s n xs → AllAfter q s n ys → AllAfter q s n (xs ++ ys)
all_after-append q s n [] ys h k = k
all_after-append q s n (x ∷ xs) ys h k = (h.0, all_after-append q s n xs ys h.1 k)

all_after_filter : (q : Target) (s n : ℕ) (p : Waiting → Bool) (ws : List Waiting) → AllAfter q s n ws → AllAfter q s n (filter p ws)
all_after_filter q s n p [] h = tt
all_after_filter q s n p (x ∷ ws) h = go (p x) (all_after_filter q s n p ws h.1)
  where
    go : (b : Bool) → AllAfter q s n (filter p ws) → AllAfter q s n (cond b (x ∷ filter p ws) (filter p ws))
    go true r = (h.0, r)
    go false r = r

all_after_without : (q : Target) (s n m : ℕ) (ws : List Waiting) → AllAfter q s n ws → AllAfter q s n (Moves.without_instance m ws)
all_after_without q s n m [] h = tt
all_after_without q s n m (x ∷ ws) h = go (x.instance.n == m) (all_after_without q s n m ws h.1)
  where
    go : (b : Bool) → AllAfter q s n (Moves.without_instance m ws) → AllAfter q s n (if b then ws else x ∷ Moves.without_instance m ws)
    go true r = h.1
    go false r = (h.0, r)

-- an exec's new id
aimed_group : (from to g : ℕ) (r : Target) → Moves.retarget from to r ≡ target.Group g → r ≡ target.Group g
aimed_group from to g (target.Group h) e = e
aimed_group from to g (target.Thread id) e = go (id == from) e
  where
    other : (k : ℕ) → target.Thread k ≡ target.Group g → target.Thread id ≡ target.Group g
    other k q = cc

    go : (b : Bool) → (if b then target.Thread to else target.Thread id) ≡ target.Group g → target.Thread id ≡ target.Group g
    go true q = other to q
    go false q = q

aimed_thread : (from to k : ℕ) (r : Target) → (to ≡ k → ⊥) → Moves.retarget from to r ≡ target.Thread k → r ≡ target.Thread k
aimed_thread from to k (target.Group h) n e = e
aimed_thread from to k (target.Thread id) n e = go (id == from) e
  where
    same : target.Thread to ≡ target.Thread k → to ≡ k
    same q = cc

    go : (b : Bool) → (if b then target.Thread to else target.Thread id) ≡ target.Thread k → target.Thread id ≡ target.Thread k
    go true q = absurd (n (same q))
    go false q = q

retargeted_after : (q : Target) (s n from to : ℕ) → ((r : Target) → Moves.retarget from to r ≡ q → r ≡ q) → (ws : List Waiting) → AllAfter q s n ws → AllAfter q s n (map (Moves.retargeted from to) ws)
retargeted_after q s n from to back [] h = tt
retargeted_after q s n from to back (x ∷ ws) h = ((λ e k. h.0 (back x.target e) k), retargeted_after q s n from to back ws h.1)

passes_more : (q : Target) (xs ys : List ℕ) → PassesOn q xs → PassesOn q (xs ++ ys)
passes_more (target.Group g) xs ys h = h
passes_more (target.Thread id) [] ys h = absurd h
passes_more (target.Thread id) (x ∷ xs) ys (inl e) = inl e
passes_more (target.Thread id) (x ∷ xs) ys (inr h) = inr (passes_more (target.Thread id) xs ys h)

module _ (q : Target) (s n : ℕ) (before : List ℕ) where
  record Later (w : Work) : Type 0 where
    born : n ≤ w.table.accepted
    order : PassesOn q (before ++ w.renamed) ⊎ AllAfter q s n w.table.waiting

  -- a move that leaves what waits
  calmly : (v w : Work) → v.table.accepted ≡ w.table.accepted → v.renamed ≡ w.renamed → v.table.waiting ≡ w.table.waiting → Later w → Later v
  calmly v w a r x l = record { born = omega (arith, l.born); order = subst (λ ids. PassesOn q (before ++ ids) ⊎ AllAfter q s n v.table.waiting) (sym r) (subst (λ ws. PassesOn q (before ++ w.renamed) ⊎ AllAfter q s n ws) (sym x) l.order) }

  entering-later : (t : Thread) (st : Stop) (w : Work) → Later w → Later (Moves.enter_if_allowed st t w)
  entering-later t st w l = go (TraceeStops.may_enter t.life)
    where
      go : (b : Bool) → Later (if b then Moves.entered_now st t w else w)
      go true = calmly _ w refl refl refl l
      go false = l

  on-later : (o : Option Thread) (move : Thread → Work → Work) (w : Work) → ((t : Thread) → Later (move t w)) → Later w → Later (Moves.on_thread o move w)
  on-later None move w h l = l
  on-later (Some t) move w h l = h t

  without-later : (w v : Work) → v.table.accepted ≡ w.table.accepted → v.renamed ≡ w.renamed → (AllAfter q s n w.table.waiting → AllAfter q s n v.table.waiting) → Later w → Later v
  without-later w v a r f l = record { born = omega (arith, l.born); order = go l.order }
    where
      go : PassesOn q (before ++ w.renamed) ⊎ AllAfter q s n w.table.waiting → PassesOn q (before ++ v.renamed) ⊎ AllAfter q s n v.table.waiting
      go (inl p) = inl (subst (λ ids. PassesOn q (before ++ ids)) (sym r) p)
      go (inr h) = inr (f h)

  holding-later : (t : Thread) (o : Option Instance) (w : Work) → Later w → Later (Moves.on_instance o (Moves.holding t) w)
  holding-later t None w l = l
  holding-later t (Some i) w l = go (Lives.is_free t.life)
    where
      go : (b : Bool) → Later (if b then Moves.enter_if_allowed (stop.Signal i false) t (Moves.pulled i w) else w)
      go true = entering-later t (stop.Signal i false) (Moves.pulled i w) (without-later w (Moves.pulled i w) refl refl (all_after_without q s n i.n w.table.waiting) l)
      go false = l

  dead-later : (st : End) (t : Thread) (w : Work) → Later w → Later (Moves.report_dead st t w)
  dead-later st t w l = go (Lives.is_dead t.life)
    where
      go : (b : Bool) → Later (if b then Moves.raise t (Lives.status_of_end st) w else w)
      go true = calmly _ w refl refl refl l
      go false = l

  spawned-later : (id : ℕ) (mark : Bool) (t : Thread) (w : Work) → Later w → Later (Moves.spawned id mark t w)
  spawned-later id mark t w l = go (Lives.is_free t.life)
    where
      go : (b : Bool) → Later (if b then Moves.added (TraceeEnds.child id mark t) w else w)
      go true = calmly _ w refl refl refl l
      go false = l

  placed-later : (t : Thread) (w : Work) → Later w → Later (Moves.taking_place t w)
  placed-later t w l = go (Lives.is_execing t.life && not (t.id == t.group))
    where
      more : PassesOn q (before ++ w.renamed) → PassesOn q (before ++ (w.renamed ++ t.group ∷ []))
      more p = subst (PassesOn q) (append_assoc before w.renamed (t.group ∷ [])) (passes_more q (before ++ w.renamed) (t.group ∷ []) p)

      to_thread : (k : ℕ) → q ≡ target.Thread k → AllAfter q s n w.table.waiting → (t.group ≡ k) ⊎ (t.group ≡ k → ⊥) → PassesOn q (before ++ (w.renamed ++ t.group ∷ [])) ⊎ AllAfter q s n (map (Moves.retargeted t.id t.group) w.table.waiting)
      to_thread k e h (inl g) = inl (subst (λ r. PassesOn r (before ++ (w.renamed ++ t.group ∷ []))) (sym (e ∙ ap target.Thread (sym g))) (subst (IsIn t.group) (append_assoc before w.renamed (t.group ∷ [])) (is_in-last t.group (before ++ w.renamed))))
      to_thread k e h (inr differ) = inr (retargeted_after q s n t.id t.group (λ r x. aimed_thread t.id t.group k r differ (x ∙ e) ∙ sym e) w.table.waiting h)

      by_target : (r : Target) → q ≡ r → AllAfter q s n w.table.waiting → PassesOn q (before ++ (w.renamed ++ t.group ∷ [])) ⊎ AllAfter q s n (map (Moves.retargeted t.id t.group) w.table.waiting)
      by_target (target.Thread k) e h = to_thread k e h (cases_eq t.group k)
      by_target (target.Group g) e h = inr (retargeted_after q s n t.id t.group (λ r x. aimed_group t.id t.group g r (x ∙ e) ∙ sym e) w.table.waiting h)

      go : (b : Bool) → Later (if b then Moves.with_leaders_row t w else w)
      go true = record { born = l.born; order = ⊎_elim (λ p. inl (more p)) (by_target q refl) l.order }
      go false = l

  moves-later : Kept any any_of Later
  moves-later = record {
    alter = λ f h w l. calmly _ w refl refl refl l;
    resume = λ fate live t r w e l. calmly _ w refl refl refl l;
    listen = λ t r w e l. calmly _ w refl refl refl l;
    break_others = λ g id x w l. calmly _ w refl refl refl l;
    begin_death = λ g st kill w l. calmly _ w refl refl refl l;
    kill_group = λ g w l. calmly _ w refl refl refl l;
    enter = λ id st h w l. on-later _ (Moves.enter_if_allowed st) w (λ t. entering-later t st w l) l;
    hold = λ id m w l. on-later _ (λ t. Moves.on_instance (Moves.instance_in w.table.waiting m) (Moves.holding t)) w (λ t. holding-later t _ w l) l;
    report_death = λ id st w l. on-later _ (Moves.report_dead st) w (λ t. dead-later st t w l) l;
    spawn = λ parent id mark w fresh l. on-later _ (Moves.spawned id mark) w (λ t. spawned-later id mark t w l) l;
    remove_dead = λ p w l. calmly _ w refl refl refl l;
    take_place = λ id w l. on-later (Tables.thread_of w.table id) Moves.taking_place w (λ t. placed-later t w l) l;
    regroup = λ f h w l. calmly _ w refl refl refl l;
    note = λ g st w l. calmly _ w refl refl refl l;
    drop_empty = λ g w l. calmly _ w refl refl refl l;
    enqueue = λ k i r w l. record { born = omega (arith, l.born); order = ⊎_elim (λ p. inl p) (λ h. inr (all_after-append q s n w.table.waiting (record { instance = Moves.next_instance k i w; target = r } ∷ []) h ((λ e x. omega (arith, l.born)), tt))) l.order };
    accept_as = λ fate live w l. record { born = omega (arith, l.born); order = l.order };
    end_waiting = λ fate live p w l. without-later w _ refl refl (all_after_filter q s n (λ x. not (p x)) w.table.waiting) l;
  }

-- What a take leaves

abbrev Least : Target → ℕ → ℕ → List Waiting → Type 0
Least q s n ws = (x : Waiting) → Among x ws → x.target ≡ q → x.instance.sig ≡ s → n ≤ x.instance.n

delivered_after : (q : Target) (s n : ℕ) (ws : List Waiting) → Least q s n ws → AllAfter q s n (filter (λ x. not (x.instance.n == n)) ws)
delivered_after q s n [] l = tt
delivered_after q s n (x ∷ ws) l = go (x.instance.n == n) refl (delivered_after q s n ws (λ y m. l y (inr m)))
  where
    go : (b : Bool) → (x.instance.n == n) ≡ b → AllAfter q s n (filter (λ x. not (x.instance.n == n)) ws) → AllAfter q s n (cond (not b) (x ∷ filter (λ x. not (x.instance.n == n)) ws) (filter (λ x. not (x.instance.n == n)) ws))
    go true h r = r
    go false h r = ((λ e k. let m = l x (inl refl) e k in let d : x.instance.n ≢ n = eqb-false x.instance.n n h in omega arith), r)

none_after : (q : Target) (s n : ℕ) (ws : List Waiting) → Least q s n ws → waits n ws ≡ 0 → AllAfter q s n ws
none_after q s n [] l z = tt
none_after q s n (x ∷ ws) l z = go (x.instance.n == n) refl z (none_after q s n ws (λ y m. l y (inr m)))
  where
    go : (b : Bool) → (x.instance.n == n) ≡ b → one b + waits n ws ≡ 0 → (waits n ws ≡ 0 → AllAfter q s n ws) → After q s n x × AllAfter q s n ws
    go true h z r = absurd (omega arith)
    go false h z r = ((λ e k. let m = l x (inl refl) e k in let d : x.instance.n ≢ n = eqb-false x.instance.n n h in omega arith), r (omega arith))

held_after : (q : Target) (s n : ℕ) (ws : List Waiting) → Least q s n ws → waits n ws ≤ 1 → AllAfter q s n (Moves.without_instance n ws)
held_after q s n [] l z = tt
held_after q s n (x ∷ ws) l z = go (x.instance.n == n) refl z (held_after q s n ws (λ y m. l y (inr m)))
  where
    go : (b : Bool) → (x.instance.n == n) ≡ b → one b + waits n ws ≤ 1 → (waits n ws ≤ 1 → AllAfter q s n (Moves.without_instance n ws)) → AllAfter q s n (if b then ws else x ∷ Moves.without_instance n ws)
    go true h z r = none_after q s n ws (λ y m. l y (inr m)) (omega arith)
    go false h z r = ((λ e k. let m = l x (inl refl) e k in let d : x.instance.n ≢ n = eqb-false x.instance.n n h in omega arith), r (omega arith))

instance_there : (n : ℕ) (x : Waiting) (ws : List Waiting) → Among x ws → x.instance.n ≡ n → (i : Instance) × (Moves.instance_in ws n ≡ Some i) × (i.n ≡ n)
instance_there n x [] m e = absurd m
instance_there n x (y ∷ ws) m e = go (y.instance.n == n) refl m (λ r. instance_there n x ws r e)
  where
    go : (b : Bool) → (y.instance.n == n) ≡ b → Among x (y ∷ ws) → (Among x ws → (i : Instance) × (Moves.instance_in ws n ≡ Some i) × (i.n ≡ n)) → (i : Instance) × ((if b then Some y.instance else Moves.instance_in ws n) ≡ Some i) × (i.n ≡ n)
    go true h m r = (y.instance, refl, eqb-true y.instance.n n h)
    go false h (inl s) r = absurd (eqb-false y.instance.n n h (ap (λ (w : Waiting). w.instance.n) (sym s) ∙ e))
    go false h (inr k) r = r k

at_found_is : (T : Table) (id : ℕ) (t : Thread) (move : Thread → Work → Work) (w : Work) → Tables.thread_of w.table id ≡ Some t → Moves.at id move w ≡ move t w
at_found_is T id t move w e = ap (λ o. Moves.on_thread o move w) e

take_later : (T : Table) (t : Thread) (i : Instance) (q : Target) → Tables.thread_of T t.id ≡ Some t → Threads.is_ready_to_take t ≡ true → Chosen T q i → waits i.n T.waiting ≤ 1 → i.n ≤ T.accepted
    → Later q i.sig i.n [] (Takes.take t i (Moves.begin T))
take_later T t i q e ready c d a = go (Threads.is_traced t)
  where
    w : Work
    w = Moves.begin T

    there : (j : Instance) × (Moves.instance_in T.waiting i.n ≡ Some j) × (j.n ≡ i.n)
    there = instance_there i.n c.there.0 T.waiting c.there.1 (ap (λ (k : Instance). k.n) c.there.2)

    holds : (j : Instance) → j.n ≡ i.n → (f : Bool) → f ≡ true → Later q i.sig i.n [] (if f then Moves.enter_if_allowed (stop.Signal j false) t (Moves.pulled j (Moves.begin T)) else Moves.begin T)
    holds j n true r = entering-later q i.sig i.n [] t (stop.Signal j false) (Moves.pulled j (Moves.begin T)) (record { born = a; order = inr (subst (λ m. AllAfter q i.sig i.n (Moves.without_instance m T.waiting)) (sym n) (held_after q i.sig i.n T.waiting c.least d)) })
    holds j n false r = absurd (true≢false (sym r))

    go : (b : Bool) → Later q i.sig i.n [] (if b then Moves.hold t.id i.n (Moves.begin T) else Takes.act_on t i.sig false (Takes.deliver i.n (Moves.begin T)))
    go true =
        subst (Later q i.sig i.n []) (sym (at_found_is T t.id t (λ t. Moves.on_instance (Moves.instance_in T.waiting i.n) (Moves.holding t)) (Moves.begin T) e))
        (subst (λ o. Later q i.sig i.n [] (Moves.on_instance o (Moves.holding t) (Moves.begin T))) (sym there.1) (holds there.0 there.2 (Lives.is_free t.life) (and_parts _ _ ready).0))
    go false = act_on-kept any any_of (Later q i.sig i.n []) (moves-later q i.sig i.n []) t i.sig false _ (record { born = a; order = inr (delivered_after q i.sig i.n T.waiting c.least) })

-- Entries and journals

pub numbered-append : (n : ℕ) (i : Instance) (xs ys : List Instance) → Takes.with_number n xs ≡ Some i → Takes.with_number n (xs ++ ys) ≡ Some i
numbered-append n i [] ys e = absurd (none-some i e)
numbered-append n i (x ∷ xs) ys e = go (x.n == n) e (numbered-append n i xs ys)
  where
    go : (b : Bool) → (if b then Some x else Takes.with_number n xs) ≡ Some i → (Takes.with_number n xs ≡ Some i → Takes.with_number n (xs ++ ys) ≡ Some i) → (if b then Some x else Takes.with_number n (xs ++ ys)) ≡ Some i
    go true q r = q
    go false q r = r q

numbered_past : (n : ℕ) (xs ys : List Instance) → Takes.with_number n xs ≡ None → Takes.with_number n (xs ++ ys) ≡ Takes.with_number n ys
numbered_past n [] ys e = refl
numbered_past n (x ∷ xs) ys e = go (x.n == n) e (numbered_past n xs ys)
  where
    go : (b : Bool) → (if b then Some x else Takes.with_number n xs) ≡ None → (Takes.with_number n xs ≡ None → Takes.with_number n (xs ++ ys) ≡ Takes.with_number n ys) → (if b then Some x else Takes.with_number n (xs ++ ys)) ≡ Takes.with_number n ys
    go true q r = absurd (none-some x (sym q))
    go false q r = r q

-- what a take took, and how
record Took (T : Table) (t : Thread) (n : ℕ) (k : Taken) : Type 0 where
  instance : Instance
  found : Takes.with_number n (Takes.choices T t) ≡ Some instance
  chose : Chosen T k.queue instance
  ready : Threads.is_ready_to_take t ≡ true
  number : k.number ≡ instance.n
  signal : k.signal ≡ instance.sig

took : (T : Table) (t : Thread) (n : ℕ) (k : Taken) → Journals.taken_by T (Some t) n ≡ Some k → Took T t n k
took T t n k e = own (Takes.with_number n (Takes.choices_from T t (target.Thread t.id))) refl e
  where
    make : (q : Target) (i : Instance) → Takes.with_number n (Takes.choices_from T t q) ≡ Some i → Takes.with_number n (Takes.choices T t) ≡ Some i → Some (record { number = i.n; signal = i.sig; queue = q }) ≡ Some k → Took T t n k
    make q i h f e =
        let c = chosen T t q n i h in
        let s = same_Some (record { number = i.n; signal = i.sig; queue = q }) k e in
        record { instance = i; found = f; chose = subst (λ r. Chosen T r i) (ap (λ (x : Taken). x.queue) s) c.0; ready = c.2; number = ap (λ (x : Taken). x.number) (sym s); signal = ap (λ (x : Taken). x.signal) (sym s) }

    shared : Takes.with_number n (Takes.choices_from T t (target.Thread t.id)) ≡ None → (o : Option Instance) → Takes.with_number n (Takes.choices_from T t (target.Group t.group)) ≡ o → Journals.taken_if (target.Group t.group) o None ≡ Some k → Took T t n k
    shared z None h e = absurd (none-some k e)
    shared z (Some i) h e = make (target.Group t.group) i h (numbered_past n (Takes.choices_from T t (target.Thread t.id)) (Takes.choices_from T t (target.Group t.group)) z ∙ h) e

    own : (o : Option Instance) → Takes.with_number n (Takes.choices_from T t (target.Thread t.id)) ≡ o → Journals.taken_if (target.Thread t.id) o (Journals.taken_if (target.Group t.group) (Takes.with_number n (Takes.choices_from T t (target.Group t.group))) None) ≡ Some k → Took T t n k
    own None h e = shared h (Takes.with_number n (Takes.choices_from T t (target.Group t.group))) refl e
    own (Some i) h e = make (target.Thread t.id) i h (numbered-append n i (Takes.choices_from T t (target.Thread t.id)) (Takes.choices_from T t (target.Group t.group)) h) e

waits_there : (x : Waiting) (ws : List Waiting) → Among x ws → 1 ≤ waits x.instance.n ws
waits_there x [] m = absurd m
waits_there x (y ∷ ws) (inl e) = let h : one (y.instance.n == x.instance.n) ≡ 1 = ap one (eq-eqb y.instance.n x.instance.n (ap (λ (w : Waiting). w.instance.n) (sym e))) in omega arith
waits_there x (y ∷ ws) (inr m) = omega (arith, waits_there x ws m)

once : (T : Table) (ended : List Ending) → Sound T ended → (x : Waiting) → Among x T.waiting → (waits x.instance.n T.waiting ≤ 1) × (x.instance.n ≤ T.accepted)
once T ended s x m = (omega (arith, s.at x.instance.n, born_small x.instance.n T.accepted), past (cases_lt T.accepted x.instance.n))
  where
    past : (T.accepted < x.instance.n) ⊎ (x.instance.n ≤ T.accepted) → x.instance.n ≤ T.accepted
    past (inr h) = h
    past (inl h) = absurd (omega (arith, s.at x.instance.n, born_past x.instance.n T.accepted h, waits_there x T.waiting m))

by_thread : (T : Table) (ended : List Ending) → Sound T ended → (a id n : ℕ) (k : Taken) → Journals.taken_by T (Tables.thread_of T id) n ≡ Some k → Later k.queue k.signal k.number [] (Moves.at id (Takes.take_numbered n) (Moves.begin T))
by_thread T ended s a id n k e = go (Tables.thread_of T id) refl e
  where
    go : (o : Option Thread) → Tables.thread_of T id ≡ o → Journals.taken_by T o n ≡ Some k → Later k.queue k.signal k.number [] (Moves.on_thread o (Takes.take_numbered n) (Moves.begin T))
    go None h e = absurd (none-some k e)
    go (Some t) h e =
        let w = took T t n k e in
        let number_is : w.chose.there.0.instance.n ≡ w.instance.n = ap (λ (i : Instance). i.n) w.chose.there.2 in
        let o = once T ended s w.chose.there.0 w.chose.there.1 in
        let l = take_later T t w.instance k.queue (itself T.threads id t h) w.ready w.chose (subst (λ m. waits m T.waiting ≤ 1) number_is o.0) (subst (λ m. m ≤ T.accepted) number_is o.1) in
        subst (λ i. Later k.queue k.signal k.number [] (Moves.on_instance i (Takes.take t) (Moves.begin T))) (sym w.found)
        (subst (λ m. Later k.queue k.signal m [] (Takes.take t w.instance (Moves.begin T))) (sym w.number) (subst (λ m. Later k.queue m w.instance.n [] (Takes.take t w.instance (Moves.begin T))) (sym w.signal) l))

event_later : (T : Table) (ended : List Ending) → Sound T ended → (a : ℕ) (e : Event) (c : Choice) (k : Taken) → Journals.taken_of T e c ≡ Some k → Later k.queue k.signal k.number [] (GroupStops.complete_group_stops (Steps.work_of_event a e c (Moves.begin T)))
event_later T ended s a (event.Take id) c k e = settle-kept any any_of (Later k.queue k.signal k.number []) (moves-later k.queue k.signal k.number []) _ (by_thread T ended s a id (Steps.number c.instance) k e)
event_later T ended s a (event.TakeAny g) c k e = settle-kept any any_of (Later k.queue k.signal k.number []) (moves-later k.queue k.signal k.number []) _ (by_thread T ended s a (Steps.number c.thread) (Steps.number c.instance) k e)
event_later T ended s a e c k q = absurd (none-some k q)

record LaterIn (q : Target) (s n : ℕ) (ids : List ℕ) (T : Table) : Type 0 where
  born : n ≤ T.accepted
  order : PassesOn q ids ⊎ AllAfter q s n T.waiting

replay_later : (q : Target) (s n : ℕ) (ids : List ℕ) (T U : Table) (es : List Entry) (rs : List Reply) → LaterIn q s n ids T → Journals.Replay T es rs U → LaterIn q s n (ids ++ Journals.renamed_by T es) U
replay_later q s n ids T U [] [] l r = rw append-nil (rw r l)
replay_later q s n ids T U [] (x ∷ rs) l r = absurd r
replay_later q s n ids T U (e ∷ es) [] l r = absurd r
replay_later q s n ids T U (e ∷ es) (x ∷ rs) l r =
    let start : Later q s n ids (Moves.begin T) = record { born = l.born; order = rw append-nil l.order } in
    let d = always-kept (Later q s n ids) (moves-later q s n ids) T e r.1.choice start in
    let made : Journals.Replay (Steps.work_of T e).table es rs U = subst (λ M. Journals.Replay M es rs U) r.1.table r.2 in
    rw (← append_assoc) (replay_later q s n (ids ++ (Steps.work_of T e).renamed) (Steps.work_of T e).table U es rs (record { born = d.born; order = d.order }) made)

event_took : (T : Table) (e : Event) (c : Choice) (k : Taken) → Journals.taken_of T e c ≡ Some k → (i : Instance) × Chosen T k.queue i × (k.number ≡ i.n) × (k.signal ≡ i.sig)
event_took T (event.Take id) c k e = go (Tables.thread_of T id) e
  where
    go : (o : Option Thread) → Journals.taken_by T o (Steps.number c.instance) ≡ Some k → (i : Instance) × Chosen T k.queue i × (k.number ≡ i.n) × (k.signal ≡ i.sig)
    go None e = absurd (none-some k e)
    go (Some t) e = let w = took T t (Steps.number c.instance) k e in (w.instance, w.chose, w.number, w.signal)
event_took T (event.TakeAny g) c k e = go (Tables.thread_of T (Steps.number c.thread)) e
  where
    go : (o : Option Thread) → Journals.taken_by T o (Steps.number c.instance) ≡ Some k → (i : Instance) × Chosen T k.queue i × (k.number ≡ i.n) × (k.signal ≡ i.sig)
    go None e = absurd (none-some k e)
    go (Some t) e = let w = took T t (Steps.number c.instance) k e in (w.instance, w.chose, w.number, w.signal)
event_took T e c k q = absurd (none-some k q)

pub in_order : Laws.TakesAreInOrder
in_order S T M U V first between qs rs e f x y start r se r2 sf a b ta tb same_s same_q free =
    let s = replay_sound S T [] first qs (start_sound S start) r in
    let l = event_later T (Journals.ended_by S first) s e.actor e.event e.choice a ta in
    let now : LaterIn a.queue a.signal a.number [] M = subst (LaterIn a.queue a.signal a.number []) (sym se.table) (record { born = l.born; order = subst (λ names. PassesOn a.queue names ⊎ AllAfter a.queue a.signal a.number (Steps.work_of T e).table.waiting) (take_renames_nothing T e.actor e.event e.choice a ta) l.order }) in
    let at_f = replay_later a.queue a.signal a.number [] M U between rs now r2 in
    let w = event_took U f.event f.choice b tb in
    go free w at_f.order
  where
    go : (PassesOn a.queue (Journals.renamed_by M between) → ⊥) → ((i : Instance) × Chosen U b.queue i × (b.number ≡ i.n) × (b.signal ≡ i.sig)) → PassesOn a.queue (Journals.renamed_by M between) ⊎ AllAfter a.queue a.signal a.number U.waiting → a.number < b.number
    go f w (inl p) = absurd (f p)
    go f w (inr h) =
        let z = w.1.there in
        let lt = all_after_in a.queue a.signal a.number z.0 U.waiting h z.1 (z.3 ∙ sym same_q) (ap (λ (i : Instance). i.sig) z.2 ∙ sym (same_s ∙ w.3)) in
        omega (arith, lt, ap (λ (i : Instance). i.n) z.2, w.2)
