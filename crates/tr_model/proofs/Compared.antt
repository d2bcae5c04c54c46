-- A reply tells the choice of its step, so an answer determines the next table, and a record of answers its verdict.
use Rattle.std.proofs.Common.{◌≡◌, ◌∙◌, ◌==◌, ℕ, zero, suc, ◌<◌, List, [], ◌∷◌, Bool, true, false, ◌||◌, Option, Some, None, Result, Ok, Err, take, if◌then◌else◌, refl, sym, ap, subst, inl, inr, arith}
use Rattle.std.specs.Prelude.{◌⊎◌, filter, is_some}
use Rattle.std.proofs.lemmas.Bool.{and_parts, eqb-true, true≢false}
use Rattle.std.proofs.lemmas.Option.{none-some}
use Rattle.tr_pending.specs.declared.instance.Instance.{Instance}
use Rattle.tr_wait.specs.declared.waits.WaitFlags.{WaitFlags}
use Rattle.tr_wait.specs.declared.waits.Which.{Which}
use Rattle.tr_tracee.specs.declared.thread.Report.{Report}
use Rattle.tr_tracee.specs.declared.thread.Thread.{Thread}
use Rattle.tr_tracee.specs.Lives.{is_dead}
use Rattle.tr_tracee.specs.Threads.{is_ready_to_take}
use Rattle.tr_model.specs.Choices.{Choice, gives_report, takes_by, takes_instance}
use Rattle.tr_model.specs.declared.events.Event.{Event}
use Rattle.tr_model.specs.declared.events.Event.TheVariants as event
use Rattle.tr_model.specs.declared.rows.Group.{Group}
use Rattle.tr_model.specs.declared.rows.Target.TheVariants as target
use Rattle.tr_model.specs.Compare.{Admitted, AnswersDetermine, IsLet, IsVerdict, Lets, OneTestDecides, RepliesTellTheChoice, Told, VerdictsAreDetermined, choice_of, entry_for}
use Rattle.tr_model.specs.Moves.{Work, instance_in}
use Rattle.tr_model.specs.StarterWaits.{has_death, led_groups, ready_death, ready_note, shows_note, with_death}
use Rattle.tr_model.specs.Steps.{Admits, after, reply_of, takes, took_reply, waited, waited_note, waited_thread, work_of}
use Rattle.tr_model.specs.Tables.{Table, queue, thread_of}
use Rattle.tr_model.specs.Takes.{choices, choices_in, unblocked, with_number}
use Rattle.tr_model.specs.Waits.{asked_tracees, has_report, ready_thread}
use Rattle.tr_model.proofs.Admitted.{noter_among}
use Rattle.tr_model.proofs.Among.{Among, find_among, some_found}
use Rattle.tr_model.proofs.Consumed.{found_in}
use Rattle.tr_model.proofs.Takable.{all_instances, among_either, chosen_waits, instance_numbered, numbered_there}

-- What a take takes waits

pub numbered_among : (n : ℕ) (i : Instance) (is : List Instance) → with_number n is ≡ Some i → Among i is × (i.n ≡ n)
numbered_among n i [] e = cc
numbered_among n i (j ∷ is) e = go (j.n == n) refl e (numbered_among n i is)
  where
    go : (b : Bool) → (j.n == n) ≡ b → (if b then Some j else with_number n is) ≡ Some i → (with_number n is ≡ Some i → Among i is × (i.n ≡ n)) → Among i (j ∷ is) × (i.n ≡ n)
    go true h q r = let same : j ≡ i = cc in (inl (sym same), ap (λ z. z.n) (sym same) ∙ eqb-true j.n n h)
    go false h q r = let k = r q in (inr k.0, k.1)

pub choice_waits : (T : Table) (t : Thread) (i : Instance) → Among i (choices T t) → Among i (all_instances T.waiting)
choice_waits T t i m = go (is_ready_to_take t) refl
  where
    from : Among i (choices_in (unblocked t.mask (queue T (target.Thread t.id)))) ⊎ Among i (choices_in (unblocked t.mask (queue T (target.Group t.group)))) → Among i (all_instances T.waiting)
    from (inl h) = chosen_waits T t.mask (target.Thread t.id) i h
    from (inr h) = chosen_waits T t.mask (target.Group t.group) i h

    go : (b : Bool) → is_ready_to_take t ≡ b → Among i (all_instances T.waiting)
    go true r = from (among_either i (choices_in (unblocked t.mask (queue T (target.Thread t.id)))) _ (rw r at m))
    go false r = absurd (rw r at m)

record Found (T : Table) (n : ℕ) : Type 0 where
  instance : Instance
  there : instance_in T.waiting n ≡ Some instance
  number : instance.n ≡ n

taken_waits : (T : Table) (t : Thread) (n : ℕ) → is_some (with_number n (choices T t)) ≡ true → Found T n
taken_waits T t n e =
    let f = some_found (with_number n (choices T t)) e in
    let m = numbered_among n f.0 (choices T t) f.1 in
    let w = choice_waits T t f.0 m.0 in
    let s : is_some (with_number n (all_instances T.waiting)) ≡ true = subst (λ k. is_some (with_number k (all_instances T.waiting)) ≡ true) m.1 (numbered_there f.0 (all_instances T.waiting) w) in
    let g = some_found (with_number n (all_instances T.waiting)) s in
    record { instance = g.0; there = instance_numbered n T.waiting ∙ g.1; number = (numbered_among n g.0 (all_instances T.waiting) g.1).1 }

-- The choice that a reply tells

tells_take : (T : Table) (id n : ℕ) (o : Option Thread) → takes T o n ≡ true → takes_instance n ≡ choice_of (event.Take id) (took_reply T o (instance_in T.waiting n))
tells_take T id n None e = absurd (true≢false (sym e))
tells_take T id n (Some t) e =
    let f = taken_waits T t n e in
    ap takes_instance (sym f.number) ∙ sym (ap (λ i. choice_of (event.Take id) (took_reply T (Some t) i)) f.there)

tells_take_any : (T : Table) (g id n : ℕ) (o : Option Thread) → thread_of T id ≡ o → takes T o n ≡ true → takes_by id n ≡ choice_of (event.TakeAny g) (took_reply T o (instance_in T.waiting n))
tells_take_any T g id n None f e = absurd (true≢false (sym e))
tells_take_any T g id n (Some t) f e =
    let w = taken_waits T t n e in
    let same : t.id ≡ id = eqb-true t.id id (find_among (λ x. x.id == id) t T.threads f).1 in
    ap (λ k. takes_by k n) (sym same) ∙ (ap (takes_by t.id) (sym w.number) ∙ sym (ap (λ i. choice_of (event.TakeAny g) (took_reply T (Some t) i)) w.there))

tells_report : (which : Which) (id r : ℕ) (o : Option Report) → has_report r o ≡ true → gives_report r ≡ choice_of (event.Wait which) (waited id o)
tells_report which id r None e = absurd (true≢false (sym e))
tells_report which id r (Some x) e = ap gives_report (sym (eqb-true x.number r e))

tells_to_starter : (which : Which) (flags : WaitFlags) (id r : ℕ) (o : Option Report) → has_report r o ≡ true → gives_report r ≡ choice_of (event.StarterWait which flags) (waited id o)
tells_to_starter which flags id r None e = absurd (true≢false (sym e))
tells_to_starter which flags id r (Some x) e = ap gives_report (sym (eqb-true x.number r e))

tells_wait : (T : Table) (a : ℕ) (which : Which) (r : ℕ) → is_some (ready_thread T a which r) ≡ true → gives_report r ≡ choice_of (event.Wait which) (waited_thread (ready_thread T a which r) None)
tells_wait T a which r e =
    let f = some_found (ready_thread T a which r) e in
    let t : Thread = f.0 in
    tells_report which t.id r t.report (found_in r t (asked_tracees T a which) f.1).1 ∙ sym (ap (λ o. choice_of (event.Wait which) (waited_thread o None)) f.1)

death_has : (T : Table) (gs : List Group) (r : ℕ) (t : Thread) → with_death T gs r ≡ Some t → has_report r t.report ≡ true
death_has T [] r t e = cc
death_has T (g ∷ gs) r t e = go (has_death r (thread_of T g.tgid)) (thread_of T g.tgid) refl e (death_has T gs r t)
  where
    go : (b : Bool) (o : Option Thread) → has_death r o ≡ b → (if b then o else with_death T gs r) ≡ Some t → (with_death T gs r ≡ Some t → has_report r t.report ≡ true) → has_report r t.report ≡ true
    go true None h q rest = cc
    go true (Some x) h q rest =
        let same : x ≡ t = cc in
        subst (λ z. has_report r z.report ≡ true) same (and_parts _ _ (and_parts (is_dead x.life) _ h).1).1
    go false o h q rest = rest q

tells_starter : (T : Table) (which : Which) (flags : WaitFlags) (r : ℕ) → (is_some (ready_death T which r) || is_some (ready_note T which flags r)) ≡ true
    → gives_report r ≡ choice_of (event.StarterWait which flags) (waited_thread (ready_death T which r) (ready_note T which flags r))
tells_starter T which flags r e = go (ready_death T which r) refl e
  where
    go : (o : Option Thread) → ready_death T which r ≡ o → (is_some o || is_some (ready_note T which flags r)) ≡ true → gives_report r ≡ choice_of (event.StarterWait which flags) (waited_thread o (ready_note T which flags r))
    go (Some t) f h = tells_to_starter which flags t.id r t.report (death_has T (led_groups T which) r t f)
    go None f h =
        let n = some_found (ready_note T which flags r) h in
        let g : Group = n.0 in
        tells_to_starter which flags g.tgid r g.note (noter_among (filter (shows_note T which flags) T.groups) r g n.1).1
        ∙ sym (ap (λ o. choice_of (event.StarterWait which flags) (waited_note o)) n.1)

tells : (T : Table) (a : ℕ) (e : Event) (c : Choice) (w : Work) → Admits T a e c → c ≡ choice_of e (reply_of T a e c w)
tells T a (event.Take id) c w h = subst (λ x. x ≡ choice_of (event.Take id) (reply_of T a (event.Take id) x w)) (sym h.1) (tells_take T id h.0 (thread_of T id) h.2)
tells T a (event.TakeAny g) c w h = subst (λ x. x ≡ choice_of (event.TakeAny g) (reply_of T a (event.TakeAny g) x w)) (sym h.2) (tells_take_any T g h.0 h.1 (thread_of T h.0) refl h.4)
tells T a (event.Wait which) c w h = subst (λ x. x ≡ choice_of (event.Wait which) (reply_of T a (event.Wait which) x w)) (sym h.1) (tells_wait T a which h.0 h.2)
tells T a (event.StarterWait which flags) c w h = subst (λ x. x ≡ choice_of (event.StarterWait which flags) (reply_of T a (event.StarterWait which flags) x w)) (sym h.1) (tells_starter T which flags h.0 h.2)
tells T a (event.CloneThread id) c w h = subst (λ x. x ≡ choice_of (event.CloneThread id) (reply_of T a (event.CloneThread id) x w)) (sym h.1) refl
tells T a _ c w h = h

pub replies_tell_the_choice : RepliesTellTheChoice
replies_tell_the_choice T U e r s = tells T e.actor e.event e.choice (work_of T e) s.choice ∙ sym (ap (choice_of e.event) s.reply)

-- One answer

pub answers_determine : AnswersDetermine
answers_determine T U V c (Err why) h k = h.1 ∙ sym k.1
answers_determine T U V c (Ok r) (inl h) (inl k) = h.2 ∙ sym k.2
answers_determine T U V c (Ok r) (inl h) (inr k) = absurd (none-some r (sym k.1.not_quiet ∙ h.1))
answers_determine T U V c (Ok r) (inr h) (inl k) = absurd (none-some r (sym h.1.not_quiet ∙ k.1))
answers_determine T U V c (Ok r) (inr h) (inr k) =
    let x = replies_tell_the_choice T U (entry_for c h.0) r h.1 in
    let y = replies_tell_the_choice T V (entry_for c k.0) r k.1 in
    h.1.table ∙ (ap (λ z. (after T (entry_for c z)).work.table) (x ∙ sym y) ∙ sym k.1.table)

pub one_test_decides : OneTestDecides
one_test_decides T c r p q = (there, back)
  where
    there : IsLet T c (Ok r) → Admits T c.actor c.event (choice_of c.event r) × (r ≡ (after T (entry_for c (choice_of c.event r))).reply)
    there (U, inl h) = absurd (none-some r (sym q ∙ h.1))
    there (U, inr h) =
        let x = replies_tell_the_choice T U (entry_for c h.0) r h.1 in
        subst (λ z. Admits T c.actor c.event z × (r ≡ (after T (entry_for c z)).reply)) x (h.1.choice, h.1.reply)

    back : Admits T c.actor c.event (choice_of c.event r) × (r ≡ (after T (entry_for c (choice_of c.event r))).reply) → IsLet T c (Ok r)
    back h = ((after T (entry_for c (choice_of c.event r))).work.table, inr (choice_of c.event r, record { not_refused = p; not_quiet = q; choice = h.0; reply = h.1; table = refl }))

-- Verdicts

none_below : (k : ℕ) → k < 0 → ⊥
none_below k l = omega (arith, l)

-- the rest of the answers, from the table that the first leads to
rest_admitted : (T M U : Table) (x : Told) (xs : List Told) → Lets T x.call x.answer M → Admitted T (x ∷ xs) U → Admitted M xs U
rest_admitted T M U x xs h a = subst (λ N. Admitted N xs U) (answers_determine T a.0 M x.call x.answer a.1 h) a.2

rest_verdict : (T M : Table) (x : Told) (xs : List Told) (k : ℕ) → Lets T x.call x.answer M → IsVerdict T (x ∷ xs) (Err (suc k)) → IsVerdict M xs (Err k)
rest_verdict T M x xs k h v =
    (omega (arith, v.0), (v.1.0, rest_admitted T M v.1.0 x (take k xs) h v.1.1), λ g. v.2 (g.0, (M, h, g.1)))

later : (a b : ℕ) → ◌≡◌ {A = Result Table ℕ} (Err a) (Err b) → ◌≡◌ {A = Result Table ℕ} (Err (suc a)) (Err (suc b))
later a b e = ap (λ (n : ℕ). Err (suc n)) (same a b e)
  where
    same : (a b : ℕ) → ◌≡◌ {A = Result Table ℕ} (Err a) (Err b) → a ≡ b
    same a b e = cc

apart : {A : Type 0} (U : Table) (k : ℕ) → ◌≡◌ {A = Result Table ℕ} (Ok U) (Err k) → A
apart U k e = cc

-- a first answer that the model lets be is no place of a verdict
first_is_let : (T M : Table) (x : Told) (xs : List Told) → Lets T x.call x.answer M → IsVerdict T (x ∷ xs) (Err zero) → ⊥
first_is_let T M x xs h v = v.2 (M, (M, h, refl))

pub verdicts_are_determined : VerdictsAreDetermined
verdicts_are_determined T [] (Ok U) (Ok V) p q = ap Ok (p ∙ sym q)
verdicts_are_determined T [] (Err k) w p q = absurd (none_below k p.0)
verdicts_are_determined T [] (Ok U) (Err k) p q = absurd (none_below k q.0)
verdicts_are_determined T (x ∷ xs) (Ok U) (Ok V) p q = verdicts_are_determined p.0 xs (Ok U) (Ok V) p.2 (rest_admitted T p.0 V x xs p.1 q)
verdicts_are_determined T (x ∷ xs) (Ok U) (Err zero) p q = absurd (first_is_let T p.0 x xs p.1 q)
verdicts_are_determined T (x ∷ xs) (Ok U) (Err (suc k)) p q = apart U k (verdicts_are_determined p.0 xs (Ok U) (Err k) p.2 (rest_verdict T p.0 x xs k p.1 q))
verdicts_are_determined T (x ∷ xs) (Err zero) (Ok V) p q = absurd (first_is_let T q.0 x xs q.1 p)
verdicts_are_determined T (x ∷ xs) (Err (suc k)) (Ok V) p q = apart V k (sym (verdicts_are_determined q.0 xs (Err k) (Ok V) (rest_verdict T q.0 x xs k q.1 p) q.2))
verdicts_are_determined T (x ∷ xs) (Err zero) (Err zero) p q = refl
verdicts_are_determined T (x ∷ xs) (Err zero) (Err (suc k)) p q = absurd (first_is_let T q.1.1.0 x xs q.1.1.1 p)
verdicts_are_determined T (x ∷ xs) (Err (suc k)) (Err zero) p q = absurd (first_is_let T p.1.1.0 x xs p.1.1.1 q)
verdicts_are_determined T (x ∷ xs) (Err (suc k)) (Err (suc j)) p q =
    let M : Table = p.1.1.0 in
    later k j (verdicts_are_determined M xs (Err k) (Err j) (rest_verdict T M x xs k p.1.1.1 p) (rest_verdict T M x xs j p.1.1.1 q))
