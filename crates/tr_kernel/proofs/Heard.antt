-- What was heard is the answer of some step, or the model doesn't let it be.
use Rattle.std.proofs.Common.{◌≡◌, ◌∙◌, ◌&&◌, ◌||◌, ◌++◌, ◌≤◌, ℕ, List, [], ◌∷◌, Bool, true, false, Some, None, is_some, Result, Ok, Err, refl, sym, ap, subst, inl, inr}
use Rattle.std.specs.Prelude.{◌↔◌, ℤ, IsTrue}
use Rattle.std.proofs.lemmas.Bool.{and_from, and_parts, true≢false}
use Rattle.std.proofs.lemmas.Option.{none-some, same_Some}
use Rattle.tr_wait.specs.declared.waits.WaitFlags.{WaitFlags}
use Rattle.tr_wait.specs.declared.waits.Which.{Which}
use Rattle.tr_model.specs.Choices.{Choice, no_choice}
use Rattle.tr_model.specs.declared.events.Event.{Event}
use Rattle.tr_model.specs.declared.events.Event.TheVariants as event
use Rattle.tr_model.specs.declared.replies.Refusal.{Refusal}
use Rattle.tr_model.specs.declared.replies.Reply.{Reply}
use Rattle.tr_model.specs.declared.replies.Reply.TheVariants as reply
use Rattle.tr_model.specs.declared.rows.Waiting.{Waiting}
use Rattle.tr_model.specs.Causes.{cause_of, is_in, quiet_of}
use Rattle.tr_model.specs.Compare.{IsLet, Permits, choice_of, entry_for}
use Rattle.tr_model.specs.Foreseen.{reply_before}
use Rattle.tr_model.specs.Journals.{AllUpTo, IsIn, held_numbers, waiting_numbers}
use Rattle.tr_model.specs.StarterWaits.{ready_death, ready_note}
use Rattle.tr_model.specs.Steps.{Admits, after, is_new, takes}
use Rattle.tr_model.specs.Tables.{Table, thread_of}
use Rattle.tr_model.specs.Waits.{ready_thread}
use Rattle.tr_model.proofs.Compared.{one_test_decides}
use Rattle.tr_model.proofs.Foreseeing.{replies_are_foreseen}
use Rattle.tr_model.proofs.Standing.{numbers_accepted}
use Rattle.tr_starts.specs.Starts.{table_of}
use Rattle.tr_kernel.specs.Heard.{IsHeard, call_of}
use Rattle.tr_kernel.specs.Private.{admits_told, reply_without_send}
use Rattle.tr_kernel.specs.States.{IsDue, IsHistory, IsMade, State}
use Rattle.tr_kernel.proofs.Begun.{is_start}

-- The test of the choice that a reply tells

never : {A : Type 0} → (A → ⊥) → (false ≡ true) ↔ A
never f = (λ e. absurd (true≢false (sym e)), λ a. absurd (f a))

no_take : (T : Table) (a id : ℕ) → Admits T a (event.Take id) no_choice → ⊥
no_take T a id h = none-some h.0 (ap (λ (c : Choice). c.instance) h.1)

no_take_any : (T : Table) (a g : ℕ) → Admits T a (event.TakeAny g) no_choice → ⊥
no_take_any T a g h = none-some h.0 (ap (λ (c : Choice). c.thread) h.2)

no_wait : (T : Table) (a : ℕ) (which : Which) → Admits T a (event.Wait which) no_choice → ⊥
no_wait T a which h = none-some h.0 (ap (λ (c : Choice). c.report) h.1)

no_starter : (T : Table) (a : ℕ) (which : Which) (flags : WaitFlags) → Admits T a (event.StarterWait which flags) no_choice → ⊥
no_starter T a which flags h = none-some h.0 (ap (λ (c : Choice). c.report) h.1)

no_clone : (T : Table) (a id : ℕ) → Admits T a (event.CloneThread id) no_choice → ⊥
no_clone T a id h = none-some h.0 (ap (λ (c : Choice). c.new_id) h.1)

test_is_exact : (T : Table) (a : ℕ) (e : Event) (r : Reply) → (admits_told T a e r ≡ true) ↔ Admits T a e (choice_of e r)
test_is_exact T a (event.Take id) (reply.Took d t i) =
    (λ e. (i.n, refl, e), λ h. subst (λ n. takes T (thread_of T id) n ≡ true) (sym (same_Some i.n h.0 (ap (λ (c : Choice). c.instance) h.1))) h.2)
test_is_exact T a (event.Take id) _ = never (no_take T a id)
test_is_exact T a (event.TakeAny g) (reply.Took d t i) = (
  λ e. let p = and_parts (is_in g (thread_of T t)) (takes T (thread_of T t) i.n) e in (t, i.n, refl, p.0, p.1),
  λ h.
      let who : t ≡ h.0 = same_Some t h.0 (ap (λ (c : Choice). c.thread) h.2) in
      let what : i.n ≡ h.1 = same_Some i.n h.1 (ap (λ (c : Choice). c.instance) h.2) in
      subst (λ k. (is_in g (thread_of T k) && takes T (thread_of T k) i.n) ≡ true) (sym who) (subst (λ n. (is_in g (thread_of T h.0) && takes T (thread_of T h.0) n) ≡ true) (sym what) (and_from _ _ h.3 h.4)),
)
test_is_exact T a (event.TakeAny g) _ = never (no_take_any T a g)
test_is_exact T a (event.Wait which) (reply.Waited id w r) =
    (λ e. (r, refl, e), λ h. subst (λ n. is_some (ready_thread T a which n) ≡ true) (sym (same_Some r h.0 (ap (λ (c : Choice). c.report) h.1))) h.2)
test_is_exact T a (event.Wait which) _ = never (no_wait T a which)
test_is_exact T a (event.StarterWait which flags) (reply.Waited id w r) =
    (λ e. (r, refl, e), λ h. subst (λ n. (is_some (ready_death T which n) || is_some (ready_note T which flags n)) ≡ true) (sym (same_Some r h.0 (ap (λ (c : Choice). c.report) h.1))) h.2)
test_is_exact T a (event.StarterWait which flags) _ = never (no_starter T a which flags)
test_is_exact T a (event.CloneThread id) (reply.Cloned new) =
    (λ e. (new, refl, e), λ h. subst (λ n. is_new T n ≡ true) (sym (same_Some new h.0 (ap (λ (c : Choice). c.new_id) h.1))) h.2)
test_is_exact T a (event.CloneThread id) _ = never (no_clone T a id)
test_is_exact T a _ r = (λ e. refl, λ h. refl)

-- What sends nothing replies by its choice

pub without_send : (T : Table) (a : ℕ) (e : Event) (c : Choice) → ((g s : ℕ) → e ≡ event.Kill g s → ⊥) → ((g id s : ℕ) → e ≡ event.Tgkill g id s → ⊥) → ((g s : ℕ) (v : ℤ) → e ≡ event.Sigqueue g s v → ⊥) → ((id : ℕ) → e ≡ event.Attach id → ⊥)
    → reply_without_send T a e c ≡ reply_before T a e c
without_send T a (event.Kill g s) c k t q h = absurd (k g s refl)
without_send T a (event.Tgkill g id s) c k t q h = absurd (t g id s refl)
without_send T a (event.Sigqueue g s v) c k t q h = absurd (q g s v refl)
without_send T a (event.Attach id) c k t q h = absurd (h id refl)
without_send T a _ c k t q h = refl

-- Whether some step replies so

pub told_permits : (T : Table) (a : ℕ) (e : Event) (r : Reply) (c : Choice) → c ≡ choice_of e r → cause_of T a e ≡ None → quiet_of T a e ≡ None → admits_told T a e r ≡ true → Permits T a e c
told_permits T a e r c f p q h = record { no_cause = p; not_quiet = q; admitted = subst (λ x. Admits T a e x) (sym f) ((test_is_exact T a e r).0 h) }

pub not_admitted : (T : Table) (a : ℕ) (e : Event) (r : Reply) → cause_of T a e ≡ None → quiet_of T a e ≡ None → admits_told T a e r ≡ false → IsTrue false ↔ IsLet T (call_of a e) (Ok r)
not_admitted T a e r p q h = never (λ l. true≢false (sym ((test_is_exact T a e r).1 ((one_test_decides T (call_of a e) r p q).0 l).0) ∙ h))

pub admitted_where : (T : Table) (a : ℕ) (e : Event) (r : Reply) (c : Choice) (b : Bool) → c ≡ choice_of e r → cause_of T a e ≡ None → quiet_of T a e ≡ None → AllUpTo T.accepted T.waiting
    → admits_told T a e r ≡ true → (IsTrue b ↔ (reply_before T a e c ≡ r)) → IsTrue b ↔ IsLet T (call_of a e) (Ok r)
admitted_where T a e r c b f p q n h k = (there, back)
  where
    foreseen : reply_before T a e c ≡ (after T (entry_for (call_of a e) (choice_of e r))).reply
    foreseen = ap (reply_before T a e) f ∙ replies_are_foreseen T (entry_for (call_of a e) (choice_of e r)) n (told_permits T a e r (choice_of e r) refl p q h)

    there : IsTrue b → IsLet T (call_of a e) (Ok r)
    there t = (one_test_decides T (call_of a e) r p q).1 ((test_is_exact T a e r).0 h, sym (k.0 t) ∙ foreseen)

    back : IsLet T (call_of a e) (Ok r) → IsTrue b
    back l = k.1 (foreseen ∙ sym ((one_test_decides T (call_of a e) r p q).0 l).1)

-- What waits was accepted

all_up_to : (m : ℕ) (ws : List Waiting) (rest : List ℕ) → ((n : ℕ) → IsIn n (waiting_numbers ws ++ rest) → n ≤ m) → AllUpTo m ws
all_up_to m [] rest h = tt
all_up_to m (w ∷ ws) rest h = (h w.instance.n (inl refl), all_up_to m ws rest (λ n i. h n (inr i)))

pub waiting_accepted : (k : State) → IsHistory k → AllUpTo k.table.accepted k.table.waiting
waiting_accepted k h =
    all_up_to k.table.accepted k.table.waiting (held_numbers k.table.threads)
    (λ n i. (numbers_accepted (table_of k.start) k.table k.journal k.replies (is_start k.start h.good) h.replayed n i).1)

-- What hearing comes to

pub heard_refused : (k : State) (a : ℕ) (e : Event) (told : Result Reply Refusal) (why : Refusal) (b : Bool) → cause_of k.table a e ≡ Some why → (IsTrue b ↔ (told ≡ Err why)) → IsHeard k a e told (Ok b) k
heard_refused k a e told why true h t = subst (λ x. IsHeard k a e x (Ok true) k) (sym (t.0 refl)) ((h, refl), (h, refl))
heard_refused k a e told why false h t = (other told t.1, refl)
  where
    other : (x : Result Reply Refusal) → (x ≡ Err why → IsTrue false) → IsLet k.table (call_of a e) x → ⊥
    other (Err w) f l = true≢false (sym (f (ap (λ (z : Refusal). Err z) (same_Some w why (sym l.1.0 ∙ h)))))
    other (Ok r) f (U, inl l) = none-some why (sym l.0 ∙ h)
    other (Ok r) f (U, inr l) = none-some why (sym l.1.not_refused ∙ h)

pub heard_quiet : (k : State) (a : ℕ) (e : Event) (told : Result Reply Refusal) (r : Reply) (b : Bool) → cause_of k.table a e ≡ None → quiet_of k.table a e ≡ Some r → (IsTrue b ↔ (told ≡ Ok r)) → IsHeard k a e told (Ok b) k
heard_quiet k a e told r true p q t = subst (λ x. IsHeard k a e x (Ok true) k) (sym (t.0 refl)) (inl (p, q, refl), inl (record { no_cause = p; quiet = q; same = refl }))
heard_quiet k a e told r false p q t = (other told t.1, refl)
  where
    other : (x : Result Reply Refusal) → (x ≡ Ok r → IsTrue false) → IsLet k.table (call_of a e) x → ⊥
    other (Err w) f l = none-some w (sym p ∙ l.1.0)
    other (Ok y) f (U, inl l) = true≢false (sym (f (ap (λ (z : Reply). Ok z) (same_Some y r (sym l.1 ∙ q)))))
    other (Ok y) f (U, inr l) = none-some r (sym l.1.not_quiet ∙ q)

pub heard_wrongly : (k : State) (a : ℕ) (e : Event) (why : Refusal) → IsDue k a e → IsHeard k a e (Err why) (Ok false) k
heard_wrongly k a e why d = (λ l. none-some why (sym d.no_cause ∙ l.1.0), refl)

pub let_permits : (k : State) (a : ℕ) (e : Event) (r : Reply) (c : Choice) → c ≡ choice_of e r → IsDue k a e → IsLet k.table (call_of a e) (Ok r) → Permits k.table a e c
let_permits k a e r c f d l = record { no_cause = d.no_cause; not_quiet = d.not_quiet; admitted = subst (λ x. Admits k.table a e x) (sym f) ((one_test_decides k.table (call_of a e) r d.no_cause d.not_quiet).0 l).0 }

pub heard_made : (k n : State) (a : ℕ) (e : Event) (r q : Reply) (c : Choice) → c ≡ choice_of e r → IsDue k a e → IsLet k.table (call_of a e) (Ok r) → IsMade k (record { actor = a; event = e; choice = c }) q n → IsHeard k a e (Ok r) (Ok true) n
heard_made k n a e r q c f d l m =
    let told = ((one_test_decides k.table (call_of a e) r d.no_cause d.not_quiet).0 l).1 in
    let same : q ≡ r = m.step.reply ∙ (ap (λ x. (after k.table (entry_for (call_of a e) x)).reply) f ∙ sym told) in
    let made = subst (λ y. IsMade k (record { actor = a; event = e; choice = c }) y n) same m in
    (inr (c, made.step), inr (c, made))
