-- This product's own answer may be given, and no other where the model leaves no choice.
use Rattle.std.proofs.Common.{◌≡◌, ◌+◌, ◌-◌, ◌^◌, ◌&&◌, ◌∙◌, ◌≤◌, ◌<◌, ℕ, zero, suc, List, [], ◌∷◌, IsTrue, Bool, true, false, Option, Some, None, Result, Ok, Err, add-one, ap, arith, drop, drop-cons, get_or, inl, inr, leb-false, leb-true, length, nat_le, refl, slice_index_or, subst, sym, true≢false}
use Rattle.std.specs.Result.{IsOk, is_ok}
use Rattle.std.proofs.lemmas.Bool.{le-leb, lt-leb}
use Rattle.std.proofs.lemmas.Option.{same_Some}
use Rattle.std.specs.Prelude.{◌⊎◌, IfErr, IfOk, OnErr, if◌then◌else◌}
use Rattle.tr_tracee.specs.declared.thread.Thread.{Thread}
use Rattle.tr_model.specs.declared.checked.Checked.{Checked}
use Rattle.tr_model.specs.declared.checked.Checked.TheVariants.{Quiet, Due}
use Rattle.tr_model.specs.declared.events.Event.{Event}
use Rattle.tr_model.specs.declared.events.Event.TheVariants as event
use Rattle.tr_model.specs.declared.replies.Refusal.{Refusal}
use Rattle.tr_model.specs.declared.replies.Refusal.TheVariants.{JournalFull, NoMemory}
use Rattle.tr_model.specs.declared.replies.Reply.{Reply}
use Rattle.tr_model.specs.declared.replies.Reply.TheVariants.{Cloned}
use Rattle.tr_model.specs.Causes.{cause_of, quiet_of}
use Rattle.tr_model.specs.Choices.{Choice, no_choice}
use Rattle.tr_model.specs.Compare.{IsLet, Lets, entry_for}
use Rattle.tr_model.specs.Journals.{IsSorted}
use Rattle.tr_model.specs.Preferred.{check, clone_choice, least_new, new_id, or_from_2, preferred}
use Rattle.tr_model.specs.Runs.{Call}
use Rattle.tr_model.specs.Steps.{Admits, Step, after, is_new, number}
use Rattle.tr_model.specs.Tables.{Table, thread_of}
use Rattle.tr_starts.specs.Starts.{table_of}
use Rattle.tr_kernel.specs.Foreseen.{choice_ahead, choice_found, foreseen, foreseen_by}
use Rattle.tr_kernel.specs.Heard.{HasAnswered, call_of}
use Rattle.tr_kernel.specs.States.{IsDue, IsEntered, IsHistory, IsMade, IsQuiet, IsRefusal, State}
use Rattle.tr_kernel.proofs.Checks.{dues, quiets, refusals}
use Rattle.tr_oracle.specs.Expected.{FitsEachClone, HasGiven, IsAnswered, IsNamed, MayAnswer}
use Rattle.tr_oracle.specs.Offers.{has_open_choice, offered}
use Rattle.tr_model.proofs.Ordered.{waiting_is_sorted}
use Rattle.tr_kernel.proofs.Begun.{is_start}
use Rattle.tr_oracle.proofs.Complete.{offers_are_complete}

other_cause : (why : Refusal) (o : Option Refusal) → o ≡ Some why → o ≡ None → ⊥
other_cause why o e f = cc

same_refusal : (v w : Refusal) → ◌≡◌ {A = Result Reply Refusal} (Err v) (Err w) → v ≡ w
same_refusal v w e = cc

no_refusal : (r : Reply) (w : Refusal) → Ok r ≡ Err w → ⊥
no_refusal r w e = cc

pub refused_may : (s : State) (c : Call) (why : Refusal) → foreseen s c ≡ Err why → MayAnswer s c (Err why)
refused_may s c why = by_check (check s.table c.actor c.event) refl
  where
    at_limit : (r : Reply) (b : Bool) → nat_le s.table.entries (length s.journal) ≡ b → IsDue s c.actor c.event → (if b then Err JournalFull else Ok r) ≡ Err why → MayAnswer s c (Err why)
    at_limit r true f d e = inl (d, leb-true s.table.entries (length s.journal) f, sym e)
    at_limit r false f d e = absurd (no_refusal r why e)

    by_check : (x : Result Checked Refusal) → check s.table c.actor c.event ≡ x → foreseen_by s c x ≡ Err why → MayAnswer s c (Err why)
    by_check (Err w) h e =
        let found = refusals s.table c.actor c.event w h in
        inr ((s.table, (found ∙ ap (λ v. Some v) (same_refusal w why e), refl)), λ d. absurd (other_cause w (cause_of s.table c.actor c.event) found d.no_cause))
    by_check (Ok (Quiet r)) h e = absurd (no_refusal r why e)
    by_check (Ok (Due x)) h e =
        let d = dues s.table c.actor c.event x h in
        at_limit (after s.table (entry_for c x)).reply (nat_le s.table.entries (length s.journal)) refl (record { no_cause = d.no_cause; not_quiet = d.not_quiet }) e

foreseen_quiet : (s m : State) (a : ℕ) (e : Event) (r : Reply) → IsQuiet s a e r m → foreseen s (call_of a e) ≡ Ok r
foreseen_quiet s m a e r q = rw (q.no_cause, q.quiet) refl

foreseen_entered : (s m : State) (a : ℕ) (e : Event) (r : Reply) → IsEntered s a e r m → nat_le s.table.entries (length s.journal) ≡ false → foreseen s (call_of a e) ≡ Ok r
foreseen_entered s m a e r n f = rw (n.no_cause, n.step.not_quiet, f) (ap (λ x. Ok x) (sym n.step.reply))

not_both : (o : Option Reply) (x : Reply) → o ≡ None → o ≡ Some x → ⊥
not_both o x f g = cc

-- a step of this product's answers as foreseen
pub step_done : (s m : State) (a : ℕ) (e : Event) (r : Reply) → IsQuiet s a e r m ⊎ IsEntered s a e r m → (IsDue s a e → s.table.entries ≤ length s.journal → ⊥)
    → (foreseen s (call_of a e) ≡ Ok r) × MayAnswer s (call_of a e) (Ok r) × HasGiven s (call_of a e) (Ok r) m
step_done s m a e r (inl q) room = (
  foreseen_quiet s m a e r q,
  inr ((s.table, inl (q.no_cause, q.quiet, refl)), λ d. absurd (not_both (quiet_of s.table a e) r d.not_quiet q.quiet)),
  inl q,
)
step_done s m a e r (inr n) room =
    let due : IsDue s a e = record { no_cause = n.no_cause; not_quiet = n.step.not_quiet } in
    let less : length s.journal < s.table.entries = below (nat_le s.table.entries (length s.journal)) refl due in (
      foreseen_entered s m a e r n (lt-leb s.table.entries (length s.journal) less),
      inr ((m.table, inr (preferred s.table a e, n.step)), λ d. less),
      inr (preferred s.table a e, record { step = n.step; start = n.start; journal = n.journal; replies = n.replies }),
    )
  where
    below : (b : Bool) → nat_le s.table.entries (length s.journal) ≡ b → IsDue s a e → length s.journal < s.table.entries
    below true f d = absurd (room d (leb-true s.table.entries (length s.journal) f))
    below false f d = leb-false s.table.entries (length s.journal) f

-- a step that had an answer met no full journal
pub unfull : (s : State) (a : ℕ) (e : Event) (x : Result Reply Refusal) (r : Reply) → x ≡ Ok r → (IsDue s a e → s.table.entries ≤ length s.journal → x ≡ Err JournalFull)
    → IsDue s a e → s.table.entries ≤ length s.journal → ⊥
unfull s a e x r h full d l = no_refusal r JournalFull (sym h ∙ full d l)

-- What another choice comes to

-- one answer was tried
abbrev pub Tried : State → Call → (Result Reply Refusal → Bool) → Result Reply Refusal → Type 0
Tried s c f x = (f x ≡ false) ⊎ (IsLet s.table c x → ⊥)

-- each of these was tried
abbrev pub AllTried : State → Call → (Result Reply Refusal → Bool) → List Reply → Type 0
AllTried s c f [] = Unit {0}
AllTried s c f (r ∷ rs) = Tried s c f (Ok r) × AllTried s c f rs

-- so was a clone's answer with this id, where there is one
abbrev pub NameTried : State → Call → (Result Reply Refusal → Bool) → Option ℕ → Type 0
NameTried s c f None = Unit {0}
NameTried s c f (Some id) = Tried s c f (Ok (Cloned id))

no_place : (k : ℕ) → k < 0 → ⊥
no_place k l = omega (arith, l)

one_tried : (s : State) (c : Call) (f : Result Reply Refusal → Bool) (rs : List Reply) (r : Reply) (k : ℕ) → AllTried s c f rs → k < length rs → slice_index_or rs k r ≡ r → Tried s c f (Ok r)
one_tried s c f [] r k t l e = absurd (no_place k l)
one_tried s c f (x ∷ rs) r zero t l e = subst (λ (y : Reply). Tried s c f (Ok y)) e t.0
one_tried s c f (x ∷ rs) r (suc k) t l e = one_tried s c f rs r k t.1 (omega (arith, l)) e

-- what is due is foreseen as its entry's reply, while the journal isn't full
foreseen_due : (s : State) (c : Call) → IsDue s c.actor c.event → nat_le s.table.entries (length s.journal) ≡ false → foreseen s c ≡ Ok (after s.table (entry_for c (preferred s.table c.actor c.event))).reply
foreseen_due s c d f = rw (d.no_cause, d.not_quiet, f) refl

-- a full journal refuses what is due
foreseen_full : (s : State) (c : Call) → IsDue s c.actor c.event → nat_le s.table.entries (length s.journal) ≡ true → foreseen s c ≡ Err JournalFull
foreseen_full s c d f = rw (d.no_cause, d.not_quiet, f) refl

-- an own answer without an entry changes nothing
pub idle : (s : State) (c : Call) → choice_ahead s c ≡ None → MayAnswer s c (foreseen s c) × HasGiven s c (foreseen s c) s
idle s c h = by_check (check s.table c.actor c.event) refl h
  where
    at_limit : (x : Choice) (r : Reply) (b : Bool) → nat_le s.table.entries (length s.journal) ≡ b → IsDue s c.actor c.event → (if b then None else Some x) ≡ None
        → MayAnswer s c (if b then Err JournalFull else Ok r) × HasGiven s c (if b then Err JournalFull else Ok r) s
    at_limit x r true f d k = (refused_may s c JournalFull (foreseen_full s c d f), refl)
    at_limit x r false f d k = absurd cc

    by_check : (x : Result Checked Refusal) → check s.table c.actor c.event ≡ x → choice_found s x ≡ None → MayAnswer s c (foreseen_by s c x) × HasGiven s c (foreseen_by s c x) s
    by_check (Err why) e k = (refused_may s c why (ap (λ y. foreseen_by s c y) e), refl)
    by_check (Ok (Quiet r)) e k =
        let q = quiets s.table c.actor c.event r e in
        let done = step_done s s c.actor c.event r (inl (record { no_cause = q.0; quiet = q.1; same = refl })) (λ d l. not_both (quiet_of s.table c.actor c.event) r d.not_quiet q.1) in
        (done.1, done.2)
    by_check (Ok (Due x)) e k =
        let d = dues s.table c.actor c.event x e in
        at_limit x (after s.table (entry_for c x)).reply (nat_le s.table.entries (length s.journal)) refl (record { no_cause = d.no_cause; not_quiet = d.not_quiet }) k

-- an entry is foreseen where it is due and has room
pub ahead : (s : State) (c : Call) (x : Choice) → choice_ahead s c ≡ Some x → (check s.table c.actor c.event ≡ Ok (Due x)) × (nat_le s.table.entries (length s.journal) ≡ false)
ahead s c x h = by_check (check s.table c.actor c.event) h
  where
    at_limit : (y : Choice) (b : Bool) → (if b then None else Some y) ≡ Some x → (y ≡ x) × (b ≡ false)
    at_limit y true k = absurd cc
    at_limit y false k = (same_Some y x k, refl)

    by_check : (z : Result Checked Refusal) → choice_found s z ≡ Some x → (z ≡ Ok (Due x)) × (nat_le s.table.entries (length s.journal) ≡ false)
    by_check (Err why) k = absurd cc
    by_check (Ok (Quiet r)) k = absurd cc
    by_check (Ok (Due y)) k = let p = at_limit y (nat_le s.table.entries (length s.journal)) k in (ap (λ z. Ok (Due z)) p.0, p.1)

-- that entry answers as foreseen
pub made : (s m : State) (c : Call) (x : Choice) (r : Reply) → choice_ahead s c ≡ Some x → IsMade s (entry_for c x) r m
    → MayAnswer s c (foreseen s c) × HasGiven s c (foreseen s c) m
made s m c x r h is =
    let p = ahead s c x h in
    let own : foreseen s c ≡ Ok r = ap (λ y. foreseen_by s c y) p.0 ∙ (ap (λ (b : Bool). if b then Err JournalFull else Ok (after s.table (entry_for c x)).reply) p.1 ∙ ap (λ y. Ok y) (sym is.step.reply)) in
    let may : MayAnswer s c (Ok r) = inr ((m.table, inr (x, is.step)), λ d. leb-false s.table.entries (length s.journal) p.1) in
    let given : HasGiven s c (Ok r) m = inr (x, is) in
    (subst (λ y. MayAnswer s c y) (sym own) may, subst (λ y. HasGiven s c y m) (sym own) given)

-- a refusal for a cause or for a full journal is foreseen
refused_ahead : (s : State) (a : ℕ) (e : Event) (why : Refusal) → (why ≡ NoMemory → ⊥) → IsRefusal s a e why → foreseen s (call_of a e) ≡ Err why
refused_ahead s a e JournalFull n h = foreseen_full s (call_of a e) h.0 (le-leb s.table.entries (length s.journal) h.1)
refused_ahead s a e NoMemory n h = absurd (n refl)
refused_ahead s a e _ n h = rw h refl

-- a step that memory was given for has this product's own answer
pub stepped_as : (s m : State) (a : ℕ) (e : Event) (x : Result Reply Refusal) → IfOk x (λ r. IsQuiet s a e r m ⊎ IsEntered s a e r m) → IfErr x (λ why. IsRefusal s a e why) → OnErr x (m ≡ s)
    → (IsDue s a e → s.table.entries ≤ length s.journal → x ≡ Err JournalFull) → (x ≡ Err NoMemory → ⊥) → IsAnswered s m (call_of a e) (λ y. true) x
stepped_as s m a e (Ok r) ok err same full n =
    let done = step_done s m a e r ok (unfull s a e (Ok r) r refl full) in
    record { fits = refl; may = done.1; own = λ t. sym done.0; given = done.2 }
stepped_as s m a e (Err why) ok err same full n =
    let own = refused_ahead s a e why (λ k. n (ap (λ w. Err w) k)) err in
    record { fits = refl; may = refused_may s (call_of a e) why own; own = λ t. sym own; given = same }

ok_no_err : (x : Result Reply Refusal) (why : Refusal) → IsOk x → x ≡ Err why → ⊥
ok_no_err x why h e = true≢false (sym h ∙ ap is_ok e)

-- where this product's own answer is a reply, what is due has room
pub has_room : (s : State) (c : Call) → IsOk (foreseen s c) → IsDue s c.actor c.event → length s.journal < s.table.entries
has_room s c ok d = go (nat_le s.table.entries (length s.journal)) refl
  where
    go : (b : Bool) → nat_le s.table.entries (length s.journal) ≡ b → length s.journal < s.table.entries
    go true f = absurd (ok_no_err (foreseen s c) JournalFull ok (foreseen_full s c d f))
    go false f = leb-false s.table.entries (length s.journal) f

pub given_other : (s m : State) (c : Call) (f : Result Reply Refusal → Bool) (r : Reply) → IsOk (foreseen s c) → f (foreseen s c) ≡ false
    → f (Ok r) ≡ true → Lets s.table c (Ok r) m.table → HasAnswered s c.actor c.event (Ok r) m → IsAnswered s m c f (Ok r)
given_other s m c f r ok misfit fit lets given = record {
  fits = fit;
  may = inr ((m.table, lets), has_room s c ok);
  own = λ e. absurd (true≢false (sym e ∙ misfit));
  given = given;
}

-- No other answer is as expected

-- what fits and is let was not tried
fits_let : (s : State) (c : Call) (f : Result Reply Refusal → Bool) (x : Result Reply Refusal) → Tried s c f x → IsLet s.table c x → f x ≡ true → ⊥
fits_let s c f x (inl m) l h = true≢false (sym h ∙ m)
fits_let s c f x (inr m) l h = m l

-- this product's own reply doesn't fit
fits_own : (s : State) (c : Call) (f : Result Reply Refusal → Bool) (x : Result Reply Refusal) → f (foreseen s c) ≡ false → foreseen s c ≡ x → f x ≡ true → ⊥
fits_own s c f x misfit e h = true≢false (sym h ∙ (ap f (sym e) ∙ misfit))

-- an event that leaves no choice is answered by its one entry
fixed : (s : State) (a : ℕ) (e : Event) (x : Choice) (r : Reply) (U : Table) → IsOk (foreseen s (call_of a e)) → IsDue s a e → preferred s.table a e ≡ no_choice → x ≡ no_choice
    → r ≡ (after s.table (entry_for (call_of a e) x)).reply → foreseen s (call_of a e) ≡ Ok r
fixed s a e x r U ok d p q h =
    foreseen_due s (call_of a e) d (lt-leb s.table.entries (length s.journal) (has_room s (call_of a e) ok d))
    ∙ ap (λ y. Ok y) (ap (λ z. (after s.table (entry_for (call_of a e) z)).reply) (p ∙ sym q) ∙ sym h)

-- a new id is that of a thread
new_is_small : (T : Table) (id : ℕ) → is_new T id ≡ true → id < 2 ^ 32
new_is_small T id h = go (nat_le 2 id) (nat_le id 4194303) _ refl h
  where
    go : (a b c : Bool) → nat_le id 4194303 ≡ b → (a && (b && c)) ≡ true → id < 2 ^ 32
    go true true c e k = let l = leb-true id 4194303 e in omega arith
    go true false c e k = cc
    go false b c e k = cc

least_is_small : (T : Table) (tries first id : ℕ) → least_new T tries first ≡ Some id → id < 2 ^ 32
least_is_small T zero first id h = cc
least_is_small T (suc tries) first id h = go (is_new T first) refl (least_is_small T tries (first + 1) id) h
  where
    go : (b : Bool) → is_new T first ≡ b → (least_new T tries (first + 1) ≡ Some id → id < 2 ^ 32) → (if b then Some first else least_new T tries (first + 1)) ≡ Some id → id < 2 ^ 32
    go true e later k = let same : first ≡ id = cc in subst (λ n. n < 2 ^ 32) same (new_is_small T first e)
    go false e later k = later k

found_is_small : (T : Table) (o : Option ℕ) → ((id : ℕ) → o ≡ Some id → id < 2 ^ 32) → or_from_2 T o < 2 ^ 32
found_is_small T (Some id) h = h id refl
found_is_small T None h = go (least_new T 4194302 2) refl
  where
    go : (o : Option ℕ) → least_new T 4194302 2 ≡ o → or_from_2 T None < 2 ^ 32
    go None e = rw e (omega arith)
    go (Some id) e = rw e (least_is_small T 4194302 2 id e)

chosen_is_small : (T : Table) (t : Option Thread) → number (clone_choice T t).new_id < 2 ^ 32
unfolding new_id
chosen_is_small T None = omega arith
chosen_is_small T (Some t) = found_is_small T (least_new T (4194303 - t.group) (t.group + 1)) (λ id e. least_is_small T (4194303 - t.group) (t.group + 1) id e)

-- where a choice is open, each reply that is let is on the list
opened : (s : State) (a : ℕ) (e : Event) (f : Result Reply Refusal → Bool) (r : Reply) (U : Table) (x : Choice) → IsSorted s.table.waiting → AllTried s (call_of a e) f (offered s.table a e)
    → IsTrue (has_open_choice e) → Step s.table (entry_for (call_of a e) x) r U → f (Ok r) ≡ true → ⊥
opened s a e f r U x sorted t o st h =
    let found = offers_are_complete s.table (call_of a e) r sorted o st.not_refused st.not_quiet (U, inr (x, st)) in
    fits_let s (call_of a e) f (Ok r) (one_tried s (call_of a e) f (offered s.table a e) r found.0 t found.1 found.2) (U, inr (x, st)) h

stepped : (s : State) (a : ℕ) (e : Event) (f : Result Reply Refusal → Bool) (named : Option ℕ) (r : Reply) (U : Table) (x : Choice) → IsSorted s.table.waiting → IsOk (foreseen s (call_of a e)) → f (foreseen s (call_of a e)) ≡ false
    → AllTried s (call_of a e) f (offered s.table a e) → IsNamed f named → NameTried s (call_of a e) f named
    → Step s.table (entry_for (call_of a e) x) r U → f (Ok r) ≡ true → ⊥
stepped s a (event.Take id) f named r U x sorted ok mis t i n st h = opened s a (event.Take id) f r U x sorted t refl st h
stepped s a (event.TakeAny g) f named r U x sorted ok mis t i n st h = opened s a (event.TakeAny g) f r U x sorted t refl st h
stepped s a (event.Wait which) f named r U x sorted ok mis t i n st h = opened s a (event.Wait which) f r U x sorted t refl st h
stepped s a (event.StarterWait which flags) f named r U x sorted ok mis t i n st h = opened s a (event.StarterWait which flags) f r U x sorted t refl st h
stepped s a (event.CloneThread id) f named r U x sorted ok mis t i n st h =
    admitted (subst (λ y. f (Ok y) ≡ true) st.reply h) st.choice
  where
    c : Call
    c = call_of a (event.CloneThread id)

    due : IsDue s a (event.CloneThread id)
    due = record { no_cause = st.not_refused; not_quiet = st.not_quiet }

    cloned : (named ≡ Some (number x.new_id)) ⊎ FitsEachClone f → ⊥
    cloned (inl e) = fits_let s c f (Ok r) (subst (λ y. Tried s c f (Ok y)) (sym st.reply) (subst (NameTried s c f) e n)) (U, inr (x, st)) h
    cloned (inr all) =
        fits_own s c f (Ok (Cloned (number (preferred s.table a (event.CloneThread id)).new_id))) mis
        (foreseen_due s c due (lt-leb s.table.entries (length s.journal) (has_room s c ok due))) (all (number (preferred s.table a (event.CloneThread id)).new_id) (chosen_is_small s.table (thread_of s.table id)))

    admitted : f (Ok (Cloned (number x.new_id))) ≡ true → Admits s.table a (event.CloneThread id) x → ⊥
    admitted k (new, chosen, is) = cloned (i (number x.new_id) (subst (λ (y : Choice). number y.new_id < 2 ^ 32) (sym chosen) (new_is_small s.table new is)) k)
stepped s a e f named r U x sorted ok mis t i n st h =
    fits_own s (call_of a e) f (Ok r) mis (fixed s a e x r U ok (record { no_cause = st.not_refused; not_quiet = st.not_quiet }) refl st.choice st.reply) h

-- where no reply on the list fits, the named clone's neither, no answer does
pub none_fits : (s : State) (c : Call) (f : Result Reply Refusal → Bool) (named : Option ℕ) → IsSorted s.table.waiting → IsOk (foreseen s c) → f (foreseen s c) ≡ false
    → AllTried s c f (offered s.table c.actor c.event) → IsNamed f named → NameTried s c f named → (x : Result Reply Refusal) → MayAnswer s c x → f x ≡ false
none_fits s c f named sorted ok mis t i n x may = decide (f x) refl
  where
    contra : (y : Result Reply Refusal) → MayAnswer s c y → f y ≡ true → ⊥
    contra y (inl d) h = ok_no_err (foreseen s c) JournalFull ok (foreseen_full s c d.0 (le-leb s.table.entries (length s.journal) d.1))
    contra (Err why) (inr l) h = ok_no_err (foreseen s c) why ok (rw l.0.1.0 refl)
    contra (Ok r) (inr (l, room)) h = replied r l h
      where
        replied : (r : Reply) → IsLet s.table c (Ok r) → f (Ok r) ≡ true → ⊥
        replied r (U, inl q) h = fits_own s c f (Ok r) mis (rw (q.0, q.1) refl) h
        replied r (U, inr (x, st)) h = stepped s c.actor c.event f named r U x sorted ok mis t i n st h

    decide : (b : Bool) → f x ≡ b → f x ≡ false
    decide true e = absurd (contra x may e)
    decide false e = e

pub sorted_now : (s : State) → IsHistory s → IsSorted s.table.waiting
sorted_now s h = waiting_is_sorted (table_of s.start) s.table s.journal s.replies (is_start s.start h.good) h.replayed

-- the next reply was tried
pub next_tried : (s : State) (c : Call) (f : Result Reply Refusal → Bool) (xs : List Reply) (k : ℕ) (x : Reply) → x ≡ get_or xs k x → k < length xs → Tried s c f (Ok x)
    → (AllTried s c f (drop k xs) → AllTried s c f xs) → AllTried s c f (drop (k + 1) xs) → AllTried s c f xs
next_tried s c f xs k x e l t all rest = all (subst (AllTried s c f) (sym (next_reply xs k x e l)) (t, rest))
  where
    next_reply : (ys : List Reply) (j : ℕ) (y : Reply) → y ≡ get_or ys j y → j < length ys → drop j ys ≡ y ∷ drop (j + 1) ys
    next_reply ys j y e l = drop-cons ys j y l ∙ (ap (λ z. z ∷ drop (suc j) ys) (sym e) ∙ ap (λ n. y ∷ drop n ys) (sym (add-one j)))
