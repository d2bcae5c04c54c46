-- One more entry in a history.
use Rattle.std.proofs.Common.{◌≡◌, ℕ, ◌+◌, ◌-◌, ◌≤◌, List, [], ◌∷◌, ◌++◌, length, replicate, Ok, Some, None, Option, refl, sym, ap, ap₂, ◌∙◌, subst, arith, append-nil, append_assoc, ◌⊎◌, inl, inr}
use Rattle.std.proofs.lemmas.Bool.{cases_eq, leb-true}
use Rattle.std.specs.Prelude.{IsTrue, IfSome, slice_get, nat_le, Bool, true, false, ◌&&◌, if◌then◌else◌, unwrap_or}
use Rattle.tr_model.specs.declared.checked.Checked.TheVariants.{Due}
use Rattle.tr_model.specs.Choices.{Choice}
use Rattle.tr_model.specs.Entries.{Entry}
use Rattle.tr_model.specs.declared.events.Event.{Event}
use Rattle.tr_model.specs.declared.fates.Ending.{Ending}
use Rattle.tr_model.specs.declared.fates.Fate.{Fate}
use Rattle.tr_model.specs.declared.fates.Fate.TheVariants.{Pending, Merged, Delivered, Suppressed, Flushed}
use Rattle.tr_model.specs.declared.replies.Reply.{Reply}
use Rattle.tr_model.specs.Laws.{OneFate}
use Rattle.tr_model.proofs.Consumed.{consumed_once}
use Rattle.tr_model.proofs.Tally.{fates_agree}
use Rattle.tr_model.specs.Journals.{HasFate, consumed_by, fate_of, how_many, totals, Replay, ended_as, ended_by, held_numbers, numbers_of, occurs, waiting_numbers}
use Rattle.tr_model.specs.Compare.{Permits}
use Rattle.tr_model.specs.Preferred.{check, preferred}
use Rattle.tr_model.specs.Steps.{Admits, Step, after, work_of}
use Rattle.tr_model.specs.Tables.{Table}
use Rattle.tr_model.proofs.Bounds.{entries_are_bounded, some_id_is_free}
use Rattle.tr_model.proofs.Admitted.{preferred_is_admitted}
use Rattle.tr_model.proofs.Live.{AllLive, ended_live}
use Rattle.tr_model.proofs.Among.{occurs-append}
use Rattle.tr_model.proofs.OneFate.{one_fate}
use Rattle.tr_model.proofs.Ordered.{waiting_is_sorted}
use Rattle.tr_model.proofs.Runs.{replay_push}
use Rattle.tr_model.proofs.Standing.{ids_are_distinct}
use Rattle.tr_starts.specs.declared.starts.Start.{Start}
use Rattle.tr_starts.specs.Starts.{is_good, table_of}
use Rattle.tr_kernel.specs.Fates.{fates_to}
use Rattle.tr_kernel.specs.Private.{count_of, endings_noted, fates_after, tally}
use Rattle.tr_kernel.specs.States.{AcceptsFew, IsEntered, IsHistory, IsMade, State}
use Rattle.tr_kernel.proofs.Begun.{is_start}
use Rattle.tr_kernel.proofs.Checks.{dues}
use Rattle.tr_kernel.proofs.Noted.{endings_noted_is, count_is, fate_kept, grown, length_fates, not_ended}

-- What every kernel has

pub one_fate_of : (k : State) → IsHistory k → OneFate (table_of k.start) k.journal k.table
one_fate_of k h = one_fate (table_of k.start) k.table k.journal k.replies (is_start k.start h.good) h.replayed

pub one_wait_of : (k : State) → IsHistory k → (r : ℕ) → occurs r (consumed_by k.journal) ≤ 1
one_wait_of k h = consumed_once (table_of k.start) k.table k.journal k.replies (is_start k.start h.good) h.replayed

pub fate_of_number : (k : State) → IsHistory k → (n : ℕ) → 1 ≤ n → slice_get k.fates (n - 1) ≡ fate_of (table_of k.start) k.journal k.table n
fate_of_number k h n l = ap (λ fs. slice_get fs (n - 1)) h.fates ∙ fate_kept (table_of k.start) k.table k.journal n l

pub has_fate : (k : State) → IsHistory k → (n : ℕ) → IfSome (fate_of (table_of k.start) k.journal k.table n) (λ f. HasFate (ended_by (table_of k.start) k.journal) k.table n f)
has_fate k h n = go (nat_le 1 n) refl (nat_le n k.table.accepted) refl
  where
    now : Fate
    now = unwrap_or (ended_as (ended_by (table_of k.start) k.journal) n) Pending

    go : (a : Bool) → nat_le 1 n ≡ a → (b : Bool) → nat_le n k.table.accepted ≡ b → IfSome (if a && b then Some now else None) (λ f. HasFate (ended_by (table_of k.start) k.journal) k.table n f)
    go true p true q = (fates_agree (table_of k.start) k.table k.journal k.replies (is_start k.start h.good) h.replayed n (leb-true 1 n p) (leb-true n k.table.accepted q)).0
    go true p false q = tt
    go false p b q = tt

pub only_fate : (k : State) → IsHistory k → (n : ℕ) → IfSome (fate_of (table_of k.start) k.journal k.table n) (λ f. (g : Fate) → HasFate (ended_by (table_of k.start) k.journal) k.table n g → g ≡ f)
only_fate k h n = go (nat_le 1 n) refl (nat_le n k.table.accepted) refl
  where
    now : Fate
    now = unwrap_or (ended_as (ended_by (table_of k.start) k.journal) n) Pending

    go : (a : Bool) → nat_le 1 n ≡ a → (b : Bool) → nat_le n k.table.accepted ≡ b → IfSome (if a && b then Some now else None) (λ f. (g : Fate) → HasFate (ended_by (table_of k.start) k.journal) k.table n g → g ≡ f)
    go true p true q = (fates_agree (table_of k.start) k.table k.journal k.replies (is_start k.start h.good) h.replayed n (leb-true 1 n p) (leb-true n k.table.accepted q)).1
    go true p false q = tt
    go false p b q = tt

pub fate_is : (k : State) → IsHistory k → (n : ℕ) (o : Option Fate) → (n ≡ 0 → o ≡ None) → (1 ≤ n → o ≡ slice_get k.fates (n - 1)) → o ≡ fate_of (table_of k.start) k.journal k.table n
fate_is k h n o none at = go (cases_eq n 0)
  where
    go : (n ≡ 0) ⊎ (n ≡ 0 → ⊥) → o ≡ fate_of (table_of k.start) k.journal k.table n
    go (inl z) = none z ∙ rw z refl
    go (inr m) = at (omega arith) ∙ fate_of_number k h n (omega arith)

pub tally_is : (k : State) → IsHistory k → tally k.fates k.table.accepted ≡ totals (table_of k.start) k.journal k.table
tally_is k h = rw (all Pending, all Merged, all Delivered, all Suppressed, all Flushed) refl
  where
    all : (f : Fate) → count_of f k.fates ≡ how_many (table_of k.start) k.journal k.table f k.table.accepted
    all f = ap (count_of f) h.fates ∙ count_is (table_of k.start) k.table k.journal f k.table.accepted (omega arith)

-- What is due is a step

-- this product's choice is one that the model admits
pub permits : (k : State) (a : ℕ) (e : Event) (c : Choice) → IsHistory k → check k.table a e ≡ Ok (Due c) → Permits k.table a e c
permits k a e c h d =
    let z = dues k.table a e c d in
    let s = is_start k.start h.good in
    let T = table_of k.start in
    let admitted : Admits k.table a e (preferred k.table a e) =
    preferred_is_admitted k.table a e (some_id_is_free T k.table k.journal k.replies s h.replayed) (ids_are_distinct T k.table k.journal k.replies s h.replayed) (waiting_is_sorted T k.table k.journal k.replies s h.replayed) z.no_cause z.not_quiet in
    record { no_cause = z.no_cause; not_quiet = z.not_quiet; admitted = subst (λ x. Admits k.table a e x) (sym z.preferred) admitted }

due_step : (k : State) (x : Entry) → Permits k.table x.actor x.event x.choice → Step k.table x (after k.table x).reply (after k.table x).work.table
due_step k x p = record { not_refused = p.no_cause; not_quiet = p.not_quiet; choice = p.admitted; reply = refl; table = refl }

pub accepts_few : (k : State) (x : Entry) (r : Reply) (U : Table) → IsHistory k → Step k.table x r U → AcceptsFew k.table U
accepts_few k x r U h s =
    let b = entries_are_bounded (table_of k.start) k.table U k.journal k.replies x r (is_start k.start h.good) h.replayed s in
    record { grows = b.accepted_grows; few = b.accepts_few }

-- The fates

ended_push : (T U : Table) (es : List Entry) (rs : List Reply) (x : Entry) → Replay T es rs U → ended_by T (es ++ x ∷ []) ≡ ended_by T es ++ (work_of U x).ended
ended_push T U [] [] x h = subst (λ (M : Table). (work_of T x).ended ++ [] ≡ (work_of M x).ended) (sym h) (append-nil (work_of T x).ended)
ended_push T U [] (r ∷ rs) x h = absurd h
ended_push T U (e ∷ es) [] x h = absurd h
ended_push T U (e ∷ es) (r ∷ rs) x h =
    ap (λ ys. (work_of T e).ended ++ ys) (ended_push (work_of T e).table U es rs x (subst (λ M. Replay M es rs U) h.1.table h.2))
    ∙ sym (append_assoc (work_of T e).ended (ended_by (work_of T e).table es) (work_of U x).ended)

live_end : (xs ys : List Ending) → AllLive (xs ++ ys) → AllLive ys
live_end [] ys h = h
live_end (x ∷ xs) ys h = live_end xs ys h.1

none_above : (k : State) → IsHistory k → (m : ℕ) → 1 + k.table.accepted ≤ m → ended_as (ended_by (table_of k.start) k.journal) m ≡ None
none_above k h m l =
    let T = table_of k.start in
    let o = (one_fate T k.table k.journal k.replies (is_start k.start h.good) h.replayed).others m (inr (omega arith)) in
    let E = ended_by T k.journal in
    not_ended E m (omega (arith, o, occurs-append m (waiting_numbers k.table.waiting ++ held_numbers k.table.threads) (numbers_of E)))

pub counted : (k : State) → IsHistory k → length k.fates ≡ k.table.accepted
counted k h = ap length h.fates ∙ length_fates (ended_by (table_of k.start) k.journal) 1 k.table.accepted

fates_go_on : (k : State) (x : Entry) (r : Reply) → IsHistory k → Step k.table x r (work_of k.table x).table
    → fates_after k.fates (work_of k.table x) ≡ fates_to (ended_by (table_of k.start) (k.journal ++ x ∷ [])) (work_of k.table x).table.accepted
fates_go_on k x r h s =
    let T = table_of k.start in
    let W = work_of k.table x in
    let E = ended_by T k.journal in
    let a = k.table.accepted in
    let b = accepts_few k x r W.table h s in
    let pushed = ended_push T k.table k.journal k.replies x h.replayed in
    let longer = replay_push T k.table W.table k.journal k.replies x r h.replayed s in
    let live = subst AllLive pushed (ended_live T W.table (k.journal ++ x ∷ []) (k.replies ++ r ∷ []) longer) in
    let more : k.fates ++ replicate (W.table.accepted - length k.fates) Pending ≡ fates_to E W.table.accepted =
    ap₂ (λ fs n. fs ++ replicate (W.table.accepted - n) Pending) h.fates (counted k h)
    ∙ (grown E 1 a (W.table.accepted - a) (none_above k h) ∙ ap (fates_to E) (omega (arith, b.grows))) in
    ap (endings_noted W.ended) more
    ∙ (endings_noted_is E W.ended W.table.accepted (ended_live T k.table k.journal k.replies h.replayed) (live_end E W.ended live) ∙ ap (λ es. fates_to es W.table.accepted) (sym pushed))

-- Histories

pub history_begins : (s : Start) → IsTrue (is_good s) → IsHistory (record { start = s; table = table_of s; journal = []; replies = []; fates = [] })
history_begins s g = record { good = g; replayed = refl; fates = refl }

pub history_goes_on : (k : State) (x : Entry) → IsHistory k → Step k.table x (after k.table x).reply (after k.table x).work.table
    → IsHistory (record { start = k.start; table = (work_of k.table x).table; journal = k.journal ++ x ∷ []; replies = k.replies ++ (after k.table x).reply ∷ []; fates = fates_after k.fates (work_of k.table x) })
history_goes_on k x h s = record {
  good = h.good;
  replayed = replay_push (table_of k.start) k.table (work_of k.table x).table k.journal k.replies x (after k.table x).reply h.replayed s;
  fates = fates_go_on k x (after k.table x).reply h s;
}

made : (k : State) (x : Entry) → Permits k.table x.actor x.event x.choice
    → IsMade k x (after k.table x).reply (record { start = k.start; table = (work_of k.table x).table; journal = k.journal ++ x ∷ []; replies = k.replies ++ (after k.table x).reply ∷ []; fates = fates_after k.fates (work_of k.table x) })
made k x p = record { step = due_step k x p; start = refl; journal = refl; replies = refl }

-- with this product's choice
pub entered : (k n : State) (a : ℕ) (e : Event) (c : Choice) (r : Reply) → check k.table a e ≡ Ok (Due c) → IsMade k (record { actor = a; event = e; choice = c }) r n → IsEntered k a e r n
entered k n a e c r d m =
    let z = dues k.table a e c d in
    let entry : Choice → Entry = λ y. record { actor = a; event = e; choice = y } in
    record {
      no_cause = z.no_cause;
      step = subst (λ y. Step k.table (entry y) r n.table) z.preferred m.step;
      start = m.start;
      journal = subst (λ y. n.journal ≡ k.journal ++ entry y ∷ []) z.preferred m.journal;
      replies = m.replies;
    }

-- What an entry leaves, field by field

pub record IsWritten (k : State) (x : Entry) (r : Reply) (n : State) : Type 0 where
  pub start : n.start ≡ k.start
  pub table : n.table ≡ (work_of k.table x).table
  pub reply : r ≡ (after k.table x).reply
  pub journal : n.journal ≡ k.journal ++ x ∷ []
  pub replies : n.replies ≡ k.replies ++ r ∷ []
  pub fates : n.fates ≡ fates_after k.fates (work_of k.table x)

abbrev left_by : State → Entry → State
left_by k x = record { start = k.start; table = (work_of k.table x).table; journal = k.journal ++ x ∷ []; replies = k.replies ++ (after k.table x).reply ∷ []; fates = fates_after k.fates (work_of k.table x) }

left_is : (k : State) (x : Entry) (r : Reply) (n : State) → IsWritten k x r n → left_by k x ≡ n
left_is k x r n w = rw (← w.fates, ← w.start, ← w.table, ← w.reply, ← w.journal, ← w.replies) refl

pub written_history : (k : State) (x : Entry) (r : Reply) (n : State) → IsHistory k → Permits k.table x.actor x.event x.choice → IsWritten k x r n → IsHistory n
written_history k x r n h d w = subst IsHistory (left_is k x r n w) (history_goes_on k x h (due_step k x d))

pub written_made : (k : State) (x : Entry) (r : Reply) (n : State) → Permits k.table x.actor x.event x.choice → IsWritten k x r n → IsMade k x r n
written_made k x r n d w = subst (λ q. IsMade k x q n) (sym w.reply) (subst (IsMade k x (after k.table x).reply) (left_is k x r n w) (made k x d))

pub few_after : (k : State) (x : Entry) → IsHistory k → Permits k.table x.actor x.event x.choice → AcceptsFew k.table (work_of k.table x).table
few_after k x h d = accepts_few k x (after k.table x).reply (work_of k.table x).table h (due_step k x d)

pub few_same : (T : Table) → AcceptsFew T T
few_same T = record { grows = omega arith; few = omega arith }
