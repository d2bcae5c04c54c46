-- What the lock keeps lasts over a step.
use Rattle.std.proofs.Common.{◌≡◌, ℕ, ◌+◌, ◌≤◌, List, [], ◌∷◌, ◌++◌, ◌<◌, length, refl, sym, ap, ◌∙◌, subst, arith, length-append}
use Rattle.tr_model.specs.Entries.{Entry}
use Rattle.tr_model.specs.declared.events.Event.{Event}
use Rattle.tr_model.specs.declared.replies.Refusal.TheVariants.{NoMemory, JournalFull}
use Rattle.tr_model.specs.declared.replies.Reply.{Reply}
use Rattle.tr_model.specs.Tables.{Table}
use Rattle.tr_starts.specs.Starts.{table_of}
use Rattle.tr_kernel.specs.Positions.{table_at}
use Rattle.tr_kernel.specs.States.{State, IsEntered, IsHistory, IsQuiet, IsRefusal, entry_of}
use Rattle.tr_kernel.proofs.Positions.{table_at_end, table_at_kept}
use Rattle.tr_kernel.specs.declared.answers.Answer.{Answer}
use Rattle.tr_kernel.specs.declared.answers.Answer.TheVariants.{Entered, Read, Refused}
use Rattle.tr_hub.specs.declared.answers.Asked.{Asked}
use Rattle.tr_kernel.specs.Answers.{IfEntered, IfRead, IfRefused, IsReceipt}
use Rattle.tr_hub.specs.Answers.{accepted_in, asked_after, entries_in}
use Rattle.tr_hub.proofs.Limits.{limit_kept}
use Rattle.tr_hub.specs.Kept.{AllLegal, Answers, HeldState, IsKept, IsLegal, Rises}

-- More entries

legal_later : (T : Table) (es fs : List Entry) (a : Asked) → IsLegal T es a → IsLegal T (es ++ fs) a
legal_later T es fs a l =
    let w = l.within in
    record {
      within = omega (arith, length-append es fs);
      answered = subst (λ (U : Table). Answers U a.position a.actor a.event a.answer) (sym (table_at_kept T es fs a.position w)) l.answered;
    }

all_later : (T : Table) (es fs : List Entry) (asked : List Asked) → AllLegal T es asked → AllLegal T (es ++ fs) asked
all_later T es fs [] l = tt
all_later T es fs (a ∷ rest) l = (legal_later T es fs a l.0, all_later T es fs rest l.1)

rises_later : (low : ℕ) (asked : List Asked) (high more : ℕ) → Rises low asked high → high ≤ more → Rises low asked more
rises_later low [] high more r h = omega arith
rises_later low (a ∷ rest) high more r h = (r.0, rises_later a.position rest high more r.1 h)

-- One answer more

all_and_one : (T : Table) (es : List Entry) (asked : List Asked) (a : Asked) → AllLegal T es asked → IsLegal T es a → AllLegal T es (asked ++ a ∷ [])
all_and_one T es [] a l h = (h, tt)
all_and_one T es (x ∷ rest) a l h = (l.0, all_and_one T es rest a l.1 h)

rises_and_one : (low : ℕ) (asked : List Asked) (high : ℕ) (a : Asked) → Rises low asked high → a.position ≡ high → Rises low (asked ++ a ∷ []) high
rises_and_one low [] high a r h = (omega arith, omega arith)
rises_and_one low (x ∷ rest) high a r h = (r.0, rises_and_one x.position rest high a r.1 h)

-- Steps

kept_entered : (h : HeldState) (actor : ℕ) (event : Event) (reply : Reply) (k : State) → IsKept h → IsHistory k → IsEntered h.kernel actor event reply k → length h.kernel.journal < h.kernel.table.entries → IsKept (record { kernel = k; asked = h.asked })
kept_entered h actor event reply k kept history e room =
    let entry = entry_of h.kernel actor event in
    let longer = length-append h.kernel.journal (entry ∷ []) in
    let limit = limit_kept h.kernel.table entry reply k.table e.step in
    record {
      history = history;
      within = rw e.journal (omega arith);
      legal = rw (e.journal, e.start) (all_later (table_of h.kernel.start) h.kernel.journal (entry ∷ []) h.asked kept.legal);
      rising = rises_later 0 h.asked (length h.kernel.journal) (length k.journal) kept.rising (rw e.journal (omega arith));
    }

kept_asked : (h : HeldState) (a : Asked) → IsKept h → a.position ≡ length h.kernel.journal → Answers h.kernel.table a.position a.actor a.event a.answer → IsKept (record { kernel = h.kernel; asked = h.asked ++ a ∷ [] })
kept_asked h a kept at l =
    let k = h.kernel in
    let last : table_at (table_of k.start) k.journal a.position ≡ k.table = rw at (table_at_end (table_of k.start) k.table k.journal k.replies kept.history.replayed) in
    record {
      history = kept.history;
      within = kept.within;
      legal = all_and_one (table_of k.start) k.journal h.asked a kept.legal (record { within = omega arith; answered = subst (λ (U : Table). Answers U a.position a.actor a.event a.answer) (sym last) l });
      rising = rises_and_one 0 h.asked (length k.journal) a kept.rising at;
    }

pub kept_after : (h : HeldState) (actor : ℕ) (event : Event) (answer : Answer) (k : State) → IsKept h → IsHistory k
    → IfEntered answer (λ r. IsEntered h.kernel actor event r.reply k)
    → IfEntered answer (λ r. length h.kernel.journal < h.kernel.table.entries)
    → IfRead answer (λ reply. IsQuiet h.kernel actor event reply k)
    → IfRefused answer (λ why. IsRefusal h.kernel actor event why)
    → IfRefused answer (λ why. k ≡ h.kernel)
    → IsKept (record { kernel = k; asked = asked_after h.asked actor event (length h.kernel.journal) answer })
kept_after h actor event (Entered r) k kept history e room q f u = kept_entered h actor event r.reply k kept history e room
kept_after h actor event (Read reply) k kept history e room q f u = rw q.same (kept_asked h (record { actor = actor; event = event; position = length h.kernel.journal; answer = Read reply }) kept refl (q.no_cause, q.quiet))
kept_after h actor event (Refused NoMemory) k kept history e room q f u = rw u kept
kept_after h actor event (Refused JournalFull) k kept history e room q f u = rw u (kept_asked h (record { actor = actor; event = event; position = length h.kernel.journal; answer = Refused JournalFull }) kept refl (f.0.no_cause, f.0.not_quiet, (let a = kept.within in let b = f.1 in omega arith)))
kept_after h actor event (Refused why) k kept history e room q f u = rw u (kept_asked h (record { actor = actor; event = event; position = length h.kernel.journal; answer = Refused why }) kept refl f)

pub start_kept : (old : State) (actor : ℕ) (event : Event) (answer : Answer) (new : State)
    → IfEntered answer (λ r. IsEntered old actor event r.reply new)
    → IfRead answer (λ reply. IsQuiet old actor event reply new)
    → IfRefused answer (λ why. new ≡ old)
    → new.start ≡ old.start
start_kept old actor event (Entered r) new e q u = e.start
start_kept old actor event (Read reply) new e q u = rw q.same refl
start_kept old actor event (Refused why) new e q u = rw u refl

-- Books

longer : (old : State) (actor : ℕ) (event : Event) (reply : Reply) (new : State) → IsEntered old actor event reply new → length new.journal ≡ length old.journal + 1
longer old actor event reply new e = ap length e.journal ∙ length-append old.journal (entry_of old actor event ∷ [])

pub entries_booked : (old : State) (actor : ℕ) (event : Event) (answer : Answer) (new : State)
    → IfEntered answer (λ r. IsEntered old actor event r.reply new)
    → IfRead answer (λ reply. IsQuiet old actor event reply new)
    → IfRefused answer (λ why. new ≡ old)
    → length new.journal ≡ length old.journal + entries_in answer
entries_booked old actor event (Entered r) new e q u = longer old actor event r.reply new e
entries_booked old actor event (Read reply) new e q u = rw q.same (omega arith)
entries_booked old actor event (Refused why) new e q u = rw u (omega arith)

pub accepted_booked : (old : State) (actor : ℕ) (event : Event) (answer : Answer) (new : State)
    → IfEntered answer (λ r. IsReceipt r event old new)
    → IfRead answer (λ reply. IsQuiet old actor event reply new)
    → IfRefused answer (λ why. new ≡ old)
    → new.table.accepted ≡ old.table.accepted + accepted_in answer
accepted_booked old actor event (Entered r) new e q u = e.accepted
accepted_booked old actor event (Read reply) new e q u = rw q.same (omega arith)
accepted_booked old actor event (Refused why) new e q u = rw u (omega arith)
