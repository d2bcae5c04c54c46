-- The notes of one entry more.
use Rattle.std.proofs.Common.{suc, ◌≡◌, ℕ, ◌+◌, ◌<◌, ◌≤◌, ◌^◌, List, [], ◌∷◌, ◌++◌, length, refl, sym, ap, ap₂, ◌∙◌, subst, arith, append_assoc, append-nil, length-append, Bool, true, false, ◌==◌, if◌then◌else◌}
use Rattle.tr_model.specs.Choices.{Choice}
use Rattle.tr_model.specs.Entries.{Entry}
use Rattle.tr_model.specs.declared.events.Event.{Event}
use Rattle.tr_model.specs.declared.events.Event.TheVariants as event
use Rattle.tr_model.specs.declared.replies.Reply.{Reply}
use Rattle.tr_model.specs.declared.replies.Reply.TheVariants as reply
use Rattle.tr_model.specs.declared.rows.Target.{Target}
use Rattle.tr_model.specs.declared.rows.Target.TheVariants as target
use Rattle.tr_model.specs.Journals.{IsSorted, Replay, occurs, queue_of, renamed_by, taken_by, taken_of}
use Rattle.tr_model.specs.Moves.{instance_in}
use Rattle.tr_model.specs.Compare.{Permits}
use Rattle.tr_model.specs.Steps
use Rattle.tr_model.specs.Steps.{Admits, after, work_of}
use Rattle.tr_model.specs.Tables.{Table, thread_of}
use Rattle.tr_model.specs.Takes
use Rattle.tr_model.proofs.Among.{occurs-append}
use Rattle.tr_model.proofs.Ordered.{waiting_is_sorted}
use Rattle.tr_signals.proofs.Chosen.{chosen_is}
use Rattle.tr_signals.proofs.Taking.{IsDue, due_with}
use Rattle.tr_starts.specs.Starts.{table_of}
use Rattle.tr_kernel.specs.declared.notes.EntryFact.TheVariants.{Nothing, Take}
use Rattle.tr_kernel.specs.declared.notes.Note.{Note}
use Rattle.tr_kernel.specs.declared.notes.IdTransfer.{IdTransfer}
use Rattle.tr_kernel.specs.Notes.{IsNoted, dying_by, is_some_group, fact_of, note_of, notes_from, notes_of, transfers_of, take_fact, times}
use Rattle.tr_kernel.specs.Private.{AreTransferred, fact_after, fact_before, noted, transfers_in}
use Rattle.tr_kernel.specs.States.{IsHistory, State}
use Rattle.tr_kernel.proofs.Begun.{is_start}
use Rattle.tr_kernel.proofs.Logs.{renames_few}

-- The fact of a take

passes_same : (ids : List ℕ) (ps : List IdTransfer) → ((n : ℕ) → times n ps ≡ occurs n ids) → (q : Target) → transfers_in ps q ≡ transfers_of ids q
passes_same ids ps h (target.Thread id) = h id
passes_same ids ps h (target.Group g) = refl

take_marked : (T : Table) (ids : List ℕ) (ps : List IdTransfer) → ((n : ℕ) → times n ps ≡ occurs n ids) → IsSorted T.waiting → (id n : ℕ) → IsDue T id n
    → fact_after Nothing (queue_of (taken_by T (thread_of T id) n)) ps (Steps.took_reply T (thread_of T id) (instance_in T.waiting n)) ≡ take_fact ids (taken_by T (thread_of T id) n)
take_marked T ids ps h s id n d =
    let b = chosen_is T d.thread n d.instance s d.chosen in
    let k = ap (λ o. taken_by T o n) d.there ∙ b.taken in
    let r : Steps.took_reply T (thread_of T id) (instance_in T.waiting n) ≡ reply.Took (Takes.did_at_take T d.thread d.instance) d.thread.id d.instance = ap₂ (Steps.took_reply T) d.there b.waits in
    ap₂ (λ x o. fact_after Nothing (queue_of o) ps x) r k
    ∙ (ap (λ p. Take (record { number = d.instance.n; signal = d.instance.sig; queue = b.from; transfers = p })) (passes_same ids ps h b.from) ∙ sym (ap (take_fact ids) k))

marked : (T : Table) (ids : List ℕ) (ps : List IdTransfer) → ((n : ℕ) → times n ps ≡ occurs n ids) → IsSorted T.waiting → (e : Entry) → Permits T e.actor e.event e.choice
    → fact_after (fact_before T e.actor e.event e.choice) (queue_of (taken_of T e.event e.choice)) ps (after T e).reply ≡ fact_of ids T e.actor e.event e.choice
marked T ids ps h s e d = go e.event e.choice d.admitted
  where
    go : (x : Event) (c : Choice) → Admits T e.actor x c
        → fact_after (fact_before T e.actor x c) (queue_of (taken_of T x c)) ps (Steps.reply_of T e.actor x c (work_of T (record { actor = e.actor; event = x; choice = c }))) ≡ fact_of ids T e.actor x c
    go (event.Take id) c q = rw (q.1) (take_marked T ids ps h s id q.0 (due_with T id q.0 q.2))
    go (event.TakeAny g) c q = rw (q.2) (take_marked T ids ps h s q.0 q.1 (due_with T q.0 q.1 q.4))
    go x c q = refl

noted_is : (T : Table) (ids : List ℕ) (ps : List IdTransfer) → ((n : ℕ) → times n ps ≡ occurs n ids) → IsSorted T.waiting → (deaths : ℕ) (e : Entry) → Permits T e.actor e.event e.choice → noted ps deaths T e ≡ note_of ids deaths T e
noted_is T ids ps h s deaths e d = ap (λ m. record { fact = m; killed = is_some_group (work_of T e).killed; deaths = deaths + length (work_of T e).dying }) (marked T ids ps h s e d)

-- Notes of a longer journal

notes_push : (T U : Table) (ids : List ℕ) (deaths : ℕ) (es : List Entry) (rs : List Reply) (x : Entry) → Replay T es rs U
    → notes_from ids deaths T (es ++ x ∷ []) ≡ notes_from ids deaths T es ++ note_of (ids ++ renamed_by T es) (deaths + length (dying_by T es)) U x ∷ []
notes_push T U ids deaths [] [] x h = rw (h, append-nil) (ap (λ d. note_of ids d T x ∷ []) (omega arith))
notes_push T U ids deaths [] (r ∷ rs) x h = absurd h
notes_push T U ids deaths (e ∷ es) [] x h = absurd h
notes_push T U ids deaths (e ∷ es) (r ∷ rs) x h =
    let w = work_of T e in
    let rest = notes_push w.table U (ids ++ w.renamed) (deaths + length w.dying) es rs x (subst (λ M. Replay M es rs U) h.1.table h.2) in
    let n : (deaths + length w.dying) + length (dying_by w.table es) ≡ deaths + length (w.dying ++ dying_by w.table es) = omega (arith, length-append w.dying (dying_by w.table es)) in
    ap (λ ns. note_of ids deaths T e ∷ ns) (rest ∙ ap₂ (λ i d. notes_from (ids ++ w.renamed) (deaths + length w.dying) w.table es ++ note_of i d U x ∷ []) (append_assoc ids w.renamed (renamed_by w.table es)) n)

all_notes_push : (T U : Table) (es : List Entry) (rs : List Reply) (x : Entry) → Replay T es rs U → notes_of T (es ++ x ∷ []) ≡ notes_of T es ++ note_of (renamed_by T es) (length (dying_by T es)) U x ∷ []
all_notes_push T U es rs x h = notes_push T U [] 0 es rs x h ∙ ap (λ d. notes_of T es ++ note_of (renamed_by T es) d U x ∷ []) (omega arith)

dying_push : (T U : Table) (es : List Entry) (rs : List Reply) (x : Entry) → Replay T es rs U → dying_by T (es ++ x ∷ []) ≡ dying_by T es ++ (work_of U x).dying
dying_push T U [] [] x h = rw (h, append-nil) refl
dying_push T U [] (r ∷ rs) x h = absurd h
dying_push T U (e ∷ es) [] x h = absurd h
dying_push T U (e ∷ es) (r ∷ rs) x h =
    ap (λ ys. (work_of T e).dying ++ ys) (dying_push (work_of T e).table U es rs x (subst (λ M. Replay M es rs U) h.1.table h.2))
    ∙ sym (append_assoc (work_of T e).dying (dying_by (work_of T e).table es) (work_of U x).dying)

renamed_push : (T U : Table) (es : List Entry) (rs : List Reply) (x : Entry) → Replay T es rs U → renamed_by T (es ++ x ∷ []) ≡ renamed_by T es ++ (work_of U x).renamed
renamed_push T U [] [] x h = rw (h, append-nil) refl
renamed_push T U [] (r ∷ rs) x h = absurd h
renamed_push T U (e ∷ es) [] x h = absurd h
renamed_push T U (e ∷ es) (r ∷ rs) x h =
    ap (λ ys. (work_of T e).renamed ++ ys) (renamed_push (work_of T e).table U es rs x (subst (λ M. Replay M es rs U) h.1.table h.2))
    ∙ sym (append_assoc (work_of T e).renamed (renamed_by (work_of T e).table es) (work_of U x).renamed)

-- An id passes on at most once with each entry

few_occurs : (id : ℕ) (xs : List ℕ) → occurs id xs ≤ length xs
few_occurs id [] = omega arith
few_occurs id (x ∷ xs) = go (x == id) (few_occurs id xs)
  where
    go : (b : Bool) → occurs id xs ≤ length xs → (if b then 1 else 0) + occurs id xs ≤ suc (length xs)
    go true h = omega (arith, h)
    go false h = omega (arith, h)

few_pass : (T : Table) (id : ℕ) (es : List Entry) → occurs id (renamed_by T es) ≤ length es
few_pass T id [] = omega arith
few_pass T id (e ∷ es) =
    let w = work_of T e in
    omega (arith, occurs-append id w.renamed (renamed_by w.table es), few_pass w.table id es, few_occurs id w.renamed, renames_few T e)

pub few_times : (T : Table) (es : List Entry) (ns : List Note) (gs : List ℕ) (ps : List IdTransfer) → IsNoted T es ns gs ps → length es < 2 ^ 32 → (id : ℕ) → times id ps < 2 ^ 32
few_times T es ns gs ps n l id = omega (arith, few_pass T id es, n.transfers id, l)

-- One entry more

pub noted_begins : (T : Table) → IsNoted T [] [] [] []
noted_begins T = record { notes = refl; dying = refl; transfers = λ id. refl }

pub noted_goes_on : (k : State) (x : Entry) (ns : List Note) (gs : List ℕ) (ps qs : List IdTransfer) → IsHistory k → IsNoted (table_of k.start) k.journal ns gs ps → Permits k.table x.actor x.event x.choice
    → AreTransferred (work_of k.table x).renamed ps qs
    → IsNoted (table_of k.start) (k.journal ++ x ∷ []) (ns ++ noted ps (length gs) k.table x ∷ []) (gs ++ (work_of k.table x).dying) qs
noted_goes_on k x ns gs ps qs h n d more =
    let T = table_of k.start in
    let start = is_start k.start h.good in
    let sorted = waiting_is_sorted T k.table k.journal k.replies start h.replayed in
    let one : noted ps (length gs) k.table x ≡ note_of (renamed_by T k.journal) (length (dying_by T k.journal)) k.table x
    = noted_is k.table (renamed_by T k.journal) ps n.transfers sorted (length gs) x d ∙ ap (λ y. note_of (renamed_by T k.journal) (length y) k.table x) n.dying in
    record {
      notes = ap₂ (λ xs y. xs ++ y ∷ []) n.notes one ∙ sym (all_notes_push T k.table k.journal k.replies x h.replayed);
      dying = ap (λ y. y ++ (work_of k.table x).dying) n.dying ∙ sym (dying_push T k.table k.journal k.replies x h.replayed);
      transfers = λ id.
          more.counts id
          ∙ (ap (λ a. a + occurs id (work_of k.table x).renamed) (n.transfers id)
          ∙ (sym (occurs-append id (renamed_by T k.journal) (work_of k.table x).renamed) ∙ ap (occurs id) (sym (renamed_push T k.table k.journal k.replies x h.replayed))));
    }
