-- The reply of an entry, by what is kept of it.
use Rattle.std.proofs.Common.{◌≡◌, ℕ, zero, suc, ◌+◌, ◌*◌, ◌/◌, ◌<◌, ◌≤◌, List, [], ◌∷◌, ◌++◌, length, length-append, get_or, filter, subst, Some, None, Option, Bool, true, false, true≢false, if◌then◌else◌, refl, sym, ap, ◌∙◌, arith}
use Rattle.std.specs.Prelude.{slice_get}
use Rattle.std.proofs.lemmas.Bool.{eqb-true}
use Rattle.std.proofs.lemmas.Option.{none-some, same_Some}
use Rattle.tr_wait.specs.declared.waits.WaitFlags.{WaitFlags}
use Rattle.tr_wait.specs.declared.waits.Which.{Which}
use Rattle.tr_pending.specs.declared.instance.Instance.{Instance}
use Rattle.tr_tracee.specs.declared.thread.Report.{Report}
use Rattle.tr_tracee.specs.declared.thread.Thread.{Thread}
use Rattle.tr_model.specs.Choices.{Choice}
use Rattle.tr_model.specs.Entries.{Entry}
use Rattle.tr_model.specs.declared.events.Event.{Event}
use Rattle.tr_model.specs.declared.events.Event.TheVariants as event
use Rattle.tr_model.specs.declared.replies.Reply.{Reply}
use Rattle.tr_model.specs.declared.replies.Reply.TheVariants as reply
use Rattle.tr_model.specs.declared.rows.Group.{Group}
use Rattle.tr_model.specs.Moves.{instance_in}
use Rattle.tr_model.specs.Steps.{after, number, reply_of, took_reply, waited, waited_thread, work_of}
use Rattle.tr_model.specs.Tables.{Table, thread_of}
use Rattle.tr_model.specs.StarterWaits.{led_groups, ready_death, ready_note, shows_note}
use Rattle.tr_model.specs.Waits.{asked_tracees, has_report, ready_thread}
use Rattle.tr_model.proofs.Consumed.{death_found, found_in, found_note}
use Rattle.tr_model.proofs.Kept.{found_id}
use Rattle.tr_model.proofs.OneFate.{number_found}
use Rattle.tr_kernel.specs.declared.replies.BriefReply.{BriefReply}
use Rattle.tr_kernel.specs.declared.replies.BriefReply.TheVariants as brief
use Rattle.tr_kernel.specs.declared.replies.Mark.{Mark}
use Rattle.tr_kernel.specs.declared.replies.WholeReply.{WholeReply}
use Rattle.tr_kernel.specs.declared.notes.EntryFact.{EntryFact}
use Rattle.tr_kernel.specs.declared.notes.EntryFact.TheVariants.{Nothing, Stop}
use Rattle.tr_kernel.specs.Notes.{exec_fact, is_stop_status, shows_stop, stop_fact}
use Rattle.tr_kernel.specs.Private.{IsOfStop, fact_before}
use Rattle.tr_kernel.specs.Kept.{IsHeld, IsMore, IsToldBy, fact_told, fact_told_by, taker, told, told_by}
use Rattle.tr_kernel.specs.KeptReplies.{AreHeld, all_by, mark_of}

-- Where one more is kept whole

same_told : (e : Entry) (m : Mark) (ws vs : List WholeReply) (b : BriefReply) → IsMore ws vs → IsHeld m ws b → told e m vs b ≡ told e m ws b
same_told e m ws vs (brief.Whole n) g h = ap (told_by e) (g.same (m.whole + n) h)
same_told e m ws vs _ g h = refl

same_fact : (e : Entry) (m : Mark) (ws vs : List WholeReply) (b : BriefReply) → IsMore ws vs → IsHeld m ws b → fact_told e m vs b ≡ fact_told e m ws b
same_fact e m ws vs (brief.Whole n) g h = ap (fact_told_by e) (g.same (m.whole + n) h)
same_fact e m ws vs _ g h = refl

same_held : (m : Mark) (ws vs : List WholeReply) (b : BriefReply) → IsMore ws vs → IsHeld m ws b → IsHeld m vs b
same_held m ws vs brief.Done g h = tt
same_held m ws vs brief.Exists g h = tt
same_held m ws vs brief.Nothing g h = tt
same_held m ws vs (brief.Pending n) g h = h
same_held m ws vs (brief.Merged n) g h = h
same_held m ws vs (brief.Flushed n) g h = h
same_held m ws vs (brief.Whole n) g h = omega (arith, h, g.least)

more_held : (ms : List Mark) (last : Mark) (ws vs : List WholeReply) (p : ℕ) (bs : List BriefReply) → IsMore ws vs → AreHeld ms last ws p bs → AreHeld ms last vs p bs
more_held ms last ws vs p [] g h = tt
more_held ms last ws vs p (b ∷ bs) g h = (same_held (mark_of ms last p) ws vs b g h.0, more_held ms last ws vs (suc p) bs g h.1)

append_held : (ms : List Mark) (last : Mark) (ws : List WholeReply) (p : ℕ) (bs : List BriefReply) (b : BriefReply) → AreHeld ms last ws p bs
    → IsHeld (mark_of ms last (p + length bs)) ws b → AreHeld ms last ws p (bs ++ b ∷ [])
append_held ms last ws p [] b h i = (subst (λ q. IsHeld (mark_of ms last q) ws b) (omega arith) i, tt)
append_held ms last ws p (c ∷ bs) b h i = (h.0, append_held ms last ws (suc p) bs b h.1 (subst (λ q. IsHeld (mark_of ms last q) ws b) (omega arith) i))

-- Where a block is full

next_mark : (ms : List Mark) (last next : Mark) (i : ℕ) → i ≤ length ms → get_or (ms ++ last ∷ []) i next ≡ get_or ms i last
next_mark [] last next zero h = refl
next_mark [] last next (suc i) h = absurd (omega (arith, h))
next_mark (m ∷ ms) last next zero h = refl
next_mark (m ∷ ms) last next (suc i) h = next_mark ms last next i (omega (arith, h))

marked_held : (ms : List Mark) (last next : Mark) (ws : List WholeReply) (p : ℕ) (bs : List BriefReply) → p + length bs ≤ 64 * length ms + 64
    → AreHeld ms last ws p bs → AreHeld (ms ++ last ∷ []) next ws p bs
marked_held ms last next ws p [] h i = tt
marked_held ms last next ws p (b ∷ bs) h i =
    (subst (λ m. IsHeld m ws b) (sym (next_mark ms last next (p / 64) (omega (arith, h)))) i.0, marked_held ms last next ws (suc p) bs (omega (arith, h)) i.1)

last_mark : (ms : List Mark) (last : Mark) (n : ℕ) → 64 * length ms ≤ n → mark_of ms last n ≡ last
last_mark ms last n h = behind ms (n / 64) (omega (arith, h))
  where
    behind : (ms : List Mark) (i : ℕ) → length ms ≤ i → get_or ms i last ≡ last
    behind [] i h = refl
    behind (m ∷ ms) zero h = absurd (omega (arith, h))
    behind (m ∷ ms) (suc i) h = behind ms i (omega (arith, h))

-- What is told where there is one entry more

module _ {X : Type 0} (tell : Entry → Mark → List WholeReply → BriefReply → X) where
  append_by : (ms : List Mark) (last : Mark) (ws : List WholeReply) (p : ℕ) (es : List Entry) (bs : List BriefReply) (e : Entry) (b : BriefReply) → length es ≡ length bs
      → all_by tell ms last ws p (es ++ e ∷ []) (bs ++ b ∷ []) ≡ all_by tell ms last ws p es bs ++ tell e (mark_of ms last (p + length bs)) ws b ∷ []
  append_by ms last ws p [] [] e b h = ap (λ q. tell e (mark_of ms last q) ws b ∷ []) (omega arith)
  append_by ms last ws p [] (c ∷ bs) e b h = absurd (omega (arith, h))
  append_by ms last ws p (d ∷ es) [] e b h = absurd (omega (arith, h))
  append_by ms last ws p (d ∷ es) (c ∷ bs) e b h =
      ap (λ rs. tell d (mark_of ms last p) ws c ∷ rs)
      (append_by ms last ws (suc p) es bs e b (omega (arith, h))
      ∙ ap (λ q. all_by tell ms last ws (suc p) es bs ++ tell e (mark_of ms last q) ws b ∷ []) (omega arith))

  marked_by : (ms : List Mark) (last next : Mark) (ws : List WholeReply) (p : ℕ) (es : List Entry) (bs : List BriefReply) → p + length bs ≤ 64 * length ms + 64
      → all_by tell (ms ++ last ∷ []) next ws p es bs ≡ all_by tell ms last ws p es bs
  marked_by ms last next ws p [] bs h = refl
  marked_by ms last next ws p (e ∷ es) [] h = refl
  marked_by ms last next ws p (e ∷ es) (b ∷ bs) h =
      ap (λ m. tell e m ws b ∷ all_by tell (ms ++ last ∷ []) next ws (suc p) es bs) (next_mark ms last next (p / 64) (omega (arith, h)))
      ∙ ap (λ rs. tell e (mark_of ms last p) ws b ∷ rs) (marked_by ms last next ws (suc p) es bs (omega (arith, h)))

  module _ (same : (e : Entry) (m : Mark) (ws vs : List WholeReply) (b : BriefReply) → IsMore ws vs → IsHeld m ws b → tell e m vs b ≡ tell e m ws b) where
    more_by : (ms : List Mark) (last : Mark) (ws vs : List WholeReply) (p : ℕ) (es : List Entry) (bs : List BriefReply) → IsMore ws vs → AreHeld ms last ws p bs
        → all_by tell ms last vs p es bs ≡ all_by tell ms last ws p es bs
    more_by ms last ws vs p [] bs g h = refl
    more_by ms last ws vs p (e ∷ es) [] g h = refl
    more_by ms last ws vs p (e ∷ es) (b ∷ bs) g h =
        ap (λ r. r ∷ all_by tell ms last vs (suc p) es bs) (same e (mark_of ms last p) ws vs b g h.0)
        ∙ ap (λ rs. tell e (mark_of ms last p) ws b ∷ rs) (more_by ms last ws vs (suc p) es bs g h.1)

    pushed_by : (ms : List Mark) (last : Mark) (ws vs : List WholeReply) (es : List Entry) (bs : List BriefReply) (e : Entry) (b : BriefReply) (r : X)
        → length es ≡ length bs → 64 * length ms ≤ length bs → IsMore ws vs → AreHeld ms last ws 0 bs → tell e last vs b ≡ r
        → all_by tell ms last vs 0 (es ++ e ∷ []) (bs ++ b ∷ []) ≡ all_by tell ms last ws 0 es bs ++ r ∷ []
    pushed_by ms last ws vs es bs e b r l f g h t =
        append_by ms last vs 0 es bs e b l
        ∙ (ap (λ rs. rs ++ tell e (mark_of ms last (0 + length bs)) vs b ∷ []) (more_by ms last ws vs 0 es bs g h)
        ∙ ap (λ x. all_by tell ms last ws 0 es bs ++ x ∷ []) (ap (λ m. tell e m vs b) (last_mark ms last (0 + length bs) (omega (arith, f))) ∙ t))

    full_by : (ms : List Mark) (last next : Mark) (ws vs : List WholeReply) (es : List Entry) (bs : List BriefReply) (e : Entry) (b : BriefReply) (r : X)
        → length es ≡ length bs → 64 * length ms ≤ length bs → length bs < 64 * length ms + 64 → IsMore ws vs → AreHeld ms last ws 0 bs → tell e last vs b ≡ r
        → all_by tell (ms ++ last ∷ []) next vs 0 (es ++ e ∷ []) (bs ++ b ∷ []) ≡ all_by tell ms last ws 0 es bs ++ r ∷ []
    full_by ms last next ws vs es bs e b r l f o g h t =
        marked_by ms last next vs 0 (es ++ e ∷ []) (bs ++ b ∷ []) (omega (arith, o, length-append bs (b ∷ []))) ∙ pushed_by ms last ws vs es bs e b r l f g h t

  pub length_by : (ms : List Mark) (last : Mark) (ws : List WholeReply) (p : ℕ) (es : List Entry) (bs : List BriefReply) → length es ≡ length bs → length (all_by tell ms last ws p es bs) ≡ length bs
  length_by ms last ws p [] [] h = refl
  length_by ms last ws p [] (b ∷ bs) h = absurd (omega (arith, h))
  length_by ms last ws p (e ∷ es) [] h = absurd (omega (arith, h))
  length_by ms last ws p (e ∷ es) (b ∷ bs) h = ap suc (length_by ms last ws (suc p) es bs (omega (arith, h)))

-- One entry more

pub pushed_replies : (ms : List Mark) (last : Mark) (ws vs : List WholeReply) (es : List Entry) (bs : List BriefReply) (e : Entry) (b : BriefReply) (r : Reply)
    → length es ≡ length bs → 64 * length ms ≤ length bs → IsMore ws vs → AreHeld ms last ws 0 bs → told e last vs b ≡ r
    → all_by told ms last vs 0 (es ++ e ∷ []) (bs ++ b ∷ []) ≡ all_by told ms last ws 0 es bs ++ r ∷ []
pushed_replies = pushed_by told same_told

pub pushed_facts : (ms : List Mark) (last : Mark) (ws vs : List WholeReply) (es : List Entry) (bs : List BriefReply) (e : Entry) (b : BriefReply) (f : EntryFact)
    → length es ≡ length bs → 64 * length ms ≤ length bs → IsMore ws vs → AreHeld ms last ws 0 bs → fact_told e last vs b ≡ f
    → all_by fact_told ms last vs 0 (es ++ e ∷ []) (bs ++ b ∷ []) ≡ all_by fact_told ms last ws 0 es bs ++ f ∷ []
pushed_facts = pushed_by fact_told same_fact

pub pushed_held : (ms : List Mark) (last : Mark) (ws vs : List WholeReply) (bs : List BriefReply) (b : BriefReply)
    → 64 * length ms ≤ length bs → IsMore ws vs → AreHeld ms last ws 0 bs → IsHeld last vs b → AreHeld ms last vs 0 (bs ++ b ∷ [])
pushed_held ms last ws vs bs b f g h i =
    append_held ms last vs 0 bs b (more_held ms last ws vs 0 bs g h) (subst (λ m. IsHeld m vs b) (sym (last_mark ms last (0 + length bs) (omega (arith, f)))) i)

pub full_replies : (ms : List Mark) (last next : Mark) (ws vs : List WholeReply) (es : List Entry) (bs : List BriefReply) (e : Entry) (b : BriefReply) (r : Reply)
    → length es ≡ length bs → 64 * length ms ≤ length bs → length bs < 64 * length ms + 64 → IsMore ws vs → AreHeld ms last ws 0 bs → told e last vs b ≡ r
    → all_by told (ms ++ last ∷ []) next vs 0 (es ++ e ∷ []) (bs ++ b ∷ []) ≡ all_by told ms last ws 0 es bs ++ r ∷ []
full_replies = full_by told same_told

pub full_facts : (ms : List Mark) (last next : Mark) (ws vs : List WholeReply) (es : List Entry) (bs : List BriefReply) (e : Entry) (b : BriefReply) (f : EntryFact)
    → length es ≡ length bs → 64 * length ms ≤ length bs → length bs < 64 * length ms + 64 → IsMore ws vs → AreHeld ms last ws 0 bs → fact_told e last vs b ≡ f
    → all_by fact_told (ms ++ last ∷ []) next vs 0 (es ++ e ∷ []) (bs ++ b ∷ []) ≡ all_by fact_told ms last ws 0 es bs ++ f ∷ []
full_facts = full_by fact_told same_fact

pub full_held : (ms : List Mark) (last next : Mark) (ws vs : List WholeReply) (bs : List BriefReply) (b : BriefReply)
    → 64 * length ms ≤ length bs → length bs < 64 * length ms + 64 → IsMore ws vs → AreHeld ms last ws 0 bs → IsHeld last vs b
    → AreHeld (ms ++ last ∷ []) next vs 0 (bs ++ b ∷ [])
full_held ms last next ws vs bs b f o g h i =
    marked_held ms last next vs 0 (bs ++ b ∷ []) (omega (arith, o, length-append bs (b ∷ []))) (pushed_held ms last ws vs bs b f g h i)

-- What is told at a place

module _ {X : Type 0} (tell : Entry → Mark → List WholeReply → BriefReply → X) where
  -- by the entry there, and by what is kept there
  abbrev pub told_of : Option Entry → Option BriefReply → Mark → List WholeReply → Option X
  told_of None b m ws = None
  told_of (Some e) None m ws = None
  told_of (Some e) (Some b) m ws = Some (tell e m ws b)

  told_from : (ms : List Mark) (last : Mark) (ws : List WholeReply) (p : ℕ) (es : List Entry) (bs : List BriefReply) (i : ℕ)
      → slice_get (all_by tell ms last ws p es bs) i ≡ told_of (slice_get es i) (slice_get bs i) (mark_of ms last (p + i)) ws
  told_from ms last ws p [] bs i = refl
  told_from ms last ws p (e ∷ es) [] zero = refl
  told_from ms last ws p (e ∷ es) [] (suc i) = none (slice_get es i)
    where
      none : (o : Option Entry) → None ≡ told_of o None (mark_of ms last (p + suc i)) ws
      none None = refl
      none (Some x) = refl
  told_from ms last ws p (e ∷ es) (b ∷ bs) zero = ap (λ q. Some (tell e (mark_of ms last q) ws b)) (omega arith)
  told_from ms last ws p (e ∷ es) (b ∷ bs) (suc i) =
      told_from ms last ws (suc p) es bs i ∙ ap (λ q. told_of (slice_get es i) (slice_get bs i) (mark_of ms last q) ws) (omega arith)

  pub each_at : (ms : List Mark) (last : Mark) (ws : List WholeReply) (es : List Entry) (bs : List BriefReply) (i : ℕ)
      → slice_get (all_by tell ms last ws 0 es bs) i ≡ told_of (slice_get es i) (slice_get bs i) (mark_of ms last i) ws
  each_at ms last ws es bs i = told_from ms last ws 0 es bs i ∙ ap (λ q. told_of (slice_get es i) (slice_get bs i) (mark_of ms last q) ws) (omega arith)

pub told_at : (ms : List Mark) (last : Mark) (ws : List WholeReply) (es : List Entry) (bs : List BriefReply) (i : ℕ)
    → slice_get (all_by told ms last ws 0 es bs) i ≡ told_of told (slice_get es i) (slice_get bs i) (mark_of ms last i) ws
told_at = each_at told

held_from : (ms : List Mark) (last : Mark) (ws : List WholeReply) (p : ℕ) (bs : List BriefReply) (i : ℕ) (b : BriefReply) → AreHeld ms last ws p bs
    → slice_get bs i ≡ Some b → IsHeld (mark_of ms last (p + i)) ws b
held_from ms last ws p [] i b h e = absurd (none-some b e)
held_from ms last ws p (c ∷ bs) zero b h e =
    subst (λ q. IsHeld (mark_of ms last q) ws b) (omega arith) (subst (λ x. IsHeld (mark_of ms last p) ws x) (same_Some c b e) h.0)
held_from ms last ws p (c ∷ bs) (suc i) b h e = subst (λ q. IsHeld (mark_of ms last q) ws b) (omega arith) (held_from ms last ws (suc p) bs i b h.1 e)

pub held_at : (ms : List Mark) (last : Mark) (ws : List WholeReply) (bs : List BriefReply) (i : ℕ) (b : BriefReply) → AreHeld ms last ws 0 bs
    → slice_get bs i ≡ Some b → IsHeld (mark_of ms last i) ws b
held_at ms last ws bs i b h e = subst (λ q. IsHeld (mark_of ms last q) ws b) (omega arith) (held_from ms last ws 0 bs i b h e)

-- The entry tells what isn't kept

took_told : (T : Table) (e : Entry) (id n : ℕ) → taker e ≡ id → number e.choice.instance ≡ n → IsToldBy e (took_reply T (thread_of T id) (instance_in T.waiting n))
took_told T e id n p q = go (thread_of T id) (instance_in T.waiting n) refl refl
  where
    go : (t : Option Thread) (i : Option Instance) → thread_of T id ≡ t → instance_in T.waiting n ≡ i → IsToldBy e (took_reply T t i)
    go None i a b = tt
    go (Some t) None a b = tt
    go (Some t) (Some i) a b = (found_id T.threads id t a ∙ sym p, number_found n i T.waiting b ∙ sym q)

waited_told : (e : Entry) (id n : ℕ) (r : Option Report) → has_report n r ≡ true → number e.choice.report ≡ n → IsToldBy e (waited id r)
waited_told e id n None h q = absurd (true≢false (sym h))
waited_told e id n (Some r) h q = eqb-true r.number n h ∙ sym q

wait_told : (T : Table) (e : Entry) (which : Which) → IsToldBy e (waited_thread (ready_thread T e.actor which (number e.choice.report)) None)
wait_told T e which = go (ready_thread T e.actor which (number e.choice.report)) refl
  where
    go : (o : Option Thread) → ready_thread T e.actor which (number e.choice.report) ≡ o → IsToldBy e (waited_thread o None)
    go None h = tt
    go (Some t) h = waited_told e t.id (number e.choice.report) t.report (found_in (number e.choice.report) t (asked_tracees T e.actor which) h).1 refl

starter_told : (T : Table) (e : Entry) (which : Which) (flags : WaitFlags) → IsToldBy e (waited_thread (ready_death T which (number e.choice.report)) (ready_note T which flags (number e.choice.report)))
starter_told T e which flags = go (ready_death T which r) (ready_note T which flags r) refl refl
  where
    r : ℕ
    r = number e.choice.report

    go : (t : Option Thread) (g : Option Group) → ready_death T which r ≡ t → ready_note T which flags r ≡ g → IsToldBy e (waited_thread t g)
    go (Some t) g h q = waited_told e t.id r t.report (death_found T r t (led_groups T which) h).report refl
    go None None h q = tt
    go None (Some g) h q = waited_told e g.tgid r g.note (found_note r g (filter (shows_note T which flags) T.groups) q).1 refl

-- whatever the table
pub reply_told : (T : Table) (e : Entry) → IsToldBy e (after T e).reply
reply_told T e = go e.actor e.event e.choice
  where
    go : (a : ℕ) (x : Event) (c : Choice) → let e : Entry = record { actor = a; event = x; choice = c } in IsToldBy e (reply_of T a x c (work_of T e))
    go a (event.Take id) c = took_told T (record { actor = a; event = event.Take id; choice = c }) id (number c.instance) refl refl
    go a (event.TakeAny g) c = took_told T (record { actor = a; event = event.TakeAny g; choice = c }) (number c.thread) (number c.instance) refl refl
    go a (event.Wait which) c = wait_told T (record { actor = a; event = event.Wait which; choice = c }) which
    go a (event.StarterWait which flags) c = starter_told T (record { actor = a; event = event.StarterWait which flags; choice = c }) which flags
    go a x c = tt

-- The reply of a wait for a stop tells the thread that stopped
pub stop_told : (T : Table) (e : Entry) → IsOfStop (fact_before T e.actor e.event e.choice) (after T e).reply
stop_told T e = go e.actor e.event e.choice
  where
    reported : (t : Thread) (r : Option Report) → IsOfStop (if shows_stop r then Stop (record { thread = t.id; group = t.group }) else Nothing) (waited t.id r)
    reported t None = tt
    reported t (Some r) = by_status (is_stop_status r.status)
      where
        by_status : (b : Bool) → IsOfStop (if b then Stop (record { thread = t.id; group = t.group }) else Nothing) (waited t.id (Some r))
        by_status true = refl
        by_status false = tt

    waits : (o : Option Thread) → IsOfStop (stop_fact o) (waited_thread o None)
    waits None = tt
    waits (Some t) = reported t t.report

    execs : (o : Option Thread) (r : Reply) → IsOfStop (exec_fact o) r
    execs None r = tt
    execs (Some t) r = tt

    go : (a : ℕ) (x : Event) (c : Choice) → let e : Entry = record { actor = a; event = x; choice = c } in IsOfStop (fact_before T a x c) (reply_of T a x c (work_of T e))
    go a (event.Wait which) c = waits (ready_thread T a which (number c.report))
    go a (event.Exec id) c = execs (thread_of T id) reply.Done
    go a x c = tt
