-- The law of restarts, by the reports that were consumed.
use Rattle.std.proofs.Common.{◌≡◌, ℕ, ◌+◌, ◌≤◌, List, [], ◌∷◌, true, false, Some, refl, sym, ap, filter, Bool, ◌==◌, ◌⊎◌, inl, inr, if◌then◌else◌, arith, subst}
use Rattle.std.proofs.lemmas.Bool.{eqb-false, eq-eqb}
use Rattle.tr_tracee.specs.declared.thread.Thread.{Thread}
use Rattle.tr_model.specs.Entries.{Entry}
use Rattle.tr_model.specs.declared.replies.Reply.{Reply}
use Rattle.tr_model.proofs.Every.{each_weaker}
use Rattle.tr_model.proofs.Ids.{Distinct, has_id, moves-distinct}
use Rattle.tr_model.proofs.Spoken.{Speaks, Spoken, moves-spoken, silent}
use Rattle.tr_model.proofs.Restart.{WaitsFor, restart_between}
use Rattle.tr_model.proofs.Consumed.{found_in, member_filter, each_member, Member}
use Rattle.tr_model.proofs.Kept.{always-kept}
use Rattle.tr_model.proofs.OneFate.{one}
use Rattle.tr_model.proofs.Measures.{total}
use Rattle.tr_model.specs.Journals.{Each, IsIn, Taken}
use Rattle.tr_model.specs.Laws.{PassesOn}
use Rattle.tr_model.specs.Tables.{Table}
use Rattle.tr_model.specs.Journals
use Rattle.tr_model.specs.Laws
use Rattle.tr_model.specs.Tracers
use Rattle.tr_model.specs.Steps
use Rattle.tr_model.specs.Tables
use Rattle.tr_tracee.specs.Threads
use Rattle.tr_wait.specs.Words

pub replay_keeps : (Q : Table → Type 0) → ((T : Table) (e : Entry) → Steps.Admits T e.actor e.event e.choice → Q T → Q (Steps.work_of T e).table) → (T U : Table) (es : List Entry) (rs : List Reply) → Journals.Replay T es rs U → Q T → Q U
replay_keeps Q k T U [] [] r q = subst Q (sym r) q
replay_keeps Q k T U [] (x ∷ rs) r q = absurd r
replay_keeps Q k T U (e ∷ es) [] r q = absurd r
replay_keeps Q k T U (e ∷ es) (x ∷ rs) r q = replay_keeps Q k (Steps.work_of T e).table U es rs (subst (λ M. Journals.Replay M es rs U) r.1.table r.2) (k T e r.1.choice q)

-- ids are distinct, and reports of stops stand at stopped threads
pub record Sane (T : Table) : Type 0 where
  pub once : (k : ℕ) → total (has_id k) T.threads ≤ 1
  pub spoken : Each Speaks T.threads

pub entry_sane : (T : Table) (e : Entry) → Steps.Admits T e.actor e.event e.choice → Sane T → Sane (Steps.work_of T e).table
entry_sane T e h s =
    let d = always-kept Distinct moves-distinct T e h (record { once = s.once }) in
    let p = always-kept Spoken moves-spoken T e h (record { each = s.spoken }) in
    record { once = d.once; spoken = p.each }

pub ids_total : (k : ℕ) (ts : List Thread) → total (has_id k) ts ≡ Journals.occurs k (Tables.ids_of ts)
ids_total k [] = refl
ids_total k (t ∷ ts) = go (t.id == k) (ids_total k ts)
  where
    go : (b : Bool) → total (has_id k) ts ≡ Journals.occurs k (Tables.ids_of ts) → one b + total (has_id k) ts ≡ (if b then 1 else 0) + Journals.occurs k (Tables.ids_of ts)
    go true e = omega (arith, e)
    go false e = omega (arith, e)

fresh_speaks : (t : Thread) → Journals.IsFresh t → Speaks t
fresh_speaks t f = silent t f.report

pub start_sane : (T : Table) → Journals.IsStart T → Sane T
start_sane T s = record { once = λ k. omega (arith, s.ids k, ids_total k T.threads); spoken = each_weaker Journals.IsFresh Speaks fresh_speaks T.threads s.threads }

has_it : (t : Thread) (ts : List Thread) → Member t ts → 1 ≤ total (has_id t.id) ts
has_it t [] m = absurd m
has_it t (x ∷ ts) (inl e) = omega (arith, ap one (eq-eqb x.id t.id (ap (λ (y : Thread). y.id) e)))
has_it t (x ∷ ts) (inr m) = omega (arith, has_it t ts m)

found_member : (t : Thread) (ts : List Thread) → total (has_id t.id) ts ≤ 1 → Member t ts → Tables.thread_in ts t.id ≡ Some t
found_member t [] l m = absurd m
found_member t (x ∷ ts) l m = go (x.id == t.id) refl l m (found_member t ts)
  where
    go : (b : Bool) → (x.id == t.id) ≡ b → one b + total (has_id t.id) ts ≤ 1 → (x ≡ t) ⊎ Member t ts → (total (has_id t.id) ts ≤ 1 → Member t ts → Tables.thread_in ts t.id ≡ Some t) → (if b then Some x else Tables.thread_in ts t.id) ≡ Some t
    go true q l (inl e) r = ap Some e
    go true q l (inr m) r = absurd (let h = has_it t ts m in omega arith)
    go false q l (inl e) r = absurd (eqb-false x.id t.id q (ap (λ (y : Thread). y.id) e))
    go false q l (inr m) r = r (omega arith) m

waits_for : (T : Table) (e : Entry) (t : Thread) → Sane T → Laws.ConsumesStop T e t → WaitsFor T e t
waits_for T e t s c =
    let f = found_in c.1 t (filter (λ t. Words.asks_for c.0 t.id) (Tracers.tracees T e.actor)) c.5 in
    let m = (member_filter (Threads.is_tracee_of e.actor) t T.threads (member_filter (λ t. Words.asks_for c.0 t.id) t (Tracers.tracees T e.actor) f.0).0).0 in
    (c.0, c.1, c.3, c.4, c.5, found_member t T.threads (s.once t.id) m, each_member Speaks t T.threads s.spoken m c.2 c.6 c.7)

pub restart_stands : Laws.RestartStandsBetween
restart_stands S T M U first between qs rs e f x t u s r0 st ct r1 cu same =
    let at_T = replay_keeps Sane entry_sane S T first qs r0 (start_sane S s) in
    let at_M = subst Sane (sym st.table) (entry_sane T e st.choice at_T) in
    let at_U = replay_keeps Sane entry_sane M U between rs r1 at_M in
    restart_between T M U between rs e f x t u st (waits_for T e t at_T ct) r1 (waits_for U f u at_U cu) same
