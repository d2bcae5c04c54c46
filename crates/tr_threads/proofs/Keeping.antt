-- What happens to a thread's record leaves its id and its group.
use Rattle.std.proofs.Common.{◌≡◌, ◌==◌, ◌<◌, ◌∙◌, ℕ, Bool, true, false, None, List, ap, get_or, if◌then◌else◌, length, refl, set}
use Rattle.std.proofs.lemmas.List.{get_or_default}
use Rattle.tr_tracee.specs.declared.life.End.{End}
use Rattle.tr_tracee.specs.declared.thread.Thread.{Thread}
use Rattle.tr_tracee.specs.Ends.{begun_to_leave, begun_to_leave_by_exec, leaving_with, own_end}
use Rattle.tr_tracee.specs.Lives.{is_dead, is_in_stop}
use Rattle.tr_tracee.specs.Stops.{without_trace}
use Rattle.tr_threads.specs.Changes.{continued_by, thread_changed_by}
use Rattle.tr_threads.specs.declared.thread_changes.ThreadChange.{ThreadChange}
use Rattle.tr_threads.specs.declared.thread_changes.ThreadChange.TheVariants as change
use Rattle.tr_model.specs.Tables.{ids_of}
use Rattle.tr_threads.proofs.Rosters.{Same}
use Rattle.tr_threads.proofs.ThreadLists.{ids_written}

same_continued : (b : Bool) (t : Thread) → Same t (continued_by b t)
same_continued true t = record { id = refl; group = refl }
same_continued false t = record { id = refl; group = refl }

same_leaving : (kill : Bool) (e : End) (t : Thread) → Same t (begun_to_leave kill e t)
same_leaving kill e t = elim (is_dead t.life) as (λ b. Same t (if b then t else leaving_with kill e t)) [ true ↦ record { id = refl; group = refl } | false ↦ record { id = refl; group = refl } ]

same_by_exec : (id : ℕ) (e : End) (t : Thread) → Same t (begun_to_leave_by_exec id e t)
same_by_exec id e t = go (t.id == id)
  where
    go : (b : Bool) → Same t (if b then t else begun_to_leave false (own_end e t.life) t)
    go true = record { id = refl; group = refl }
    go false = same_leaving false (own_end e t.life) t

pub same_changed : (c : ThreadChange) (t : Thread) → Same t (thread_changed_by c t)
same_changed (change.Continue in_effect) t = same_continued in_effect t
same_changed (change.Detach in_effect) t = elim (is_in_stop t.life) as (λ b. Same t (if b then t else without_trace in_effect t)) [ true ↦ record { id = refl; group = refl } | false ↦ record { id = refl; group = refl } ]
same_changed (change.BeginToLeave kill e) t = same_leaving kill e t
same_changed (change.LeaveForExec id e) t = same_by_exec id e t
same_changed change.Release t = elim (is_dead t.life) as (λ b. Same t (if b then record t { trace = None; report = None } else t)) [ true ↦ record { id = refl; group = refl } | false ↦ record { id = refl; group = refl } ]
same_changed _ t = record { id = refl; group = refl }

-- and so the ids of a list in which the record at a place changes
pub same_ids : (c : ThreadChange) (ts us : List Thread) (i : ℕ) (t u z : Thread) → i < length ts → us ≡ set ts i u → u ≡ thread_changed_by c z → z ≡ get_or ts i z → ids_of us ≡ ids_of ts
same_ids c ts us i t u z within e made at =
    let here : z ≡ get_or ts i t = at ∙ get_or_default ts i z t within in
    let same : u.id ≡ (get_or ts i t).id = ap (λ (x : Thread). x.id) made ∙ ((same_changed c z).id ∙ ap (λ (x : Thread). x.id) here) in
    ap ids_of e ∙ ids_written ts i t u same within
