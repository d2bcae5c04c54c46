-- The table of a good start is one that nothing has happened to.
use Rattle.std.proofs.Common.{ℕ, ◌≤◌, List, [], ◌∷◌, ◌++◌, length, map, nat_le, refl, sym, ap, arith, subst}
use Rattle.std.proofs.lemmas.Bool.{and_parts, leb-true}
use Rattle.std.proofs.lemmas.List.{length-map}
use Rattle.std.specs.Prelude.{IsTrue}
use Rattle.std.specs.List.{list_all}
use Rattle.tr_sigset.specs.declared.sets.SigSet.{SigSet}
use Rattle.tr_tracee.specs.declared.thread.Thread.{Thread}
use Rattle.tr_model.specs.Journals.{Each, EachGroup, IsFresh, IsFreshGroup, IsStart, occurs}
use Rattle.tr_starts.specs.declared.starts.GroupStart.{GroupStart}
use Rattle.tr_starts.specs.declared.starts.Start.{Start}
use Rattle.tr_starts.specs.Starts.{all_started, group_started, ids_started, is_good, is_good_group, is_good_id, no_repeat, table_of, thread_started}
use Rattle.tr_table.proofs.Started.{all_ids, groups_few, once}
use Rattle.tr_threads.proofs.ThreadLists.{ids_length}

-- Threads and groups

threads_fresh : (g : ℕ) (ts : List (ℕ × SigSet)) (more : List Thread) → Each IsFresh more → Each IsFresh (map (thread_started g) ts ++ more)
threads_fresh g [] more h = h
threads_fresh g (t ∷ ts) more h = (record { life = refl; trace = refl; pausing = refl; stop_mark = refl; trap_mark = refl; note_mark = refl; joined = refl; report = refl }, threads_fresh g ts more h)

all_fresh : (gs : List GroupStart) → Each IsFresh (all_started gs)
all_fresh [] = tt
all_fresh (g ∷ gs) = threads_fresh g.tgid g.threads (all_started gs) (all_fresh gs)

groups_fresh : (gs : List GroupStart) → EachGroup IsFreshGroup (map group_started gs)
groups_fresh [] = tt
groups_fresh (g ∷ gs) = (record { group_stop = refl; end = refl; note = refl }, groups_fresh gs)

pub is_start : (s : Start) → IsTrue (is_good s) → IsStart (table_of s)
is_start s h =
    let p = and_parts (list_all is_good_group s.groups) _ h in
    let q = and_parts (nat_le (length (ids_started s.groups)) 1024) _ p.1 in
    let r = and_parts (list_all is_good_id (ids_started s.groups)) (no_repeat (ids_started s.groups)) q.1 in
    let n : length (ids_started s.groups) ≤ 1024 = leb-true (length (ids_started s.groups)) 1024 q.0 in
    record {
      threads = all_fresh s.groups;
      groups = groups_fresh s.groups;
      ids = λ k. subst (λ xs. occurs k xs ≤ 1) (sym (all_ids s.groups)) (once k (ids_started s.groups) r.1);
      few_threads = omega (arith, n, ids_length (all_started s.groups), ap length (all_ids s.groups));
      few_groups = omega (arith, n, groups_few s.groups p.0, length-map s.groups group_started);
      waiting = refl;
      accepted = refl;
      raised = refl;
    }
