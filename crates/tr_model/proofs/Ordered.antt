-- What waits stays in order of acceptance.
use Rattle.std.proofs.Common.{◌+◌, ℕ, Bool, true, false, Option, Some, None, if◌then◌else◌, refl, sym, subst, arith}
use Rattle.tr_pending.specs.declared.instance.Info.{Info}
use Rattle.tr_pending.specs.declared.instance.Instance.{Instance}
use Rattle.tr_wait.specs.declared.status.Status.{Status}
use Rattle.tr_tracee.specs.declared.life.End.{End}
use Rattle.tr_tracee.specs.declared.life.Stop.{Stop}
use Rattle.tr_tracee.specs.declared.thread.Thread.{Thread}
use Rattle.tr_model.specs.Entries.{Entry}
use Rattle.tr_model.specs.declared.fates.Fate.{Fate}
use Rattle.tr_model.specs.declared.rows.Group.{Group}
use Rattle.tr_model.specs.declared.rows.Target.{Target}
use Rattle.tr_model.specs.declared.rows.Waiting.{Waiting}
use Rattle.tr_model.specs.Journals.{AllUpTo, IsSorted}
use Rattle.tr_model.specs.Deaths
use Rattle.tr_model.specs.Execs
use Rattle.tr_model.specs.Journals.{IsStart}
use Rattle.tr_model.specs.Restarts
use Rattle.tr_model.specs.Laws
use Rattle.tr_model.specs.Steps.{Admits, work_of}
use Rattle.tr_model.specs.Tables.{Table, thread_of}
use Rattle.tr_model.specs.Moves as moves
use Rattle.tr_model.specs.Moves.{at, begin, instance_in, next_instance, on_instance, on_thread, Work}
use Rattle.tr_model.proofs.Between.{replay_keeps}
use Rattle.tr_model.proofs.Kept.{Kept, always-kept, any, any_of}
use Rattle.tr_model.proofs.Sorted.{sorted_filter, sorted_less, sorted_more, sorted_retargeted, up_to_filter, up_to_later, up_to_less, up_to_more, up_to_retargeted}

-- what waits stands in order of acceptance, and was accepted
pub record Ordered (w : Work) : Type 0 where
  pub sorted : IsSorted w.table.waiting
  pub up_to : AllUpTo w.table.accepted w.table.waiting

-- Moves joined

either : (b : Bool) (x y : Work) → Ordered x → Ordered y → Ordered (if b then x else y)
either true x y p q = p
either false x y p q = q

of_thread : (move : Thread → Work → Work) → ((t : Thread) (w : Work) → Ordered w → Ordered (move t w)) → (o : Option Thread) (w : Work) → Ordered w → Ordered (on_thread o move w)
of_thread move keeps None w p = p
of_thread move keeps (Some t) w p = keeps t w p

of_instance : (move : Instance → Work → Work) → ((i : Instance) (w : Work) → Ordered w → Ordered (move i w)) → (o : Option Instance) (w : Work) → Ordered w → Ordered (on_instance o move w)
of_instance move keeps None w p = p
of_instance move keeps (Some i) w p = keeps i w p

-- Moves that leave what waits as it is

pub alter_ordered : (f : Thread → Thread) (w : Work) → Ordered w → Ordered (moves.alter f w)
alter_ordered f w p = record { sorted = p.sorted; up_to = p.up_to }

pub become_ordered : (fate : Fate) (f : Thread → Thread) (w : Work) → Ordered w → Ordered (moves.become fate f w)
become_ordered fate f w p = record { sorted = p.sorted; up_to = p.up_to }

pub changing_ordered : (fate : Fate) (f : Thread → Thread) (t : Thread) (w : Work) → Ordered w → Ordered (moves.change_ending fate f t w)
changing_ordered fate f t w p = record { sorted = p.sorted; up_to = p.up_to }

pub resume_ordered : (fate : Fate) (t : Thread) (w : Work) → Ordered w → Ordered (Restarts.resume fate t w)
resume_ordered fate t w p = record { sorted = p.sorted; up_to = p.up_to }

pub listen_ordered : (t : Thread) (w : Work) → Ordered w → Ordered (Restarts.listen t w)
listen_ordered t w p = record { sorted = p.sorted; up_to = p.up_to }

pub break_others_ordered : (g id : ℕ) (w : Work) → Ordered w → Ordered (Execs.break_others g id w)
break_others_ordered g id w p = record { sorted = p.sorted; up_to = p.up_to }

pub begin_death_ordered : (g : ℕ) (e : End) (kill : Bool) (w : Work) → Ordered w → Ordered (Deaths.begin_death g e kill w)
begin_death_ordered g e kill w p = record { sorted = p.sorted; up_to = p.up_to }

pub kill_group_ordered : (g : ℕ) (w : Work) → Ordered w → Ordered (Deaths.kill_group g w)
kill_group_ordered g w p = record { sorted = p.sorted; up_to = p.up_to }

pub regroup_ordered : (f : Group → Group) (w : Work) → Ordered w → Ordered (moves.regroup f w)
regroup_ordered f w p = record { sorted = p.sorted; up_to = p.up_to }

pub note_ordered : (g : ℕ) (s : Status) (w : Work) → Ordered w → Ordered (moves.note g s w)
note_ordered g s w p = record { sorted = p.sorted; up_to = p.up_to }

pub drop_empty_ordered : (g : ℕ) (w : Work) → Ordered w → Ordered (moves.drop_empty g w)
drop_empty_ordered g w p = record { sorted = p.sorted; up_to = p.up_to }

pub remove_dead_ordered : (p : Thread → Bool) (w : Work) → Ordered w → Ordered (moves.remove_dead p w)
remove_dead_ordered p w h = record { sorted = h.sorted; up_to = h.up_to }

raising_ordered : (f : Thread → Thread) (t : Thread) (s : Status) (w : Work) → Ordered w → Ordered (moves.raise_with f t s w)
raising_ordered f t s w p = record { sorted = p.sorted; up_to = p.up_to }

entering_ordered : (s : Stop) (t : Thread) (w : Work) → Ordered w → Ordered (moves.enter_if_allowed s t w)
entering_ordered s t w p = either _ _ _ (raising_ordered _ t _ w p) p

pub enter_ordered : (id : ℕ) (s : Stop) (w : Work) → Ordered w → Ordered (moves.enter id s w)
enter_ordered id s w p = of_thread (moves.enter_if_allowed s) (entering_ordered s) (thread_of w.table id) w p

pub report_death_ordered : (id : ℕ) (e : End) (w : Work) → Ordered w → Ordered (moves.report_death id e w)
report_death_ordered id e w p = of_thread (moves.report_dead e) (λ t x q. either _ _ _ (raising_ordered _ t _ x q) q) (thread_of w.table id) w p

added_ordered : (t : Thread) (w : Work) → Ordered w → Ordered (moves.added t w)
added_ordered t w p = record { sorted = p.sorted; up_to = p.up_to }

pub spawn_ordered : (parent id : ℕ) (stop_mark : Bool) (w : Work) → Ordered w → Ordered (moves.spawn parent id stop_mark w)
spawn_ordered parent id stop_mark w p = of_thread (moves.spawned id stop_mark) (λ t x q. either _ _ _ (added_ordered _ x q) q) (thread_of w.table parent) w p

-- Moves of what waits

pub enqueue_ordered : (s : ℕ) (i : Info) (q : Target) (w : Work) → Ordered w → Ordered (moves.enqueue s i q w)
enqueue_ordered s i q w p =
    let x : Waiting = record { instance = next_instance s i w; target = q } in
    record { sorted = sorted_more w.table.accepted w.table.waiting x p.sorted p.up_to refl; up_to = up_to_more w.table.accepted w.table.waiting x p.up_to refl }

pub accept_as_ordered : (fate : Fate) (w : Work) → Ordered w → Ordered (moves.accept_as fate w)
accept_as_ordered fate w p = record { sorted = p.sorted; up_to = up_to_later w.table.accepted (w.table.accepted + 1) w.table.waiting (omega arith) p.up_to }

pub end_waiting_ordered : (fate : Fate) (p : Waiting → Bool) (w : Work) → Ordered w → Ordered (moves.end_waiting fate p w)
end_waiting_ordered fate p w h = record { sorted = sorted_filter _ w.table.waiting h.sorted; up_to = up_to_filter _ w.table.accepted w.table.waiting h.up_to }

pulled_ordered : (i : Instance) (w : Work) → Ordered w → Ordered (moves.pulled i w)
pulled_ordered i w p = record { sorted = sorted_less i.n w.table.waiting p.sorted; up_to = up_to_less i.n w.table.accepted w.table.waiting p.up_to }

pub hold_ordered : (id n : ℕ) (w : Work) → Ordered w → Ordered (moves.hold id n w)
hold_ordered id n w p = of_thread (λ t. on_instance (instance_in w.table.waiting n) (moves.holding t)) (λ t x q. of_instance (moves.holding t) (λ i y r. either _ _ _ (entering_ordered _ t _ (pulled_ordered i y r)) r) (instance_in w.table.waiting n) x q) (thread_of w.table id) w p

placed_ordered : (t : Thread) (w : Work) → Ordered w → Ordered (moves.with_leaders_row t w)
placed_ordered t w p = record { sorted = sorted_retargeted t.id t.group w.table.waiting p.sorted; up_to = up_to_retargeted t.id t.group w.table.accepted w.table.waiting p.up_to }

pub take_place_ordered : (id : ℕ) (w : Work) → Ordered w → Ordered (moves.take_place id w)
take_place_ordered id w p = of_thread moves.taking_place (λ t x q. either _ _ _ (placed_ordered t x q) q) (thread_of w.table id) w p

-- Replays

pub start_ordered : (T : Table) → IsStart T → Ordered (begin T)
start_ordered T s = record { sorted = subst IsSorted (sym s.waiting) tt; up_to = subst (λ qs. AllUpTo T.accepted qs) (sym s.waiting) tt }

moves_ordered : Kept any any_of Ordered
moves_ordered = record {
  alter = λ f h w p. alter_ordered f w p;
  resume = λ fate live t r w e p. resume_ordered fate t w p;
  listen = λ t r w e p. listen_ordered t w p;
  break_others = λ g id x w p. break_others_ordered g id w p;
  begin_death = begin_death_ordered;
  kill_group = kill_group_ordered;
  enter = λ id s h w p. enter_ordered id s w p;
  hold = hold_ordered;
  report_death = report_death_ordered;
  spawn = λ parent id mark w n p. spawn_ordered parent id mark w p;
  remove_dead = remove_dead_ordered;
  take_place = take_place_ordered;
  regroup = λ f h w p. regroup_ordered f w p;
  note = note_ordered;
  drop_empty = drop_empty_ordered;
  enqueue = enqueue_ordered;
  accept_as = λ fate live w p. accept_as_ordered fate w p;
  end_waiting = λ fate live p w h. end_waiting_ordered fate p w h;
}

entry_ordered : (T : Table) (e : Entry) → Admits T e.actor e.event e.choice → Ordered (begin T) → Ordered (begin (work_of T e).table)
entry_ordered T e h p = let q = always-kept Ordered moves_ordered T e h p in record { sorted = q.sorted; up_to = q.up_to }

pub waiting_is_sorted : Laws.WaitingIsSorted
waiting_is_sorted T U es rs s r = (replay_keeps (λ X. Ordered (begin X)) entry_ordered T U es rs r (start_ordered T s)).sorted
