-- The entry limit stays as it was at the start.
use Rattle.std.proofs.Common.{◌≡◌, ℕ, Bool, true, false, not, ◌&&◌, Option, Some, None, refl, if◌then◌else◌}
use Rattle.tr_pending.specs.declared.instance.Instance.{Instance}
use Rattle.tr_tracee.specs.declared.life.Stop.{Stop}
use Rattle.tr_tracee.specs.declared.life.Stop.TheVariants.{Signal}
use Rattle.tr_tracee.specs.declared.thread.Thread.{Thread}
use Rattle.tr_tracee.specs.Ends.{child}
use Rattle.tr_tracee.specs.Lives.{is_dead, is_execing, is_free, status_of_end}
use Rattle.tr_tracee.specs.Stops.{may_enter}
use Rattle.tr_tracee.specs.Threads.{is_leader}
use Rattle.tr_model.specs.Entries.{Entry}
use Rattle.tr_model.specs.Moves as moves
use Rattle.tr_model.specs.Moves.{begin, on_instance, on_thread, Work}
use Rattle.tr_model.specs.Steps.{Step}
use Rattle.tr_model.specs.Tables.{Table, thread_of}
use Rattle.tr_model.proofs.Kept.{Kept, always-kept, any, any_of}
use Rattle.tr_model.specs.declared.replies.Reply.{Reply}

record Limited (n : ℕ) (w : Work) : Type 0 where
  entries : w.table.entries ≡ n

of_either : (n : ℕ) (b : Bool) (v w : Work) → Limited n v → Limited n w → Limited n (if b then v else w)
of_either n true v w p q = p
of_either n false v w p q = q

of_thread : (n : ℕ) (move : Thread → Work → Work) → ((t : Thread) (w : Work) → Limited n w → Limited n (move t w)) → (o : Option Thread) (w : Work) → Limited n w → Limited n (on_thread o move w)
of_thread n move h None w p = p
of_thread n move h (Some t) w p = h t w p

of_instance : (n : ℕ) (move : Instance → Work → Work) → ((i : Instance) (w : Work) → Limited n w → Limited n (move i w)) → (o : Option Instance) (w : Work) → Limited n w → Limited n (on_instance o move w)
of_instance n move h None w p = p
of_instance n move h (Some i) w p = h i w p

entering_limited : (n : ℕ) (s : Stop) (t : Thread) (w : Work) → Limited n w → Limited n (moves.enter_if_allowed s t w)
entering_limited n s t w p = of_either n (may_enter t.life) (moves.entered_now s t w) w (record { entries = p.entries }) p

moves_limited : (n : ℕ) → Kept any any_of (Limited n)
moves_limited n = record {
  alter = λ f h w p. record { entries = p.entries };
  resume = λ fate live t r w e p. record { entries = p.entries };
  listen = λ t r w e p. record { entries = p.entries };
  break_others = λ g id x w p. record { entries = p.entries };
  begin_death = λ g e kill w p. record { entries = p.entries };
  kill_group = λ g w p. record { entries = p.entries };
  enter = λ id s h w p. of_thread n (moves.enter_if_allowed s) (entering_limited n s) (thread_of w.table id) w p;
  hold = λ id m w p. of_thread n (λ t. on_instance (moves.instance_in w.table.waiting m) (moves.holding t)) (λ t x q. of_instance n (moves.holding t) (λ i y r. of_either n (is_free t.life) (moves.enter_if_allowed (Signal i false) t (moves.pulled i y)) y (entering_limited n (Signal i false) t (moves.pulled i y) (record { entries = r.entries })) r) (moves.instance_in w.table.waiting m) x q) (thread_of w.table id) w p;
  report_death = λ id e w p. of_thread n (moves.report_dead e) (λ t x q. of_either n (is_dead t.life) (moves.raise t (status_of_end e) x) x (record { entries = q.entries }) q) (thread_of w.table id) w p;
  spawn = λ parent id mark w m p. of_thread n (moves.spawned id mark) (λ t x q. of_either n (is_free t.life) (moves.added (child id mark t) x) x (record { entries = q.entries }) q) (thread_of w.table parent) w p;
  remove_dead = λ p w q. record { entries = q.entries };
  take_place = λ id w p. of_thread n moves.taking_place (λ t x q. of_either n (is_execing t.life && not (is_leader t)) (moves.with_leaders_row t x) x (record { entries = q.entries }) q) (thread_of w.table id) w p;
  regroup = λ f h w p. record { entries = p.entries };
  note = λ g s w p. record { entries = p.entries };
  drop_empty = λ g w p. record { entries = p.entries };
  enqueue = λ s i q w p. record { entries = p.entries };
  accept_as = λ fate live w p. record { entries = p.entries };
  end_waiting = λ fate live p w q. record { entries = q.entries };
}

-- a step leaves the entry limit
pub limit_kept : (T : Table) (e : Entry) (r : Reply) (U : Table) → Step T e r U → U.entries ≡ T.entries
limit_kept T e r U s =
    let p = always-kept (Limited T.entries) (moves_limited T.entries) T e s.choice (record { entries = refl }) in
    rw s.table p.entries
