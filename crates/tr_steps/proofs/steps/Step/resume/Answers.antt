use Rattle.std.proofs.Common.{◌≡◌, ◌∙◌, Some, ap, arith, is_some, length, refl}
use Rattle.tr_tracee.specs.Lives.{held}
use Rattle.tr_tracee.specs.Stops.{restarted}
use Rattle.tr_model.specs.Moves.{changed}
use Rattle.tr_model.specs.Tables.{thread_of}
use Rattle.tr_index.specs.Counts.{bool_to_nat}
use Rattle.tr_threads.specs.Held.{held_count}
use Rattle.tr_table.specs.View.{View}
use Rattle.tr_steps.proofs.Put.{ends_restarted, helds_restarted}
use Rattle.tr_steps.proofs.steps.Step.resume.Goals as goal

pub end_held-requires : goal.end_held-requires
end_held-requires c =
    let was = c.self.inside.table.table in
    let t = c.args.thread.now in
    let there : thread_of was t.id ≡ Some t = ap (λ x. thread_of x.work.table t.id) c.self.view_is ∙ c.requires.there in
    let h = helds_restarted was.threads t there in
    let q : c.self.inside.room ≡ c.args.self.now.room = ap (λ x. x.room) c.self.view_is in
    let r = c.requires.room in
    let o = (c.self.invariant (omega arith)).ended in
    let k : bool_to_nat (is_some c.held.result) ≡ bool_to_nat (is_some (held t.life)) = ap (λ x. bool_to_nat (is_some x)) c.held.ensures in
    omega arith

pub invariant_of-self : goal.invariant_of-self
invariant_of-self c p =
    let was = c.self.inside.table.table in
    let t = c.args.thread.now in
    let there : thread_of was t.id ≡ Some t = ap (λ x. thread_of x.work.table t.id) c.self.view_is ∙ c.requires.there in
    let b = (rw c.change_thread.ensures.only at c.change_thread.ensures.table) in
    let h = helds_restarted was.threads t there in
    let k : bool_to_nat (is_some c.held.result) ≡ bool_to_nat (is_some (held t.life)) = ap (λ x. bool_to_nat (is_some x)) c.held.ensures in
    let x : held_count c.change_thread.new.self.table.threads ≡ held_count (changed t.id restarted was.threads) = ap (λ (v : View). held_count v.table.threads) b in
    let y : length c.change_thread.new.self.table.waiting ≡ length was.waiting = ap (λ (v : View). length v.table.waiting) b in
    let u = c.end_held.ensures.len in
    let v = c.end_held.ensures.capacity in
    let o = c.self.invariant p in
    let e = o.ended in
    record {
      ended = omega arith;
      news = o.news;
      waiting = rw (ap (λ (v : View). v.room) b) o.waiting;
      accepted = rw (ap (λ (v : View). v.table.accepted) b) o.accepted;
      raised = rw (ap (λ (v : View). v.table.raised) b) o.raised;
    }

pub returns : goal.returns
returns c =
    let t = c.args.thread.now in
    let b = (rw c.change_thread.ensures.only at c.change_thread.ensures.table) in
    let e = c.end_held.ensures.items in
    let f = (rw c.held.ensures at e) in
    let q : c.self.inside.room ≡ c.args.self.now.room = ap (λ x. x.room) c.self.view_is in
    record {
      work = rw (← c.self.view_is, b, f, ends_restarted c.args.fate t) refl;
      room = omega arith;
      groups = rw (← c.self.view_is, b) (omega arith);
      taken_from = rw (← c.self.view_is) refl;
    }
