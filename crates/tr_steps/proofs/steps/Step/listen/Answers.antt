use Rattle.std.proofs.Common.{◌≡◌, ◌∙◌, Some, ap, arith, length, refl}
use Rattle.std.proofs.lemmas.List.{append-nil}
use Rattle.tr_model.specs.declared.fates.Fate.TheVariants.{Flushed}
use Rattle.tr_model.specs.Tables.{thread_of}
use Rattle.tr_threads.specs.Held.{held_count}
use Rattle.tr_table.specs.View.{View}
use Rattle.tr_steps.proofs.Put.{ends_listening, helds_listening}
use Rattle.tr_steps.proofs.steps.Step.listen.Goals as goal

pub invariant_of-self : goal.invariant_of-self
invariant_of-self c p =
    let was = c.self.inside.table.table in
    let t = c.args.thread.now in
    let there : thread_of was t.id ≡ Some t = ap (λ x. thread_of x.work.table t.id) c.self.view_is ∙ c.requires.there in
    let b = (rw c.change_thread.ensures.only at c.change_thread.ensures.table) in
    let x : held_count c.change_thread.new.self.table.threads ≡ held_count was.threads = ap (λ (v : View). held_count v.table.threads) b ∙ helds_listening was.threads t there in
    let y : length c.change_thread.new.self.table.waiting ≡ length was.waiting = ap (λ (v : View). length v.table.waiting) b in
    let o = c.self.invariant p in
    let e = o.ended in
    record {
      ended = omega arith;
      news = o.news;
      waiting = rw (ap (λ (v : View). v.room) b) o.waiting;
      accepted = rw (ap (λ (v : View). v.table.accepted) b) o.accepted;
      raised = rw (ap (λ (v : View). v.table.raised) b) o.raised;
    }

pub returns : goal.returns
returns c =
    let t = c.args.thread.now in
    let b = (rw c.change_thread.ensures.only at c.change_thread.ensures.table) in
    let q : c.self.inside.room ≡ c.args.self.now.room = ap (λ x. x.room) c.self.view_is in
    record {
      work = rw (← c.self.view_is, b, ends_listening Flushed t, append-nil c.self.inside.ended.items) refl;
      room = omega arith;
      groups = rw (← c.self.view_is, b) (omega arith);
      taken_from = rw (← c.self.view_is) refl;
    }
