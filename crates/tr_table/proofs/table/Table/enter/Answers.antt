use Rattle.std.proofs.Common.{◌≡◌, ◌∙◌, ◌+◌, ◌++◌, ◌∷◌, [], true, false, ap, get_or, refl, rules, sym}
use Rattle.std.specs.Prelude.{slice_set}
use Rattle.tr_tracee.specs.declared.thread.Thread.{Thread}
use Rattle.tr_tracee.specs.Lives.{status_of_stop}
use Rattle.tr_tracee.specs.Stops.{entered_as, may_enter}
use Rattle.tr_tracee.specs.Threads.{tracer_of}
use Rattle.tr_model.specs.Tables.{Table}
use Rattle.tr_queues.specs.Slots.{standing}
use Rattle.tr_table.specs.View.{View}
use Rattle.tr_table.proofs.Moving.{entered, not_entered}
use Rattle.tr_table.proofs.table.Table.enter.Goals as goal

pub returns-then-not-may_enter : goal.returns-then-not-may_enter
returns-then-not-may_enter c =
    let o = c.self.inside in
    let T : Table = record { threads = o.threads; groups = o.groups; waiting = standing o.pending.slots.items; accepted = o.accepted; raised = o.raised; limit = o.limit; entries = o.entries } in
    let v : T ≡ c.args.self.now.table = ap (λ (u : View). u.table) c.self.view_is in
    let x : Thread = c.at.result.now in
    let stays : may_enter x.life ≡ false = search rules in
    record {
      work = λ w e. not_entered c.args.id c.in_ok-place.place T c.in_ok-place.ensures.place x (c.at.ensures x) c.args.stop.now w stays (e ∙ sym v) ∙ ap (λ (U : Table). record w { table = U; raises = w.raises ++ [] }) v;
      room = refl;
    }

pub returns : goal.returns
returns c =
    let o = c.self.inside in
    let T : Table = record { threads = o.threads; groups = o.groups; waiting = standing o.pending.slots.items; accepted = o.accepted; raised = o.raised; limit = o.limit; entries = o.entries } in
    let v : T ≡ c.args.self.now.table = ap (λ (u : View). u.table) c.self.view_is in
    let x : Thread = c.at.result.now in
    let i = c.in_ok-place.place in
    let goes : may_enter x.life ≡ true = search rules in
    let V : Table = c.args.self.now.table in
    let at : x ≡ get_or V.threads i x = c.at.ensures x ∙ ap (λ (U : Table). get_or U.threads i x) v in
    let s : status_of_stop c.args.stop.now ≡ c.status.result = sym c.status.ensures in
    let r : (record T { threads = slice_set T.threads i (entered_as (T.raised + 1) c.args.stop.now x); raised = T.raised + 1 }) ≡ c.raise_at.new.self.table
    = (λ j. record (v j) { threads = slice_set (v j).threads i (entered_as (T.raised + 1) c.args.stop.now x); raised = (v j).raised + 1 })
    ∙ (ap (λ (y : Thread). record V { threads = slice_set V.threads i (entered_as (T.raised + 1) c.args.stop.now y); raised = V.raised + 1 }) at ∙ sym (ap (λ (u : View). u.table) (c.raise_at.ensures.table x))) in
    let q : (record { number = T.raised + 1; whom = tracer_of x.trace; id = x.id; status = status_of_stop c.args.stop.now }) ≡ c.raise_at.result
    = (λ j. record { number = (v j).raised + 1; whom = tracer_of x.trace; id = x.id; status = s j })
    ∙ (ap (λ (y : Thread). record { number = V.raised + 1; whom = tracer_of y.trace; id = y.id; status = c.status.result }) at ∙ sym (c.raise_at.ensures.raise x)) in
    record {
      work = λ w e. entered c.args.id i T c.in_ok-place.ensures.place x (c.at.ensures x) c.args.stop.now w goes (e ∙ sym v) ∙ (λ j. record w { table = r j; raises = w.raises ++ q j ∷ [] });
      room = ap (λ (u : View). u.room) (c.raise_at.ensures.table x);
    }
