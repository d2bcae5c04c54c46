use Rattle.std.proofs.Common.{◌≡◌, ◌∙◌, ◌+◌, ◌++◌, ◌∷◌, [], true, false, ap, get_or, refl, rules, sym}
use Rattle.std.specs.Prelude.{slice_set}
use Rattle.tr_tracee.specs.declared.thread.Thread.{Thread}
use Rattle.tr_tracee.specs.Lives.{is_dead, status_of_end}
use Rattle.tr_tracee.specs.Stops.{reported}
use Rattle.tr_tracee.specs.Threads.{tracer_of}
use Rattle.tr_model.specs.Tables.{Table}
use Rattle.tr_queues.specs.Slots.{standing}
use Rattle.tr_table.specs.View.{View}
use Rattle.tr_table.proofs.Moving.{told, not_told}
use Rattle.tr_table.proofs.table.Table.report_death.Goals as goal

pub returns-then-not-is_dead : goal.returns-then-not-is_dead
returns-then-not-is_dead c =
    let o = c.self.inside in
    let T : Table = record { threads = o.threads; groups = o.groups; waiting = standing o.pending.slots.items; accepted = o.accepted; raised = o.raised; limit = o.limit; entries = o.entries } in
    let v : T ≡ c.args.self.now.table = ap (λ (u : View). u.table) c.self.view_is in
    let x : Thread = c.at.result.now in
    let stays : is_dead x.life ≡ false = search rules in
    record {
      work = λ w e. not_told c.args.id c.in_ok-place.place T c.in_ok-place.ensures.place x (c.at.ensures x) c.args.end.now w stays (e ∙ sym v) ∙ ap (λ (U : Table). record w { table = U; raises = w.raises ++ [] }) v;
      room = refl;
    }

pub returns : goal.returns
returns c =
    let o = c.self.inside in
    let T : Table = record { threads = o.threads; groups = o.groups; waiting = standing o.pending.slots.items; accepted = o.accepted; raised = o.raised; limit = o.limit; entries = o.entries } in
    let v : T ≡ c.args.self.now.table = ap (λ (u : View). u.table) c.self.view_is in
    let x : Thread = c.at.result.now in
    let i = c.in_ok-place.place in
    let goes : is_dead x.life ≡ true = search rules in
    let V : Table = c.args.self.now.table in
    let at : x ≡ get_or V.threads i x = c.at.ensures x ∙ ap (λ (U : Table). get_or U.threads i x) v in
    let s : status_of_end c.args.end.now ≡ c.status-status.result = sym c.status-status.ensures in
    let r : (record T { threads = slice_set T.threads i (reported (T.raised + 1) (status_of_end c.args.end.now) x); raised = T.raised + 1 }) ≡ c.raise_at.new.self.table
    = (λ j. record (v j) { threads = slice_set (v j).threads i (reported (T.raised + 1) (s j) x); raised = (v j).raised + 1 })
    ∙ (ap (λ (y : Thread). record V { threads = slice_set V.threads i (reported (T.raised + 1) c.status-status.result y); raised = V.raised + 1 }) at ∙ sym (ap (λ (u : View). u.table) (c.raise_at.ensures.table x))) in
    let q : (record { number = T.raised + 1; whom = tracer_of x.trace; id = x.id; status = status_of_end c.args.end.now }) ≡ c.raise_at.result
    = (λ j. record { number = (v j).raised + 1; whom = tracer_of x.trace; id = x.id; status = s j })
    ∙ (ap (λ (y : Thread). record { number = V.raised + 1; whom = tracer_of y.trace; id = y.id; status = c.status-status.result }) at ∙ sym (c.raise_at.ensures.raise x)) in
    record {
      work = λ w e. told c.args.id i T c.in_ok-place.ensures.place x (c.at.ensures x) c.args.end.now w goes (e ∙ sym v) ∙ (λ j. record w { table = r j; raises = w.raises ++ q j ∷ [] });
      room = ap (λ (u : View). u.room) (c.raise_at.ensures.table x);
    }
