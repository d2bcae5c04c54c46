use Rattle.std.proofs.Common.{◌≡◌, ◌≢◌, ◌∙◌, false, filter, rules, sym, ap}
use Rattle.std.specs.List.{list_any}
use Rattle.tr_model.specs.Tables.{ids_of}
use Rattle.tr_model.specs.declared.rows.Target.TheVariants as target
use Rattle.tr_tracee.specs.Threads.{in_group}
use Rattle.tr_queues.specs.Changes.{holds, is_flushed}
use Rattle.tr_queues.specs.Slots.{standing}
use Rattle.tr_queues.proofs.Holding.{none_held, none_of_none}
use Rattle.tr_queues.proofs.pending.Pending.may_group_hold.Goals as goal

pub returns-then-self-eq0 : goal.returns-then-self-eq0
returns-then-self-eq0 c = λ e. none_of_none (is_flushed c.args.threads.now c.args.tgid c.args.flush.now) (standing c.args.self.now.slots.items) (search rules)

pub returns : goal.returns
returns c = λ e.
    let ws = standing c.args.self.now.slots.items in
    let other : c.args.tgid ≢ 0 = search rules in
    let shared : holds c.args.flush.now (target.Group c.args.tgid) ws ≡ false = sym c.holds.ensures ∙ c.if-holds.false in
    let ids = ids_of (filter (in_group c.args.tgid) c.args.threads.now) in
    let own : list_any (λ id. holds c.args.flush.now (target.Thread id) ws) ids ≡ false
    = ap (list_any (λ id. holds c.args.flush.now (target.Thread id) ws)) (sym (c.as_slice.ensures.value ∙ c.member_ids.ensures.ids)) ∙ (sym c.threads_hold.ensures ∙ e) in
    none_held c.args.threads.now c.args.tgid c.args.flush.now ws other shared own
