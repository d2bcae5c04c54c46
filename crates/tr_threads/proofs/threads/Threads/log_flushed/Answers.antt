use Rattle.std.proofs.Common.{◌∙◌, ◌+◌, ◌++◌, ◌≤◌, append-nil, arith, length, vec_len, ap, refl, sym}
use Rattle.tr_threads.specs.Changes.{thread_changed_by}
use Rattle.tr_threads.specs.Held.{held_count}
use Rattle.tr_threads.proofs.Helds.{ends_of_all, few_held, held_among}
use Rattle.tr_threads.proofs.threads.Threads.log_flushed.Goals as goal

pub loop-member-init : goal.loop-member-init
loop-member-init c =
    let ts = c.args.self.now in
    let h : held_among ts c.as_slice-member-items.result.now ≤ held_count ts = rw (c.as_slice-member-items.ensures.value, c.member_ids-ids.ensures.ids) (few_held c.args.tgid ts c.member_ids-ids.ensures.once) in
    (sym (append-nil c.args.ended.now.items), omega arith, omega (arith, h, c.requires), refl)

pub returns-clause-items : goal.returns-clause-items
returns-clause-items c =
    c.loop-member.invariant.0
    ∙ ap (λ es. c.args.ended.now.items ++ es) (ends_of_all (thread_changed_by c.args.change.now) c.args.tgid c.args.self.now c.as_slice-member-items.result.now c.loop-member.member-index c.member_ids-ids.ensures.once (c.as_slice-member-items.ensures.value ∙ c.member_ids-ids.ensures.ids) c.loop-member-test.false)

pub returns-clause-len : goal.returns-clause-len
returns-clause-len c =
    c.loop-member.invariant.1
    ∙ ap (λ es. vec_len c.args.ended.now + length es) (ends_of_all (thread_changed_by c.args.change.now) c.args.tgid c.args.self.now c.as_slice-member-items.result.now c.loop-member.member-index c.member_ids-ids.ensures.once (c.as_slice-member-items.ensures.value ∙ c.member_ids-ids.ensures.ids) c.loop-member-test.false)
