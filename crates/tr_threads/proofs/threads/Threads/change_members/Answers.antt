use Rattle.std.proofs.Common.{◌∙◌}
use Rattle.tr_threads.specs.Changes.{thread_changed_by}
use Rattle.tr_threads.proofs.ByIds.{all_changed}
use Rattle.tr_threads.proofs.Keeping.{same_changed}
use Rattle.tr_threads.proofs.threads.Threads.change_members.Goals as goal

pub returns : goal.returns
returns c = all_changed c.args.tgid (thread_changed_by c.args.change.now) (same_changed c.args.change.now) c.args.self.now c.loop-member.self c.as_slice-member-items.result.now c.loop-member.member-index c.member_ids-ids.ensures.once (c.as_slice-member-items.ensures.value ∙ c.member_ids-ids.ensures.ids) c.loop-member-test.false c.loop-member.invariant
