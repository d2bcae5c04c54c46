use Rattle.std.proofs.Common.{◌∙◌, ◌==◌, ℕ, not, ap, sym}
use Rattle.tr_tracee.specs.Threads.{in_group}
use Rattle.tr_threads.proofs.Counting.{any_counted}
use Rattle.tr_threads.proofs.threads.Threads.has_member.Goals as goal

pub returns : goal.returns
returns c = ap (λ (n : ℕ). not (n == 0)) c.count_members.ensures ∙ sym (any_counted (in_group c.args.tgid) c.args.self.now)
