use Rattle.std.proofs.Common.{◌∙◌, ◌==◌, ℕ, List, not, ap, sym}
use Rattle.std.specs.List.{list_any}
use Rattle.tr_tracee.specs.declared.thread.Thread.{Thread}
use Rattle.tr_threads.specs.Waits.{is_untraced_death}
use Rattle.tr_threads.proofs.Counting.{any_counted}
use Rattle.tr_threads.proofs.threads.Threads.has_untraced_deaths.Goals as goal

pub returns : goal.returns
returns c =
    ap (λ (n : ℕ). not (n == 0)) c.self.invariant.traced.untraced_deaths
    ∙ (sym (any_counted is_untraced_death c.self.inside.list.items) ∙ ap (λ (ts : List Thread). list_any is_untraced_death ts) c.self.view_is)
