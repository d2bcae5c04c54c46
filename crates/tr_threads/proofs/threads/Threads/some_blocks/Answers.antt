use Rattle.std.proofs.Common.{◌∙◌, ℕ, List, ap, filter}
use Rattle.std.specs.List.{list_any}
use Rattle.tr_sigset.specs.Sets.{in_word}
use Rattle.tr_tracee.specs.Threads.{in_group}
use Rattle.tr_threads.specs.Rosters.{RosterView}
use Rattle.tr_threads.proofs.RowWords.{some_block}
use Rattle.tr_threads.proofs.threads.Threads.some_blocks.Goals as goal

pub returns-in-Some : goal.returns-in-Some
returns-in-Some c =
    let n = c.args.signal in
    c.some_holds.ensures
    ∙ (ap (λ (words : List ℕ). list_any (λ word. in_word word n) words) (c.blocked.ensures.words ∙ ap (λ (r : RosterView). r.blocked) c.in-Some.ensures)
    ∙ some_block n (filter (in_group c.args.tgid) c.args.self.now))
