use Rattle.std.proofs.Common.{◌∙◌, ◌==◌, ◌||◌, ℕ, List, Bool, Option, true, ap}
use Rattle.std.specs.List.{list_all}
use Rattle.std.specs.Option.{option_map_or}
use Rattle.tr_tracee.specs.declared.thread.Thread.{Thread}
use Rattle.tr_tracee.specs.Lives.{is_dead}
use Rattle.tr_model.specs.Tables.{thread_in}
use Rattle.tr_threads.proofs.ByIds.{all_found}
use Rattle.tr_threads.proofs.threads.Threads.others_dead.Goals as goal

pub returns : goal.returns
returns c =
    let ts = c.args.self.now in
    let g = c.args.tgid in
    let q : Option Thread → Bool = λ o. option_map_or (λ (t : Thread). t.id == c.args.id || is_dead t.life) o true in
    c.all_are_or_are_dead.ensures ∙ (ap (λ (ns : List ℕ). list_all (λ n. q (thread_in ts n)) ns) c.ids_in.ensures.ids ∙ all_found q g ts c.ids_in.ensures.once)
