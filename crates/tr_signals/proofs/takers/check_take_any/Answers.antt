use Rattle.std.proofs.Common.{◌≡◌, ◌∙◌, Some, None, ap, is_some, option_copied, sym, true}
use Rattle.std.specs.List.{find}
use Rattle.tr_model.specs.Preferred.{best_for}
use Rattle.tr_model.specs.Tables.{group_of, members}
use Rattle.tr_model.specs.Takes.{can_take}
use Rattle.tr_signals.proofs.TakingAny.{answer_in, check_is}
use Rattle.tr_signals.proofs.takers.check_take_any.Goals as goal

pub returns-in-Some-taker : goal.returns-in-Some-taker
returns-in-Some-taker c = λ a.
    let T = c.args.table.now.table in
    let g = c.args.tgid in
    let there : is_some (group_of T g) ≡ true = sym c.taker_in.ensures.there ∙ ap is_some c.in-Some.is in
    let first : find (can_take T) (members T g) ≡ Some c.in-Some-taker.thread.now = sym c.in-Some.ensures.taker ∙ ap option_copied c.in-Some-taker.is in
    let h = check_is T a g ∙ (ap (λ b. answer_in T b (find (can_take T) (members T g))) there ∙ ap (answer_in T true) first) in
    rw (c.taking_by.ensures (best_for T c.in-Some-taker.thread.now) c.best_number_for.ensures) (sym h)

pub returns-in-None : goal.returns-in-None
returns-in-None c = λ a.
    let T = c.args.table.now.table in
    let g = c.args.tgid in
    let there : is_some (group_of T g) ≡ true = sym c.taker_in.ensures.there ∙ ap is_some c.in-Some.is in
    let first : find (can_take T) (members T g) ≡ None = sym c.in-Some.ensures.taker ∙ ap option_copied c.in-None.is in
    sym (check_is T a g ∙ (ap (λ b. answer_in T b (find (can_take T) (members T g))) there ∙ ap (answer_in T true) first))
