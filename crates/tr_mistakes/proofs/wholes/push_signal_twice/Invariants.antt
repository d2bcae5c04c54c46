use Rattle.std.proofs.Common.{◌≡◌, drop}
use Rattle.tr_mistakes.specs.Wholes.{actions_mistake, acts_once, first_bad}
use Rattle.tr_mistakes.proofs.wholes.push_signal_twice.Given as goal

abbrev pub invariant-loop-index : goal.invariant-loop-index
invariant-loop-index l = record {
  page : l.page ≡ l.fn.page;
  rest : first_bad acts_once actions_mistake l.index (drop l.index l.groups) ≡ first_bad acts_once actions_mistake 0 l.groups;
}
