use Rattle.std.proofs.Common.{◌≡◌, drop}
use Rattle.tr_starts.specs.Starts.{is_good_group}
use Rattle.tr_mistakes.specs.Wholes.{bad_group, first_bad}
use Rattle.tr_mistakes.proofs.wholes.push_bad_groups.Given as goal

abbrev pub invariant-loop-index : goal.invariant-loop-index
invariant-loop-index l = record {
  page : l.page ≡ l.fn.page;
  rest : first_bad is_good_group bad_group l.index (drop l.index l.groups) ≡ first_bad is_good_group bad_group 0 l.groups;
}
