use Rattle.std.proofs.Common.{◌≡◌, drop}
use Rattle.tr_mistakes.specs.Wholes.{bad_ids, first_bad, has_good_ids}
use Rattle.tr_mistakes.proofs.wholes.push_bad_ids.Given as goal

abbrev pub invariant-loop-index : goal.invariant-loop-index
invariant-loop-index l = record {
  page : l.page ≡ l.fn.page;
  rest : first_bad has_good_ids bad_ids l.index (drop l.index l.groups) ≡ first_bad has_good_ids bad_ids 0 l.groups;
}
