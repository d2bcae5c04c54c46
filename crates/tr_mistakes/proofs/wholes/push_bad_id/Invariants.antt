use Rattle.std.proofs.Common.{◌≡◌, drop}
use Rattle.tr_mistakes.specs.Wholes.{bad_id, first_bad, is_good_thread}
use Rattle.tr_mistakes.proofs.wholes.push_bad_id.Given as goal

abbrev pub invariant-loop-index : goal.invariant-loop-index
invariant-loop-index l = record {
  page : l.page ≡ l.fn.page;
  rest : first_bad is_good_thread bad_id l.index (drop l.index l.threads) ≡ first_bad is_good_thread bad_id 0 l.threads;
}
