use Rattle.std.proofs.Common.{◌≡◌, drop}
use Rattle.serde_json.specs.View.{items_view}
use Rattle.tr_mistakes.specs.Parts.{refused_member}
use Rattle.tr_mistakes.proofs.lists.push_refused_member.Given as goal

abbrev pub invariant-loop-index : goal.invariant-loop-index
invariant-loop-index g l = record {
  page : l.page ≡ l.fn.page;
  rest : refused_member g.T.FromJson.reads g.T.Mistaken.mistake l.index (items_view (drop l.index l.values)) ≡ refused_member g.T.FromJson.reads g.T.Mistaken.mistake 0 (items_view l.values);
}
