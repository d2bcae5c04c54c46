use Rattle.std.proofs.Common.{◌≡◌, drop, map}
use Rattle.serde_json.specs.View.{view}
use Rattle.tr_mistakes.specs.Events.{fields_mistake}
use Rattle.tr_mistakes.proofs.events.push_fields_mistake.Given as goal

abbrev pub invariant-loop-key : goal.invariant-loop-key
invariant-loop-key l = record {
  page : l.page ≡ l.fn.page;
  rest : fields_mistake (map (λ k. k.now) (drop l.key-index l.keys)) (view l.object) ≡ fields_mistake (map (λ k. k.now) l.keys) (view l.object);
}
