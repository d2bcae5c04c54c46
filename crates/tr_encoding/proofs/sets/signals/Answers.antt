use Rattle.std.proofs.Common.{◌≡◌, ℕ, arith, map, subst}
use Rattle.serde_json.specs.View.{view}
use Rattle.tr_encoding.specs.Sets.{number_list, signals_to}
use Rattle.tr_encoding.proofs.sets.signals.Goals as goal

pub returns-clause-members : goal.returns-clause-members
returns-clause-members c =
    let all : c.loop-place.place ≡ 64 = omega arith in
    subst (λ (n : ℕ). map view c.loop-place.values.items ≡ number_list (signals_to n c.args.set)) all c.loop-place.invariant
