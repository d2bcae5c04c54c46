-- Lists that are read item by item.
use Rattle.std.proofs.Common.{◌≡◌, List, [], ◌∷◌, ◌++◌, refl, length, Result, Ok, arith}
use Rattle.serde_json.specs.View.{items_view}
use Rattle.serde_json.specs.declared.value.Value.{Value}
use Rattle.tr_reading.specs.declared.faults.ScenarioFault.{ScenarioFault}
use Rattle.tr_reading.specs.Fields.{◌>>=◌}
use Rattle.tr_reading.specs.Steps.{count_of}

-- what was read before, and then this
abbrev pub with_front : {A : Type 0} → List A → Result (List A) ScenarioFault → Result (List A) ScenarioFault
with_front front read = read >>= λ xs. Ok (front ++ xs)

pub count_of_view : (vs : List Value) → count_of (items_view vs) ≡ length vs
count_of_view [] = refl
count_of_view (v ∷ vs) = rw (count_of_view vs) (omega arith)
