-- Calls are made into objects one after the other.
use Rattle.std.proofs.Common.{◌≡◌, ◌<◌, ◌+◌, ◌∙◌, ℕ, List, [], ◌∷◌, ◌++◌, All, ap, get_or, length, map, subst, sym, take}
use Rattle.std.proofs.lemmas.Grind.{take_at_read}
use Rattle.std.proofs.lemmas.List.{map-append}
use Rattle.std.proofs.lemmas.List.Elements.{All-push}
use Rattle.serde_json.specs.View.{view}
use Rattle.serde_json.specs.declared.value.Value.{Value}
use Rattle.tr_model.specs.Runs.{Call}
use Rattle.tr_encoding.specs.Calls.{IsReadBack, call_data}

abbrev Made : List Value → List Call → Type 0
Made vs cs = (map view vs ≡ map call_data cs) × All IsReadBack cs

pub made_more : (cs : List Call) (i : ℕ) (c : Call) (vs new : List Value) (v : Value) → i < length cs → c ≡ get_or cs i c → Made vs (take i cs) → new ≡ vs ++ v ∷ [] → view v ≡ call_data c → IsReadBack c → Made new (take (i + 1) cs)
made_more cs i c vs new v h at made is value back =
    let grown : take (i + 1) cs ≡ take i cs ++ c ∷ [] = (take_at_read cs i c h).1 ∙ ap (λ (x : Call). take i cs ++ x ∷ []) (sym at) in
    let values : map view new ≡ map call_data (take i cs ++ c ∷ []) =
    ap (map view) is ∙ map-append view vs (v ∷ []) ∙ ap (λ xs. xs ++ view v ∷ []) made.0 ∙ ap (λ x. map call_data (take i cs) ++ x ∷ []) value ∙ sym (map-append call_data (take i cs) (c ∷ [])) in
    subst (Made new) (sym grown) (values, All-push IsReadBack (take i cs) c made.1 back)
