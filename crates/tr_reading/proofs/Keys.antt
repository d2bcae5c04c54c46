-- The keys of an object, as the program's map has them.
use Rattle.std.proofs.Common.{◌≡◌, ◌≢◌, List, [], ◌∷◌, ◌++◌, ◌||◌, ℕ, Bool, true, false, ap, length, refl, map, Bor}
use Rattle.std.proofs.lemmas.Slice.Eq.{bytes_eq-Decides}
use Rattle.std.proofs.lemmas.List.Folds.{list_any-append}
use Rattle.std.specs.Prelude.{String, string_bytes}
use Rattle.std.specs.declared.alloc.Global.{Global}
use Rattle.std.specs.List.{list_all, list_any}
use Rattle.std.specs.Map.{keys_of}
use Rattle.std.specs.Str.{bytes_eq}
use Rattle.serde_json.specs.declared.value.Value.{Value}
use Rattle.serde_json.specs.View.{members_view}
use Rattle.tr_index.proofs.Mapped.{any_mapped}
use Rattle.tr_reading.specs.Fields.{keys_among}

-- texts of two lengths differ
pub other_length : (xs ys : List ℕ) → length xs ≢ length ys → bytes_eq xs ys ≡ false
other_length xs ys n = by (bytes_eq xs ys) refl
  where
    by : (b : Bool) → bytes_eq xs ys ≡ b → bytes_eq xs ys ≡ false
    by true e = absurd (n (ap length ((bytes_eq-Decides xs ys).0 e)))
    by false e = e

pub keys_among_view : (names fields : List (Bor (List ℕ))) (ms : List (String Global × Value)) →
    keys_among (map (λ n. n.now) names ++ map (λ n. n.now) fields) (members_view ms) ≡ list_all (λ k. list_any (λ n. bytes_eq n.now (string_bytes k)) names || list_any (λ n. bytes_eq n.now (string_bytes k)) fields) (keys_of ms)
keys_among_view names fields [] = refl
keys_among_view names fields (m ∷ ms) =
    rw (list_any-append (λ n. bytes_eq n (string_bytes m.0)) (map (λ n. n.now) names) (map (λ n. n.now) fields), any_mapped (λ n. bytes_eq n (string_bytes m.0)) (λ n. n.now) names, any_mapped (λ n. bytes_eq n (string_bytes m.0)) (λ n. n.now) fields, keys_among_view names fields ms) refl
