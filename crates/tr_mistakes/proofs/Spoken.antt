-- What is told, from its parts.
use Rattle.std.proofs.Common.{◌≡◌, ◌∙◌, ◌+◌, ◌<◌, ◌≤◌, ◌==◌, ◌||◌, ℕ, List, [], ◌∷◌, ◌++◌, Bool, true, false, not, Option, Some, None, Result, Ok, Err, ◌⊎◌, inl, inr, IfOk, OnOk, ap, append_assoc, append-nil, drop, get_or, if◌then◌else◌, length, map, refl, subst, sym, take, Bor}
use Rattle.std.proofs.lemmas.List.Folds.{list_any-append}
use Rattle.std.proofs.lemmas.List.{at_drop_more, drop_all, drop_more, take_more}
use Rattle.std.specs.Prelude.{String, find, is_err, string_bytes}
use Rattle.std.specs.declared.alloc.AllocError.{AllocError}
use Rattle.std.specs.declared.alloc.Global.{Global}
use Rattle.std.specs.List.{list_any}
use Rattle.std.specs.Map.{keys_of}
use Rattle.std.specs.Str.{bytes_eq}
use Rattle.serde_json.specs.declared.value.Value.{Value}
use Rattle.serde_json.specs.Data.{Data}
use Rattle.serde_json.specs.Find.{as_object}
use Rattle.serde_json.specs.View.{items_view, members_view, view}
use Rattle.tr_index.proofs.Mapped.{any_mapped}
use Rattle.tr_status.specs.Texts.{texts}
use Rattle.tr_reading.specs.declared.faults.ScenarioFault.{ScenarioFault}
use Rattle.tr_reading.specs.declared.faults.ScenarioFault.TheVariants.{BadField, BadSignal, BadStart, NoMemory, NotJson, ReadFault, Repeated, TooLarge, Unsettled, WriteFault}
use Rattle.tr_reading.specs.Fields.{Gives}
use Rattle.tr_mistakes.specs.Parts.{index_part, keys_mistake, keys_mistake_of, refused_member, unknown_among, unknown_key}
use Rattle.tr_mistakes.specs.Private.{refusal, told_key}
use Rattle.tr_mistakes.specs.Wholes.{again, first_bad}

-- Readings

other : {Y : Type 0} (s : Result Y ScenarioFault) (e : ScenarioFault) (b : Result Bool AllocError) → (e ≡ NoMemory → ⊥) → (e ≡ NoMemory) ⊎ (s ≡ Err e) → b ≡ Ok true → IfOk b (λ c. c ≡ is_err s)
other s e b n (inl m) is = absurd (n m)
other s e b n (inr h) is = rw (is, h) refl

-- a reading is refused where it gives no value
pub by_reading : {X Y : Type 0} (f : X → Y) (r : Result X ScenarioFault) (s : Result Y ScenarioFault) (b : Result Bool AllocError) → Gives f r s → b ≡ refusal r → IfOk b (λ c. c ≡ is_err s)
by_reading f (Ok x) s b h is = rw (is, h) refl
by_reading f (Err NoMemory) s b h is = rw is tt
by_reading f (Err NotJson) s b h is = other s NotJson b (λ m. cc) h is
by_reading f (Err BadField) s b h is = other s BadField b (λ m. cc) h is
by_reading f (Err BadSignal) s b h is = other s BadSignal b (λ m. cc) h is
by_reading f (Err TooLarge) s b h is = other s TooLarge b (λ m. cc) h is
by_reading f (Err Repeated) s b h is = other s Repeated b (λ m. cc) h is
by_reading f (Err BadStart) s b h is = other s BadStart b (λ m. cc) h is
by_reading f (Err Unsettled) s b h is = other s Unsettled b (λ m. cc) h is
by_reading f (Err ReadFault) s b h is = other s ReadFault b (λ m. cc) h is
by_reading f (Err WriteFault) s b h is = other s WriteFault b (λ m. cc) h is

pub decided : {X Y : Type 0} (f : X → Y) (r : Result X ScenarioFault) (s : Result Y ScenarioFault) (b : Result Bool AllocError) (v : Bool) → Gives f r s → b ≡ refusal r → b ≡ Ok v → is_err s ≡ v
decided f r s b v h is was = sym (subst (λ x. IfOk x (λ c. c ≡ is_err s)) was (by_reading f r s b h is))

-- of two readings the first isn't refused, and the second is
pub second : (old new a b c : List ℕ) (p q : Bool) → p ≡ false → q ≡ true → new ≡ old ++ b → new ≡ old ++ (if p then a else if q then b else c)
second old new a b c p q h k is = is ∙ (λ i. old ++ (if sym h i then a else if sym k i then b else c))

-- neither is
pub further : (old new a b c : List ℕ) (p q : Bool) → p ≡ false → q ≡ false → new ≡ old ++ c → new ≡ old ++ (if p then a else if q then b else c)
further old new a b c p q h k is = is ∙ (λ i. old ++ (if sym h i then a else if sym k i then b else c))

pub on_ok : {X E P Q : Type 0} (r : Result X E) → (P → Q) → OnOk r P → OnOk r Q
on_ok (Ok x) f h = f h
on_ok (Err e) f h = tt

pub as_not : (b c : Bool) → not b ≡ c → b ≡ not c
as_not true c h = ap not h
as_not false c h = ap not h

-- Texts

pub three : (old first second new a b c : List ℕ) → first ≡ old ++ a → second ≡ first ++ b → new ≡ second ++ c → new ≡ old ++ texts (a ∷ b ∷ c ∷ [])
three old first second new a b c h1 h2 h3 =
    h3
    ∙ ap (λ p. p ++ c) (h2 ∙ ap (λ p. p ++ b) h1)
    ∙ append_assoc (old ++ a) b c
    ∙ append_assoc old a (b ++ c)
    ∙ ap (λ t. old ++ (a ++ (b ++ t))) (sym (append-nil c))

pub three_ok : {X : Type 0} (r : Result X AllocError) (old first second new a b c : List ℕ) → first ≡ old ++ a → second ≡ first ++ b → OnOk r (new ≡ second ++ c) → OnOk r (new ≡ old ++ texts (a ∷ b ∷ c ∷ []))
three_ok (Ok x) old first second new a b c h1 h2 h3 = three old first second new a b c h1 h2 h3
three_ok (Err e) old first second new a b c h1 h2 h3 = tt

-- Keys

pub unknown_view : (names fields : List (Bor (List ℕ))) (ms : List (String Global × Value)) →
    unknown_among (map (λ n. n.now) names ++ map (λ n. n.now) fields) (members_view ms) ≡ told_key (find (λ k. not (list_any (λ n. bytes_eq n.now (string_bytes k)) names || list_any (λ n. bytes_eq n.now (string_bytes k)) fields)) (keys_of ms))
unknown_view names fields [] = refl
unknown_view names fields (m ∷ ms) =
    rw (list_any-append (λ n. bytes_eq n (string_bytes m.0)) (map (λ n. n.now) names) (map (λ n. n.now) fields), any_mapped (λ n. bytes_eq n (string_bytes m.0)) (λ n. n.now) names, any_mapped (λ n. bytes_eq n (string_bytes m.0)) (λ n. n.now) fields, unknown_view names fields ms)
    (go (list_any (λ n. bytes_eq n.now (string_bytes m.0)) names || list_any (λ n. bytes_eq n.now (string_bytes m.0)) fields) (find (λ k. not (list_any (λ n. bytes_eq n.now (string_bytes k)) names || list_any (λ n. bytes_eq n.now (string_bytes k)) fields)) (keys_of ms)))
  where
    go : (b : Bool) (more : Option (String Global)) → (if b then told_key more else unknown_key (string_bytes m.0)) ≡ told_key (if not b then Some m.0 else more)
    go true more = refl
    go false more = refl

pub key_told : {X E : Type 0} (r : Result X E) (old new text : List ℕ) (names fields : List (Bor (List ℕ))) (d : Data) (ms : List (String Global × Value)) (k : String Global) →
    OnOk r (new ≡ old ++ unknown_key text) → text ≡ string_bytes k → Some k ≡ find (λ k. not (list_any (λ n. bytes_eq n.now (string_bytes k)) names || list_any (λ n. bytes_eq n.now (string_bytes k)) fields)) (keys_of ms) →
    Some (members_view ms) ≡ as_object d → OnOk r (new ≡ old ++ keys_mistake (map (λ n. n.now) names ++ map (λ n. n.now) fields) d)
key_told (Ok x) old new text names fields d ms k h is found obj =
    h ∙ ap (λ t. old ++ unknown_key t) is ∙ ap (λ t. old ++ t) (ap told_key found ∙ sym (unknown_view names fields ms) ∙ ap (keys_mistake_of (map (λ n. n.now) names ++ map (λ n. n.now) fields)) obj)
key_told (Err e) old new text names fields d ms k h is found obj = tt

pub no_key_told : (old : List ℕ) (names fields : List (Bor (List ℕ))) (d : Data) (ms : List (String Global × Value)) →
    None ≡ find (λ k. not (list_any (λ n. bytes_eq n.now (string_bytes k)) names || list_any (λ n. bytes_eq n.now (string_bytes k)) fields)) (keys_of ms) →
    Some (members_view ms) ≡ as_object d → old ≡ old ++ keys_mistake (map (λ n. n.now) names ++ map (λ n. n.now) fields) d
no_key_told old names fields d ms found obj =
    sym (append-nil old) ∙ ap (λ t. old ++ t) (ap told_key found ∙ sym (unknown_view names fields ms) ∙ ap (keys_mistake_of (map (λ n. n.now) names ++ map (λ n. n.now) fields)) obj)

-- Lists

left : {A : Type 0} (xs : List A) (i : ℕ) (x : A) → i < length xs → get_or xs i x ≡ x → drop i xs ≡ x ∷ drop (i + 1) xs
left xs i x h e = drop_more xs i x h ∙ ap (λ y. y ∷ drop (i + 1) xs) e

pub member_left : {A : Type 0} (read : Data → Result A ScenarioFault) (mistake : Data → List ℕ) (vs : List Value) (i : ℕ) (v : Value) → i < length vs → get_or vs i v ≡ v →
    refused_member read mistake i (items_view (drop i vs)) ≡ (if is_err (read (view v)) then index_part i ++ mistake (view v) else refused_member read mistake (i + 1) (items_view (drop (i + 1) vs)))
member_left read mistake vs i v h e = ap (λ xs. refused_member read mistake i (items_view xs)) (left vs i v h e)

pub bad_left : {A : Type 0} (good : A → Bool) (mistake : A → List ℕ) (xs : List A) (i : ℕ) (x : A) → i < length xs → get_or xs i x ≡ x →
    first_bad good mistake i (drop i xs) ≡ (if good x then first_bad good mistake (i + 1) (drop (i + 1) xs) else index_part i ++ mistake x)
bad_left good mistake xs i x h e = ap (first_bad good mistake i) (left xs i x h e)

pub again_left : (ns : List ℕ) (i : ℕ) → i < length ns → again (take i ns) (drop i ns) ≡ (if list_any (λ m. m == get_or ns i 0) (take i ns) then Some (get_or ns i 0) else again (take (i + 1) ns) (drop (i + 1) ns))
again_left ns i h =
    at_drop_more (again (take i ns)) ns i 0 h
    ∙ ap (λ t. if list_any (λ m. m == get_or ns i 0) (take i ns) then Some (get_or ns i 0) else again t (drop (i + 1) ns)) (sym (take_more ns i 0 h))

-- after the last of them
pub member_end : {A : Type 0} (read : Data → Result A ScenarioFault) (mistake : Data → List ℕ) (vs : List Value) (i : ℕ) → length vs ≤ i → refused_member read mistake i (items_view (drop i vs)) ≡ []
member_end read mistake vs i h = ap (λ xs. refused_member read mistake i (items_view xs)) (drop_all i vs h)

pub bad_end : {A : Type 0} (good : A → Bool) (mistake : A → List ℕ) (xs : List A) (i : ℕ) → length xs ≤ i → first_bad good mistake i (drop i xs) ≡ []
bad_end good mistake xs i h = ap (first_bad good mistake i) (drop_all i xs h)

-- the words on the first that is refused, as they were pushed
pub told_at : {X E : Type 0} (r : Result X E) (b : Bool) (old page first new place words whole more : List ℕ) →
    page ≡ old → first ≡ page ++ place → OnOk r (new ≡ first ++ words) → b ≡ true → (if b then place ++ words else more) ≡ whole → OnOk r (new ≡ old ++ whole)
told_at (Ok x) b old page first new place words whole more same h1 h2 is w =
    h2 ∙ ap (λ p. p ++ words) (h1 ∙ ap (λ p. p ++ place) same) ∙ append_assoc old place words ∙ ap (λ t. old ++ t) (sym (ap (λ c. if c then place ++ words else more) is) ∙ w)
told_at (Err e) b old page first new place words whole more same h1 h2 is w = tt
