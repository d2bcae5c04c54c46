-- What is found from an answer on, and what it says of the whole record.
use Rattle.std.proofs.Common.{◌≡◌, ◌<◌, ◌+◌, ◌∙◌, ℕ, suc, zero, List, [], ◌∷◌, add-one, ap, arith, drop, drop-cons, get_or, length, refl, subst, sym, Result, Ok, Err}
use Rattle.std.specs.Prelude.{take}
use Rattle.tr_model.specs.declared.replies.Refusal.{Refusal}
use Rattle.tr_model.specs.Compare.{Admitted, IsAdmitted, IsLet, IsVerdict, Lets}
use Rattle.tr_model.specs.Compare as model
use Rattle.tr_model.proofs.Compared.{answers_determine}
use Rattle.tr_kernel.specs.Heard.{HasAnswered}
use Rattle.tr_kernel.specs.States.{IsWithheld, State}
use Rattle.tr_oracle.specs.declared.verdicts.Told.{Told}
use Rattle.tr_oracle.specs.declared.verdicts.Unheard.{Unheard}
use Rattle.tr_oracle.specs.declared.verdicts.Verdict.{Verdict}
use Rattle.tr_oracle.specs.declared.verdicts.Verdict.TheVariants.{Agrees, Differs}
use Rattle.tr_oracle.specs.Verdicts.{Finds, HasGiven, record_of, told_of}

-- what is found in the answers that are left after the first so many
abbrev pub FindsFrom : ℕ → State → List model.Told → Result Verdict Unheard → State → Type 0
FindsFrom n s xs (Ok Agrees) u = IsVerdict s.table xs (Ok u.table) × HasGiven s xs u
FindsFrom n s xs (Ok (Differs k)) u = (j : ℕ) × (k ≡ n + j) × IsVerdict s.table xs (Err j) × HasGiven s (take j xs) u
FindsFrom n s xs (Err e) u = (j : ℕ) × (e.place ≡ n + j) × (j < length xs) × IsAdmitted s.table (take (suc j) xs) × HasGiven s (take j xs) u × IsWithheld u e.why

at : (k j : ℕ) → k ≡ 0 + j → j ≡ k
at k j e = omega (arith, e)

pub found_at_start : (s : State) (xs : List model.Told) (r : Result Verdict Unheard) (u : State) → FindsFrom 0 s xs r u → Finds s xs r u
found_at_start s xs (Ok Agrees) u f = f
found_at_start s xs (Ok (Differs k)) u f = subst (λ n. Finds s xs (Ok (Differs n)) u) (at k f.0 f.1) (f.2, f.3)
found_at_start s xs (Err e) u f =
    subst (λ n. (n < length xs) × IsAdmitted s.table (take (suc n) xs) × HasGiven s (take n xs) u × IsWithheld u e.why) (at e.place f.0 f.1) (f.2, f.3, f.4, f.5)

further : (k n j : ℕ) → k ≡ (n + 1) + j → k ≡ n + suc j
further k n j e = omega (arith, e)

below : (j m : ℕ) → j < m → suc j < suc m
below j m l = omega (arith, l)

-- the first answer is given, and then what is found in the rest
pub found_next : (n : ℕ) (s m : State) (x : model.Told) (xs : List model.Told) (r : Result Verdict Unheard) (u : State) →
    Lets s.table x.call x.answer m.table → HasAnswered s x.call.actor x.call.event x.answer m → FindsFrom (n + 1) m xs r u → FindsFrom n s (x ∷ xs) r u
found_next n s m x xs (Ok Agrees) u h g f = ((m.table, h, f.0), (m, h, g, f.1))
found_next n s m x xs (Ok (Differs k)) u h g f =
    let v = f.2 in
    let rest = take (suc f.0) xs in
    let beyond : IsAdmitted s.table (x ∷ rest) → ⊥ = λ a. v.2 (a.0, subst (λ N. Admitted N rest a.0) (answers_determine s.table a.1.0 m.table x.call x.answer a.1.1 h) a.1.2) in
    (suc f.0, further k n f.0 f.1, (below f.0 (length xs) v.0, (v.1.0, (m.table, h, v.1.1)), beyond), (m, h, g, f.3))
found_next n s m x xs (Err e) u h g f =
    (suc f.0, further e.place n f.0 f.1, below f.0 (length xs) f.2, (f.3.0, (m.table, h, f.3.1)), (m, h, g, f.4), f.5)

pub found_all : (n : ℕ) (s : State) → FindsFrom n s [] (Ok Agrees) s
found_all n s = (refl, refl)

here : (n : ℕ) → n ≡ n + 0
here n = omega arith

least : (m : ℕ) → 0 < suc m
least m = omega arith

-- the model doesn't let the first answer be, and nothing has changed
pub found_other : (n : ℕ) (s u : State) (x : model.Told) (xs : List model.Told) → (IsLet s.table x.call x.answer → ⊥) → u ≡ s → FindsFrom n s (x ∷ xs) (Ok (Differs n)) u
found_other n s u x xs never e = (zero, here n, (least (length xs), (s.table, refl), λ a. never (a.1.0, a.1.1)), e)

-- its entry isn't made, and nothing has changed
pub found_withheld : (n : ℕ) (s u : State) (x : model.Told) (xs : List model.Told) (why : Refusal) → IsLet s.table x.call x.answer → IsWithheld s why → u ≡ s →
    FindsFrom n s (x ∷ xs) (Err (record { place = n; why = why })) u
found_withheld n s u x xs why h w e = (zero, here n, least (length xs), (h.0, (h.0, h.1, refl)), e, subst (λ k. IsWithheld k why) (sym e) w)

pub next_told : (xs : List Told) (k : ℕ) (t : Told) → t ≡ get_or xs k t → k < length xs → record_of (drop k xs) ≡ told_of t ∷ record_of (drop (k + 1) xs)
next_told xs k t e l = ap record_of (drop-cons xs k t l ∙ (ap (λ x. x ∷ drop (suc k) xs) (sym e) ∙ ap (λ n. t ∷ drop n xs) (sym (add-one k))))
