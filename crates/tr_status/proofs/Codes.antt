-- Actions as numbers of their own, compared with one at once.
use Rattle.std.proofs.Common.{◌≡◌, ◌∙◌, ℕ, ◌+◌, ◌-◌, ◌<◌, ◌≤◌, ◌++◌, ◌∷◌, ◌==◌, ◌&&◌, ◌%◌, ◌^◌, [], List, Bool, true, false, cond, arith, ap, sym, refl, length, map, nat_le, replicate, set, take, get_or, lit≤}
use Rattle.std.specs.Int.{bit_at, w8}
use Rattle.std.proofs.lemmas.List.{get_or-map, length-map, map_more, take_all, take_more_set}
use Rattle.std.proofs.lemmas.Simd.{bit_mask_l, bitmask_splat, map-map}
use lib.Lanes.{mask_l, top, zip2}
use Rattle.tr_group.specs.declared.stops.Action.{Action}
use Rattle.tr_group.specs.declared.stops.Action.TheVariants.{Default, Ignore, Catch}
use Rattle.tr_sigset.specs.Sets.{in_word}
use Rattle.tr_status.specs.Private.{code_of}
use Rattle.tr_status.specs.Statuses.{has_action, same_action}

-- one more is written
pub coded_more : (actions : List Action) (codes : List ℕ) (k r : ℕ) (d : Action) → take k codes ≡ map code_of (take k actions) → r ≡ code_of (get_or actions k d) → k < length codes → k < length actions
    → take (k + 1) (set codes k r) ≡ map code_of (take (k + 1) actions)
coded_more actions codes k r d before is in_codes in_as =
    take_more_set codes k r in_codes ∙ ap (λ v. v ++ r ∷ []) before ∙ ap (λ x. map code_of (take k actions) ++ x ∷ []) is ∙ sym (map_more code_of actions k d in_as)

pub coded_all : (actions : List Action) (codes : List ℕ) (k : ℕ) → take k codes ≡ map code_of (take k actions) → length codes ≤ k → length actions ≤ k → codes ≡ map code_of actions
coded_all actions codes k e in_codes in_as =
    sym (take_all k codes in_codes) ∙ e ∙ ap (map code_of) (take_all k actions in_as)

-- two actions are the same where their numbers are
same_code : (a b : Action) → (code_of b == code_of a) ≡ same_action a b
same_code Default Default = refl
same_code Default Ignore = refl
same_code Default Catch = refl
same_code Ignore Default = refl
same_code Ignore Ignore = refl
same_code Ignore Catch = refl
same_code Catch Default = refl
same_code Catch Ignore = refl
same_code Catch Catch = refl

member_at : (wanted : Action) (actions : List Action) (i : ℕ) → i < length actions → get_or (map (λ x. x == code_of wanted) (map code_of actions)) i false ≡ same_action wanted (get_or actions i Default)
member_at wanted actions i h =
    ap (λ l. get_or l i false) (map-map (λ x. x == code_of wanted) code_of actions)
    ∙ get_or-map (λ a. code_of a == code_of wanted) actions i Default false h
    ∙ same_code wanted (get_or actions i Default)

bit_is : (b : Bool) → (cond b 1 0 == 1) ≡ b
bit_is true = refl
bit_is false = refl

within : (n : ℕ) (p q : Bool) → (1 ≤ n → n ≤ 64 → p ≡ q) → ((nat_le 1 n && nat_le n 64) && p) ≡ ((nat_le 1 n && nat_le n 64) && q)
within n p q e = grind (arith, e)

-- the comparison of the numbers, as lanes make it
pub compared : (wanted : Action) (actions : List Action) (codes : List ℕ) (code : ℕ) → codes ≡ map code_of actions → code ≡ code_of wanted → length actions ≡ 64
    → mask_l (map (top 7) (zip2 (λ a b. cond (a == b) (2 ^ 8 - 1) 0) codes (replicate 64 code))) % 2 ^ 64 ≡ mask_l (map (λ x. x == code_of wanted) (map code_of actions))
compared wanted actions codes code e f h =
    bitmask_splat w8 (λ a b. a == b) codes 64 code (ap length e ∙ length-map actions code_of ∙ h) (lit≤ tt)
    ∙ ap (λ l. mask_l (map (λ x. x == code) l)) e
    ∙ ap (λ k. mask_l (map (λ x. x == k) (map code_of actions))) f

-- the word of the comparison has the signals with the action
pub members : (wanted : Action) (actions : List Action) (n : ℕ) → length actions ≡ 64
    → in_word (mask_l (map (λ x. x == code_of wanted) (map code_of actions))) n ≡ has_action wanted actions n
unfolding in_word
members wanted actions n e =
    within n (bit_at (mask_l (map (λ x. x == code_of wanted) (map code_of actions))) (n - 1) == 1) (same_action wanted (get_or actions (n - 1) Default))
    (λ low high.
    ap (λ b. b == 1) (bit_mask_l (map (λ x. x == code_of wanted) (map code_of actions)) (n - 1))
    ∙ bit_is (get_or (map (λ x. x == code_of wanted) (map code_of actions)) (n - 1) false)
    ∙ member_at wanted actions (n - 1) (omega (arith, e, low, high)))
