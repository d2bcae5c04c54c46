-- Sets of signals with the same members.
use Rattle.std.proofs.Common.{◌≡◌, ℕ, zero, suc, ◌+◌, ◌-◌, ◌*◌, ◌&&◌, Bool, [], nat_le, ap, refl, replicate, slice_index_or}
use Rattle.tr_lanes.proofs.Nibbles.{cons}
use Rattle.tr_lanes.specs.Digits.{digit_text, digit_value, set_digits}
use Rattle.tr_group.specs.declared.stops.Action.{Action}
use Rattle.tr_group.specs.declared.stops.Action.TheVariants.{Default}
use Rattle.tr_status.specs.Statuses.{has_action, same_action}

-- digits

module _ (p q : ℕ → Bool) (same : (n : ℕ) → p n ≡ q n) where
  same_digit : (k : ℕ) → digit_text (digit_value p k) ≡ digit_text (digit_value q k)
  same_digit k = rw (same (4 * k + 4), same (4 * k + 3), same (4 * k + 2), same (4 * k + 1)) refl

  pub same_digits : set_digits p ≡ set_digits q
  same_digits = cons (same_digit 15) (cons (same_digit 14) (cons (same_digit 13) (cons (same_digit 12) (cons (same_digit 11) (cons (same_digit 10) (cons (same_digit 9) (cons (same_digit 8) (cons (same_digit 7) (cons (same_digit 6) (cons (same_digit 5) (cons (same_digit 4) (cons (same_digit 3) (cons (same_digit 2) (cons (same_digit 1) (cons (same_digit 0) refl)))))))))))))))

-- where there is no group each action is the default one
defaults : (k i : ℕ) → slice_index_or (replicate k Default) i Default ≡ Default
defaults zero i = refl
defaults (suc k) zero = refl
defaults (suc k) (suc i) = defaults k i

pub of_defaults : (wanted : Action) (k n : ℕ) → has_action wanted (replicate k Default) n ≡ has_action wanted [] n
of_defaults wanted k n = ap (λ a. (nat_le 1 n && nat_le n 64) && same_action wanted a) (defaults k (n - 1))
