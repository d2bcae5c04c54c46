-- The tests that derives write are those that specs name.
use Rattle.std.proofs.Common.{◌≡◌, ℕ, Bool, true, false, ◌&&◌, ◌==◌, refl, ap, ◌∙◌, arith}
use Rattle.std.proofs.lemmas.Bool.{eq-eqb, eqb-true}
use Rattle.std.proofs.lemmas.Bool.Decides.{nat_tests}
use Rattle.tr_model.specs.contracts.rows.TargetPartialEq.TheImpl as target_test
use Rattle.tr_model.specs.declared.rows.Target.{Target}
use Rattle.tr_model.specs.declared.rows.Target.TheVariants as target
use Rattle.tr_model.specs.Tables.{same_target}
use Rattle.tr_queues.specs.contracts.lines.LineKeyPartialEq.TheImpl as key_test
use Rattle.tr_queues.specs.declared.lines.LineKey.{LineKey}
use Rattle.tr_model.specs.declared.rows.Waiting.{Waiting}
use Rattle.tr_queues.specs.Lines.{is_key, same_key}
use Rattle.tr_queues.specs.Queues.{is_one}

pub both_ways : (a b : ℕ) → (a == b) ≡ (b == a)
both_ways a b = grind (arith, nat_tests)

target_eq : (a b : Target) → target_test.ghosts.eq a b ≡ same_target a b
target_eq (target.Thread a) (target.Thread b) = refl
target_eq (target.Group a) (target.Group b) = refl
target_eq (target.Thread a) (target.Group b) = refl
target_eq (target.Group a) (target.Thread b) = refl

key_eq : (a b : LineKey) → key_test.ghosts.eq a b ≡ same_key a b
key_eq a b = ap (λ t. t && (a.signal == b.signal)) (target_eq a.target b.target)

pub by_target : target_test.ghosts.eq ≡ same_target
by_target = λ i a b. target_eq a b i

pub by_key : key_test.ghosts.eq ≡ same_key
by_key = λ i a b. key_eq a b i

-- the tests tell what is the same

pub same_both : (a b : Target) → same_target a b ≡ same_target b a
same_both (target.Thread a) (target.Thread b) = both_ways a b
same_both (target.Group a) (target.Group b) = both_ways a b
same_both (target.Thread a) (target.Group b) = refl
same_both (target.Group a) (target.Thread b) = refl

pub same_is : (a b : Target) → same_target a b ≡ true → a ≡ b
same_is (target.Thread a) (target.Thread b) e = ap target.Thread (eqb-true a b e)
same_is (target.Group a) (target.Group b) e = ap target.Group (eqb-true a b e)
same_is (target.Thread a) (target.Group b) e = cc
same_is (target.Group a) (target.Thread b) e = cc

pub same_self : (a : Target) → same_target a a ≡ true
same_self (target.Thread a) = grind (arith, nat_tests)
same_self (target.Group a) = grind (arith, nat_tests)

-- whether an instance is one of a line
pub one_is_key : (w : Waiting) (q : Target) (s : ℕ) → is_one q s w ≡ is_key w q s
one_is_key w q s = ap (λ b. b && (w.instance.sig == s)) (same_both q w.target)

pub key_is : (w : Waiting) (q : Target) (s : ℕ) → is_key w q s ≡ true → (w.target ≡ q) × (w.instance.sig ≡ s)
key_is w q s e = go (same_target w.target q) (w.instance.sig == s) refl refl e
  where
    go : (b c : Bool) → same_target w.target q ≡ b → (w.instance.sig == s) ≡ c → (b && c) ≡ true → (w.target ≡ q) × (w.instance.sig ≡ s)
    go true true b c h = (same_is w.target q b, eqb-true w.instance.sig s c)
    go true false b c h = cc
    go false c b d h = cc

pub key_self : (w : Waiting) → is_one w.target w.instance.sig w ≡ true
key_self w = ap (λ b. b && (w.instance.sig == w.instance.sig)) (same_self w.target) ∙ eq-eqb w.instance.sig w.instance.sig refl
