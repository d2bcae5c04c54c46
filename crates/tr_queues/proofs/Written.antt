-- What is kept of a line, by its entry, and after that was written.
use Rattle.std.proofs.Common.{◌≡◌, ◌∙◌, ◌+◌, ◌<◌, ◌^◌, ◌==◌, ℕ, Bool, true, false, Option, Some, None, if◌then◌else◌, is_some, not, ap, arith, refl, subst}
use Rattle.std.proofs.lemmas.Bool.{eqb-true}
use Rattle.std.proofs.lemmas.Bool.Decides.{nat_tests}
use Rattle.indexmap.specs.IndexMap.{IndexMap, get}
use Rattle.tr_model.specs.declared.rows.Target.{Target}
use Rattle.tr_model.specs.declared.rows.Waiting.{Waiting}
use Rattle.tr_queues.specs.contracts.lines.LineKeyPartialEq.TheImpl as key_test
use Rattle.tr_queues.specs.declared.lines.Line.{Line}
use Rattle.tr_queues.specs.declared.lines.LineKey.{LineKey}
use Rattle.tr_queues.specs.Lines.{is_key, line_at, longer, same_key, unless_empty}
use Rattle.tr_queues.proofs.Keys.{by_key}

pub line_found : {S : Type 0} (L : IndexMap LineKey Line S) (w : Waiting) (key : LineKey) (found : Option Line) → key ≡ record { target = w.target; signal = w.instance.sig }
    → get key_test.ghosts.eq L key ≡ found → line_at L w.target w.instance.sig ≡ unless_empty found
line_found L w key found is e =
    ap unless_empty (subst (λ eq. get eq L (record { target = w.target; signal = w.instance.sig }) ≡ found) by_key (subst (λ k. get key_test.ghosts.eq L k ≡ found) is e))

by_turns : (b : Bool) (x y : Option Line) → unless_empty (if b then x else y) ≡ (if b then unless_empty x else unless_empty y)
by_turns true x y = refl
by_turns false x y = refl

pub line_written : {S : Type 0} (L M : IndexMap LineKey Line S) (w : Waiting) (key : LineKey) (l : Line) → key ≡ record { target = w.target; signal = w.instance.sig }
    → ((k : LineKey) → get key_test.ghosts.eq M k ≡ (if key_test.ghosts.eq key k then Some l else get key_test.ghosts.eq L k))
    → (q : Target) (s : ℕ) → line_at M q s ≡ (if is_key w q s then unless_empty (Some l) else line_at L q s)
line_written L M w key l is wrote q s =
    let k : LineKey = record { target = q; signal = s } in
    ap unless_empty (subst (λ eq. get eq M k ≡ (if eq key k then Some l else get eq L k)) by_key (wrote k))
    ∙ (by_turns (same_key key k) (Some l) (get same_key L k)
    ∙ ap (λ a. if same_key a k then unless_empty (Some l) else line_at L q s) is)

pub stays_if : (l : Line) → is_some (unless_empty (Some l)) ≡ not (l.count == 0)
stays_if l = go (l.count == 0)
  where
    go : (b : Bool) → is_some (if b then None else Some l) ≡ not b
    go true = refl
    go false = refl

pub some_stay : (l : Line) → 0 < l.count → unless_empty (Some l) ≡ Some l
some_stay l h = let some : (l.count == 0) ≡ false = grind (arith, nat_tests) in ap (λ b. if b then None else Some l) some

-- with one more it isn't empty
pub longer_stays : (n : ℕ) (before : Option Line) → unless_empty (Some (longer n before)) ≡ Some (longer n before)
longer_stays n None = refl
longer_stays n (Some l) = some_stay (longer n (Some l)) (omega arith)

-- its count fits where that of a line that isn't empty does
pub longer_few : (l : Line) (before : Option Line) → before ≡ unless_empty (Some l) → ((k : Line) → before ≡ Some k → k.count + 1 < 2 ^ 64) → l.count + 1 < 2 ^ 64
longer_few l before is few = go (l.count == 0) refl
  where
    go : (b : Bool) → (l.count == 0) ≡ b → l.count + 1 < 2 ^ 64
    go true e = let none = eqb-true l.count 0 e in omega (arith, none)
    go false e = few l (is ∙ ap (λ b. if b then None else Some l) e)
