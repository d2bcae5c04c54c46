use Rattle.std.proofs.Common.{◌≡◌, ◌∙◌, ◌&&◌, ℕ, Bool, ap, false, not, subst, sym}
use Rattle.tr_table.specs.Settled.{can_complete, has_mark}
use Rattle.tr_table.specs.View.{View}
use Rattle.tr_table.proofs.Settling.{none_in}
use Rattle.tr_table.proofs.table.Table.unsettled.Goals as goal

pub returns-then-stopping-eq0 : goal.returns-then-stopping-eq0
returns-then-stopping-eq0 c =
    let ts = c.self.inside.threads in
    let xs = c.self.inside.groups in
    let none = none_in xs (sym c.stopping.ensures ∙ c.if-stopping-eq0.true) in
    subst (λ (v : View). (g : ℕ) → can_complete v.table.threads v.table.groups g ≡ false) c.self.view_is (λ g. ap (λ (b : Bool). b && not (has_mark ts g)) (none g))
