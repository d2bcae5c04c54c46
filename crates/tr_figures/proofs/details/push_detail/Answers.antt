use Rattle.std.proofs.Common.{◌≡◌, ◌++◌, OnOk, subst, sym}
use Rattle.tr_model.specs.declared.events.Event.{Event}
use Rattle.tr_figures.specs.Details.{detail}
use Rattle.tr_figures.specs.Elements.{printed}
use Rattle.tr_figures.proofs.details.push_detail.Goals as goal

pub returns-in-Mask : goal.returns-in-Mask
returns-in-Mask c =
    subst (λ (e : Event). OnOk c.push_mask.result (c.push_mask.new.page ≡ c.args.page.now ++ printed (detail e))) (sym c.in-Mask.is) c.push_mask.ensures
