use Rattle.std.proofs.Common.{◌∙◌, ◌==◌, ◌||◌, Bool, ap, get_or, not, sym}
use Rattle.std.proofs.lemmas.Bool.{not-true}
use Rattle.tr_model.specs.Journals.{occurs}
use Rattle.tr_table.specs.Settled.{is_listed}
use Rattle.tr_table.proofs.Telling.{closed_nowhere, closed_there, relisted_others}
use Rattle.tr_table.proofs.unsettled.relist_group.Goals as goal

pub returns-in_default-clause-own : goal.returns-in_default-clause-own
returns-in_default-clause-own c e = closed_nowhere c.args.threads.now c.args.groups.now (is_listed c.args.groups.now c.args.places.now.numbers) c.args.tgid c.in_default.ensures.place

pub returns-then-relist-clause-others : goal.returns-then-relist-clause-others
returns-then-relist-clause-others c n ne = relisted_others c.args.groups.now c.in-Some.place c.args.tgid n _ _ c.in-Some.ensures.place ne c.relist.ensures.others

pub returns-else-relist-clause-others : goal.returns-else-relist-clause-others
returns-else-relist-clause-others c n ne = relisted_others c.args.groups.now c.in-Some.place c.args.tgid n _ _ c.in-Some.ensures.place ne c.relist.ensures.others

pub returns-then-relist-clause-own : goal.returns-then-relist-clause-own
returns-then-relist-clause-own c e =
    closed_there c.args.threads.now c.args.groups.now c.in-Some.place c.args.tgid c.index-as_slice-place.result c.relist.new.places.numbers
    (c.index-as_slice-place.is ∙ ap (λ xs. get_or xs c.in-Some.place c.index-as_slice-place.result) c.as_slice.ensures)
    c.in-Some.ensures.place c.in-Some.ensures.once
    (not-true _ (sym (ap not c.stop_completes-completes.ensures) ∙ e))
    (ap (λ (b : Bool). not b || not (occurs c.in-Some.place c.relist.new.places.numbers == 0)) (sym c.tells.ensures) ∙ (sym c.relist.ensures.own ∙ c.if-relist.true))
