use Rattle.std.proofs.Common.{◌∙◌, ap, sym, if◌then◌else◌}
use Rattle.std.proofs.lemmas.Bool.{eq-eqb, ne_eqb}
use Rattle.std.specs.Option.{option_copied}
use Rattle.tr_kernel.specs.Kept.{blank, noted}
use Rattle.tr_kernel.proofs.Spread.{last_upto}
use Rattle.tr_kernel.proofs.note_list.note_upto.Goals as goal

pub returns-in-Some : goal.returns-in-Some
returns-in-Some c =
    let k = c.in-Some.last.now in
    c.note.ensures
    ∙ (ap (λ b. if b then noted k else blank k.deaths) (sym (eq-eqb k.place c.args.place c.if-last-place.true))
    ∙ sym (last_upto 0 c.args.place c.args.kept.now k (sym c.last.ensures.value ∙ ap option_copied c.in-Some.is)))

pub returns-in-Some-2 : goal.returns-in-Some-2
returns-in-Some-2 c =
    let k = c.in-Some.last.now in
    c.blank.ensures
    ∙ (ap (λ b. if b then noted k else blank k.deaths) (sym (ne_eqb k.place c.args.place c.if-last-place.false))
    ∙ sym (last_upto 0 c.args.place c.args.kept.now k (sym c.last.ensures.value ∙ ap option_copied c.in-Some.is)))
