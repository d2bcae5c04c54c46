use Rattle.std.proofs.Common.{◌∙◌, ap, option_copied, sym}
use Rattle.tr_threads.specs.TraceeLists.{stands_before}
use Rattle.tr_threads.proofs.Parted.{last_passes}
use Rattle.tr_threads.proofs.tracee_list.all_stand_before.Goals as goal

pub returns-in-Some : goal.returns-in-Some
returns-in-Some c h =
    last_passes (stands_before c.args.index.now c.args.tracer c.args.place) c.args.rows.now c.in-Some.last.now c.requires (sym c.last.ensures.value ∙ ap option_copied c.in-Some.is) (sym c.stands_before.ensures ∙ h)
