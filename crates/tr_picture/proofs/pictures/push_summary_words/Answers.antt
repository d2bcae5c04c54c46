use Rattle.tr_figures.specs.declared.styles.Style.TheVariants.{Ink}
use Rattle.tr_picture.specs.Pictures.{summary}
use Rattle.tr_figures.proofs.Printed.{pushed_words}
use Rattle.tr_picture.proofs.pictures.push_summary_words.Goals as goal

pub returns : goal.returns
returns c = pushed_words _ _ _ _ Ink 16 28 (summary c.args.calls c.args.entries) c.in_ok-push_words_begin.ensures c.in_ok-push_summary.ensures c.in_ok-push.ensures.ok
