use Rattle.std.proofs.Common.{append-nil}
use Rattle.tr_scenario.specs.RunTexts.{spaced_status}
use Rattle.tr_scenario.proofs.printing.push_status.Goals as goal

pub returns : goal.returns
unfolding spaced_status
returns c = rw (c.as_bytes.ensures, c.prepend.ensures.text, c.prepend_status.ensures.text, c.new-text.ensures.text, append-nil) at c.push.ensures.ok
