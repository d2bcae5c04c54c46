use Rattle.tr_workers.specs.Follows.{heard}
use Rattle.tr_scenario.specs.RunTexts.{call_of}
use Rattle.tr_picture.proofs.Rowed.{worded}
use Rattle.tr_picture.proofs.rows.push_row_words.Goals as goal

pub returns : goal.returns
returns c = worded _ _ _ _ _ _ _ c.args.entries c.args.done.now _ _ _ (call_of c.args.actor c.args.event.now) (heard c.args.answer.now) c.raises-raises.ensures c.below_raised.ensures c.ended.ensures c.in_ok-push_position.ensures c.in_ok-push_call.ensures c.in_ok-push_detail.ensures c.in_ok-push_answer.ensures c.in_ok-push_raised.ensures c.in_ok-push_endings.ensures
