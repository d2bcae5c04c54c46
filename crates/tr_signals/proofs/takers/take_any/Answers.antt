use Rattle.std.proofs.Common.{◌∙◌, ap, option_copied, sym}
use Rattle.tr_signals.proofs.Taking.{comes_as, finds_thread, finds_waiting, took}
use Rattle.tr_signals.proofs.TakingAny.{is_due_any}
use Rattle.tr_signals.proofs.takers.take_any.Goals as goal

pub unwrap-requires : goal.unwrap-requires
unwrap-requires c = finds_thread (is_due_any _ _ _ _ _ c.requires.due) c.table-table.ensures c.find.result c.find.ensures.found

pub unwrap-requires-2 : goal.unwrap-requires-2
unwrap-requires-2 c = finds_waiting (is_due_any _ _ _ _ _ c.requires.due) c.table-table.ensures c.waiting.result c.waiting.ensures.sorted c.waiting.ensures.waiting

pub take_due-requires : goal.take_due-requires
take_due-requires c =
    let k = took (is_due_any _ _ _ _ _ c.requires.due) c.table-table.ensures c.waiting.ensures.sorted (sym c.find.ensures.found ∙ ap option_copied c.unwrap.ensures) (sym c.waiting.ensures.waiting ∙ ap option_copied c.unwrap-2.ensures) in
    record { takes = k.takes }

pub returns-clause-did : goal.returns-clause-did
returns-clause-did c =
    let k = took (is_due_any _ _ _ _ _ c.requires.due) c.table-table.ensures c.waiting.ensures.sorted (sym c.find.ensures.found ∙ ap option_copied c.unwrap.ensures) (sym c.waiting.ensures.waiting ∙ ap option_copied c.unwrap-2.ensures) in
    comes_as c.take_due.result c.take_due.new.step k c.take_due.ensures.did
