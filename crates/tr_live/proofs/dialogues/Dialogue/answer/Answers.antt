use Rattle.tr_live.proofs.dialogues.Dialogue.answer.Goals as goal

pub returns-clause-said : goal.returns-clause-said
returns-clause-said g c = rw (← c.self.view_is) (rw c.deref.ensures.value at c.in_ok-print_answer.ensures.said)
