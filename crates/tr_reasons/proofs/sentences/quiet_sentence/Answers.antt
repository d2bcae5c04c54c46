use Rattle.tr_reasons.proofs.sentences.quiet_sentence.Goals as goal

pub returns-in-TakeAny : goal.returns-in-TakeAny
returns-in-TakeAny c = rw c.in-TakeAny.is c.plain-in-TakeAny.ensures

pub returns-in-EventMessage : goal.returns-in-EventMessage
returns-in-EventMessage c = rw c.in-EventMessage.is c.plain-in-EventMessage.ensures
