use Rattle.std.proofs.Common.{refl}
use Rattle.tr_status.proofs.statuses.compose_front.Goals as goal

pub returns-clause-text : goal.returns-clause-text
returns-clause-text c =
    rw (c.prepend-10.ensures.text, c.prepend-9.ensures.text, c.prepend-8.ensures.text, c.prepend-7.ensures.text) rw (c.prepend-6.ensures.text, c.prepend_number-6.ensures.text, c.from-4.ensures, c.prepend-5.ensures.text, c.prepend_number-5.ensures.text, c.from-3.ensures) rw (c.prepend-4.ensures.text, c.prepend_number-4.ensures.text, c.from-2.ensures, c.prepend-3.ensures.text, c.prepend_number-3.ensures.text) rw (c.prepend-2.ensures.text, c.prepend_number-2.ensures.text, c.prepend.ensures.text, c.prepend_number.ensures.text, c.from.ensures) refl
