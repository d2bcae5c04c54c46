use Rattle.tr_text.proofs.Hexadecimal.{IsLeft}
use Rattle.tr_text.proofs.buffers.TextBuffer.prepend_hexadecimal.Given as goal

abbrev pub invariant-loop : goal.invariant-loop
invariant-loop g l = IsLeft l.fn.number l.fn.self.text l.fn.self.room l.counter l.left l.self.text l.self.room
