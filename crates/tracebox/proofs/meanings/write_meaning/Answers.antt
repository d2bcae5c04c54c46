use Rattle.tracebox.proofs.meanings.write_meaning.Goals as goal

pub returns-in-EventStop : goal.returns-in-EventStop
returns-in-EventStop g c = rw c.in-EventStop.is (rw c.number-in-EventStop.ensures at c.write_numbered-in-EventStop.ensures)
