use Rattle.tracebox.proofs.performing.report.Goals as goal

pub returns-clause-told : goal.returns-clause-told
returns-clause-told g c = (c.put_line.result, rw (c.as_bytes.ensures.value, c.name.ensures) at c.put_line.ensures)
