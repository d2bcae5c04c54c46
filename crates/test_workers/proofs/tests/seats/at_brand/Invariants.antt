use Rattle.test_workers.proofs.tests.seats.at_brand.Given as goal

abbrev pub ghosts-at-E-Ledger : goal.ghosts-at-E-Ledger
ghosts-at-E-Ledger g a = record { name = a.entries.name; parts = a.entries.parts }

abbrev pub ghosts-at-A-Ledger : goal.ghosts-at-A-Ledger
ghosts-at-A-Ledger g a = record { name = a.accepted.name; parts = a.accepted.parts }

abbrev pub ghosts-at-E-Parts : goal.ghosts-at-E-Parts
ghosts-at-E-Parts g a = record { all = a.entries.parts; opening = a.kernel.start }

abbrev pub ghosts-at-A-Parts : goal.ghosts-at-A-Parts
ghosts-at-A-Parts g a = record { all = a.accepted.parts; opening = a.kernel.start }
