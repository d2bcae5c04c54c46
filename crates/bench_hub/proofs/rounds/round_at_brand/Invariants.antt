use Rattle.bench_hub.proofs.rounds.round_at_brand.Given as goal

abbrev pub ghosts-round-E-Ledger : goal.ghosts-round-E-Ledger
ghosts-round-E-Ledger g a = record { name = a.ledgers.0.name; parts = a.ledgers.0.parts }

abbrev pub ghosts-round-A-Ledger : goal.ghosts-round-A-Ledger
ghosts-round-A-Ledger g a = record { name = a.ledgers.1.name; parts = a.ledgers.1.parts }

abbrev pub ghosts-round-E-Parts : goal.ghosts-round-E-Parts
ghosts-round-E-Parts g a = record { all = a.ledgers.0.parts; opening = a.kernel.start }

abbrev pub ghosts-round-A-Parts : goal.ghosts-round-A-Parts
ghosts-round-A-Parts g a = record { all = a.ledgers.1.parts; opening = a.kernel.start }
