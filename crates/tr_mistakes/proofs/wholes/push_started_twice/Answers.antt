use Rattle.tr_mistakes.proofs.wholes.push_started_twice.Goals as goal

pub returns-in-Some : goal.returns-in-Some
returns-in-Some c = rw c.in-Some.is (c.push_thread_twice.ensures c.args.groups.now)
