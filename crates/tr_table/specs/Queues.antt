-- What waits after an instance was put into a queue.
use Rattle.std.specs.Prelude.{List, [], ◌∷◌, ◌++◌, if◌then◌else◌}
use Rattle.tr_pending.specs.declared.instance.Instance.{Instance}
use Rattle.tr_pending.specs.Waiting.{merges}
use Rattle.tr_model.specs.declared.rows.Target.{Target}
use Rattle.tr_model.specs.declared.rows.Waiting.{Waiting}
use Rattle.tr_queues.specs.Changes.{queue_in}

-- an instance comes last, unless it merges with one of the target's
abbrev pub after_put : Target → Instance → List Waiting → List Waiting
after_put q i ws = if merges i.sig (queue_in q ws) then ws else ws ++ record { instance = i; target = q } ∷ []
