use Rattle.std.proofs.Common.{◌≡◌, ◌++◌, drop, map}
use Rattle.tr_picture.proofs.actors.add_scripts.Given as goal

abbrev pub invariant-loop-script : goal.invariant-loop-script
invariant-loop-script l = l.actors ++ map (λ s. s.actor) (drop l.script-index l.scripts) ≡ l.fn.actors ++ map (λ s. s.actor) l.scripts
