use Rattle.std.proofs.Common.{◌≡◌, ◌==◌, ◌∷◌, ◌∙◌, ℕ, List, [], Bool, true, false, ap, if◌then◌else◌, map, refl, sym}
use Rattle.tr_tracee.specs.declared.thread.Thread.{Thread}
use Rattle.tr_tracee.specs.Marks.{joining, stopped}
use Rattle.tr_tracee.specs.Threads.{at_thread}
use Rattle.tr_signals.proofs.stops.halt_untraced.Goals as goal

abbrev halted : Thread → Thread
halted t = stopped (joining t)

-- one change is as good as the two, since the first leaves the id
one : (id : ℕ) (t : Thread) → at_thread id halted t ≡ at_thread id stopped (at_thread id joining t)
one id t = go (t.id == id) refl
  where
    go : (b : Bool) → (t.id == id) ≡ b → (if b then halted t else t) ≡ at_thread id stopped (if b then joining t else t)
    go true e = sym (ap (λ b. if b then halted t else joining t) e)
    go false e = sym (ap (λ b. if b then stopped t else t) e)

each : (id : ℕ) (ts : List Thread) → map (at_thread id halted) ts ≡ map (at_thread id stopped) (map (at_thread id joining) ts)
each id [] = refl
each id (t ∷ ts) = λ i. one id t i ∷ each id ts i

pub returns : goal.returns
returns c =
    let a = c.change_thread.ensures in
    let w = c.args.step.now.work in
    let both = ap (λ (ts : List Thread). record w { table = record w.table { threads = ts } }) (each c.args.thread.now.id w.table.threads) in
    record { work = a.work ∙ both; room = a.room; groups = a.groups; taken_from = a.taken_from }
