use Rattle.std.proofs.Common.{◌≡◌, ◌==◌, ◌&&◌, ◌≤◌, ◌∙◌, List, Some, true, false, filter, not, remove, get_or, ap, subst, sym}
use Rattle.tr_tracee.specs.declared.thread.Thread.{Thread}
use Rattle.tr_tracee.specs.Lives.{is_dead}
use Rattle.tr_model.specs.Journals.{occurs}
use Rattle.tr_model.specs.Tables.{ids_of}
use Rattle.tr_threads.specs.Kept.{IsPlace}
use Rattle.tr_threads.proofs.ThreadLists.{dead_goes, living_stays, none_goes}
use Rattle.tr_threads.proofs.threads.Threads.remove_dead.Goals as goal

pub returns-then-is_dead : goal.returns-then-is_dead
returns-then-is_dead c =
    let xs = c.self.inside.list.items in
    let x = c.index.result.now in
    let here : IsPlace c.args.id xs (Some c.in-Some.place) = subst (λ (ts : List Thread). IsPlace c.args.id ts (Some c.in-Some.place)) (sym c.self.view_is) c.in-Some.ensures.place in
    let dead : is_dead (get_or xs c.in-Some.place x).life ≡ true = ap (λ (t : Thread). is_dead t.life) (sym c.index.ensures) ∙ (sym c.is_dead.ensures ∙ c.if-is_dead.true) in
    let once : occurs c.args.id (ids_of xs) ≤ 1 = subst (λ (ts : List Thread). occurs c.args.id (ids_of ts) ≤ 1) (sym c.self.view_is) (c.place.ensures.once c.args.id) in
    c.remove_at.ensures ∙ (ap (λ (ts : List Thread). remove ts c.in-Some.place) (sym c.self.view_is) ∙ (dead_goes c.args.id xs c.in-Some.place x here.0 (here.4 x) dead once ∙ ap (λ (ts : List Thread). filter (λ (t : Thread). not (t.id == c.args.id && is_dead t.life)) ts) c.self.view_is))

pub returns-else-is_dead : goal.returns-else-is_dead
returns-else-is_dead c =
    let xs = c.self.inside.list.items in
    let x = c.index.result.now in
    let here : IsPlace c.args.id xs (Some c.in-Some.place) = subst (λ (ts : List Thread). IsPlace c.args.id ts (Some c.in-Some.place)) (sym c.self.view_is) c.in-Some.ensures.place in
    let lives : is_dead (get_or xs c.in-Some.place x).life ≡ false = ap (λ (t : Thread). is_dead t.life) (sym c.index.ensures) ∙ (sym c.is_dead.ensures ∙ c.if-is_dead.false) in
    let once : occurs c.args.id (ids_of xs) ≤ 1 = subst (λ (ts : List Thread). occurs c.args.id (ids_of ts) ≤ 1) (sym c.self.view_is) (c.place.ensures.once c.args.id) in
    sym (ap (λ (ts : List Thread). filter (λ (t : Thread). not (t.id == c.args.id && is_dead t.life)) ts) (sym c.self.view_is) ∙ (living_stays c.args.id xs c.in-Some.place x here.0 (here.4 x) lives once ∙ c.self.view_is))

pub returns-in_default : goal.returns-in_default
returns-in_default c = sym (none_goes c.args.id c.args.self.now c.in_default.ensures.place.2)
