use Rattle.std.proofs.Common.{◌≡◌, ◌∙◌, Some, ap, is_some, refl, sym, true}
use Rattle.std.proofs.lemmas.Option.{same_Some}
use Rattle.std.specs.Prelude.{option_copied}
use Rattle.tr_tracee.specs.Ends.{child}
use Rattle.tr_tracee.specs.Lives.{is_free}
use Rattle.tr_tracee.specs.Threads.{options_of}
use Rattle.tr_model.specs.Clones.{clone, clone_stop}
use Rattle.tr_model.specs.GroupStops.{complete_group_stops}
use Rattle.tr_model.specs.Moves.{added, begin, on_thread, when}
use Rattle.tr_model.specs.Tables.{stop_in_effect, thread_of}
use Rattle.tr_model.proofs.Kept.{itself}
use Rattle.tr_requests.proofs.Cloning.{is_clone, no_thread, spawns}
use Rattle.tr_requests.proofs.clones.clone_thread.Goals as goal

pub add-requires-clause-new_id : goal.add-requires-clause-new_id
add-requires-clause-new_id c =
    let T = c.args.step.now.work.table in
    let d = is_clone T c.args.actor c.args.tid c.args.id c.requires.due in
    rw (c.in_ok-begin.ensures.work, c.child.ensures) (no_thread T c.args.id d.new)

pub returns-clause-did : goal.returns-clause-did
returns-clause-did c =
    let T = c.args.step.now.work.table in
    let t = c.unwrap.result.now in
    let id = c.args.id in
    let d = is_clone T c.args.actor c.args.tid id c.requires.due in
    let e : thread_of T c.args.tid ≡ Some t = ap (λ U. thread_of U c.args.tid) (sym c.table.ensures) ∙ sym c.find.ensures.found ∙ ap option_copied c.unwrap.ensures in
    let s : d.thread ≡ t = same_Some d.thread t (sym d.there ∙ e) in
    let free : is_free t.life ≡ true = ap (λ x. is_free x.life) (sym s) ∙ d.free in
    let m : c.is_some-stop_mark.result ≡ is_some (stop_in_effect T t.group) = c.is_some-stop_mark.ensures ∙ ap is_some c.stop_now.ensures in
    let p = spawns T c.args.tid id (is_some (stop_in_effect T t.group)) t e (itself T.threads c.args.tid t e) free in
    let added_now = c.in_ok-add.ensures.ok.work ∙ ap (added c.child.result) c.in_ok-begin.ensures.work ∙ ap (λ x. added x (begin T)) (c.child.ensures ∙ ap (λ b. child id b t) m) ∙ sym p in
    let stopped = c.clone_stop_where.ensures.work ∙ ap (when (options_of t.trace).clone (clone_stop t id)) added_now in
    record {
      reply = refl;
      work = c.complete_group_stops.ensures.work ∙ ap complete_group_stops stopped ∙ sym (ap (λ o. complete_group_stops (on_thread o (λ x. clone x id) (begin T))) e);
      taken_from = c.complete_group_stops.ensures.taken_from ∙ c.clone_stop_where.ensures.taken_from ∙ c.in_ok-add.ensures.ok.taken_from ∙ c.in_ok-begin.ensures.taken_from;
    }
