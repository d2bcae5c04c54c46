use Rattle.std.proofs.Common.{◌≡◌, ◌∙◌, List, ℕ, ap, filter, length, map, replicate, subst, sym}
use Rattle.std.proofs.lemmas.List.{length-map}
use Rattle.tr_tracee.specs.declared.thread.Thread.{Thread}
use Rattle.tr_tracee.specs.Threads.{in_group}
use Rattle.tr_model.specs.declared.rows.Waiting.{Waiting}
use Rattle.tr_model.specs.Tables.{ids_of}
use Rattle.tr_threads.specs.Rosters.{RosterView}
use Rattle.tr_threads.specs.Rows.{AreWords, blocked_word, runnable_word}
use Rattle.tr_table.specs.Rows.{AreOwn}
use Rattle.tr_queues.specs.Slots.{standing}
use Rattle.tr_table.proofs.RowWords.{own_zeros, rows_are}
use Rattle.tr_threads.proofs.ThreadLists.{ids_length}
use Rattle.tr_table.proofs.rows.shared_rows_of.Goals as goal

pub returns-in-Some : goal.returns-in-Some
returns-in-Some c =
    let ws : List Waiting = standing c.args.pending.now.slots.items in
    let ms : List Thread = filter (in_group c.args.tgid) c.args.threads.now in
    let blocked : c.blocked.result.now ≡ map blocked_word ms = c.blocked.ensures.words ∙ ap (λ (r : RosterView). r.blocked) c.in-Some.ensures in
    let runnable : c.runnable.result.now ≡ map runnable_word ms = c.runnable.ensures ∙ ap (λ (r : RosterView). r.runnable) c.in-Some.ensures in
    let own : AreOwn ws (ids_of ms) (replicate (length (map blocked_word ms)) 0) = subst (λ (n : ℕ). AreOwn ws (ids_of ms) (replicate n 0)) (ids_length ms ∙ sym (length-map ms blocked_word)) (own_zeros ws (ids_of ms) c.requires.none) in
    record {
      each = rw (blocked, runnable) (rows_are ws ms (replicate (length (map blocked_word ms)) 0) own (subst AreWords blocked c.blocked.ensures.fits));
      shared = c.waiting_word-shared.ensures;
    }
