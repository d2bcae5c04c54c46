use Rattle.std.proofs.Common.{◌≡◌, ◌∙◌, List, ℕ, ap, filter, map, subst}
use Rattle.tr_tracee.specs.declared.thread.Thread.{Thread}
use Rattle.tr_tracee.specs.Threads.{in_group}
use Rattle.tr_model.specs.declared.rows.Waiting.{Waiting}
use Rattle.tr_model.specs.Tables.{ids_of}
use Rattle.tr_threads.specs.Rosters.{RosterView}
use Rattle.tr_threads.specs.Rows.{AreWords, blocked_word, runnable_word}
use Rattle.tr_table.specs.Rows.{AreOwn}
use Rattle.tr_queues.specs.Slots.{standing}
use Rattle.tr_table.proofs.RowWords.{rows_are}
use Rattle.tr_table.proofs.rows.rows_of.Goals as goal

pub returns-in-Some : goal.returns-in-Some
returns-in-Some c =
    let ws : List Waiting = standing c.args.pending.now.slots.items in
    let ms : List Thread = filter (in_group c.args.tgid) c.args.threads.now in
    let os : List ℕ = c.own_words.result.items in
    let ids : c.ids.result.now ≡ ids_of ms = c.ids.ensures ∙ ap (λ (r : RosterView). r.ids) c.in-Some.ensures in
    let blocked : c.blocked.result.now ≡ map blocked_word ms = c.blocked.ensures.words ∙ ap (λ (r : RosterView). r.blocked) c.in-Some.ensures in
    let runnable : c.runnable.result.now ≡ map runnable_word ms = c.runnable.ensures ∙ ap (λ (r : RosterView). r.runnable) c.in-Some.ensures in
    let own : AreOwn ws (ids_of ms) os = subst (λ (ns : List ℕ). AreOwn ws ns os) ids c.own_words.ensures in
    record {
      each = rw (blocked, runnable) (rows_are ws ms os own (subst AreWords blocked c.blocked.ensures.fits));
      shared = c.waiting_word-shared.ensures;
    }
