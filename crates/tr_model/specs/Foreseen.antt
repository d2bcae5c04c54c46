-- What a step will answer, by the table before it: only a send tells more than what its choice found there.
use Rattle.std.specs.Prelude.{◌≡◌, ℕ, ◌+◌, ◌==◌, if◌then◌else◌}
use Rattle.tr_pending.specs.Waiting.{merges}
use Rattle.tr_model.specs.Choices.{Choice}
use Rattle.tr_model.specs.Entries.{Entry}
use Rattle.tr_model.specs.declared.events.Event.{Event}
use Rattle.tr_model.specs.declared.events.Event.TheVariants as event
use Rattle.tr_model.specs.declared.fates.Fate.{Fate}
use Rattle.tr_model.specs.declared.fates.Fate.TheVariants.{Pending, Merged, Delivered, Flushed}
use Rattle.tr_model.specs.declared.replies.Reply.{Reply}
use Rattle.tr_model.specs.declared.replies.Reply.TheVariants as reply
use Rattle.tr_model.specs.declared.rows.Target.{Target}
use Rattle.tr_model.specs.declared.rows.Target.TheVariants as target
use Rattle.tr_model.specs.Compare.{Permits}
use Rattle.tr_model.specs.Journals.{AllUpTo}
use Rattle.tr_model.specs.Moves.{begin}
use Rattle.tr_model.specs.Sends.{is_ignored, is_reachable}
use Rattle.tr_model.specs.Steps.{after, reply_of}
use Rattle.tr_model.specs.Tables.{Table, all_dead, owner, queue}

-- merged where a standard signal waits in this queue already, else pending
abbrev pub fate_of_put : Table → ℕ → Target → Fate
fate_of_put T s q = if merges s (queue T q) then Merged else Pending

-- a signal that is ignored is flushed at once
abbrev pub fate_unless_ignored : Table → ℕ → Target → Fate
fate_unless_ignored T s q = if is_ignored T s q then Flushed else fate_of_put T s q

-- what becomes of KILL, and of any other signal, right after its send: by the rules of a send in their order
abbrev pub fate_of_send : Table → ℕ → Target → Fate
fate_of_send T s q =
    if s == 9
    then if all_dead T (owner T q) then Flushed else Delivered
    else if is_reachable T q then fate_unless_ignored T s q else Flushed

-- the reply of a send
abbrev pub sent_before : Table → Fate → Reply
sent_before T fate = reply.Sent fate (T.accepted + 1)

-- PTRACE_ATTACH sends SIGSTOP to a thread that is traced from now on, so it is never ignored
abbrev pub reply_before : Table → ℕ → Event → Choice → Reply
reply_before T a (event.Kill g s) c = sent_before T (fate_of_send T s (target.Group g))
reply_before T a (event.Tgkill g id s) c = sent_before T (fate_of_send T s (target.Thread id))
reply_before T a (event.Sigqueue g s v) c = sent_before T (fate_of_send T s (target.Group g))
reply_before T a (event.Attach id) c = sent_before T (fate_of_put T 19 (target.Thread id))
reply_before T a e c = reply_of T a e c (begin T)

-- where what waits was accepted, the reply to an event that is due is known before its step
abbrev pub RepliesAreForeseen : Type 0
RepliesAreForeseen = (T : Table) (e : Entry) → AllUpTo T.accepted T.waiting → Permits T e.actor e.event e.choice → reply_before T e.actor e.event e.choice ≡ (after T e).reply
