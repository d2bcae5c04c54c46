-- What a call is answered, by the table before its step.
use Rattle.std.proofs.Common.{◌≡◌, ◌≤◌, ◌*◌, ◌+◌, ◌++◌, ℕ, [], ◌∷◌, List, ap, arith, length, refl}
use Rattle.tr_model.specs.Entries.{Entry}
use Rattle.tr_model.specs.declared.events.Event.{Event}
use Rattle.tr_model.specs.declared.replies.Reply.{Reply}
use Rattle.tr_model.specs.Choices.{Choice}
use Rattle.tr_model.specs.Compare.{Permits}
use Rattle.tr_model.specs.Foreseen.{reply_before}
use Rattle.tr_model.specs.Journals.{IsStart, Replay}
use Rattle.tr_model.specs.Steps.{after}
use Rattle.tr_model.specs.Tables.{Table}
use Rattle.tr_starts.specs.Starts.{table_of}
use Rattle.tr_kernel.specs.Private.{entry_with}
use Rattle.tr_kernel.specs.States.{IsHistory, State}
use Rattle.tr_model.proofs.Bounds.{entries_are_bounded}
use Rattle.tr_model.proofs.Foreseeing.{replies_are_foreseen}
use Rattle.tr_model.proofs.Runs.{replay_push}
use Rattle.tr_kernel.proofs.Begun.{is_start}
use Rattle.tr_kernel.proofs.Heard.{waiting_accepted}

-- each entry accepts at most 1,024 signals

replay_accepts : (T U V : Table) (es fs : List Entry) (rs qs : List Reply) → IsStart T → Replay T es rs U → Replay U fs qs V → V.accepted ≤ U.accepted + 1024 * length fs
replay_accepts T U V es [] rs [] s p q = omega (arith, ap (λ (W : Table). W.accepted) q)
replay_accepts T U V es [] rs (x ∷ qs) s p q = absurd q
replay_accepts T U V es (f ∷ fs) rs [] s p q = absurd q
replay_accepts T U V es (f ∷ fs) rs (x ∷ qs) s p q =
    let b = entries_are_bounded T U q.0 es rs f x s p q.1 in
    let more = replay_accepts T q.0 V (es ++ f ∷ []) fs (rs ++ x ∷ []) qs s (replay_push T U q.0 es rs f x p q.1) q.2 in
    omega (arith, b.accepts_few, more)

pub accepted_few : (k : State) → IsHistory k → k.table.accepted ≤ 1024 * length k.journal
accepted_few k h =
    let s = is_start k.start h.good in
    omega (arith, replay_accepts (table_of k.start) (table_of k.start) k.table [] k.journal [] k.replies s refl h.replayed, s.accepted)

pub reply_is : (k : State) (a : ℕ) (e : Event) (c : Choice) → IsHistory k → Permits k.table a e c → reply_before k.table a e c ≡ (after k.table (entry_with a e c)).reply
reply_is k a e c h p = replies_are_foreseen k.table (entry_with a e c) (waiting_accepted k h) p
