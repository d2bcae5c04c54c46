-- A dialogue under way, by what its reader and its writer show.
use Rattle.std.proofs.Common.{◌≡◌, ◌≢◌, ◌≤◌, ◌<◌, ◌+◌, ◌==◌, ℕ, List, ◌++◌, ◌∙◌, ap, sym, refl, inr, Result, Ok, Err, append_assoc, not, length, length-append, take, arith}
use Rattle.std.proofs.lemmas.List.{append-nil, length-take-le}
use Rattle.tr_status.specs.Writing.{IsFront}
use Rattle.tr_reading.specs.declared.faults.ScenarioFault.{ScenarioFault}
use Rattle.tr_scenario.specs.declared.source.Got.TheVariants.{Bytes, Interrupted}
use Rattle.tr_scenario.specs.Printing.{IsHalt, Prints}
use Rattle.tr_scenario.specs.Serial.{Devices}
use Rattle.tr_scenario.specs.Sources.{Gets, Shown}
use Rattle.tr_scenario.proofs.Halts.{halts_after, halts_in_front}
use Rattle.tr_live.specs.Conversations.{Converses}
use Rattle.tr_live.specs.Dialogues.{Dialogue, IsSaid, IsSaidLast, heard, silence}
use Rattle.tr_live.proofs.Saying.{answered_if, heard_on, said_on}

-- the bytes that came were heard, and what is said to them was written; each turn brought a byte or an interruption
pub record Talk (old new : Devices) (d : Dialogue) (interruptions turns : ℕ) : Type 0 where
  pub bytes : List ℕ
  pub came : new.reader.given ≡ old.reader.given ++ bytes
  pub none : new.reader.failures ≡ old.reader.failures
  pub counted : new.reader.interruptions ≡ old.reader.interruptions + interruptions
  pub few : interruptions < 1048576
  pub said : List ℕ
  pub answers : IsSaid silence bytes said
  pub text : new.taken ≡ old.taken ++ said
  pub failures : new.failures ≡ old.failures
  pub heard : d ≡ heard silence bytes
  pub many : turns ≤ length bytes + interruptions

-- A piece came

module _ (old mid : Devices) (new : Shown) (room : List ℕ) (d : Dialogue) (interruptions turns n : ℕ)
    (t : Talk old mid d interruptions turns) (got : Gets mid.reader new room (Bytes n)) where
  came : new.given ≡ old.reader.given ++ (t.bytes ++ take n room)
  came = ap (λ s. s.given) got.1 ∙ (ap (λ xs. xs ++ take n room) t.came ∙ append_assoc old.reader.given t.bytes (take n room))

  none : new.failures ≡ old.reader.failures
  none = ap (λ s. s.failures) got.1 ∙ t.none

  counted : new.interruptions ≡ old.reader.interruptions + interruptions
  counted = ap (λ s. s.interruptions) got.1 ∙ t.counted

  pub talk_on : (taken more : List ℕ) (failures : ℕ) (e : Dialogue) → n ≢ 0 → IsSaid d (take n room) more → taken ≡ mid.taken ++ more → failures ≡ mid.failures → e ≡ heard d (take n room) →
      Talk old (record { reader = new; taken = taken; failures = failures }) e interruptions (turns + 1)
  talk_on taken more failures e some answers wrote same now = record {
    bytes = t.bytes ++ take n room;
    came = came;
    none = none;
    counted = counted;
    few = t.few;
    said = t.said ++ more;
    answers = said_on silence t.bytes (take n room) t.said more t.answers (rw t.heard at answers);
    text = wrote ∙ (ap (λ xs. xs ++ more) t.text ∙ append_assoc old.taken t.said more);
    failures = same ∙ t.failures;
    heard = now ∙ (ap (λ x. heard x (take n room)) t.heard ∙ sym (heard_on silence t.bytes (take n room)));
    many = omega (arith, t.many, length-append t.bytes (take n room), length-take-le n room got.0);
  }

  pub talk_halted : (taken more : List ℕ) (failures : ℕ) (e : ScenarioFault) → IsSaid d (take n room) more → IsFront mid.taken taken more × IsHalt e mid.failures failures →
      Converses {X = Unit {0}} old (record { reader = new; taken = taken; failures = failures }) (Err e)
  talk_halted taken more failures e answers h =
      let all = t.bytes ++ take n room in
      let before = said_on silence t.bytes (take n room) t.said more t.answers (rw t.heard at answers) in
      let first = halts_after old.taken mid.taken taken t.said more e old.failures mid.failures failures t.text t.failures h in
      let last = answered_if (not (length (heard silence all).line == 0)) (heard silence all) in
      let whole = halts_in_front old.taken taken (t.said ++ more) last.0 e old.failures failures first in
      (all, inr (inr (record { came = came; sound = (none, omega (arith, counted, t.few)); said = (t.said ++ more) ++ last.0; dialogue = (t.said ++ more, last.0, before, last.1, refl); front = whole.0; cause = whole.1 })))

-- the reader told its end, and a line that no newline ended is answered
pub talk_ended : {K X : Type 0} (taken : K → List ℕ) (failures : K → ℕ) (w v : K) (old : Devices) (mid new : Shown) (room : List ℕ) (d : Dialogue) (interruptions turns : ℕ) (last : List ℕ) (r : Result X ScenarioFault) →
    Talk old (record { reader = mid; taken = taken w; failures = failures w }) d interruptions turns → Gets mid new room (Bytes 0) → IsSaidLast d last → Prints taken failures w v last r →
    Converses old (record { reader = new; taken = taken v; failures = failures v }) r
talk_ended taken failures w v old mid new room d interruptions turns last (Ok x) t got l p = (
  t.bytes,
  record {
    ended = record {
      came = ap (λ s. s.given) got.1 ∙ (append-nil mid.given ∙ t.came);
      sound = (ap (λ s. s.failures) got.1 ∙ t.none, omega (arith, ap (λ s. s.interruptions) got.1, t.counted, t.few));
      ended = ap (λ s. s.ended) got.1;
    };
    said = t.said ++ last;
    dialogue = (t.said, last, t.answers, rw t.heard at l, refl);
    text = p.0 ∙ (ap (λ xs. xs ++ last) t.text ∙ append_assoc old.taken t.said last);
    failures = p.1 ∙ t.failures;
  },
)
talk_ended taken failures w v old mid new room d interruptions turns last (Err e) t got l p =
    let whole = halts_after old.taken (taken w) (taken v) t.said last e old.failures (failures w) (failures v) t.text t.failures p in (
      t.bytes,
      inr (inr (record {
        came = ap (λ s. s.given) got.1 ∙ (append-nil mid.given ∙ t.came);
        sound = (ap (λ s. s.failures) got.1 ∙ t.none, omega (arith, ap (λ s. s.interruptions) got.1, t.counted, t.few));
        said = t.said ++ last;
        dialogue = (t.said, last, t.answers, rw t.heard at l, refl);
        front = whole.0;
        cause = whole.1;
      })),
    )

-- the reader was interrupted, and is asked again
pub talk_again : (old mid : Devices) (new : Shown) (room : List ℕ) (d : Dialogue) (interruptions turns : ℕ) →
    Talk old mid d interruptions turns → Gets mid.reader new room Interrupted → interruptions + 1 ≢ 1048576 →
    Talk old (record mid { reader = new }) d (interruptions + 1) (turns + 1)
talk_again old mid new room d interruptions turns t got more = record {
  bytes = t.bytes;
  came = ap (λ s. s.given) got ∙ t.came;
  none = ap (λ s. s.failures) got ∙ t.none;
  counted = omega (arith, ap (λ s. s.interruptions) got, t.counted);
  few = omega (arith, t.few, more);
  said = t.said;
  answers = t.answers;
  text = t.text;
  failures = t.failures;
  heard = t.heard;
  many = omega (arith, t.many);
}
