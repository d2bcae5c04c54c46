use Rattle.std.proofs.Common.{◌≡◌, ◌++◌, ◌≤◌, ℕ, List, drop, length}
use Rattle.tr_live.specs.Dialogues.{IsSaid, heard}
use Rattle.tr_live.proofs.dialogues.Dialogue.hear.Given as goal

abbrev pub invariant-loop-byte : goal.invariant-loop-byte
invariant-loop-byte g l = record {
  left : (rest : List ℕ) → IsSaid l.self (drop l.byte-index l.bytes) rest → (said : List ℕ) × IsSaid l.fn.self l.bytes said × (g.W.Sink.taken l.writer ++ rest ≡ g.W.Sink.taken l.fn.writer ++ said) × (length rest ≤ length said);
  heard : heard l.self (drop l.byte-index l.bytes) ≡ heard l.fn.self l.bytes;
  same : g.W.Sink.failures l.writer ≡ g.W.Sink.failures l.fn.writer;
}
