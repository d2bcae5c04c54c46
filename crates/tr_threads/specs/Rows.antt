-- Two words of a thread: what it blocks, signal n in bit n - 1, and whether it may take a signal.
use Rattle.std.specs.Prelude.{ℕ, ◌<◌, ◌-◌, ◌^◌, List, if◌then◌else◌}
use Rattle.std.specs.List.{All}
use Rattle.tr_sigset.specs.Sets.{word_of}
use Rattle.tr_tracee.specs.declared.thread.Thread.{Thread}
use Rattle.tr_tracee.specs.Lives.{is_live}
use Rattle.tr_tracee.specs.Threads.{is_ready_to_take}

-- each is a word of 64 bits
abbrev pub AreWords : List ℕ → Type 0
AreWords words = All (λ word. word < 2 ^ 64) words

-- what a live thread blocks
abbrev pub blocked_word : Thread → ℕ
blocked_word t = if is_live t.life then word_of t.mask else 0

-- all or none, as the thread may take a signal or not
abbrev pub runnable_word : Thread → ℕ
runnable_word t = if is_ready_to_take t then 2 ^ 64 - 1 else 0
