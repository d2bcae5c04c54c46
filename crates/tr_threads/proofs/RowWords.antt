-- The words of a group's threads, thread by thread.
use Rattle.std.proofs.Common.{◌≡◌, ◌<◌, ◌^◌, ◌&&◌, ◌∙◌, Bool, true, false, if◌then◌else◌, ℕ, suc, List, drop, map, remove, take, ap, refl}
use Rattle.std.specs.List.{list_any}
use Rattle.std.proofs.lemmas.List.Elements.{All-append, All-drop, All-take}
use Rattle.tr_sigset.specs.Sets.{has, in_word, word_of}
use Rattle.tr_sigset.proofs.Members.{in_word-zero}
use Rattle.tr_tracee.specs.declared.thread.Thread.{Thread}
use Rattle.tr_tracee.specs.Lives.{is_live}
use Rattle.tr_threads.specs.Rows.{AreWords, blocked_word}
use Rattle.tr_index.proofs.Mapped.{any_mapped}

pub words_removed : (words : List ℕ) (i : ℕ) → AreWords words → AreWords (remove words i)
words_removed words i h =
    let P : ℕ → Type 0 = λ word. word < 2 ^ 64 in
    All-append P (take i words) (drop (suc i) words) (All-take P i words h) (All-drop P (suc i) words h)

-- what some live thread blocks stands in one of the words

blocks : (n : ℕ) (t : Thread) → in_word (blocked_word t) n ≡ (is_live t.life && has t.mask n)
blocks n t = go (is_live t.life)
  where
    go : (b : Bool) → in_word (if b then word_of t.mask else 0) n ≡ (b && has t.mask n)
    go true = refl
    go false = in_word-zero n

pub some_block : (n : ℕ) (ts : List Thread) → list_any (λ word. in_word word n) (map blocked_word ts) ≡ list_any (λ t. is_live t.life && has t.mask n) ts
some_block n ts = any_mapped (λ word. in_word word n) blocked_word ts ∙ ap (λ (p : Thread → Bool). list_any p ts) (λ i t. blocks n t i)
