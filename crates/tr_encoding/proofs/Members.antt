-- Lists of signals and options are read as the sets that they were made of.
use Rattle.std.proofs.Common.{◌≡◌, ◌<◌, ◌≤◌, ◌+◌, ◌-◌, ◌^◌, ◌&&◌, ◌||◌, ℕ, zero, suc, List, [], ◌∷◌, ◌++◌, Bool, true, false, Ok, Some, All, map, refl, sym, ap, ◌∙◌, ◌==◌, arith, nat_le}
use Rattle.std.specs.Prelude.{bit_or}
use Rattle.std.proofs.lemmas.Bool.{le-leb}
use Rattle.std.proofs.lemmas.Bool.Decides.{nat_tests}
use Rattle.std.proofs.lemmas.Nat.{or_lt, pow_below}
use Rattle.std.proofs.lemmas.List.Elements.{All-append, All-cons, All-head, All-nil, All-tail}
use Rattle.std.proofs.Math.Bool.{and-false, and-true}
use Rattle.serde_json.specs.Data.{Data}
use Rattle.serde_json.specs.Find.{get}
use Rattle.serde_json.specs.View.{items_of}
use Rattle.tr_sigset.specs.declared.sets.SigSet.{SigSet}
use Rattle.tr_sigset.specs.Sets.{has, in_word, of_word, word_of}
use Rattle.tr_sigset.specs.Signals.{IsSignal}
use Rattle.tr_sigset.proofs.Members.{in_word-with, in_word-zero, same_members, single_word}
use Rattle.tr_tracee.specs.declared.thread.Options.{Options}
use Rattle.tr_reading.specs.Events.{option_of, options_at}
use Rattle.tr_reading.specs.Fields.{each, list_of, set_at, set_of, signal_of, with_bits}
use Rattle.tr_encoding.specs.Sets.{array_data, number_data, number_list, option_names, signal_if, signals_of, signals_to, text_list}

-- Signals

signal_reads : (n : ℕ) → IsSignal n → signal_of (number_data n) ≡ Ok n
signal_reads n is = rw (le-leb 1 n is.0, le-leb n 64 is.1)

signals_read : (ns : List ℕ) → All IsSignal ns → each signal_of (items_of (number_list ns)) ≡ Ok ns
signals_read [] all = refl
signals_read (n ∷ ns) all = rw (signal_reads n (All-head IsSignal n ns all), signals_read ns (All-tail IsSignal n ns all))

signal_if_is : (b : Bool) (n : ℕ) → IsSignal n → All IsSignal (signal_if b n)
signal_if_is true n is = All-cons IsSignal n [] is (All-nil IsSignal)
signal_if_is false n is = All-nil IsSignal

signals_to_are : (n : ℕ) (set : SigSet) → n ≤ 64 → All IsSignal (signals_to n set)
signals_to_are zero set few = All-nil IsSignal
signals_to_are (suc n) set few =
    All-append IsSignal (signals_to n set) (signal_if (has set (suc n)) (suc n)) (signals_to_are n set (omega (arith, few)))
    (signal_if_is (has set (suc n)) (suc n) (omega arith, few))

with_bits-append : (w : ℕ) (ns ms : List ℕ) → with_bits w (ns ++ ms) ≡ with_bits (with_bits w ns) ms
with_bits-append w [] ms = refl
with_bits-append w (n ∷ ns) ms = with_bits-append (bit_or w (2 ^ (n - 1))) ns ms

-- signal n stands for the bit before it
word_of_one : (w n : ℕ) → IsSignal n → w < 2 ^ 64 → bit_or w (2 ^ (n - 1)) < 2 ^ 64
word_of_one w n is below = or_lt 64 w (2 ^ (n - 1)) below (pow_below (n - 1) 64 (omega (arith, is)))

with_bits-below : (w : ℕ) (ns : List ℕ) → w < 2 ^ 64 → All IsSignal ns → with_bits w ns < 2 ^ 64
with_bits-below w [] below all = below
with_bits-below w (n ∷ ns) below all = with_bits-below (bit_or w (2 ^ (n - 1))) ns (word_of_one w n (All-head IsSignal n ns all) below) (All-tail IsSignal n ns all)

range_twice : (a b c : Bool) → (((a && b) && c) && b) ≡ ((a && b) && c)
range_twice true true c = and-true c
range_twice true false c = refl
range_twice false b c = refl

one_more : (old has_next : Bool) (n k : ℕ) → (k ≡ suc n → old ≡ has_next) → has_next ≡ true → ((old && nat_le k n) || (k == suc n)) ≡ (old && nat_le k (suc n))
one_more old has_next n k same is = grind (arith, nat_tests, same, is)

none_more : (old has_next : Bool) (n k : ℕ) → (k ≡ suc n → old ≡ has_next) → has_next ≡ false → (old && nat_le k n) ≡ (old && nat_le k (suc n))
none_more old has_next n k same is = grind (arith, nat_tests, same, is)

with_next : (w n k below : ℕ) (b : Bool) → suc n ≤ 64 → has (of_word w) (suc n) ≡ b → in_word below k ≡ (in_word w k && nat_le k n)
    → in_word (with_bits below (signal_if b (suc n))) k ≡ (in_word w k && nat_le k (suc n))
with_next w n k below true few is before =
    ap (λ (x : ℕ). in_word (bit_or below x) k) (sym (single_word (suc n) (omega arith) few)) ∙ in_word-with below (suc n) k (omega arith) few ∙ ap (λ (x : Bool). x || (k == suc n)) before
    ∙ one_more (in_word w k) (in_word w (suc n)) n k (λ e. ap (in_word w) e) is
with_next w n k below false few is before = before ∙ none_more (in_word w k) (in_word w (suc n)) n k (λ e. ap (in_word w) e) is

zero_below : (k : ℕ) → nat_le (suc k) 0 ≡ false
zero_below k = grind (arith, nat_tests)

none_below : (w k : ℕ) → (in_word w k && nat_le k 0) ≡ false
unfolding in_word
none_below w zero = refl
none_below w (suc k) = ap (λ (b : Bool). in_word w (suc k) && b) (zero_below k) ∙ and-false (in_word w (suc k))

within : (w k : ℕ) → (in_word w k && nat_le k 64) ≡ in_word w k
unfolding in_word
within w k = range_twice (nat_le 1 k) (nat_le k 64) _

bits_to : (w n k : ℕ) → n ≤ 64 → in_word (with_bits 0 (signals_to n (of_word w))) k ≡ (in_word w k && nat_le k n)
bits_to w zero k few = in_word-zero k ∙ sym (none_below w k)
bits_to w (suc n) k few =
    ap (λ (x : ℕ). in_word x k) (with_bits-append 0 (signals_to n (of_word w)) (signal_if (has (of_word w) (suc n)) (suc n)))
    ∙ with_next w n k (with_bits 0 (signals_to n (of_word w))) (has (of_word w) (suc n)) few refl (bits_to w n k (omega (arith, few)))

-- the set is that of its members
pub set_of-signals_of : (set : SigSet) → word_of set < 2 ^ 64 → set_of (signals_of set) ≡ set
set_of-signals_of set below =
    let w = word_of set in
    ap of_word (same_members (with_bits 0 (signals_of set)) w (with_bits-below 0 (signals_of set) (omega arith) (signals_to_are 64 set (omega arith))) below
    (λ k. bits_to w 64 k (omega arith) ∙ within w k))

-- the list is read as the set
pub set_reads : (key : List ℕ) (set : SigSet) (d : Data) → get key d ≡ Some (array_data (number_list (signals_of set))) → word_of set < 2 ^ 64 → set_at key d ≡ Ok set
unfolding set_at list_of
set_reads key set d at below = rw (at, signals_read (signals_of set) (signals_to_are 64 set (omega arith)), set_of-signals_of set below)

-- Options

options_read_as : (key : List ℕ) (c x e k : Bool) (d : Data)
    → get key d ≡ Some (array_data (text_list (option_names (record { clone = c; exec = x; exit = e; exitkill = k }))))
    → options_at key d ≡ Ok (record { clone = c; exec = x; exit = e; exitkill = k })
unfolding options_at list_of option_of
options_read_as key true true true true d at = rw at refl
options_read_as key true true true false d at = rw at refl
options_read_as key true true false true d at = rw at refl
options_read_as key true true false false d at = rw at refl
options_read_as key true false true true d at = rw at refl
options_read_as key true false true false d at = rw at refl
options_read_as key true false false true d at = rw at refl
options_read_as key true false false false d at = rw at refl
options_read_as key false true true true d at = rw at refl
options_read_as key false true true false d at = rw at refl
options_read_as key false true false true d at = rw at refl
options_read_as key false true false false d at = rw at refl
options_read_as key false false true true d at = rw at refl
options_read_as key false false true false d at = rw at refl
options_read_as key false false false true d at = rw at refl
options_read_as key false false false false d at = rw at refl

-- the list is read as the options
pub options_read : (key : List ℕ) (o : Options) (d : Data) → get key d ≡ Some (array_data (text_list (option_names o))) → options_at key d ≡ Ok o
options_read key o d at = options_read_as key o.clone o.exec o.exit o.exitkill d at
