-- The words of a group's threads, thread by thread.
use Rattle.std.proofs.Common.{◌≡◌, ◌<◌, ◌^◌, ℕ, suc, List, [], ◌∷◌, ◌++◌, length, map, replicate, arith, ap, refl}
use Rattle.std.specs.List.{AllByRecursion}
use Rattle.std.proofs.lemmas.List.Elements.{recursion_from_All}
use Rattle.tr_sigset.proofs.Members.{in_word-zero}
use Rattle.tr_tracee.specs.declared.thread.Thread.{Thread}
use Rattle.tr_model.specs.declared.rows.Target.TheVariants as target
use Rattle.tr_model.specs.declared.rows.Waiting.{Waiting}
use Rattle.tr_model.specs.Tables.{ids_of}
use Rattle.tr_threads.specs.Rows.{AreWords, blocked_word, runnable_word}
use Rattle.tr_queues.specs.Changes.{queue_in}
use Rattle.tr_queues.specs.Queues.{count_own}
use Rattle.tr_table.specs.Rows.{AreOwn, AreRows, IsWord}
use Rattle.tr_queues.proofs.Owns.{none_own}

pub own_length : (ws : List Waiting) (ns os : List ℕ) → AreOwn ws ns os → length os ≡ length ns
own_length ws [] [] h = refl
own_length ws (n ∷ ns) (o ∷ os) h = ap suc (own_length ws ns os h.1)
own_length ws [] (o ∷ os) h = absurd h
own_length ws (n ∷ ns) [] h = absurd h

pub own_last : (ws : List Waiting) (ns os : List ℕ) (n o : ℕ) → AreOwn ws ns os → IsWord o (queue_in (target.Thread n) ws) → AreOwn ws (ns ++ n ∷ []) (os ++ o ∷ [])
own_last ws [] [] n o h k = (k, tt)
own_last ws (m ∷ ns) (p ∷ os) n o h k = (h.0, own_last ws ns os n o h.1 k)
own_last ws [] (p ∷ os) n o h k = absurd h
own_last ws (m ∷ ns) [] n o h k = absurd h

pub own_zeros : (ws : List Waiting) (ns : List ℕ) → count_own ws ≡ 0 → AreOwn ws ns (replicate (length ns) 0)
own_zeros ws [] none = tt
own_zeros ws (n ∷ ns) none = (rw (none_own n ws none) (record { waits = in_word-zero; fits = omega arith }), own_zeros ws ns none)

each_row : (ws : List Waiting) (ts : List Thread) (os : List ℕ) → AreOwn ws (ids_of ts) os → AllByRecursion (λ word. word < 2 ^ 64) (map blocked_word ts) → AreRows ws ts os (map blocked_word ts) (map runnable_word ts)
each_row ws [] [] h f = tt
each_row ws (t ∷ ts) (o ∷ os) h f = (record { own = h.0; blocked = refl; runnable = refl; fits = f.0 }, each_row ws ts os h.1 f.1)
each_row ws [] (o ∷ os) h f = absurd h
each_row ws (t ∷ ts) [] h f = absurd h

pub rows_are : (ws : List Waiting) (ts : List Thread) (os : List ℕ) → AreOwn ws (ids_of ts) os → AreWords (map blocked_word ts) → AreRows ws ts os (map blocked_word ts) (map runnable_word ts)
rows_are ws ts os h f = each_row ws ts os h (recursion_from_All (λ (word : ℕ). word < 2 ^ 64) (map blocked_word ts) f)
