-- Groups that have nothing to tell the starter add nothing to what its waits find.
use Rattle.std.proofs.Common.{◌≡◌, ◌==◌, ◌&&◌, ◌++◌, ◌∙◌, ℕ, List, [], ◌∷◌, Bool, true, false, not, Option, Some, None, cond, if◌then◌else◌, filter, flat_map, is_some, ap, refl, sym}
use Rattle.std.proofs.lemmas.Bool.{or_from, or_parts}
use Rattle.std.specs.List.{list_any}
use Rattle.tr_wait.specs.Words.{asks_for}
use Rattle.tr_wait.specs.declared.waits.WaitFlags.{WaitFlags}
use Rattle.tr_wait.specs.declared.waits.Which.{Which}
use Rattle.tr_tracee.specs.declared.thread.Report.{Report}
use Rattle.tr_tracee.specs.declared.thread.Thread.{Thread}
use Rattle.tr_tracee.specs.Lives.{is_dead}
use Rattle.tr_tracee.specs.Threads.{is_traced}
use Rattle.tr_model.specs.declared.rows.Group.{Group}
use Rattle.tr_model.specs.StarterWaits.{death_number, has_death, note_number, note_wanted, ready_of_group, shows_note, with_death, group_with_note}
use Rattle.tr_model.specs.Tables.{Table, has_traced, thread_in, thread_of}
use Rattle.tr_model.specs.Waits.{has_report, report_number}
use Rattle.tr_table.specs.Telling.{has_died, tells_starter}
use Rattle.tr_threads.specs.Waits.{is_untraced_death}
use Rattle.tr_ends.specs.Private.{first_number, led_among}

-- no death

none_died : (ts : List Thread) (id : ℕ) → list_any is_untraced_death ts ≡ false → has_died (thread_in ts id) ≡ false
none_died [] id e = refl
none_died (t ∷ ts) id e = let p = or_parts _ _ e in go (t.id == id) p.0 (none_died ts id p.1)
  where
    go : (b : Bool) → is_untraced_death t ≡ false → has_died (thread_in ts id) ≡ false → has_died (if b then Some t else thread_in ts id) ≡ false
    go true k r = k
    go false k r = r

no_number : (o : Option Thread) → has_died o ≡ false → death_number o ≡ []
no_number None e = refl
no_number (Some t) e = go (is_dead t.life) (is_traced t) t.report e
  where
    go : (a b : Bool) (r : Option Report) → (a && (not b && is_some r)) ≡ false → (if a && not b then report_number r else []) ≡ []
    go true true r k = refl
    go true false None k = refl
    go true false (Some x) k = cc
    go false b r k = refl

no_death : (n : ℕ) (o : Option Thread) → has_died o ≡ false → has_death n o ≡ false
no_death n None e = refl
no_death n (Some t) e = go (is_dead t.life) (is_traced t) t.report e
  where
    go : (a b : Bool) (r : Option Report) → (a && (not b && is_some r)) ≡ false → (a && (not b && has_report n r)) ≡ false
    go true true r k = refl
    go true false None k = refl
    go true false (Some x) k = cc
    go false b r k = refl

pub no_leader : (T : Table) → list_any is_untraced_death T.threads ≡ false → (gs : List Group) (n : ℕ) → with_death T gs n ≡ None
no_leader T e [] n = refl
no_leader T e (g ∷ gs) n = ap (λ b. if b then thread_of T g.tgid else with_death T gs n) (no_death n (thread_of T g.tgid) (none_died T.threads g.tgid e)) ∙ no_leader T e gs n

-- no note

unnumbered : (n : ℕ) (r : Option Report) → is_some r ≡ false → has_report n r ≡ false
unnumbered n None e = refl
unnumbered n (Some x) e = cc

pub no_noter : (p : Group → Bool) (gs : List Group) → list_any (λ g. is_some g.note) gs ≡ false → (n : ℕ) → group_with_note (filter p gs) n ≡ None
no_noter p [] e n = refl
no_noter p (g ∷ gs) e n = let h = or_parts _ _ e in go (p g) h.0 (no_noter p gs h.1 n)
  where
    go : (b : Bool) → is_some g.note ≡ false → group_with_note (filter p gs) n ≡ None → group_with_note (cond b (g ∷ filter p gs) (filter p gs)) n ≡ None
    go true k r = ap (λ d. if d then Some g else group_with_note (filter p gs) n) (unnumbered n g.note k) ∙ r
    go false k r = r

-- neither

hidden : (flags : WaitFlags) (r : Option Report) (b : Bool) → (is_some r && not b) ≡ false → (not b && note_wanted flags r) ≡ false
hidden flags r true e = refl
hidden flags None false e = refl
hidden flags (Some x) false e = cc

nothing_ready : (T : Table) (flags : WaitFlags) (g : Group) → has_died (thread_of T g.tgid) ≡ false → (not (has_traced T g.tgid) && note_wanted flags g.note) ≡ false → ready_of_group T flags g ≡ []
nothing_ready T flags g e k = ap (λ ns. ns ++ (if has_traced T g.tgid then [] else note_number flags g.note)) (no_number (thread_of T g.tgid) e) ∙ go (has_traced T g.tgid) (note_wanted flags g.note) k
  where
    go : (b c : Bool) → (not b && c) ≡ false → (if b then [] else (if c then report_number g.note else [])) ≡ []
    go true c k = refl
    go false true k = cc
    go false false k = refl

pub no_report_if : (b : Bool) (T : Table) (flags : WaitFlags) (g : Group) → list_any is_untraced_death T.threads ≡ false → (not (has_traced T g.tgid) && note_wanted flags g.note) ≡ false → None ≡ first_number (if b then ready_of_group T flags g else [])
no_report_if true T flags g e k = ap first_number (sym (nothing_ready T flags g (none_died T.threads g.tgid e) k))
no_report_if false T flags g e k = refl

no_report : (T : Table) (flags : WaitFlags) (g : Group) → tells_starter T g ≡ false → ready_of_group T flags g ≡ []
no_report T flags g e = let p = or_parts _ _ e in nothing_ready T flags g p.0 (hidden flags g.note (has_traced T g.tgid) p.1)

-- the first of these groups has nothing to tell

reports_passed : (T : Table) (flags : WaitFlags) (p : Group → Bool) (g : Group) (gs : List Group) → tells_starter T g ≡ false → flat_map (ready_of_group T flags) (filter p (g ∷ gs)) ≡ flat_map (ready_of_group T flags) (filter p gs)
reports_passed T flags p g gs e = go (p g)
  where
    go : (b : Bool) → flat_map (ready_of_group T flags) (cond b (g ∷ filter p gs) (filter p gs)) ≡ flat_map (ready_of_group T flags) (filter p gs)
    go true = ap (λ ns. ns ++ flat_map (ready_of_group T flags) (filter p gs)) (no_report T flags g e)
    go false = refl

pub first_passed : (T : Table) (which : Which) (flags : WaitFlags) (g : Group) (gs : List Group) → tells_starter T g ≡ false → first_number (flat_map (ready_of_group T flags) (led_among T which (g ∷ gs))) ≡ first_number (flat_map (ready_of_group T flags) (led_among T which gs))
first_passed T which flags g gs e = ap first_number (reports_passed T flags (λ x. asks_for which x.tgid && is_some (thread_of T x.tgid)) g gs e)

pub death_passed : (T : Table) (which : Which) (n : ℕ) (g : Group) (gs : List Group) → tells_starter T g ≡ false → with_death T (led_among T which (g ∷ gs)) n ≡ with_death T (led_among T which gs) n
death_passed T which n g gs e = go (asks_for which g.tgid && is_some (thread_of T g.tgid))
  where
    go : (b : Bool) → with_death T (cond b (g ∷ led_among T which gs) (led_among T which gs)) n ≡ with_death T (led_among T which gs) n
    go true = ap (λ b. if b then thread_of T g.tgid else with_death T (led_among T which gs) n) (no_death n (thread_of T g.tgid) (or_parts _ _ e).0)
    go false = refl

pub note_passed : (T : Table) (which : Which) (flags : WaitFlags) (n : ℕ) (g : Group) (gs : List Group) → tells_starter T g ≡ false → group_with_note (filter (shows_note T which flags) (g ∷ gs)) n ≡ group_with_note (filter (shows_note T which flags) gs) n
note_passed T which flags n g gs e = ap (λ b. group_with_note (cond b (g ∷ shown) shown) n) (unasked (asks_for which g.tgid) (is_some (thread_of T g.tgid)) (hidden flags g.note (has_traced T g.tgid) (or_parts _ _ e).1))
  where
    shown : List Group
    shown = filter (shows_note T which flags) gs

    unasked : (a b : Bool) {c : Bool} → c ≡ false → (a && (b && c)) ≡ false
    unasked true true k = k
    unasked true false k = refl
    unasked false b k = refl

pub no_reports : (T : Table) (flags : WaitFlags) → list_any is_untraced_death T.threads ≡ false → (p : Group → Bool) (gs : List Group) → list_any (λ g. is_some g.note && not (has_traced T g.tgid)) gs ≡ false
    → flat_map (ready_of_group T flags) (filter p gs) ≡ []
no_reports T flags d p [] e = refl
no_reports T flags d p (g ∷ gs) e = let h = or_parts _ _ e in reports_passed T flags p g gs (or_from _ _ (none_died T.threads g.tgid d) h.0) ∙ no_reports T flags d p gs h.1
