-- What becomes of a signal right after its send is seen in the table before it.
use Rattle.std.proofs.Common.{◌≡◌, ◌∙◌, ◌==◌, ◌+◌, ◌<◌, ◌&&◌, ℕ, List, [], ◌∷◌, ◌++◌, Bool, true, false, not, ◌||◌, Option, Some, None, if◌then◌else◌, cond, map, filter, refl, sym, ap, ap₂, arith}
use Rattle.std.specs.Prelude.{nat_lt, is_some}
use Rattle.std.specs.List.{list_any}
use Rattle.std.proofs.Math.Bool.{and-false}
use Rattle.std.proofs.lemmas.Bool.{and_from, and_parts, eq-eqb, eqb-true, true≢false}
use Rattle.std.proofs.lemmas.Bool.Decides.{nat_tests}
use Rattle.std.proofs.lemmas.List.{append-nil}
use Rattle.tr_sigset.specs.Sets.{has}
use Rattle.tr_sigset.specs.Signals.{is_stop}
use Rattle.tr_pending.specs.declared.instance.Info.{Info}
use Rattle.tr_pending.specs.Waiting.{is_waiting}
use Rattle.tr_wait.specs.declared.status.Status.{Status}
use Rattle.tr_wait.specs.declared.status.Status.TheVariants as status
use Rattle.tr_tracee.specs.declared.life.Life.{Life}
use Rattle.tr_tracee.specs.declared.life.Life.TheVariants as life
use Rattle.tr_tracee.specs.declared.life.Stop.TheVariants as stop
use Rattle.tr_tracee.specs.declared.thread.Thread.{Thread}
use Rattle.tr_tracee.specs.declared.thread.Trace.{Trace}
use Rattle.tr_tracee.specs.Lives.{is_live}
use Rattle.tr_tracee.specs.Marks.{cont_noted, cont_noted_life, continued, continued_life, noted}
use Rattle.tr_tracee.specs.Stops.{or_else, traced_by}
use Rattle.tr_tracee.specs.Threads.{at_group, at_thread, in_group, is_traced, no_options}
use Rattle.tr_group.specs.Actions.{ignoring}
use Rattle.tr_model.specs.Choices.{Choice}
use Rattle.tr_model.specs.declared.events.Event.{Event}
use Rattle.tr_model.specs.declared.events.Event.TheVariants as event
use Rattle.tr_model.specs.declared.fates.Ending.{Ending}
use Rattle.tr_model.specs.declared.fates.Fate.{Fate}
use Rattle.tr_model.specs.declared.fates.Fate.TheVariants.{Pending, Merged, Delivered, Flushed}
use Rattle.tr_model.specs.declared.replies.Refusal.TheVariants.{Perm}
use Rattle.tr_model.specs.declared.rows.Group.{Group}
use Rattle.tr_model.specs.declared.rows.Target.{Target}
use Rattle.tr_model.specs.declared.rows.Target.TheVariants as target
use Rattle.tr_model.specs.declared.rows.Waiting.{Waiting}
use Rattle.tr_model.specs.Causes.{cause_of, first_cause, thread_then, traceable, unless}
use Rattle.tr_model.specs.Deaths.{kill_group}
use Rattle.tr_model.specs.Foreseen.{RepliesAreForeseen, fate_of_put, fate_of_send, fate_unless_ignored, reply_before, sent_before}
use Rattle.tr_model.specs.GroupStops.{complete_group_stop, complete_group_stops, complete_stop, continue_all, end_stop, ended_stop, note_stop}
use Rattle.tr_model.specs.Journals.{AllUpTo}
use Rattle.tr_model.specs.Moves.{Work, accept_as, alter, at, begin, each, ending_of, enqueue, group_changed, note, on_thread, only_group, regroup, when, with_note}
use Rattle.tr_model.specs.Sends.{before_send, continue_by_signal, flush_in, is_cont, is_ignored, is_live_thread, is_open, is_open_thread, is_reachable, put, put_unless_ignored, send, send_kill, send_other}
use Rattle.tr_model.specs.Steps.{fate_in, reply_of, work_of}
use Rattle.tr_model.specs.Stops.{at_stop, show, show_stop, stop_with}
use Rattle.tr_model.specs.Tables.{Table, action_of, actions_of, all_dead, group_in, group_of, group_of_thread, has_traced, is_dying, owner, owner_in, queue, same_target, stop_in_effect, thread_in, thread_of}
use Rattle.tr_model.specs.Tracing.{attach, trace}
use Rattle.tr_model.proofs.Among.{find_among}
use Rattle.tr_model.proofs.Live.{entering_same}

-- Moves after the send end nothing

ended_when : (b : Bool) (move : Work → Work) (w : Work) → ((v : Work) → (move v).ended ≡ v.ended) → (when b move w).ended ≡ w.ended
ended_when true move w h = h w
ended_when false move w h = refl

ended_note_stop : (g : ℕ) (o : Option ℕ) (w : Work) → (note_stop g o w).ended ≡ w.ended
ended_note_stop g None w = refl
ended_note_stop g (Some s) w = ended_when (not (has_traced w.table g)) (note g (status.Stopped s)) w (λ v. refl)

ended_complete : (g : ℕ) (w : Work) → (complete_group_stop g w).ended ≡ w.ended
ended_complete g w = ended_when _ (complete_stop g) w (λ v. ended_note_stop g (stop_in_effect v.table g) _)

ended_each : (gs : List ℕ) (w : Work) → (each gs complete_group_stop w).ended ≡ w.ended
ended_each [] w = refl
ended_each (g ∷ gs) w = ended_each gs (complete_group_stop g w) ∙ ended_complete g w

ended_stops : (w : Work) → (complete_group_stops w).ended ≡ w.ended
ended_stops w = ended_each (map (λ x. x.tgid) w.table.groups) w

ended_at : (id : ℕ) (move : Thread → Work → Work) (w : Work) → ((t : Thread) (v : Work) → (move t v).ended ≡ v.ended) → (at id move w).ended ≡ w.ended
ended_at id move w h = go (thread_of w.table id)
  where
    go : (o : Option Thread) → (on_thread o move w).ended ≡ w.ended
    go None = refl
    go (Some t) = h t w

ended_at_stop : (u : Thread) (o : Option ℕ) (w : Work) → (at_stop o (stop_with u) w).ended ≡ w.ended
ended_at_stop u None w = refl
ended_at_stop u (Some s) w = ended_at u.id _ w (entering_same _)

ended_show : (t : Thread) (w : Work) → (show_stop t w).ended ≡ w.ended
ended_show t w = ended_when _ (show t) w (λ v. ended_at t.id _ v (λ u x. ended_at_stop u (stop_in_effect v.table t.group) x))

-- What is flushed before was accepted before

past_flushed : (n m : ℕ) (p : Waiting → Bool) (ws : List Waiting) (es : List Ending) → AllUpTo m ws → m < n → fate_in (map (ending_of Flushed) (filter p ws) ++ es) n ≡ fate_in es n
past_flushed n m p [] es h l = refl
past_flushed n m p (w ∷ ws) es h l = go (p w) (past_flushed n m p ws es h.1 l)
  where
    other : (w.instance.n == n) ≡ false
    other = let le = h.0 in grind (arith, nat_tests, le, l)

    go : (b : Bool) → fate_in (map (ending_of Flushed) (filter p ws) ++ es) n ≡ fate_in es n → fate_in (map (ending_of Flushed) (cond b (w ∷ filter p ws) (filter p ws)) ++ es) n ≡ fate_in es n
    go true e = rw other e
    go false e = e

-- A flush of other signals leaves those of this one

still_waits : (s : ℕ) (q : Target) (p : Waiting → Bool) → ((w : Waiting) → w.instance.sig ≡ s → p w ≡ false) → (ws : List Waiting)
    → is_waiting s (map (λ w. w.instance) (filter (λ w. same_target q w.target) (filter (λ w. not (p w)) ws))) ≡ is_waiting s (map (λ w. w.instance) (filter (λ w. same_target q w.target) ws))
still_waits s q p h [] = refl
still_waits s q p h (w ∷ ws) = go (w.instance.sig == s) refl (p w) refl (same_target q w.target) refl (still_waits s q p h ws)
  where
    rest : List Waiting
    rest = filter (λ w. not (p w)) ws

    mine : List Waiting → List Waiting
    mine = filter (λ w. same_target q w.target)

    go : (a : Bool) → (w.instance.sig == s) ≡ a → (b : Bool) → p w ≡ b → (c : Bool) → same_target q w.target ≡ c
        → is_waiting s (map (λ w. w.instance) (mine rest)) ≡ is_waiting s (map (λ w. w.instance) (mine ws))
        → is_waiting s (map (λ w. w.instance) (mine (cond (not b) (w ∷ rest) rest))) ≡ is_waiting s (map (λ w. w.instance) (cond c (w ∷ mine ws) (mine ws)))
    go a e true f true g ih = absurd_or a e
      where
        absurd_or : (a : Bool) → (w.instance.sig == s) ≡ a → is_waiting s (map (λ w. w.instance) (mine rest)) ≡ is_waiting s (w.instance ∷ map (λ w. w.instance) (mine ws))
        absurd_or true e = absurd (true≢false (sym f ∙ h w (eqb-true w.instance.sig s e)))
        absurd_or false e = rw e ih
    go a e true f false g ih = ih
    go a e false f true g ih = rw g (ap (λ b. (w.instance.sig == s) || b) ih)
    go a e false f false g ih = rw g ih

-- What a send asks of threads and groups

record Alike (s : ℕ) (q : Target) (T U : Table) : Type 0 where
  owner : owner U q ≡ owner T q
  actions : (g : ℕ) → actions_of (group_of U g) ≡ actions_of (group_of T g)
  openness : is_open U s q ≡ is_open T s q

alike_ignored : (s : ℕ) (q : Target) (T U : Table) → Alike s q T U → is_ignored U s q ≡ is_ignored T s q
alike_ignored s q T U h = rw (h.owner, h.actions (owner T q), h.openness) refl

alike_same : (s : ℕ) (q : Target) (T : Table) → Alike s q T T
alike_same s q T = record { owner = refl; actions = λ g. refl; openness = refl }

alike_then : (s : ℕ) (q : Target) (T U V : Table) → Alike s q T U → Alike s q U V → Alike s q T V
alike_then s q T U V h k = record { owner = k.owner ∙ h.owner; actions = λ g. k.actions g ∙ h.actions g; openness = k.openness ∙ h.openness }

-- a change of a thread's record that no send minds
record Keeps (f : Thread → Thread) : Type 0 where
  id : (t : Thread) → (f t).id ≡ t.id
  group : (t : Thread) → (f t).group ≡ t.group
  trace : (t : Thread) → (f t).trace ≡ t.trace
  mask : (t : Thread) → (f t).mask ≡ t.mask
  live : (t : Thread) → is_live (f t).life ≡ is_live t.life

abbrev mapped : (Thread → Thread) → Option Thread → Option Thread
mapped f None = None
mapped f (Some t) = Some (f t)

found_after : (f : Thread → Thread) → ((t : Thread) → (f t).id ≡ t.id) → (id : ℕ) (ts : List Thread) → thread_in (map f ts) id ≡ mapped f (thread_in ts id)
found_after f h id [] = refl
found_after f h id (t ∷ ts) = ap (λ i. cond (i == id) (Some (f t)) (thread_in (map f ts) id)) (h t) ∙ go (t.id == id) (found_after f h id ts)
  where
    go : (b : Bool) → thread_in (map f ts) id ≡ mapped f (thread_in ts id) → cond b (Some (f t)) (thread_in (map f ts) id) ≡ mapped f (cond b (Some t) (thread_in ts id))
    go true e = refl
    go false e = e

any_after : (f : Thread → Thread) → ((t : Thread) → (f t).group ≡ t.group) → (p : Thread → Bool) → ((t : Thread) → p (f t) ≡ p t) → (g : ℕ) (ts : List Thread)
    → list_any p (filter (in_group g) (map f ts)) ≡ list_any p (filter (in_group g) ts)
any_after f h p k g [] = refl
any_after f h p k g (t ∷ ts) = ap (λ i. list_any p (cond (i == g) (f t ∷ filter (in_group g) (map f ts)) (filter (in_group g) (map f ts)))) (h t) ∙ go (t.group == g) (any_after f h p k g ts)
  where
    go : (b : Bool) → list_any p (filter (in_group g) (map f ts)) ≡ list_any p (filter (in_group g) ts)
        → list_any p (cond b (f t ∷ filter (in_group g) (map f ts)) (filter (in_group g) (map f ts))) ≡ list_any p (cond b (t ∷ filter (in_group g) ts) (filter (in_group g) ts))
    go true e = ap₂ (λ a b. a || b) (k t) e
    go false e = e

owner_after : (f : Thread → Thread) → Keeps f → (q : Target) (ts : List Thread) → owner_in (map f ts) q ≡ owner_in ts q
owner_after f k (target.Group g) ts = refl
owner_after f k (target.Thread id) ts = ap group_of_thread (found_after f k.id id ts) ∙ go (thread_in ts id)
  where
    go : (o : Option Thread) → group_of_thread (mapped f o) ≡ group_of_thread o
    go None = refl
    go (Some t) = k.group t

open_after : (f : Thread → Thread) → Keeps f → (s : ℕ) (q : Target) (w : Work) → is_open (alter f w).table s q ≡ is_open w.table s q
open_after f k s (target.Thread id) w = ap (is_open_thread s) (found_after f k.id id w.table.threads) ∙ go (thread_in w.table.threads id)
  where
    go : (o : Option Thread) → is_open_thread s (mapped f o) ≡ is_open_thread s o
    go None = refl
    go (Some t) = rw (k.trace t, k.mask t) refl
open_after f k s (target.Group g) w =
    ap₂ (λ a b. not a && not b) (any_after f k.group is_traced (λ t. ap is_some (k.trace t)) g w.table.threads)
    (any_after f k.group (λ t. is_live t.life && has t.mask s) (λ t. ap₂ (λ a b. a && has b s) (k.live t) (k.mask t)) g w.table.threads)

alike_altered : (f : Thread → Thread) → Keeps f → (s : ℕ) (q : Target) (w : Work) → Alike s q w.table (alter f w).table
alike_altered f k s q w = record { owner = owner_after f k q w.table.threads; actions = λ g. refl; openness = open_after f k s q w }

keeps_where : (p : Thread → Bool) (f : Thread → Thread) → Keeps f → Keeps (λ t. if p t then f t else t)
keeps_where p f k = record {
  id = λ t. elim (p t) as (λ b. (if b then f t else t).id ≡ t.id) [ true ↦ k.id t | false ↦ refl ];
  group = λ t. elim (p t) as (λ b. (if b then f t else t).group ≡ t.group) [ true ↦ k.group t | false ↦ refl ];
  trace = λ t. elim (p t) as (λ b. (if b then f t else t).trace ≡ t.trace) [ true ↦ k.trace t | false ↦ refl ];
  mask = λ t. elim (p t) as (λ b. (if b then f t else t).mask ≡ t.mask) [ true ↦ k.mask t | false ↦ refl ];
  live = λ t. elim (p t) as (λ b. is_live (if b then f t else t).life ≡ is_live t.life) [ true ↦ k.live t | false ↦ refl ];
}

live_noted : (l : Life) → is_live (cont_noted_life l) ≡ is_live l
live_noted (life.InStop (stop.Signal i came)) = refl
live_noted (life.InStop _) = refl
live_noted _ = refl

live_continued : (l : Life) → is_live (continued_life l) ≡ is_live l
live_continued life.Stopped = refl
live_continued _ = refl

keeps_cont_noted : Keeps cont_noted
keeps_cont_noted = record { id = λ t. refl; group = λ t. refl; trace = λ t. refl; mask = λ t. refl; live = λ t. live_noted t.life }

keeps_noted : Keeps noted
keeps_noted = record { id = λ t. refl; group = λ t. refl; trace = λ t. refl; mask = λ t. refl; live = λ t. refl }

keeps_continued : Keeps continued
keeps_continued = record { id = λ t. refl; group = λ t. refl; trace = λ t. refl; mask = λ t. refl; live = λ t. live_continued t.life }

-- Groups: their actions stay

actions_after : (f : Group → Group) → ((x : Group) → (f x).tgid ≡ x.tgid) → ((x : Group) → (f x).actions ≡ x.actions) → (g : ℕ) (xs : List Group) → actions_of (group_in (map f xs) g) ≡ actions_of (group_in xs g)
actions_after f h k g [] = refl
actions_after f h k g (x ∷ xs) = ap (λ i. actions_of (cond (i == g) (Some (f x)) (group_in (map f xs) g))) (h x) ∙ go (x.tgid == g) (actions_after f h k g xs)
  where
    go : (b : Bool) → actions_of (group_in (map f xs) g) ≡ actions_of (group_in xs g) → actions_of (cond b (Some (f x)) (group_in (map f xs) g)) ≡ actions_of (cond b (Some x) (group_in xs g))
    go true e = k x
    go false e = e

actions_noted : (n : ℕ) (s : Status) (h g : ℕ) (xs : List Group) → actions_of (group_in (group_changed h (with_note n s) xs) g) ≡ actions_of (group_in xs g)
actions_noted n s h g [] = refl
actions_noted n s h g (x ∷ xs) = go (x.tgid == h) (actions_noted n s h g xs)
  where
    go : (b : Bool) → actions_of (group_in (group_changed h (with_note n s) xs) g) ≡ actions_of (group_in xs g)
        → actions_of (group_in (if b then with_note n s x ∷ xs else x ∷ group_changed h (with_note n s) xs) g) ≡ actions_of (group_in (x ∷ xs) g)
    go true e = elim (x.tgid == g) as (λ c. actions_of (cond c (Some (with_note n s x)) (group_in xs g)) ≡ actions_of (cond c (Some x) (group_in xs g))) [ true ↦ refl | false ↦ refl ]
    go false e = elim (x.tgid == g) as (λ c. actions_of (cond c (Some x) (group_in (group_changed h (with_note n s) xs) g)) ≡ actions_of (cond c (Some x) (group_in xs g))) [ true ↦ refl | false ↦ e ]

alike_regrouped : (h : ℕ) (s : ℕ) (q : Target) (w : Work) → Alike s q w.table (regroup (only_group h ended_stop) w).table
alike_regrouped h s q w = record { owner = refl; actions = λ g. actions_after (only_group h ended_stop) tgid_kept actions_kept g w.table.groups; openness = refl }
  where
    tgid_kept : (x : Group) → (only_group h ended_stop x).tgid ≡ x.tgid
    tgid_kept x = elim (x.tgid == h) as (λ b. (if b then ended_stop x else x).tgid ≡ x.tgid) [ true ↦ refl | false ↦ refl ]

    actions_kept : (x : Group) → (only_group h ended_stop x).actions ≡ x.actions
    actions_kept x = elim (x.tgid == h) as (λ b. (if b then ended_stop x else x).actions ≡ x.actions) [ true ↦ refl | false ↦ refl ]

alike_noted : (h : ℕ) (x : Status) (s : ℕ) (q : Target) (w : Work) → Alike s q w.table (note h x w).table
alike_noted h x s q w = record { owner = refl; actions = λ g. actions_noted (w.table.raised + 1) x h g w.table.groups; openness = refl }

alike_when : (b : Bool) (move : Work → Work) (s : ℕ) (q : Target) (w : Work) → ((v : Work) → Alike s q v.table (move v).table) → Alike s q w.table (when b move w).table
alike_when true move s q w h = h w
alike_when false move s q w h = alike_same s q w.table

-- What a send does before it is put

record Prepared (s : ℕ) (q : Target) (w v : Work) : Type 0 where
  accepted : v.table.accepted ≡ w.table.accepted
  past : (es : List Ending) → fate_in (v.ended ++ es) (w.table.accepted + 1) ≡ fate_in es (w.table.accepted + 1)
  waits : is_waiting s (queue v.table q) ≡ is_waiting s (queue w.table q)
  alike : Alike s q w.table v.table

-- at the beginning of a step nothing has ended
record Begins (w : Work) : Type 0 where
  ended : w.ended ≡ []
  numbered : AllUpTo w.table.accepted w.table.waiting

prepared_nothing : (s : ℕ) (q : Target) (w : Work) → Begins w → Prepared s q w w
prepared_nothing s q w b = record { accepted = refl; past = λ es. ap (λ xs. fate_in (xs ++ es) (w.table.accepted + 1)) b.ended; waits = refl; alike = alike_same s q w.table }

prepared_flush : (s : ℕ) (q : Target) (g : ℕ) (p : ℕ → Bool) (w : Work) → p s ≡ false → Begins w → Prepared s q w (flush_in g p w)
prepared_flush s q g p w h b = record {
  accepted = refl;
  past = λ es. ap (λ xs. fate_in ((xs ++ map (ending_of Flushed) (filter flushed w.table.waiting)) ++ es) (w.table.accepted + 1)) b.ended ∙ past_flushed (w.table.accepted + 1) w.table.accepted flushed w.table.waiting es b.numbered (omega arith);
  waits = still_waits s q flushed (λ x e. ap (λ a. p a && owner w.table x.target == g) e ∙ ap (λ c. c && owner w.table x.target == g) h) w.table.waiting;
  alike = record { owner = refl; actions = λ k. refl; openness = refl };
}
  where
    flushed : Waiting → Bool
    flushed x = p x.instance.sig && owner w.table x.target == g

record Quietly (s : ℕ) (q : Target) (w v : Work) : Type 0 where
  accepted : v.table.accepted ≡ w.table.accepted
  ended : v.ended ≡ w.ended
  waiting : v.table.waiting ≡ w.table.waiting
  alike : Alike s q w.table v.table

quietly_then : (s : ℕ) (q : Target) (u v w : Work) → Quietly s q u v → Quietly s q v w → Quietly s q u w
quietly_then s q u v w h k = record { accepted = k.accepted ∙ h.accepted; ended = k.ended ∙ h.ended; waiting = k.waiting ∙ h.waiting; alike = alike_then s q u.table v.table w.table h.alike k.alike }

quietly_when : (b : Bool) (move : Work → Work) (s : ℕ) (q : Target) (w : Work) → ((v : Work) → Quietly s q v (move v)) → Quietly s q w (when b move w)
quietly_when true move s q w h = h w
quietly_when false move s q w h = record { accepted = refl; ended = refl; waiting = refl; alike = alike_same s q w.table }

altered : (f : Thread → Thread) → Keeps f → (s : ℕ) (q : Target) (w : Work) → Quietly s q w (alter f w)
altered f k s q w = record { accepted = refl; ended = refl; waiting = refl; alike = alike_altered f k s q w }

stop_ends : (g : ℕ) (s : ℕ) (q : Target) (w : Work) → Quietly s q w (end_stop g w)
stop_ends g s q w =
    quietly_then s q w (regroup (only_group g ended_stop) w) _ (record { accepted = refl; ended = refl; waiting = refl; alike = alike_regrouped g s q w })
    (quietly_then s q (regroup (only_group g ended_stop) w) (alter (at_group g continued) (regroup (only_group g ended_stop) w)) _
    (altered (at_group g continued) (keeps_where (in_group g) continued keeps_continued) s q (regroup (only_group g ended_stop) w))
    (quietly_when _ (note g _) s q (alter (at_group g continued) (regroup (only_group g ended_stop) w)) (λ v. record { accepted = refl; ended = refl; waiting = refl; alike = alike_noted g _ s q v })))

continues : (g : ℕ) (s : ℕ) (q : Target) (w : Work) → Quietly s q w (continue_all g w)
continues g s q w =
    quietly_then s q w (alter (at_group g noted) w) _ (altered (at_group g noted) (keeps_where (in_group g) noted keeps_noted) s q w)
    (quietly_when (is_some (stop_in_effect w.table g)) (end_stop g) s q (alter (at_group g noted) w) (stop_ends g s q))

prepared_quietly : (s : ℕ) (q : Target) (u v w : Work) → Prepared s q u v → Quietly s q v w → Prepared s q u w
prepared_quietly s q u v w h k = record {
  accepted = k.accepted ∙ h.accepted;
  past = λ es. ap (λ xs. fate_in (xs ++ es) (u.table.accepted + 1)) k.ended ∙ h.past es;
  waits = ap (λ ws. is_waiting s (map (λ x. x.instance) (filter (λ x. same_target q x.target) ws))) k.waiting ∙ h.waits;
  alike = alike_then s q u.table v.table w.table h.alike k.alike;
}

prepared_cont : (s : ℕ) (q : Target) (g : ℕ) (w : Work) → s ≡ 18 → Begins w → Prepared s q w (continue_by_signal g w)
prepared_cont s q g w e b =
    prepared_quietly s q w (flush_in g is_stop w) _ (prepared_flush s q g is_stop w (ap is_stop e) b)
    (quietly_then s q (flush_in g is_stop w) (alter (at_group g cont_noted) (flush_in g is_stop w)) _
    (altered (at_group g cont_noted) (keeps_where (in_group g) cont_noted keeps_cont_noted) s q (flush_in g is_stop w))
    (continues g s q (alter (at_group g cont_noted) (flush_in g is_stop w))))

prepared : (s : ℕ) (q : Target) (g : ℕ) (w : Work) → Begins w → Prepared s q w (before_send s g w)
prepared s q g w b = go (is_stop s) refl (is_cont s) refl
  where
    no_stop_continues : is_stop s ≡ true → (c : Bool) → is_cont s ≡ c → c ≡ false
    no_stop_continues h true k = absurd (true≢false (sym h ∙ ap is_stop (eqb-true s 18 k)))
    no_stop_continues h false k = refl

    go : (x : Bool) → is_stop s ≡ x → (y : Bool) → is_cont s ≡ y → Prepared s q w (if x then flush_in g is_cont w else when y (continue_by_signal g) w)
    go true e y f = prepared_flush s q g is_cont w (f ∙ no_stop_continues e y f) b
    go false e true f = prepared_cont s q g w (eqb-true s 18 f) b
    go false e false f = prepared_nothing s q w b

-- What becomes of it

put_fate : (s : ℕ) (i : Info) (q : Target) (w v : Work) → Prepared s q w v → fate_in (put_unless_ignored s i q v).ended (w.table.accepted + 1) ≡ fate_unless_ignored w.table s q
put_fate s i q w v p = rw (alike_ignored s q w.table v.table p.alike) (by_ignored (is_ignored w.table s q))
  where
    last : (fate : Fate) → fate_in (accept_as fate v).ended (w.table.accepted + 1) ≡ fate
    last fate = p.past (record { number = v.table.accepted + 1; fate = fate } ∷ []) ∙ rw (eq-eqb (v.table.accepted + 1) (w.table.accepted + 1) (ap (λ n. n + 1) p.accepted)) refl

    by_merges : (b : Bool) → fate_in (if b then accept_as Merged v else enqueue s i q v).ended (w.table.accepted + 1) ≡ (if b then Merged else Pending)
    by_merges true = last Merged
    by_merges false = ap (λ xs. fate_in xs (w.table.accepted + 1)) (sym (append-nil v.ended)) ∙ p.past []

    by_ignored : (b : Bool) → fate_in (if b then accept_as Flushed v else put s i q v).ended (w.table.accepted + 1) ≡ (if b then Flushed else fate_of_put w.table s q)
    by_ignored true = last Flushed
    by_ignored false = rw p.waits (by_merges (nat_lt s 32 && is_waiting s (queue w.table q)))

-- what was accepted first in a step has that fate, whatever ends after it
accepted_fate : (fate : Fate) (w : Work) (es : List Ending) → w.ended ≡ [] → fate_in ((accept_as fate w).ended ++ es) (w.table.accepted + 1) ≡ fate
accepted_fate fate w es e =
    ap (λ xs. fate_in ((xs ++ record { number = w.table.accepted + 1; fate = fate } ∷ []) ++ es) (w.table.accepted + 1)) e
    ∙ ap (λ b. if b then fate else fate_in es (w.table.accepted + 1)) (eq-eqb (w.table.accepted + 1) (w.table.accepted + 1) refl)

accepted_last : (fate : Fate) (w : Work) → w.ended ≡ [] → fate_in (accept_as fate w).ended (w.table.accepted + 1) ≡ fate
accepted_last fate w e = ap (λ xs. fate_in xs (w.table.accepted + 1)) (sym (append-nil (accept_as fate w).ended)) ∙ accepted_fate fate w [] e

send_fate : (s : ℕ) (i : Info) (q : Target) (w : Work) → Begins w → fate_in (send s i q w).ended (w.table.accepted + 1) ≡ fate_of_send w.table s q
send_fate s i q w b = go (s == 9)
  where
    g : ℕ
    g = owner w.table q

    killed : (d : Bool) → fate_in (if d then accept_as Flushed w else kill_group g (accept_as Delivered w)).ended (w.table.accepted + 1) ≡ (if d then Flushed else Delivered)
    killed true = accepted_last Flushed w b.ended
    killed false = accepted_fate Delivered w _ b.ended

    reached : (r : Bool) → fate_in (if r then put_unless_ignored s i q (before_send s g w) else accept_as Flushed w).ended (w.table.accepted + 1) ≡ (if r then fate_unless_ignored w.table s q else Flushed)
    reached true = put_fate s i q w (before_send s g w) (prepared s q g w b)
    reached false = accepted_last Flushed w b.ended

    go : (k : Bool) → fate_in (if k then send_kill g w else send_other s i q w).ended (w.table.accepted + 1) ≡ (if k then if all_dead w.table g then Flushed else Delivered else if is_reachable w.table q then fate_unless_ignored w.table s q else Flushed)
    go true = killed (all_dead w.table g)
    go false = reached (is_reachable w.table q)

sent_is : (T : Table) (s : ℕ) (i : Info) (q : Target) → AllUpTo T.accepted T.waiting → fate_of_send T s q ≡ fate_in (complete_group_stops (send s i q (begin T))).ended (T.accepted + 1)
sent_is T s i q h = sym (ap (λ xs. fate_in xs (T.accepted + 1)) (ended_stops (send s i q (begin T))) ∙ send_fate s i q (begin T) (record { ended = refl; numbered = h }))

-- The SIGSTOP of an attach

is_traced_now : (o : Option Trace) (r : Trace) → is_some (or_else o r) ≡ true
is_traced_now None r = refl
is_traced_now (Some old) r = refl

module _ (T : Table) (a : ℕ) (t : Thread) (there : thread_in T.threads t.id ≡ Some t) where
  abbrev r : Trace
  r = record { tracer = a; seized = false; options = no_options }

  abbrev tracing : Work
  tracing = trace a false no_options t (begin T)

  id_stays : (x : Thread) → (at_thread t.id (traced_by r) x).id ≡ x.id
  id_stays x = elim (x.id == t.id) as (λ b. (if b then traced_by r x else x).id ≡ x.id) [ true ↦ refl | false ↦ refl ]

  traced_there : thread_in tracing.table.threads t.id ≡ Some (traced_by r t)
  traced_there =
      found_after (at_thread t.id (traced_by r)) id_stays t.id T.threads
      ∙ (ap (mapped (at_thread t.id (traced_by r))) there ∙ ap (λ b. Some (if b then traced_by r t else t)) (eq-eqb t.id t.id refl))

  reachable_now : (is_live t.life && not (is_dying T t.group)) ≡ true → is_reachable tracing.table (target.Thread t.id) ≡ true
  reachable_now h = ap₂ (λ (o p : Option Thread). is_live_thread o && not (is_dying T (group_of_thread p))) traced_there traced_there ∙ h

  not_ignored : is_ignored tracing.table 19 (target.Thread t.id) ≡ false
  not_ignored =
      ap (λ o. ignoring (action_of tracing.table (owner tracing.table (target.Thread t.id)) 19) 19 && is_open_thread 19 o) traced_there
      ∙ (ap (λ b. ignoring (action_of tracing.table (owner tracing.table (target.Thread t.id)) 19) 19 && (not b && not (has t.mask 19))) (is_traced_now t.trace r)
      ∙ and-false (ignoring (action_of tracing.table (owner tracing.table (target.Thread t.id)) 19) 19))

  stop_fate : (i : Info) → AllUpTo T.accepted T.waiting → (is_live t.life && not (is_dying T t.group)) ≡ true
      → fate_in (complete_group_stops (show_stop t (send 19 i (target.Thread t.id) tracing))).ended (T.accepted + 1) ≡ fate_of_put T 19 (target.Thread t.id)
  stop_fate i h l =
      ap (λ xs. fate_in xs (T.accepted + 1)) (ended_stops (show_stop t (send 19 i (target.Thread t.id) tracing)) ∙ ended_show t (send 19 i (target.Thread t.id) tracing))
      ∙ (send_fate 19 i (target.Thread t.id) tracing (record { ended = refl; numbered = h })
      ∙ (ap (λ b. if b then fate_unless_ignored tracing.table 19 (target.Thread t.id) else Flushed) (reachable_now l)
      ∙ ap (λ b. if b then Flushed else fate_of_put T 19 (target.Thread t.id)) not_ignored))

attach_fate : (T : Table) (a id : ℕ) → AllUpTo T.accepted T.waiting → cause_of T a (event.Attach id) ≡ None
    → fate_of_put T 19 (target.Thread id) ≡ fate_in (complete_group_stops (at id (attach a) (begin T))).ended (T.accepted + 1)
attach_fate T a id h e = go (thread_of T id) refl e
  where
    by : (t : Thread) → thread_of T id ≡ Some t → (b : Bool) → (not (is_traced t) && is_live t.life && not (is_dying T t.group)) ≡ b → first_cause (unless b Perm ∷ []) ≡ None
        → fate_of_put T 19 (target.Thread id) ≡ fate_in (complete_group_stops (attach a t (begin T))).ended (T.accepted + 1)
    by t f false g q = cc
    by t f true g q =
        let same : t.id ≡ id = eqb-true t.id id (find_among (λ x. x.id == id) t T.threads f).1 in
        let there : thread_in T.threads t.id ≡ Some t = ap (thread_in T.threads) same ∙ f in
        let parts = and_parts (not (is_traced t) && is_live t.life) (not (is_dying T t.group)) g in
        let live = and_from (is_live t.life) (not (is_dying T t.group)) (and_parts (not (is_traced t)) (is_live t.life) parts.0).1 parts.1 in
        ap (λ k. fate_of_put T 19 (target.Thread k)) (sym same) ∙ sym (stop_fate T a t there _ h live)

    go : (o : Option Thread) → thread_of T id ≡ o → first_cause (thread_then o (λ t. traceable T t ∷ [])) ≡ None
        → fate_of_put T 19 (target.Thread id) ≡ fate_in (complete_group_stops (on_thread o (attach a) (begin T))).ended (T.accepted + 1)
    go None f q = cc
    go (Some t) f q = by t f (not (is_traced t) && is_live t.life && not (is_dying T t.group)) refl q

-- Replies

pub replies_are_foreseen : RepliesAreForeseen
replies_are_foreseen T e h p = go e.event e.choice p.no_cause
  where
    go : (x : Event) (c : Choice) → cause_of T e.actor x ≡ None → reply_before T e.actor x c ≡ reply_of T e.actor x c (work_of T (record { actor = e.actor; event = x; choice = c }))
    go (event.Kill g s) c q = ap (sent_before T) (sent_is T s _ (target.Group g) h)
    go (event.Tgkill g id s) c q = ap (sent_before T) (sent_is T s _ (target.Thread id) h)
    go (event.Sigqueue g s v) c q = ap (sent_before T) (sent_is T s _ (target.Group g) h)
    go (event.Attach id) c q = ap (sent_before T) (attach_fate T e.actor id h q)
    go _ c q = refl
