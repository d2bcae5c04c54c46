-- What an entry costs: signals that it accepts, reports that it raises, threads that it adds, deaths of groups that it
-- begins, and an id that passes to another thread.
use Rattle.std.proofs.Common.{◌≡◌, ℕ, suc, ◌+◌, ◌<◌, ◌≤◌, List, [], ◌∷◌, ◌++◌, length, true, false, Some, None, Option, refl, sym, subst, Bool, not, ◌&&◌, ◌==◌, if◌then◌else◌, map, arith, length-append, ◌*◌, ◌∙◌, unwrap_or}
use Rattle.std.proofs.Math.Nat.{suc-mul}
use Rattle.std.proofs.lemmas.Bool.{eq-eqb, leb-false, or_parts}
use Rattle.std.proofs.lemmas.List.{length-map}
use Rattle.tr_pending.specs.declared.instance.Info.{Info}
use Rattle.tr_pending.specs.declared.instance.Instance.{Instance}
use Rattle.tr_wait.specs.Words.{stop_sig_of}
use Rattle.tr_wait.specs.declared.status.Status.TheVariants as status
use Rattle.tr_tracee.specs.declared.life.End.{End}
use Rattle.tr_tracee.specs.declared.life.Life.{Life}
use Rattle.tr_tracee.specs.declared.life.Life.TheVariants as life
use Rattle.tr_tracee.specs.declared.life.Stop.TheVariants as stop
use Rattle.tr_tracee.specs.declared.thread.Options.{Options}
use Rattle.tr_tracee.specs.declared.thread.Report.{Report}
use Rattle.tr_tracee.specs.declared.thread.Thread.{Thread}
use Rattle.tr_tracee.specs.Lives
use Rattle.tr_tracee.specs.Marks
use Rattle.tr_tracee.specs.Stops as TraceeStops
use Rattle.tr_tracee.specs.Threads
use Rattle.tr_tracee.specs.Ends as TraceeEnds
use Rattle.tr_tracee.specs.declared.life.End.TheVariants as ending
use Rattle.tr_group.specs.declared.stops.Action.{Action}
use Rattle.tr_model.specs.Choices.{Choice}
use Rattle.tr_model.specs.Entries.{Entry}
use Rattle.tr_model.specs.declared.events.Event.{Event}
use Rattle.tr_model.specs.declared.events.Event.TheVariants as event
use Rattle.tr_model.specs.declared.fates.Fate.TheVariants.{Merged, Delivered, Suppressed, Flushed}
use Rattle.tr_model.specs.declared.replies.Did.{Did}
use Rattle.tr_model.specs.declared.replies.Did.TheVariants as did
use Rattle.tr_model.specs.declared.replies.Refusal.TheVariants.{Again, Busy, NotRunning}
use Rattle.tr_model.specs.declared.replies.Reply.{Reply}
use Rattle.tr_model.specs.declared.rows.Group.{Group}
use Rattle.tr_model.specs.declared.rows.Target.{Target}
use Rattle.tr_model.specs.declared.rows.Target.TheVariants as target
use Rattle.tr_model.specs.Causes
use Rattle.tr_model.specs.Deaths
use Rattle.tr_model.specs.Ends
use Rattle.tr_model.specs.Clones
use Rattle.tr_model.specs.Execs
use Rattle.tr_model.specs.GroupStops
use Rattle.tr_model.specs.Journals
use Rattle.tr_model.specs.Laws
use Rattle.tr_model.specs.Moves
use Rattle.tr_model.specs.Moves.{Work}
use Rattle.tr_model.specs.Restarts
use Rattle.tr_model.specs.Tracers
use Rattle.tr_model.specs.Tracing
use Rattle.tr_model.specs.Sends
use Rattle.tr_model.specs.Steps
use Rattle.tr_model.specs.Stops
use Rattle.tr_model.specs.Tables
use Rattle.tr_model.specs.Tables.{Table}
use Rattle.tr_model.specs.Takes
use Rattle.tr_model.specs.StarterWaits
use Rattle.tr_model.specs.Waits
use Rattle.tr_model.proofs.Costs.{Cost, cost, nothing, both, times, Bound, chain, within, less, none, after_still, then_still, branch, filter-le-length, alters, becomes, changes, regroups, notes, on_threads, ats, enters, holds, reports, spawns, removes, passing, take_places, drops, enqueues, accepts_as, ends_waiting}

-- Group-stops and deaths

initiates : (g s : ℕ) (w : Work) → Bound nothing w (GroupStops.initiate g s w)
initiates g s w = after_still w _ _ (regroups _ w) (alters _ (Moves.regroup (Moves.only_group g (GroupStops.beginning s)) w))

ends_stop : (g : ℕ) (w : Work) → Bound (cost 0 1 0 0) w (GroupStops.end_stop g w)
ends_stop g w =
    let v = Moves.regroup (Moves.only_group g GroupStops.ended_stop) w in
    after_still w v _ (regroups _ w) (after_still v _ _ (alters _ v) (branch _ _ _ _ (notes g status.Continued _) (none _)))

continues : (g : ℕ) (w : Work) → Bound (cost 0 1 0 0) w (GroupStops.continue_all g w)
continues g w = after_still w _ _ (alters _ w) (branch _ _ _ _ (ends_stop g _) (none _))

notes_stop : (g : ℕ) (o : Option ℕ) (w : Work) → Bound (cost 0 1 0 0) w (GroupStops.note_stop g o w)
notes_stop g None w = none w
notes_stop g (Some s) w = branch w _ _ w (notes g (status.Stopped s) w) (none w)

settles_group : (g : ℕ) (w : Work) → Bound (cost 0 1 0 0) w (GroupStops.complete_group_stop g w)
settles_group g w = branch w _ _ w (after_still w _ _ (regroups _ w) (notes_stop g _ (Moves.regroup (Moves.only_group g GroupStops.completed_group) w))) (none w)

-- moves of one cost
each : {c : Cost} (move : ℕ → Work → Work) → ((x : ℕ) (w : Work) → Bound c w (move x w)) → (xs : List ℕ) (w : Work) → Bound (times (length xs) c) w (Moves.each xs move w)
each move h [] w = none w
each {c = c} move h (x ∷ xs) w =
    within (record { accepted = one_more c.accepted; raised = one_more c.raised; added = one_more c.added; begun = one_more c.begun; passes = λ e. rw e refl })
    (chain w (move x w) _ (h x w) (each move h xs (move x w)))
  where
    one_more : (k : ℕ) → k + length xs * k ≤ suc (length xs) * k
    one_more k = omega (arith, suc-mul (length xs) k)

settles : (w : Work) → Bound (cost 0 (length w.table.groups) 0 0) w (GroupStops.complete_group_stops w)
settles w =
    within (record { accepted = omega arith; raised = omega (arith, length-map w.table.groups (λ (x : Group). x.tgid)); added = omega arith; begun = omega arith; passes = λ e. refl })
    (each GroupStops.complete_group_stop settles_group (map (λ x. x.tgid) w.table.groups) w)

deaths : (g : ℕ) (e : End) (kill : Bool) (w : Work) → Bound (cost 0 0 0 1) w (Deaths.begin_death g e kill w)
deaths g e kill w =
    let v = Moves.regroup (Moves.only_group g (Deaths.dying_with e)) w in
    let p = becomes Flushed (Threads.at_group g (TraceeEnds.begun_to_leave kill (unwrap_or (Tables.group_end w.table g) e))) v in
    after_still w v _ (regroups _ w) (record {
      accepted_grows = p.accepted_grows;
      accepts = p.accepts;
      raised_grows = p.raised_grows;
      raises = p.raises;
      threads = p.threads;
      groups = p.groups;
      dying = omega (arith, length-append w.dying (g ∷ []));
      renamed = λ e. refl;
    })

kills : (g : ℕ) (w : Work) → Bound (cost 0 0 0 1) w (Deaths.kill_group g w)
kills g w =
    let p = deaths g (ending.Killed 9) true (Moves.tell_killed g w) in
    record { accepted_grows = p.accepted_grows; accepts = p.accepts; raised_grows = p.raised_grows; raises = p.raises; threads = p.threads; groups = p.groups; dying = p.dying; renamed = p.renamed }

-- Takes and sends

acts : (t : Thread) (s : ℕ) (came : Bool) (d : Did) (w : Work) → Bound (cost 0 0 0 1) w (Takes.act t s came d w)
acts t s came did.Caught w = less (alters _ w) refl
acts t s came did.Ignored w = none w
acts t s came did.Stopping w = branch w _ _ w (less (initiates t.group s w) refl) (none w)
acts t s came did.Dying w = branch w _ _ _ (kills t.group w) (deaths t.group _ false w)
acts t s came did.Reported w = none w

takes : (t : Thread) (o : Option Instance) (w : Work) → Bound (cost 0 1 0 1) w (Moves.on_instance o (Takes.take t) w)
takes t None w = none w
takes t (Some i) w = branch w _ _ _ (less (holds t.id i.n w) refl) (after_still w (Takes.deliver i.n w) _ (ends_waiting Delivered _ w) (less (acts t i.sig false _ (Takes.deliver i.n w)) refl))

puts : (s : ℕ) (i : Info) (q : Target) (w : Work) → Bound (cost 1 0 0 0) w (Sends.put s i q w)
puts s i q w = branch w _ _ _ (accepts_as Merged w) (enqueues s i q w)

prepares : (s g : ℕ) (w : Work) → Bound (cost 0 1 0 0) w (Sends.before_send s g w)
prepares s g w =
    branch w _ _ _ (less (ends_waiting Flushed _ w) refl)
    (branch w _ _ w (after_still w _ _ (ends_waiting Flushed _ w) (after_still _ _ _ (alters _ (Sends.flush_in g _ w)) (continues g _))) (none w))

sends_kill : (g : ℕ) (w : Work) → Bound (cost 1 1 0 1) w (Sends.send_kill g w)
sends_kill g w =
    let v = Moves.accept_as Delivered w in
    branch w (Tables.all_dead w.table g) (Moves.accept_as Flushed w) (Deaths.kill_group g v) (less (accepts_as Flushed w) refl) (less (chain w v (Deaths.kill_group g v) (accepts_as Delivered w) (kills g v)) refl)

puts_unless : (s : ℕ) (i : Info) (q : Target) (w : Work) → Bound (cost 1 0 0 0) w (Sends.put_unless_ignored s i q w)
puts_unless s i q w = branch w (Sends.is_ignored w.table s q) (Moves.accept_as Flushed w) (Sends.put s i q w) (accepts_as Flushed w) (puts s i q w)

sends_other : (s : ℕ) (i : Info) (q : Target) (w : Work) → Bound (cost 1 1 0 0) w (Sends.send_other s i q w)
sends_other s i q w =
    let v = Sends.before_send s (Tables.owner w.table q) w in
    branch w (Sends.is_reachable w.table q) (Sends.put_unless_ignored s i q v) (Moves.accept_as Flushed w)
    (chain w v _ (prepares s (Tables.owner w.table q) w) (puts_unless s i q v)) (less (accepts_as Flushed w) refl)

sends : (s : ℕ) (i : Info) (q : Target) (w : Work) → Bound (cost 1 1 0 1) w (Sends.send s i q w)
sends s i q w = branch w (s == 9) (Sends.send_kill (Tables.owner w.table q) w) (Sends.send_other s i q w) (sends_kill (Tables.owner w.table q) w) (less (sends_other s i q w) refl)

sets_action : (s : ℕ) (how : Action) (t : Thread) (w : Work) → Bound nothing w (Sends.set_action s how t w)
sets_action s how t w = after_still w _ _ (regroups _ w) (branch _ _ _ _ (ends_waiting Flushed _ _) (none _))

-- Stops

at_stops : (o : Option ℕ) (move : ℕ → Work → Work) (w : Work) → ((s : ℕ) → Bound (cost 0 1 0 0) w (move s w)) → Bound (cost 0 1 0 0) w (Stops.at_stop o move w)
at_stops None move w h = none w
at_stops (Some s) move w h = h s

stops_with : (t : Thread) (s : ℕ) (w : Work) → Bound (cost 0 1 0 0) w (Stops.stop_with t s w)
stops_with t s w = enters t.id (if Threads.seized t.trace then stop.Event (stop_sig_of s) else stop.Group s) w

halts : (t : Thread) (w : Work) → Bound (cost 0 1 0 0) w (Stops.halt t w)
halts t w =
    let v = Moves.alter (Threads.at_thread t.id Marks.joining) w in
    branch w (Threads.is_traced t) _ _ (after_still w v _ (alters _ w) (at_stops (Tables.stop_in_effect v.table t.group) (Stops.stop_with t) v (λ s. stops_with t s v)))
    (less (after_still w v _ (alters _ w) (alters _ v)) refl)

traps : (t : Thread) (o : Option ℕ) (w : Work) → Bound (cost 0 1 0 0) w (Stops.trap_at t o w)
traps t None w = enters t.id _ w
traps t (Some s) w = after_still w (Moves.alter (Threads.at_thread t.id Marks.joining) w) _ (alters _ w) (enters t.id _ _)

shows : (t : Thread) (w : Work) → Bound (cost 0 1 0 0) w (Stops.show_stop t w)
shows t w = branch w (Lives.is_stopped t.life) _ w (ats t.id (λ u. Stops.at_stop (Tables.stop_in_effect w.table t.group) (Stops.stop_with u)) w (λ u. at_stops (Tables.stop_in_effect w.table t.group) (Stops.stop_with u) w (λ s. stops_with u s w))) (none w)

-- Ends

exits : (t : Thread) (code : ℕ) (w : Work) → Bound (cost 0 1 0 0) w (Ends.exit t code w)
exits t code w =
    let v = Moves.alter (Threads.at_thread t.id TraceeEnds.unmarked) w in
    after_still w v _ (alters _ w) (branch v _ _ _ (enters t.id _ v) (less (alters _ v) refl))

lasts : (g : ℕ) (w : Work) → Bound (cost 0 1 0 0) w (Ends.report_if_last g w)
lasts g w =
    let v = Moves.end_waiting Flushed (λ q. Tables.same_target (target.Group g) q.target) w in
    branch w _ _ w (after_still w v _ (ends_waiting Flushed (λ q. Tables.same_target (target.Group g) q.target) w) (ats g Ends.report_leader v (λ t. reports t.id _ v))) (none w)

buries : (t : Thread) (e : End) (w : Work) → Bound (cost 0 1 0 0) w (Ends.bury t e w)
buries t e w = branch w (Threads.is_leader t) w _ (none w) (branch w (Threads.is_traced t) _ _ (reports t.id _ w) (less (removes _ w) refl))

dies : (t : Thread) (l : Life) (w : Work) → Bound (cost 0 2 0 0) w (Ends.die t l w)
dies t (life.Leaving e told) w =
    let u = Moves.alter (Threads.at_thread t.id TraceeEnds.dead) w in
    let v = Ends.die_and_flush t w in
    branch w told _ _
    (after_still w v _ (after_still w u v (alters _ w) (ends_waiting Flushed (λ q. Tables.same_target (target.Thread t.id) q.target) u))
    (chain v (Ends.bury t e v) _ (buries t e v) (lasts t.group (Ends.bury t e v))))
    (less (enters t.id _ w) refl)
dies t life.Free w = none w
dies t life.Stopped w = none w
dies t (life.InStop s) w = none w
dies t life.Listening w = none w
dies t (life.Dead e) w = none w
dies t life.Execing w = none w

removes_thread : (t : Thread) (w : Work) → Bound nothing w (Ends.remove_thread t w)
removes_thread t w = after_still w _ _ (removes (λ x. x.id == t.id) w) (drops t.group (Moves.remove_dead (λ x. x.id == t.id) w))

passes_on : (t : Thread) (o : Option Report) (w : Work) → Bound (cost 0 1 0 0) w (Ends.pass_on t o w)
passes_on t None w = less (alters _ w) refl
passes_on t (Some r) w = after_still w (Moves.alter (Threads.at_thread t.id TraceeEnds.released) w) _ (alters _ w) (reports t.id _ _)

-- Requests

attaches : (a : ℕ) (t : Thread) (w : Work) → Bound (cost 1 2 0 1) w (Tracing.attach a t w)
attaches a t w = after_still w _ _ (alters _ w) (chain _ _ _ (sends 19 _ (target.Thread t.id) _) (shows t _))

seizes : (a : ℕ) (o : Options) (t : Thread) (w : Work) → Bound (cost 0 1 0 0) w (Tracing.seize a o t w)
seizes a o t w = after_still w _ _ (alters _ w) (shows t _)

injects : (t : Thread) (s : ℕ) (w : Work) → Bound (cost 1 0 0 1) w (Restarts.inject t s w)
injects t s w = branch w _ _ _ (less (puts s _ (target.Thread t.id) w) refl) (chain w (Moves.accept_as Delivered w) _ (accepts_as Delivered w) (acts t s _ _ (Moves.accept_as Delivered w)))

restarts : (t : Thread) (s : ℕ) (o : Option Instance) (w : Work) → Bound (cost 1 0 0 1) w (Restarts.restart_held t s o w)
restarts t s None w = less (changes Flushed TraceeStops.restarted t w) refl
restarts t s (Some i) w =
    branch w (s == 0) _ _ (less (changes Suppressed TraceeStops.restarted t w) refl)
    (branch w (s == i.sig) _ _ (less (after_still w _ _ (changes Delivered TraceeStops.restarted t w) (acts t s _ _ _)) refl)
    (after_still w _ _ (changes Suppressed TraceeStops.restarted t w) (injects t s _)))

-- with what it holds nothing is accepted
keeps_held : (t : Thread) (o : Option Instance) (w : Work) → Bound (cost 0 0 0 1) w (Restarts.restart_held t (Tracers.held_signal o) o w)
keeps_held t None w = less (changes Flushed TraceeStops.restarted t w) refl
keeps_held t (Some i) w = branch w (i.sig == 0) _ _ (less (changes Suppressed TraceeStops.restarted t w) refl) (own (i.sig == i.sig) (eq-eqb i.sig i.sig refl))
  where
    own : (b : Bool) → b ≡ true → Bound (cost 0 0 0 1) w (if b then Takes.act_on t i.sig (Lives.cont_came t.life) (Restarts.resume Delivered t w) else Restarts.inject t i.sig (Restarts.resume Suppressed t w))
    own true e = after_still w _ _ (changes Delivered TraceeStops.restarted t w) (acts t i.sig _ _ _)
    own false e = cc

leaves : (t : Thread) (w : Work) → Bound (cost 0 1 0 1) w (Tracers.leave_tracer t w)
leaves t w =
    branch w (Lives.is_dead t.life) _ _
    (branch w (Threads.is_leader t) _ _ (less (passes_on t t.report w) refl) (less (removes_thread t w) refl))
    (less (then_still w _ _ (keeps_held t (Lives.held t.life) w) (alters _ (Restarts.restart (Tracers.held_signal (Lives.held t.life)) t w))) refl)

loses : (a id : ℕ) (w : Work) → Bound (cost 0 1 0 1) w (Moves.at id (Tracers.lose_tracer a) w)
loses a id w = ats id (Tracers.lose_tracer a) w (λ t. branch w (Threads.is_tracee_of a t) _ w (leaves t w) (none w))

exit_kills : (id : ℕ) (w : Work) → Bound (cost 1 0 0 1) w (Moves.at id Tracers.exit_kill w)
exit_kills id w = ats id Tracers.exit_kill w (λ t. chain w (Moves.accept_as Delivered w) _ (accepts_as Delivered w) (kills t.group (Moves.accept_as Delivered w)))

-- a tracer has at most as many tracees as there are threads
count_tracees : (T : Table) (a : ℕ) → length (Tables.ids_of (Tracers.tracees T a)) ≤ length T.threads
count_tracees T a = omega (arith, length-map (Tracers.tracees T a) (λ (t : Thread). t.id), filter-le-length (Threads.is_tracee_of a) T.threads)

-- and no more to kill when it ends
count_to_kill : (T : Table) (a : ℕ) → length (Tables.ids_of (Tracers.to_kill T a)) ≤ length T.threads
count_to_kill T a = omega (arith, length-map (Tracers.to_kill T a) (λ (t : Thread). t.id), filter-le-length (λ (t : Thread). (Threads.options_of t.trace).exitkill && not (Lives.is_dead t.life)) (Tracers.tracees T a), filter-le-length (Threads.is_tracee_of a) T.threads)

tracer_exits : (a : ℕ) (w : Work) → Bound (cost (length w.table.threads) (length w.table.threads) 0 (length w.table.threads + length w.table.threads)) w (Tracers.tracer_exit a w)
tracer_exits a w =
    let killed = Tables.ids_of (Tracers.to_kill w.table a) in
    let lost = Tables.ids_of (Tracers.tracees w.table a) in
    within (record { accepted = omega (arith, count_to_kill w.table a); raised = omega (arith, count_tracees w.table a); added = omega arith; begun = omega (arith, count_to_kill w.table a, count_tracees w.table a); passes = λ e. refl })
    (chain w _ _ (each (λ id. Moves.at id Tracers.exit_kill) exit_kills killed w) (each (λ id. Moves.at id (Tracers.lose_tracer a)) (loses a) lost _))

-- Clone and exec

clones : (t : Thread) (id : ℕ) (w : Work) → Bound (cost 1 1 1 0) w (Clones.clone t id w)
clones t id w =
    chain w _ _ (spawns t.id id _ w) (branch _ _ _ _ (chain _ _ _ (enters t.id _ _) (branch _ _ _ _ (enqueues 19 _ (target.Thread id) _) (none _))) (none _))

new_programs : (former : ℕ) (t : Thread) (w : Work) → Bound (cost 1 1 0 1) w (Execs.new_program former t w)
new_programs former t w =
    let v = Moves.regroup (Moves.only_group t.group Execs.with_reset) w in
    after_still w v _ (regroups _ w) (branch v _ _ _ (less (enters t.id _ v) refl) (branch v _ _ v (sends 5 _ (target.Thread t.id) v) (none v)))

execs : (t : Thread) (w : Work) → Bound (cost 1 1 0 1) w (Execs.exec t w)
execs t w = branch w _ _ _ (new_programs t.id t w) (less (after_still w (Execs.break_others t.group t.id w) _ (becomes Flushed _ w) (alters _ (Execs.break_others t.group t.id w))) refl)

finishes : (t : Thread) (w : Work) → Bound (both passing (cost 1 1 0 1)) w (Execs.finish t w)
finishes t w = chain w _ _ (then_still w _ _ (take_places t.id w) (alters _ (Moves.take_place t.id w))) (ats t.group (Execs.new_program t.id) _ (λ x. new_programs t.id x _))

-- Waits

consumes : (t : Thread) (w : Work) → Bound (cost 0 1 0 0) w (Waits.consume t w)
consumes t w =
    branch w (Lives.is_dead t.life) _ _
    (branch w (Threads.is_leader t) _ _ (passes_on t t.report w) (less (removes_thread t w) refl))
    (less (alters _ w) refl)

starter_takings : (o : Option Thread) (g : Option Group) (w : Work) → Bound nothing w (StarterWaits.starter_takes o g w)
starter_takings None None w = none w
starter_takings None (Some g) w = regroups _ w
starter_takings (Some t) g w = removes_thread t w

-- Events

-- what an event may cost, in a table with so many threads, before the group-stops are completed
abbrev pub cost_of : Event → ℕ → Cost
cost_of event.TracerExit n = cost n n 0 (n + n)
cost_of (event.CloneThread id) n = cost 1 2 1 1
cost_of (event.Finish id) n = both passing (cost 1 2 0 1)
cost_of _ n = cost 1 2 0 1

does_bound : (T : Table) (a : ℕ) (e : Event) (c : Choice) → Bound (cost_of e (length T.threads)) (Moves.begin T) (Steps.work_of_event a e c (Moves.begin T))
does_bound T a (event.Kill g s) c = less (sends s _ (target.Group g) (Moves.begin T)) refl
does_bound T a (event.Tgkill g id s) c = less (sends s _ (target.Thread id) (Moves.begin T)) refl
does_bound T a (event.Sigqueue g s v) c = less (sends s _ (target.Group g) (Moves.begin T)) refl
does_bound T a (event.Mask id set) c = less (alters _ (Moves.begin T)) refl
does_bound T a (event.SetAction id s how) c = less (ats id (Sends.set_action s how) (Moves.begin T) (λ t. sets_action s how t (Moves.begin T))) refl
does_bound T a (event.Pause id) c = less (alters _ (Moves.begin T)) refl
does_bound T a (event.Take id) c = less (ats id (Takes.take_numbered (Steps.number c.instance)) (Moves.begin T) (λ t. takes t _ (Moves.begin T))) refl
does_bound T a (event.TakeAny g) c = less (ats (Steps.number c.thread) (Takes.take_numbered (Steps.number c.instance)) (Moves.begin T) (λ t. takes t _ (Moves.begin T))) refl
does_bound T a (event.Halt id) c = less (ats id Stops.halt (Moves.begin T) (λ t. halts t (Moves.begin T))) refl
does_bound T a (event.Trap id) c = less (ats id Stops.trap (Moves.begin T) (λ t. traps t _ (Moves.begin T))) refl
does_bound T a (event.Die id) c = less (ats id (λ t. Ends.die t t.life) (Moves.begin T) (λ t. dies t t.life (Moves.begin T))) refl
does_bound T a (event.CloneThread id) c = less (ats id (λ t. Clones.clone t (Steps.number c.new_id)) (Moves.begin T) (λ t. clones t (Steps.number c.new_id) (Moves.begin T))) refl
does_bound T a (event.Exec id) c = less (ats id Execs.exec (Moves.begin T) (λ t. execs t (Moves.begin T))) refl
does_bound T a (event.Finish id) c = less (ats id Execs.finish (Moves.begin T) (λ t. finishes t (Moves.begin T))) refl
does_bound T a (event.Exit id code) c = less (ats id (λ t. Ends.exit t code) (Moves.begin T) (λ t. exits t code (Moves.begin T))) refl
does_bound T a (event.ExitGroup id code) c = less (ats id (Ends.exit_group code) (Moves.begin T) (λ t. deaths t.group _ false (Moves.begin T))) refl
does_bound T a (event.Attach id) c = less (ats id (Tracing.attach a) (Moves.begin T) (λ t. attaches a t (Moves.begin T))) refl
does_bound T a (event.Seize id o) c = less (ats id (Tracing.seize a o) (Moves.begin T) (λ t. seizes a o t (Moves.begin T))) refl
does_bound T a (event.Interrupt id) c = less (alters _ (Moves.begin T)) refl
does_bound T a (event.Cont id s) c = less (ats id (Restarts.restart s) (Moves.begin T) (λ t. restarts t s _ (Moves.begin T))) refl
does_bound T a (event.Listen id) c = less (ats id Restarts.listen (Moves.begin T) (λ t. changes Flushed TraceeStops.listening t (Moves.begin T))) refl
does_bound T a (event.Detach id s) c = less (ats id (Restarts.detach s) (Moves.begin T) (λ t. then_still (Moves.begin T) (Restarts.restart s t (Moves.begin T)) _ (restarts t s _ (Moves.begin T)) (alters _ (Restarts.restart s t (Moves.begin T))))) refl
does_bound T a (event.SetOptions id o) c = less (alters _ (Moves.begin T)) refl
does_bound T a (event.EventMessage id) c = none (Moves.begin T)
does_bound T a (event.SignalInfo id) c = none (Moves.begin T)
does_bound T a event.TracerExit c = tracer_exits a (Moves.begin T)
does_bound T a (event.Wait which) c = less (on_threads (Waits.ready_thread T a which (Steps.number c.report)) Waits.consume (Moves.begin T) (λ t. consumes t (Moves.begin T))) refl
does_bound T a (event.StarterWait which flags) c = less (starter_takings _ _ (Moves.begin T)) refl

pub entry_bound : (T : Table) (e : Entry) → Bound (both (cost_of e.event (length T.threads)) (cost 0 (length T.groups) 0 0)) (Moves.begin T) (Steps.work_of T e)
entry_bound T e =
    let d = does_bound T e.actor e.event e.choice in
    let v = Steps.work_of_event e.actor e.event e.choice (Moves.begin T) in
    within (record { accepted = omega arith; raised = omega (arith, d.groups); added = omega arith; begun = omega arith; passes = λ h. h }) (chain (Moves.begin T) v (Steps.work_of T e) d (settles v))

-- where no id may pass to another thread, none does
pub renames_nothing : (T : Table) (e : Entry) → (cost_of e.event (length T.threads)).passes ≡ false → (Steps.work_of T e).renamed ≡ []
renames_nothing T e h = (entry_bound T e).renamed (rw h refl)

-- a finish gives away the id whose place it takes
pub finish_renames : (T : Table) (a id : ℕ) (c : Choice) → (Steps.work_of T (record { actor = a; event = event.Finish id; choice = c })).renamed ≡ (Moves.at id (λ t. Moves.take_place t.id) (Moves.begin T)).renamed
finish_renames T a id c = (settles (Moves.at id Execs.finish (Moves.begin T))).renamed refl ∙ go (Tables.thread_of T id)
  where
    go : (o : Option Thread) → (Moves.on_thread o Execs.finish (Moves.begin T)).renamed ≡ (Moves.on_thread o (λ t. Moves.take_place t.id) (Moves.begin T)).renamed
    go None = refl
    go (Some t) =
        let v = Moves.alter (Threads.at_thread t.group TraceeEnds.execed) (Moves.take_place t.id (Moves.begin T)) in
        let p = ats t.group (Execs.new_program t.id) v (λ x. new_programs t.id x v) in
        p.renamed refl

-- Tables of a journal

record IsSmall (T : Table) : Type 0 where
  threads : length T.threads ≤ 1024
  groups : length T.groups ≤ 1024

-- a clone is refused at the limit
third_false : (a b c : Bool) → Causes.first_cause (Causes.unless a NotRunning ∷ Causes.refused_if b Busy ∷ Causes.refused_if c Again ∷ []) ≡ None → c ≡ false
third_false true false false e = refl
third_false true false true e = cc
third_false true true c e = cc
third_false false b c e = cc

pub room_for : (T : Table) (o : Option Thread) → Causes.first_cause (Causes.thread_then o (λ t. Causes.script T t ++ Causes.refused_if (Causes.at_limit T t) Again ∷ [])) ≡ None → length T.threads < 1024
room_for T None e = cc
room_for T (Some t) e = leb-false 1024 (length T.threads) (or_parts _ _ (third_false _ _ (Causes.at_limit T t) e)).0

added_small : (T : Table) (a : ℕ) (e : Event) → Causes.cause_of T a e ≡ None → length T.threads ≤ 1024 → length T.threads + (cost_of e (length T.threads)).added ≤ 1024
added_small T a (event.CloneThread id) h l = omega (arith, room_for T (Tables.thread_of T id) h)
added_small T a _ h l = omega (arith, l)

accepted_few : (e : Event) (n : ℕ) → n ≤ 1024 → (cost_of e n).accepted ≤ 1024
accepted_few event.TracerExit n l = omega arith
accepted_few _ n l = omega arith

raised_few : (e : Event) (n : ℕ) → n ≤ 1024 → (cost_of e n).raised ≤ 1024
raised_few event.TracerExit n l = omega arith
raised_few _ n l = omega arith

step_small : (T U : Table) (e : Entry) (r : Reply) → Steps.Step T e r U → IsSmall T → IsSmall U
step_small T U e r s m = subst IsSmall (sym s.table) (let b = entry_bound T e in record { threads = omega (arith, b.threads, added_small T e.actor e.event s.not_refused m.threads); groups = omega (arith, b.groups, m.groups) })

replay_small : (T U : Table) (es : List Entry) (rs : List Reply) → IsSmall T → Journals.Replay T es rs U → IsSmall U
replay_small T U [] [] m r = subst IsSmall (sym r) m
replay_small T U [] (x ∷ rs) m r = absurd r
replay_small T U (e ∷ es) [] m r = absurd r
replay_small T U (e ∷ es) (x ∷ rs) m r = replay_small r.0 U es rs (step_small T r.0 e x r.1 m) r.2

small_now : (T U : Table) (es : List Entry) (rs : List Reply) → Journals.IsStart T → Journals.Replay T es rs U → IsSmall U
small_now T U es rs s r = replay_small T U es rs (record { threads = s.few_threads; groups = s.few_groups }) r

pub entries_are_bounded : Laws.EntriesAreBounded
entries_are_bounded T U V es rs e x s r st =
    let m = small_now T U es rs s r in
    let b = entry_bound U e in
    subst (Laws.IsBounded U) (sym st.table)
    (record {
      accepted_grows = b.accepted_grows;
      accepts_few = omega (arith, b.accepts, accepted_few e.event (length U.threads) m.threads);
      raised_grows = b.raised_grows;
      raises_few = omega (arith, b.raises, raised_few e.event (length U.threads) m.threads, m.groups);
    })

pub some_id_is_free : Laws.SomeIdIsFree
some_id_is_free T U es rs s r = let m = small_now T U es rs s r in omega (arith, m.threads, m.groups)
