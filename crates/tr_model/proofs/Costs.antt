-- Costs of parts of steps, how they add up, and what each small move costs.
use Rattle.std.proofs.Common.{◌≡◌, ℕ, suc, ◌+◌, ◌≤◌, List, [], ◌∷◌, length, true, false, Some, None, Option, refl, ap, Bool, not, ◌&&◌, ◌||◌, ◌==◌, if◌then◌else◌, filter, arith, length-append, nat_le, ◌*◌, ◌∙◌, true≢false}
use Rattle.std.proofs.lemmas.Bool.{and_parts, leb-true, or_parts}
use Rattle.std.proofs.lemmas.List.{length-map}
use Rattle.std.proofs.lemmas.List.Sums.{count_by-le-length, length-filter}
use Rattle.tr_pending.specs.declared.instance.Info.{Info}
use Rattle.tr_pending.specs.declared.instance.Instance.{Instance}
use Rattle.tr_wait.specs.declared.status.Status.{Status}
use Rattle.tr_tracee.specs.declared.life.End.{End}
use Rattle.tr_tracee.specs.declared.life.Stop.{Stop}
use Rattle.tr_tracee.specs.declared.life.Stop.TheVariants as stop
use Rattle.tr_tracee.specs.declared.thread.Thread.{Thread}
use Rattle.tr_tracee.specs.Lives
use Rattle.tr_tracee.specs.Stops as TraceeStops
use Rattle.tr_model.specs.declared.fates.Fate.{Fate}
use Rattle.tr_model.specs.declared.rows.Group.{Group}
use Rattle.tr_model.specs.declared.rows.Target.{Target}
use Rattle.tr_model.specs.declared.rows.Waiting.{Waiting}
use Rattle.tr_model.specs.Moves
use Rattle.tr_model.specs.Moves.{Work}
use Rattle.tr_model.specs.Tables
use Rattle.tr_model.specs.Tables.{Table}

-- What a part of a step may do at most: signals that it accepts, reports that it raises, threads that it adds, deaths of
-- groups that it begins, and whether an id passes to another thread.
pub record Cost : Type 0 where
  pub accepted : ℕ
  pub raised : ℕ
  pub added : ℕ
  pub begun : ℕ
  pub passes : Bool

-- with these numbers, and no id that passes
abbrev pub cost : ℕ → ℕ → ℕ → ℕ → Cost
cost a r t d = record { accepted = a; raised = r; added = t; begun = d; passes = false }

abbrev pub nothing : Cost
nothing = cost 0 0 0 0

-- one cost and the other
abbrev pub both : Cost → Cost → Cost
both c d = record { accepted = c.accepted + d.accepted; raised = c.raised + d.raised; added = c.added + d.added; begun = c.begun + d.begun; passes = c.passes || d.passes }

-- a cost so many times
abbrev pub times : ℕ → Cost → Cost
times n c = record { accepted = n * c.accepted; raised = n * c.raised; added = n * c.added; begun = n * c.begun; passes = c.passes }

-- d allows whatever c does
pub record Within (c d : Cost) : Type 0 where
  pub accepted : c.accepted ≤ d.accepted
  pub raised : c.raised ≤ d.raised
  pub added : c.added ≤ d.added
  pub begun : c.begun ≤ d.begun
  pub passes : d.passes ≡ false → c.passes ≡ false

-- v comes of w at this cost
pub record Bound (c : Cost) (w v : Work) : Type 0 where
  pub accepted_grows : w.table.accepted ≤ v.table.accepted
  pub accepts : v.table.accepted ≤ w.table.accepted + c.accepted
  pub raised_grows : w.table.raised ≤ v.table.raised
  pub raises : v.table.raised ≤ w.table.raised + c.raised
  pub threads : length v.table.threads ≤ length w.table.threads + c.added
  pub groups : length v.table.groups ≤ length w.table.groups
  pub dying : length v.dying ≤ length w.dying + c.begun
  pub renamed : c.passes ≡ false → v.renamed ≡ w.renamed

-- one after the other
pub chain : {c d : Cost} (w v x : Work) → Bound c w v → Bound d v x → Bound (both c d) w x
chain {c = c} {d = d} w v x p q = record {
  accepted_grows = omega (arith, p.accepted_grows, q.accepted_grows);
  accepts = omega (arith, p.accepts, q.accepts);
  raised_grows = omega (arith, p.raised_grows, q.raised_grows);
  raises = omega (arith, p.raises, q.raises);
  threads = omega (arith, p.threads, q.threads);
  groups = omega (arith, p.groups, q.groups);
  dying = omega (arith, p.dying, q.dying);
  renamed = λ e. let n = or_parts c.passes d.passes e in q.renamed n.1 ∙ p.renamed n.0;
}

pub within : {c d : Cost} {w v : Work} → Within c d → Bound c w v → Bound d w v
within l p = record {
  accepted_grows = p.accepted_grows;
  accepts = omega (arith, l.accepted, p.accepts);
  raised_grows = p.raised_grows;
  raises = omega (arith, l.raised, p.raises);
  threads = omega (arith, l.added, p.threads);
  groups = p.groups;
  dying = omega (arith, l.begun, p.dying);
  renamed = λ e. p.renamed (l.passes e);
}

-- a test of costs that are numerals
abbrev is_within : Cost → Cost → Bool
is_within c d = nat_le c.accepted d.accepted && (nat_le c.raised d.raised && (nat_le c.added d.added && (nat_le c.begun d.begun && (not c.passes || d.passes))))

pub less : {c d : Cost} {w v : Work} → Bound c w v → is_within c d ≡ true → Bound d w v
less {c = c} {d = d} p h =
    let a = and_parts (nat_le c.accepted d.accepted) _ h in
    let r = and_parts (nat_le c.raised d.raised) _ a.1 in
    let t = and_parts (nat_le c.added d.added) _ r.1 in
    let b = and_parts (nat_le c.begun d.begun) _ t.1 in
    within (record { accepted = leb-true _ _ a.0; raised = leb-true _ _ r.0; added = leb-true _ _ t.0; begun = leb-true _ _ b.0; passes = lets c.passes d.passes b.1 }) p
  where
    lets : (x y : Bool) → (not x || y) ≡ true → y ≡ false → x ≡ false
    lets true y k e = absurd cc
    lets false y k e = refl

-- nothing but lists that don't grow
still : (w v : Work) → v.table.accepted ≡ w.table.accepted → v.table.raised ≡ w.table.raised → length v.table.threads ≤ length w.table.threads → length v.table.groups ≤ length w.table.groups
    → v.dying ≡ w.dying → v.renamed ≡ w.renamed → Bound nothing w v
still w v a r t g d n = record {
  accepted_grows = omega (arith, a);
  accepts = omega (arith, a);
  raised_grows = omega (arith, r);
  raises = omega (arith, r);
  threads = omega (arith, t);
  groups = g;
  dying = omega (arith, ap length d);
  renamed = λ e. n;
}

pub none : {c : Cost} (w : Work) → Bound c w w
none w = record { accepted_grows = omega arith; accepts = omega arith; raised_grows = omega arith; raises = omega arith; threads = omega arith; groups = omega arith; dying = omega arith; renamed = λ e. refl }

-- first something that costs nothing
pub after_still : {c : Cost} (w v x : Work) → Bound nothing w v → Bound c v x → Bound c w x
after_still w v x p q = within (record { accepted = omega arith; raised = omega arith; added = omega arith; begun = omega arith; passes = λ e. e }) (chain w v x p q)

pub then_still : {c : Cost} (w v x : Work) → Bound c w v → Bound nothing v x → Bound c w x
then_still {c = c} w v x p q = within (record { accepted = omega arith; raised = omega arith; added = omega arith; begun = omega arith; passes = λ e. rw e refl }) (chain w v x p q)

pub branch : {c : Cost} (w : Work) (b : Bool) (x y : Work) → Bound c w x → Bound c w y → Bound c w (if b then x else y)
branch w true x y p q = p
branch w false x y p q = q

-- Lists

pub filter-le-length : {A : Type 0} (p : A → Bool) (xs : List A) → length (filter p xs) ≤ length xs
filter-le-length p xs = omega (arith, length-filter p xs, count_by-le-length p xs)

length-changed : (id : ℕ) (f : Thread → Thread) (ts : List Thread) → length (Moves.changed id f ts) ≡ length ts
length-changed id f [] = refl
length-changed id f (t ∷ ts) = go (t.id == id) (length-changed id f ts)
  where
    go : (b : Bool) → length (Moves.changed id f ts) ≡ length ts → length (if b then f t ∷ ts else t ∷ Moves.changed id f ts) ≡ suc (length ts)
    go true h = refl
    go false h = ap suc h

length-dropped : (id : ℕ) (ts : List Thread) → length (Moves.dropped id ts) ≤ length ts
length-dropped id [] = omega arith
length-dropped id (t ∷ ts) = go (t.id == id) (length-dropped id ts)
  where
    go : (b : Bool) → length (Moves.dropped id ts) ≤ length ts → length (if b then ts else t ∷ Moves.dropped id ts) ≤ suc (length ts)
    go true h = omega arith
    go false h = omega (arith, h)

pub length-group_changed : (g : ℕ) (f : Group → Group) (xs : List Group) → length (Moves.group_changed g f xs) ≡ length xs
length-group_changed g f [] = refl
length-group_changed g f (x ∷ xs) = go (x.tgid == g) (length-group_changed g f xs)
  where
    go : (b : Bool) → length (Moves.group_changed g f xs) ≡ length xs → length (if b then f x ∷ xs else x ∷ Moves.group_changed g f xs) ≡ suc (length xs)
    go true h = refl
    go false h = ap suc h

-- The small moves

pub alters : (f : Thread → Thread) (w : Work) → Bound nothing w (Moves.alter f w)
alters f w = still w (Moves.alter f w) refl refl (omega (arith, length-map w.table.threads f)) (omega arith) refl refl

pub becomes : (fate : Fate) (f : Thread → Thread) (w : Work) → Bound nothing w (Moves.become fate f w)
becomes fate f w = still w (Moves.become fate f w) refl refl (omega (arith, length-map w.table.threads f)) (omega arith) refl refl

pub changes : (fate : Fate) (f : Thread → Thread) (t : Thread) (w : Work) → Bound nothing w (Moves.change_ending fate f t w)
changes fate f t w = still w (Moves.change_ending fate f t w) refl refl (omega (arith, length-changed t.id f w.table.threads)) (omega arith) refl refl

pub regroups : (f : Group → Group) (w : Work) → Bound nothing w (Moves.regroup f w)
regroups f w = still w (Moves.regroup f w) refl refl (omega arith) (omega (arith, length-map w.table.groups f)) refl refl

raisings : (f : Thread → Thread) (t : Thread) (s : Status) (w : Work) → Bound (cost 0 1 0 0) w (Moves.raise_with f t s w)
raisings f t s w = record { accepted_grows = omega arith; accepts = omega arith; raised_grows = omega arith; raises = omega arith; threads = omega (arith, length-changed t.id f w.table.threads); groups = omega arith; dying = omega arith; renamed = λ e. refl }

pub notes : (g : ℕ) (s : Status) (w : Work) → Bound (cost 0 1 0 0) w (Moves.note g s w)
notes g s w = record { accepted_grows = omega arith; accepts = omega arith; raised_grows = omega arith; raises = omega arith; threads = omega arith; groups = omega (arith, length-group_changed g (Moves.with_note (w.table.raised + 1) s) w.table.groups); dying = omega arith; renamed = λ e. refl }

pub on_threads : {c : Cost} (o : Option Thread) (move : Thread → Work → Work) (w : Work) → ((x : Thread) → Bound c w (move x w)) → Bound c w (Moves.on_thread o move w)
on_threads None move w h = none w
on_threads (Some x) move w h = h x

pub ats : {c : Cost} (id : ℕ) (move : Thread → Work → Work) (w : Work) → ((x : Thread) → Bound c w (move x w)) → Bound c w (Moves.at id move w)
ats id move w h = on_threads (Tables.thread_of w.table id) move w h

enterings : (s : Stop) (t : Thread) (w : Work) → Bound (cost 0 1 0 0) w (Moves.enter_if_allowed s t w)
enterings s t w = branch w (TraceeStops.may_enter t.life) _ w (raisings _ t (Lives.status_of_stop s) w) (none w)

pub enters : (id : ℕ) (s : Stop) (w : Work) → Bound (cost 0 1 0 0) w (Moves.enter id s w)
enters id s w = ats id (Moves.enter_if_allowed s) w (λ t. enterings s t w)

holdings : (t : Thread) (o : Option Instance) (w : Work) → Bound (cost 0 1 0 0) w (Moves.on_instance o (Moves.holding t) w)
holdings t None w = none w
holdings t (Some i) w = branch w (Lives.is_free t.life) _ w (after_still w (Moves.pulled i w) _ (still w (Moves.pulled i w) refl refl (omega arith) (omega arith) refl refl) (enterings (stop.Signal i false) t (Moves.pulled i w))) (none w)

pub holds : (id n : ℕ) (w : Work) → Bound (cost 0 1 0 0) w (Moves.hold id n w)
holds id n w = ats id (λ t. Moves.on_instance (Moves.instance_in w.table.waiting n) (Moves.holding t)) w (λ t. holdings t _ w)

pub reports : (id : ℕ) (e : End) (w : Work) → Bound (cost 0 1 0 0) w (Moves.report_death id e w)
reports id e w = ats id (Moves.report_dead e) w (λ t. branch w (Lives.is_dead t.life) _ w (raisings _ t (Lives.status_of_end e) w) (none w))

adds : (t : Thread) (w : Work) → Bound (cost 0 0 1 0) w (Moves.added t w)
adds t w = record { accepted_grows = omega arith; accepts = omega arith; raised_grows = omega arith; raises = omega arith; threads = omega (arith, length-append w.table.threads (t ∷ [])); groups = omega arith; dying = omega arith; renamed = λ e. refl }

pub spawns : (parent id : ℕ) (mark : Bool) (w : Work) → Bound (cost 0 0 1 0) w (Moves.spawn parent id mark w)
spawns parent id mark w = ats parent (Moves.spawned id mark) w (λ t. branch w (Lives.is_free t.life) _ w (adds _ w) (none w))

pub removes : (p : Thread → Bool) (w : Work) → Bound nothing w (Moves.remove_dead p w)
removes p w = still w (Moves.remove_dead p w) refl refl (filter-le-length _ w.table.threads) (omega arith) refl refl

-- an id passes to another thread, at no other cost
abbrev pub passing : Cost
passing = record { accepted = 0; raised = 0; added = 0; begun = 0; passes = true }

places : (t : Thread) (w : Work) → Bound passing w (Moves.with_leaders_row t w)
places t w = record {
  accepted_grows = omega arith;
  accepts = omega arith;
  raised_grows = omega arith;
  raises = omega arith;
  threads = omega (arith, length-map (Moves.dropped t.id w.table.threads) (Moves.in_leaders_row t), length-dropped t.id w.table.threads);
  groups = omega arith;
  dying = omega arith;
  renamed = λ e. absurd (true≢false e);
}

pub take_places : (id : ℕ) (w : Work) → Bound passing w (Moves.take_place id w)
take_places id w = ats id Moves.taking_place w (λ t. branch w _ (Moves.with_leaders_row t w) w (places t w) (none w))

pub drops : (g : ℕ) (w : Work) → Bound nothing w (Moves.drop_empty g w)
drops g w = still w (Moves.drop_empty g w) refl refl (omega arith) (filter-le-length (Moves.stays g w) w.table.groups) refl refl

pub enqueues : (s : ℕ) (i : Info) (q : Target) (w : Work) → Bound (cost 1 0 0 0) w (Moves.enqueue s i q w)
enqueues s i q w = record { accepted_grows = omega arith; accepts = omega arith; raised_grows = omega arith; raises = omega arith; threads = omega arith; groups = omega arith; dying = omega arith; renamed = λ e. refl }

pub accepts_as : (fate : Fate) (w : Work) → Bound (cost 1 0 0 0) w (Moves.accept_as fate w)
accepts_as fate w = record { accepted_grows = omega arith; accepts = omega arith; raised_grows = omega arith; raises = omega arith; threads = omega arith; groups = omega arith; dying = omega arith; renamed = λ e. refl }

pub ends_waiting : (fate : Fate) (p : Waiting → Bool) (w : Work) → Bound nothing w (Moves.end_waiting fate p w)
ends_waiting fate p w = still w (Moves.end_waiting fate p w) refl refl (omega arith) (omega arith) refl refl
