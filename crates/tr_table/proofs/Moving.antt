-- A move at one thread, by the place where it stands.
use Rattle.std.proofs.Common.{◌≡◌, ◌∙◌, ◌+◌, ◌++◌, ◌∷◌, ◌&&◌, [], ℕ, true, false, Some, None, if◌then◌else◌, append-nil, ap, get_or, map, not, remove, sym}
use Rattle.std.proofs.lemmas.Option.{slice_get-get_or}
use Rattle.std.specs.Prelude.{slice_set}
use Rattle.tr_wait.specs.declared.status.Status.{Status}
use Rattle.tr_tracee.specs.declared.life.End.{End}
use Rattle.tr_tracee.specs.declared.life.Stop.{Stop}
use Rattle.tr_tracee.specs.declared.thread.Thread.{Thread}
use Rattle.tr_tracee.specs.Lives.{is_dead, is_execing, status_of_end, status_of_stop}
use Rattle.tr_tracee.specs.Stops.{entered_as, may_enter, reported}
use Rattle.tr_tracee.specs.Threads.{is_leader, tracer_of}
use Rattle.tr_model.specs.Moves.{Work, changed, dropped, enter, enter_if_allowed, entered_now, in_leaders_row, on_thread, raise, raise_with, report_dead, report_death, retargeted, take_place, taking_place, with_leaders_row}
use Rattle.tr_model.specs.Tables.{Table, thread_of}
use Rattle.tr_threads.specs.Kept.{IsPlace}

-- Nothing happens

pub no_raise : (w : Work) (T : Table) → w.table ≡ T → w ≡ record w { table = T; raises = w.raises ++ [] }
no_raise w T e = λ j. record w { table = e j; raises = sym (append-nil w.raises) j }

pub no_rename : (w : Work) (T : Table) → w.table ≡ T → w ≡ record w { table = T; renamed = w.renamed ++ [] }
no_rename w T e = λ j. record w { table = e j; renamed = sym (append-nil w.renamed) j }

-- where no thread has the id
pub nowhere : (id : ℕ) (m : Thread → Work → Work) (T : Table) (w : Work) → thread_of T id ≡ None → w.table ≡ T → on_thread (thread_of w.table id) m w ≡ w
nowhere id m T w n e = ap (λ U. on_thread (thread_of U id) m w) e ∙ ap (λ o. on_thread o m w) n

-- At the thread of the place

module _ (id i : ℕ) (T : Table) (here : IsPlace id T.threads (Some i)) (x : Thread) (at : x ≡ get_or T.threads i x) where
  pub there : thread_of T id ≡ Some x
  there = here.3 ∙ (slice_get-get_or T.threads i x here.0 ∙ ap Some (sym at))

  pub own : x.id ≡ id
  own = ap (λ (t : Thread). t.id) at ∙ here.4 x

  pub moved : (m : Thread → Work → Work) (w : Work) → w.table ≡ T → on_thread (thread_of w.table id) m w ≡ m x w
  moved m w e = ap (λ U. on_thread (thread_of U id) m w) e ∙ ap (λ o. on_thread o m w) there

  raised : (f : Thread → Thread) (s : Status) (w : Work) → w.table ≡ T
      → raise_with f x s w ≡ record w { table = record T { threads = slice_set T.threads i (f x); raised = T.raised + 1 }; raises = w.raises ++ record { number = T.raised + 1; whom = tracer_of x.trace; id = x.id; status = s } ∷ [] }
  raised f s w e =
      let q : changed x.id f w.table.threads ≡ slice_set T.threads i (f x) = ap (λ U. changed x.id f U.threads) e ∙ (ap (λ n. changed n f T.threads) own ∙ sym (here.1 f x (f x) (ap f at))) in
      λ j. record w { table = record (e j) { threads = q j; raised = (e j).raised + 1 }; raises = w.raises ++ record { number = (e j).raised + 1; whom = tracer_of x.trace; id = x.id; status = s } ∷ [] }

  pub entered : (s : Stop) (w : Work) → may_enter x.life ≡ true → w.table ≡ T
      → enter id s w ≡ record w { table = record T { threads = slice_set T.threads i (entered_as (T.raised + 1) s x); raised = T.raised + 1 }; raises = w.raises ++ record { number = T.raised + 1; whom = tracer_of x.trace; id = x.id; status = status_of_stop s } ∷ [] }
  entered s w may e =
      moved (enter_if_allowed s) w e
      ∙ (ap (λ b. if b then entered_now s x w else w) may
      ∙ (ap (λ U. raise_with (entered_as (U.raised + 1) s) x (status_of_stop s) w) e ∙ raised (entered_as (T.raised + 1) s) (status_of_stop s) w e))

  pub told : (d : End) (w : Work) → is_dead x.life ≡ true → w.table ≡ T
      → report_death id d w ≡ record w { table = record T { threads = slice_set T.threads i (reported (T.raised + 1) (status_of_end d) x); raised = T.raised + 1 }; raises = w.raises ++ record { number = T.raised + 1; whom = tracer_of x.trace; id = x.id; status = status_of_end d } ∷ [] }
  told d w dead e =
      moved (report_dead d) w e
      ∙ (ap (λ b. if b then raise x (status_of_end d) w else w) dead
      ∙ (ap (λ U. raise_with (reported (U.raised + 1) (status_of_end d)) x (status_of_end d) w) e ∙ raised (reported (T.raised + 1) (status_of_end d)) (status_of_end d) w e))

  pub not_entered : (s : Stop) (w : Work) → may_enter x.life ≡ false → w.table ≡ T → enter id s w ≡ record w { table = T; raises = w.raises ++ [] }
  not_entered s w quiet e = moved (enter_if_allowed s) w e ∙ (ap (λ b. if b then entered_now s x w else w) quiet ∙ no_raise w T e)

  pub not_told : (d : End) (w : Work) → is_dead x.life ≡ false → w.table ≡ T → report_death id d w ≡ record w { table = T; raises = w.raises ++ [] }
  not_told d w lives e = moved (report_dead d) w e ∙ (ap (λ b. if b then raise x (status_of_end d) w else w) lives ∙ no_raise w T e)

  pub not_placed : (w : Work) → (is_execing x.life && not (is_leader x)) ≡ false → w.table ≡ T → take_place id w ≡ record w { table = T; renamed = w.renamed ++ [] }
  not_placed w stays e = moved taking_place w e ∙ (ap (λ b. if b then with_leaders_row x w else w) stays ∙ no_rename w T e)

  pub gone : dropped x.id T.threads ≡ remove T.threads i
  gone = ap (λ n. dropped n T.threads) own ∙ sym here.2

  pub placed : (w : Work) → (is_execing x.life && not (is_leader x)) ≡ true → w.table ≡ T
      → take_place id w ≡ record w { table = record T { threads = map (in_leaders_row x) (remove T.threads i); waiting = map (retargeted x.id x.group) T.waiting }; renamed = w.renamed ++ x.group ∷ [] }
  placed w goes e =
      let q : dropped x.id w.table.threads ≡ remove T.threads i = ap (λ U. dropped x.id U.threads) e ∙ gone in
      moved taking_place w e
      ∙ (ap (λ b. if b then with_leaders_row x w else w) goes
      ∙ (λ j. record w { table = record (e j) { threads = map (in_leaders_row x) (q j); waiting = map (retargeted x.id x.group) (e j).waiting }; renamed = w.renamed ++ x.group ∷ [] }))
