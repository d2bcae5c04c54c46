-- What is answered of a take by any thread of a group, and what one that is due takes.
use Rattle.std.proofs.Common.{◌≡◌, ◌∙◌, ℕ, List, [], ◌∷◌, Bool, true, false, not, if◌then◌else◌, cond, Option, Some, None, is_some, Result, Ok, refl, sym, ap, subst}
use Rattle.std.specs.List.{find}
use Rattle.tr_tracee.specs.declared.thread.Thread.{Thread}
use Rattle.tr_model.specs.declared.checked.Checked.{Checked}
use Rattle.tr_model.specs.declared.checked.Checked.TheVariants.{Due, Quiet}
use Rattle.tr_model.specs.Choices.{Choice, no_choice, takes_by}
use Rattle.tr_model.specs.declared.events.Event.TheVariants.{TakeAny}
use Rattle.tr_model.specs.declared.replies.Refusal.{Refusal}
use Rattle.tr_model.specs.declared.replies.Refusal.TheVariants.{Srch}
use Rattle.tr_model.specs.declared.replies.Reply.TheVariants.{Nothing}
use Rattle.tr_model.specs.Causes.{first_cause, nothing_where, unless}
use Rattle.tr_model.specs.Compare.{Permits}
use Rattle.tr_model.specs.Steps.{number, takes}
use Rattle.tr_model.specs.Preferred.{best_for, check, quiet_or, refused_or, take_any_choice, taking_by}
use Rattle.tr_model.specs.Tables.{Table, group_of, members, thread_of}
use Rattle.tr_model.specs.Takes.{can_take}
use Rattle.tr_table.proofs.Asked.{any_by_find}
use Rattle.tr_signals.proofs.Taking.{IsDue, due_with}

-- What is answered, by the first thread that can take something

abbrev pub choice_by : Table → Option Thread → Choice
choice_by T None = no_choice
choice_by T (Some t) = taking_by t.id (best_for T t)

abbrev pub answer_by : Table → Option Thread → Result Checked Refusal
answer_by T None = Ok (Quiet Nothing)
answer_by T (Some t) = Ok (Due (taking_by t.id (best_for T t)))

choice_found : (T : Table) (ts : List Thread) → take_any_choice T ts ≡ choice_by T (find (can_take T) ts)
choice_found T [] = refl
choice_found T (t ∷ ts) = go (can_take T t) (choice_found T ts)
  where
    go : (b : Bool) → take_any_choice T ts ≡ choice_by T (find (can_take T) ts) → (if b then taking_by t.id (best_for T t) else take_any_choice T ts) ≡ choice_by T (cond b (Some t) (find (can_take T) ts))
    go true h = refl
    go false h = h

answered : (T : Table) (o : Option Thread) → quiet_or (nothing_where (not (is_some o))) (choice_by T o) ≡ answer_by T o
answered T None = refl
answered T (Some t) = refl

abbrev pub answer_in : Table → Bool → Option Thread → Result Checked Refusal
answer_in T there o = refused_or (first_cause (unless there Srch ∷ [])) (answer_by T o)

pub check_is : (T : Table) (a g : ℕ) → check T a (TakeAny g) ≡ answer_in T (is_some (group_of T g)) (find (can_take T) (members T g))
check_is T a g =
    let ts = members T g in
    ap (λ b. refused_or (first_cause (unless (is_some (group_of T g)) Srch ∷ [])) (quiet_or (nothing_where (not b)) (take_any_choice T ts))) (any_by_find (can_take T) ts)
    ∙ (ap (λ c. refused_or (first_cause (unless (is_some (group_of T g)) Srch ∷ [])) (quiet_or (nothing_where (not (is_some (find (can_take T) ts)))) c)) (choice_found T ts)
    ∙ ap (refused_or (first_cause (unless (is_some (group_of T g)) Srch ∷ []))) (answered T (find (can_take T) ts)))

-- What is admitted

pub is_due_any : (T : Table) (a g id n : ℕ) → Permits T a (TakeAny g) (takes_by id n) → IsDue T id n
is_due_any T a g id n p =
    let h = p.admitted in
    let who : id ≡ h.0 = ap (λ (c : Choice). number c.thread) h.2 in
    let what : n ≡ h.1 = ap (λ (c : Choice). number c.instance) h.2 in
    due_with T id n (subst (λ k. takes T (thread_of T k) n ≡ true) (sym who) (subst (λ k. takes T (thread_of T h.0) k ≡ true) (sym what) h.4))
