-- What is told of a call that was made.
use Rattle.std.proofs.Common.{◌≡◌, ◌∙◌, ℕ, List, [], ◌∷◌, ◌++◌, ap, sym, append_assoc}
use Rattle.tr_model.specs.Runs.{Call, call}
use Rattle.tr_model.specs.Tables.{Table}
use Rattle.tr_kernel.specs.declared.answers.Answer.{Answer}
use Rattle.tr_kernel.specs.States.{State}
use Rattle.tr_workers.specs.Follows.{heard}
use Rattle.tr_scenario.specs.Kernels.{Answers, Makes, so_far}
use Rattle.tr_scenario.specs.RunTexts.{call_text, state_after}
use Rattle.tr_reasons.specs.declared.telling.Before.{Before}
use Rattle.tr_reasons.specs.Explained.{before, explained, why, whys}

-- its line, and then why it was answered so
pub explained_is : (old new : State) (c : Call) (x : Answer) (b : Before) (T : Table) (lines : List ℕ) →
    Makes old new (c ∷ []) → Answers old c x → b ≡ before old.table c → T ≡ new.table → lines ≡ why b T c (heard x) →
    call_text (so_far old) c ++ lines ≡ explained (so_far old) c
unfolding explained state_after
explained_is old new c x b T lines m a is at told =
    let table : T ≡ (call (so_far old) c).table = at ∙ ap (λ s. s.table) m.state in
    ap (λ l. call_text (so_far old) c ++ l)
    (told ∙ ((λ i. why (is i) (table i) c (heard x)) ∙ ap (whys (before old.table c) (call (so_far old) c).table c) (sym a.answers)))

-- on the page
pub told_on : (page page_mid page_new here lines all : List ℕ) → page_mid ≡ page ++ here → page_new ≡ page_mid ++ lines → here ++ lines ≡ all → page_new ≡ page ++ all
told_on page page_mid page_new here lines all first second is =
    second ∙ (ap (λ p. p ++ lines) first ∙ (append_assoc page here lines ∙ ap (λ l. page ++ l) is))
