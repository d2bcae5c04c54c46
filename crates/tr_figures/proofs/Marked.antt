-- The marks of a call, from their parts.
use Rattle.std.proofs.Common.{◌≡◌, ◌+◌, ◌∙◌, ℕ, List, [], ◌∷◌, ◌++◌, Option, Some, ap, sym}
use Rattle.tr_model.specs.declared.events.Event.{Event}
use Rattle.tr_model.specs.Runs.{Answer}
use Rattle.tr_figures.specs.declared.styles.Style.{Style}
use Rattle.tr_figures.specs.declared.styles.Style.TheVariants as style
use Rattle.tr_figures.specs.Calls.{arrow, arrow_style, chip, chip_place, chip_words, is_own, marks, refusal_cross}
use Rattle.tr_figures.specs.Elements.{Elements, all, line, printed, rect, words}
use Rattle.tr_figures.proofs.Celled.{pushed_last}
use Rattle.tr_figures.proofs.Printed.{pushed_both}

pub chip_pushed : (old mid new : List ℕ) (s t : Style) (x : ℕ) (o : Option ℕ) (ws : List (List ℕ)) → o ≡ Some x → t ≡ s →
    mid ≡ old ++ printed (rect style.Chip x 2 114 16) → new ≡ mid ++ printed (words t (x + 4) 14 ws) → new ≡ old ++ printed (chip s o ws)
chip_pushed old mid new s t x o ws at is h1 h2 =
    let b : Elements = words s (x + 4) 14 ws in
    pushed_both old mid new (rect style.Chip x 2 114 16) (all (b ∷ [])) h1 (pushed_last mid new b (h2 ∙ ap (λ (t : Style). mid ++ printed (words t (x + 4) 14 ws)) is))
    ∙ ap (λ (p : Option ℕ). old ++ printed (chip s p ws)) (sym at)

pub marked : (old p1 p2 new : List ℕ) (e : Event) (x : Answer) (actor lane place : Option ℕ) (s : Style) → s ≡ arrow_style e x → place ≡ chip_place (is_own e) actor lane →
    p1 ≡ old ++ printed (arrow s actor lane) → p2 ≡ p1 ++ printed (refusal_cross x lane) → new ≡ p2 ++ printed (chip (arrow_style e x) place (chip_words e x)) →
    new ≡ old ++ printed (marks e x actor lane)
marked old p1 p2 new e x actor lane place s is at h1 h2 h3 =
    let a : Elements = arrow (arrow_style e x) actor lane in
    let b : Elements = refusal_cross x lane in
    let c : Elements = chip (arrow_style e x) (chip_place (is_own e) actor lane) (chip_words e x) in
    pushed_both old p1 new a (all (b ∷ c ∷ [])) (h1 ∙ ap (λ (t : Style). old ++ printed (arrow t actor lane)) is)
    (pushed_both p1 p2 new b (all (c ∷ [])) h2 (pushed_last p2 new c (h3 ∙ ap (λ (p : Option ℕ). p2 ++ printed (chip (arrow_style e x) p (chip_words e x))) at)))

pub arrow_pushed : (old mid new : List ℕ) (s : Style) (a x : ℕ) (actor lane : Option ℕ) → actor ≡ Some a → lane ≡ Some x →
    mid ≡ old ++ printed (line s (a + 46) 10 (x + 124) 10) → new ≡ mid ++ printed (rect s (x + 118) 7 6 6) → new ≡ old ++ printed (arrow s actor lane)
arrow_pushed old mid new s a x actor lane is at h1 h2 =
    pushed_both old mid new (line s (a + 46) 10 (x + 124) 10) (all (rect s (x + 118) 7 6 6 ∷ [])) h1 (pushed_last mid new (rect s (x + 118) 7 6 6) h2)
    ∙ (λ i. old ++ printed (arrow s (sym is i) (sym at i)))
