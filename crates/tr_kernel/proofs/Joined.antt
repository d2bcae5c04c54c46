-- The notes of all entries, with what their replies tell.
use Rattle.std.proofs.Common.{◌≡◌, ℕ, zero, suc, ◌+◌, ◌*◌, ◌<◌, ◌≤◌, List, [], ◌∷◌, ◌++◌, length, Bool, true, false, None, Some, refl, sym, ap, ◌∙◌, arith}
use Rattle.std.proofs.lemmas.Option.{none-some, same_Some}
use Rattle.std.specs.Prelude.{slice_get}
use Rattle.tr_kernel.specs.declared.notes.EntryFact.{EntryFact}
use Rattle.tr_kernel.specs.declared.notes.EntryFact.TheVariants.{Exec, Nothing, Stop, Take}
use Rattle.tr_kernel.specs.declared.notes.Note.{Note}
use Rattle.tr_model.specs.Entries.{Entry}
use Rattle.tr_kernel.specs.declared.replies.BriefReply.{BriefReply}
use Rattle.tr_kernel.specs.declared.replies.Mark.{Mark}
use Rattle.tr_kernel.specs.declared.replies.WholeReply.{WholeReply}
use Rattle.tr_kernel.specs.Kept.{IsMore, fact_told, joined, left_of, with_fact}
use Rattle.tr_kernel.specs.KeptReplies.{AreHeld, all_by}
use Rattle.tr_kernel.proofs.Told.{full_facts, length_by, pushed_facts}

pub length_joined : (fs : List EntryFact) (ns : List Note) → length (joined fs ns) ≡ length ns
length_joined [] ns = refl
length_joined (f ∷ fs) [] = refl
length_joined (f ∷ fs) (n ∷ ns) = ap suc (length_joined fs ns)

-- One entry more

joined_push : (fs : List EntryFact) (ns : List Note) (f : EntryFact) (n : Note) → length fs ≡ length ns → joined (fs ++ f ∷ []) (ns ++ n ∷ []) ≡ joined fs ns ++ with_fact f n ∷ []
joined_push [] [] f n h = refl
joined_push [] (m ∷ ns) f n h = absurd (omega (arith, h))
joined_push (g ∷ fs) [] f n h = absurd (omega (arith, h))
joined_push (g ∷ fs) (m ∷ ns) f n h = ap (λ ms. with_fact g m ∷ ms) (joined_push fs ns f n (omega (arith, h)))

-- what is left beside what the reply tells, with that
whole : (b : Bool) (f : EntryFact) (n : Note) → (b ≡ true → f ≡ n.fact) → (b ≡ false → f ≡ Nothing) → with_fact f (left_of b n) ≡ n
whole true f n t u = ap (λ g. with_fact g (record n { fact = Nothing })) (t refl) ∙ go n.fact refl
  where
    go : (g : EntryFact) → n.fact ≡ g → with_fact g (record n { fact = Nothing }) ≡ n
    go Nothing e = ap (λ x. record n { fact = x }) (sym e)
    go (Stop s) e = ap (λ x. record n { fact = x }) (sym e)
    go (Take k) e = ap (λ x. record n { fact = x }) (sym e)
    go (Exec g) e = ap (λ x. record n { fact = x }) (sym e)
whole false f n t u = ap (λ g. with_fact g n) (u refl)

joined_more : (fs : List EntryFact) (ns : List Note) (b : Bool) (f : EntryFact) (n : Note) → length fs ≡ length ns → (b ≡ true → f ≡ n.fact) → (b ≡ false → f ≡ Nothing)
    → joined (fs ++ f ∷ []) (ns ++ left_of b n ∷ []) ≡ joined fs ns ++ n ∷ []
joined_more fs ns b f n h t u = joined_push fs ns f (left_of b n) h ∙ ap (λ m. joined fs ns ++ m ∷ []) (whole b f n t u)

-- The note at a place

pub joined_at : (fs : List EntryFact) (ns : List Note) (i : ℕ) (f : EntryFact) (n : Note) → slice_get fs i ≡ Some f → slice_get ns i ≡ Some n → slice_get (joined fs ns) i ≡ Some (with_fact f n)
joined_at [] ns i f n g h = absurd (none-some f g)
joined_at (x ∷ fs) [] i f n g h = absurd (none-some n h)
joined_at (x ∷ fs) (m ∷ ns) zero f n g h = ap (λ y. Some (with_fact y m)) (same_Some x f g) ∙ ap (λ k. Some (with_fact f k)) (same_Some m n h)
joined_at (x ∷ fs) (m ∷ ns) (suc i) f n g h = joined_at fs ns i f n g h

pub joined_none : (fs : List EntryFact) (ns : List Note) (i : ℕ) → slice_get ns i ≡ None → slice_get (joined fs ns) i ≡ None
joined_none [] ns i h = h
joined_none (x ∷ fs) [] i h = refl
joined_none (x ∷ fs) (m ∷ ns) zero h = absurd (none-some m (sym h))
joined_none (x ∷ fs) (m ∷ ns) (suc i) h = joined_none fs ns i h

-- An entry more, with what is kept of it

pub pushed_notes : (ms : List Mark) (last : Mark) (ws vs : List WholeReply) (es : List Entry) (bs : List BriefReply) (ns : List Note) (e : Entry) (b : BriefReply) (tells : Bool) (n : Note)
    → length es ≡ length bs → length ns ≡ length bs → 64 * length ms ≤ length bs → IsMore ws vs → AreHeld ms last ws 0 bs
    → (tells ≡ true → fact_told e last vs b ≡ n.fact) → (tells ≡ false → fact_told e last vs b ≡ Nothing)
    → joined (all_by fact_told ms last vs 0 (es ++ e ∷ []) (bs ++ b ∷ [])) (ns ++ left_of tells n ∷ []) ≡ joined (all_by fact_told ms last ws 0 es bs) ns ++ n ∷ []
pushed_notes ms last ws vs es bs ns e b tells n l k f g h t u =
    ap (λ fs. joined fs (ns ++ left_of tells n ∷ [])) (pushed_facts ms last ws vs es bs e b (fact_told e last vs b) l f g h refl)
    ∙ joined_more (all_by fact_told ms last ws 0 es bs) ns tells (fact_told e last vs b) n (omega (arith, length_by fact_told ms last ws 0 es bs l, k)) t u

pub full_notes : (ms : List Mark) (last next : Mark) (ws vs : List WholeReply) (es : List Entry) (bs : List BriefReply) (ns : List Note) (e : Entry) (b : BriefReply) (tells : Bool) (n : Note)
    → length es ≡ length bs → length ns ≡ length bs → 64 * length ms ≤ length bs → length bs < 64 * length ms + 64 → IsMore ws vs → AreHeld ms last ws 0 bs
    → (tells ≡ true → fact_told e last vs b ≡ n.fact) → (tells ≡ false → fact_told e last vs b ≡ Nothing)
    → joined (all_by fact_told (ms ++ last ∷ []) next vs 0 (es ++ e ∷ []) (bs ++ b ∷ [])) (ns ++ left_of tells n ∷ []) ≡ joined (all_by fact_told ms last ws 0 es bs) ns ++ n ∷ []
full_notes ms last next ws vs es bs ns e b tells n l k f o g h t u =
    ap (λ fs. joined fs (ns ++ left_of tells n ∷ [])) (full_facts ms last next ws vs es bs e b (fact_told e last vs b) l f o g h refl)
    ∙ joined_more (all_by fact_told ms last ws 0 es bs) ns tells (fact_told e last vs b) n (omega (arith, length_by fact_told ms last ws 0 es bs l, k)) t u
