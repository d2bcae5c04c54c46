-- A replay goes on by one step, and can be cut at any position.
use Rattle.std.proofs.Common.{◌≡◌, ℕ, zero, suc, List, [], ◌∷◌, ◌++◌, take, drop, refl, sym, subst, ap}
use Rattle.tr_model.specs.Entries.{Entry}
use Rattle.tr_model.specs.declared.replies.Reply.{Reply}
use Rattle.tr_model.specs.Journals.{Replay}
use Rattle.tr_model.specs.Steps.{Step}
use Rattle.tr_model.specs.Tables.{Table}

pub replay_push : (T U V : Table) (es : List Entry) (rs : List Reply) (e : Entry) (r : Reply) → Replay T es rs U → Step U e r V → Replay T (es ++ e ∷ []) (rs ++ r ∷ []) V
replay_push T U V [] [] e r h s = (V, subst (λ X. Step X e r V) h s, refl)
replay_push T U V [] (x ∷ rs) e r h s = absurd h
replay_push T U V (y ∷ es) [] e r h s = absurd h
replay_push T U V (y ∷ es) (x ∷ rs) e r h s = (h.0, h.1, replay_push h.0 U V es rs e r h.2 s)

pub replay_split : (n : ℕ) (T U : Table) (es : List Entry) (rs : List Reply) → Replay T es rs U → (M : Table) × Replay T (take n es) (take n rs) M × Replay M (drop n es) (drop n rs) U
replay_split zero T U es rs h = (T, refl, h)
replay_split (suc n) T U [] [] h = (U, h, refl)
replay_split (suc n) T U [] (x ∷ rs) h = absurd h
replay_split (suc n) T U (y ∷ es) [] h = absurd h
replay_split (suc n) T U (y ∷ es) (x ∷ rs) h = let s = replay_split n h.0 U es rs h.2 in (s.0, (h.0, h.1, s.1), s.2)

-- the table and the journal determine each other's end
pub replay_one_end : (T U V : Table) (es : List Entry) (rs qs : List Reply) → Replay T es rs U → Replay T es qs V → (U ≡ V) × (rs ≡ qs)
replay_one_end T U V [] [] [] h k = (subst (λ X. U ≡ X) (sym k) h, refl)
replay_one_end T U V [] (x ∷ rs) qs h k = absurd h
replay_one_end T U V [] [] (x ∷ qs) h k = absurd k
replay_one_end T U V (y ∷ es) [] qs h k = absurd h
replay_one_end T U V (y ∷ es) (x ∷ rs) [] h k = absurd k
replay_one_end T U V (y ∷ es) (x ∷ rs) (z ∷ qs) h k =
    let same : k.0 ≡ h.0 = subst (λ X. k.0 ≡ X) (sym h.1.table) k.1.table in
    let rest = replay_one_end h.0 U V es rs qs h.2 (subst (λ M. Replay M es qs V) same k.2) in
    (rest.0, first x z rs qs (subst (λ X. x ≡ X) (sym k.1.reply) h.1.reply) rest.1)
  where
    first : (a b : Reply) (xs ys : List Reply) → a ≡ b → xs ≡ ys → a ∷ xs ≡ b ∷ ys
    first a b xs ys p q = subst (λ c. a ∷ xs ≡ c ∷ ys) p (ap (λ zs. a ∷ zs) q)
