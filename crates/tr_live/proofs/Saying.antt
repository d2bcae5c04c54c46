-- What may be said and is heard of some bytes, one after another.
use Rattle.std.proofs.Common.{◌≡◌, ◌==◌, ◌+◌, ◌<◌, ◌≤◌, ℕ, List, [], ◌∷◌, ◌++◌, ◌∙◌, Bool, true, false, ap, refl, Option, Some, None, Result, Ok, Err, append_assoc, length, get_or, drop, codes}
use Rattle.std.proofs.lemmas.List.{at_drop_more, drop_all, drop_more}
use Rattle.serde_json.specs.Data.{Data}
use Rattle.tr_reading.specs.declared.faults.ScenarioFault.{ScenarioFault}
use Rattle.tr_reading.specs.declared.faults.ScenarioFault.TheVariants.{NotJson}
use Rattle.tr_mistakes.specs.Texts.{IsTold, mistake_in, position_text}
use Rattle.tr_live.specs.Commands.{command_of, line_read, longest, opening_of}
use Rattle.tr_live.specs.Dialogues.{Dialogue, IsAnswer, IsAnsweredIf, IsSaid, IsSaidTo, MayTell, Session, ToldOf, answer, heard, heard_byte}
use Rattle.tr_live.specs.Mistakes.{command_mistake, opening_mistake}

-- Something can be said

told_of_fault : (mistake : Data → List ℕ) (line : List ℕ) (e : ScenarioFault) → (told : List ℕ) × IsTold mistake longest line e told
told_of_fault mistake line NotJson = (position_text 0 0, (0, 0, refl))
told_of_fault mistake line e = (mistake_in mistake longest line, refl)

pub told_of : {X : Type 0} (mistake : Data → List ℕ) (line : List ℕ) (r : Result X ScenarioFault) → (told : List ℕ) × ToldOf mistake line r told
told_of mistake line (Ok x) = ([], refl)
told_of mistake line (Err e) = told_of_fault mistake line e

pub told_to : (s : Option Session) (line : List ℕ) → (told : List ℕ) × MayTell s line told
told_to None line = told_of opening_mistake line (line_read opening_of line)
told_to (Some s) line = told_of command_mistake line (line_read command_of line)

answered : (s : Option Session) (line : List ℕ) → (text : List ℕ) × IsAnswer s line text
answered s line =
    let t = told_to s line in
    ((answer t.0 s line).text ++ codes "\n", (t.0, t.1, refl))

pub answered_if : (b : Bool) (d : Dialogue) → (text : List ℕ) × IsAnsweredIf b d text
answered_if true d = answered d.session d.line
answered_if false d = ([], refl)

pub said_of : (d : Dialogue) (bytes : List ℕ) → (text : List ℕ) × IsSaid d bytes text
said_of d [] = ([], refl)
said_of d (b ∷ bs) =
    let first = answered_if (b == 10) d in
    let rest = said_of (heard_byte d b) bs in
    (first.0 ++ rest.0, (first.0, rest.0, first.1, rest.1, refl))

-- of bytes from a place on

pub heard_at : (d : Dialogue) (bytes : List ℕ) (i : ℕ) → i < length bytes → heard d (drop i bytes) ≡ heard (heard_byte d (get_or bytes i 0)) (drop (i + 1) bytes)
heard_at d bytes i h = at_drop_more (heard d) bytes i 0 h

pub said_at : (d : Dialogue) (bytes : List ℕ) (i : ℕ) (first rest : List ℕ) → i < length bytes →
    IsSaidTo d (get_or bytes i 0) first → IsSaid (heard_byte d (get_or bytes i 0)) (drop (i + 1) bytes) rest → IsSaid d (drop i bytes) (first ++ rest)
said_at d bytes i first rest h a r = rw (drop_more bytes i 0 h) (first, rest, a, r, refl)

pub said_none : (d : Dialogue) (bytes : List ℕ) (i : ℕ) → length bytes ≤ i → IsSaid d (drop i bytes) []
said_none d bytes i h = rw (drop_all i bytes h) refl

-- of bytes, and then more

pub heard_on : (d : Dialogue) (bytes more : List ℕ) → heard d (bytes ++ more) ≡ heard (heard d bytes) more
heard_on d [] more = refl
heard_on d (b ∷ bs) more = heard_on (heard_byte d b) bs more

pub said_on : (d : Dialogue) (bytes more s t : List ℕ) → IsSaid d bytes s → IsSaid (heard d bytes) more t → IsSaid d (bytes ++ more) (s ++ t)
said_on d [] more s t p q = rw p q
said_on d (b ∷ bs) more s t p q =
    (p.0, p.1 ++ t, p.2, said_on (heard_byte d b) bs more p.1 t p.3 q, ap (λ xs. xs ++ t) p.4 ∙ append_assoc p.0 p.1 t)
