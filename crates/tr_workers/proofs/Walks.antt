-- One call more of a script.
use Rattle.std.proofs.Common.{◌≡◌, ℕ, ◌+◌, ◌<◌, List, [], ◌∷◌, ◌++◌, length, refl, sym, ap, ◌∙◌, arith, length-append, append_assoc, append-nil}
use Rattle.std.specs.Prelude.{Some, None}
use Rattle.tr_model.specs.declared.events.Event.{Event}
use Rattle.tr_model.specs.declared.replies.Refusal.TheVariants.{NoMemory}
use Rattle.tr_kernel.specs.declared.answers.Answer.{Answer}
use Rattle.tr_kernel.specs.declared.answers.Answer.TheVariants.{Refused}
use Rattle.tr_kernel.specs.declared.answers.Receipt.{Receipt}
use Rattle.tr_workers.specs.declared.scripts.Plan.{Plan}
use Rattle.tr_workers.specs.declared.ports.Told.{Told}
use Rattle.tr_workers.specs.declared.working.Ended.TheVariants.{AtEnd, OutOfTurns}
use Rattle.tr_workers.specs.Follows.{AreAnswered, AreNext, Follows, IsAnswered, IsCutShort, Made, heard, made, progress_after, receipts_in, receipts_of, told_in, told_of}
use Rattle.tr_workers.specs.Scripts.{Progress, begun, next, told}

-- A call at the end of the calls

progress_snoc : (p : Progress) (calls : List Made) (m : Made) → progress_after p (calls ++ m ∷ []) ≡ told (progress_after p calls) (heard m.answer)
progress_snoc p [] m = refl
progress_snoc p (x ∷ rest) m = progress_snoc (told p (heard x.answer)) rest m

next_snoc : (p : Progress) (calls : List Made) (m : Made) → AreNext p calls → next (progress_after p calls) ≡ Some m.event → AreNext p (calls ++ m ∷ [])
next_snoc p [] m c h = (h, tt)
next_snoc p (x ∷ rest) m c h = (c.0, next_snoc (told p (heard x.answer)) rest m c.1 h)

receipts_snoc : (calls : List Made) (m : Made) → receipts_of (calls ++ m ∷ []) ≡ receipts_of calls ++ receipts_in m.answer
receipts_snoc [] m = append-nil (receipts_in m.answer)
receipts_snoc (x ∷ rest) m = ap (λ xs. receipts_in x.answer ++ xs) (receipts_snoc rest m) ∙ sym (append_assoc (receipts_in x.answer) (receipts_of rest) (receipts_in m.answer))

told_snoc : (after : ℕ) (calls : List Made) (m : Made) → told_of after (calls ++ m ∷ []) ≡ told_of after calls ++ told_in (after + length (receipts_of calls)) m.event m.answer
told_snoc after [] m =
    let same : after + 0 ≡ after = omega arith in
    append-nil (told_in after m.event m.answer) ∙ ap (λ (n : ℕ). told_in n m.event m.answer) (sym same)
told_snoc after (x ∷ rest) m =
    let n = after + length (receipts_in x.answer) in
    let same : n + length (receipts_of rest) ≡ after + length (receipts_in x.answer ++ receipts_of rest) = omega (arith, length-append (receipts_in x.answer) (receipts_of rest)) in
    ap (λ xs. told_in after x.event x.answer ++ xs) (told_snoc n rest m ∙ ap (λ (k : ℕ). told_of n rest ++ told_in k m.event m.answer) same)
    ∙ sym (append_assoc (told_in after x.event x.answer) (told_of n rest) (told_in (after + length (receipts_in x.answer ++ receipts_of rest)) m.event m.answer))

answered_snoc : (calls : List Made) (m : Made) → AreAnswered calls → IsAnswered m → AreAnswered (calls ++ m ∷ [])
answered_snoc [] m a h = (h, tt)
answered_snoc (x ∷ rest) m a h = (a.0, answered_snoc rest m a.1 h)

-- The work so far

-- the calls made, beside what the port shows and how far the script has come
pub record SoFar (plan : Plan) (count : ℕ) (list : List Receipt) (others : List Told) (p : Progress) : Type 0 where
  pub calls : List Made
  pub number : length calls ≡ count
  pub follow : AreNext (begun plan) calls
  pub answered : AreAnswered calls
  pub receipts : receipts_of calls ≡ list
  pub tell : told_of 0 calls ≡ others
  pub at : progress_after (begun plan) calls ≡ p

pub none_yet : (plan : Plan) → SoFar plan 0 [] [] (begun plan)
none_yet plan = record { calls = []; number = refl; follow = tt; answered = tt; receipts = refl; tell = refl; at = refl }

pub one_more : (plan : Plan) (count : ℕ) (list : List Receipt) (others : List Told) (p : Progress) (e : Event) (answer : Answer) → SoFar plan count list others p → next p ≡ Some e → IsAnswered (made e answer)
    → SoFar plan (count + 1) (list ++ receipts_in answer) (others ++ told_in (length list) e answer) (told p (heard answer))
one_more plan count list others p e answer s is h =
    let m = made e answer in
    record {
      calls = s.calls ++ m ∷ [];
      number = omega (arith, length-append s.calls (m ∷ []), s.number);
      follow = next_snoc (begun plan) s.calls m s.follow (ap next s.at ∙ is);
      answered = answered_snoc s.calls m s.answered h;
      receipts = receipts_snoc s.calls m ∙ ap (λ xs. xs ++ receipts_in answer) s.receipts;
      tell = told_snoc 0 s.calls m ∙ (let same : 0 + length (receipts_of s.calls) ≡ length list = omega (arith, ap length s.receipts) in λ i. s.tell i ++ told_in (same i) e answer);
      at = progress_snoc (begun plan) s.calls m ∙ ap (λ (q : Progress). told q (heard answer)) s.at;
    }

pub at_end : (plan : Plan) (count : ℕ) (list : List Receipt) (others : List Told) (p : Progress) → SoFar plan count list others p → next p ≡ None → Follows plan count list others AtEnd
at_end plan count list others p s is =
    record { calls = s.calls; number = s.number; follow = s.follow; answered = s.answered; receipts = s.receipts; tell = s.tell; ends = ((λ _. ap next s.at ∙ is), (λ _. refl)) }

pub not_at_end : (plan : Plan) (count : ℕ) (list : List Receipt) (others : List Told) (p : Progress) (e : Event) → SoFar plan count list others p → next p ≡ Some e → Follows plan count list others OutOfTurns
not_at_end plan count list others p e s is =
    let here : next (progress_after (begun plan) s.calls) ≡ Some e = ap next s.at ∙ is in
    record { calls = s.calls; number = s.number; follow = s.follow; answered = s.answered; receipts = s.receipts; tell = s.tell; ends = ((λ q. cc), (λ q. cc)) }

-- a call that is refused for want of memory leaves the lists as they were
pub cut_short : (plan : Plan) (turns count : ℕ) (list : List Receipt) (others : List Told) (p : Progress) (e : Event) (answer : Answer) (count_new : ℕ) (list_new : List Receipt) (others_new : List Told) →
    count_new ≡ count + 1 → list_new ≡ list ++ receipts_in answer → others_new ≡ others ++ told_in (length list) e answer → count < turns → answer ≡ Refused NoMemory → SoFar plan count list others p → next p ≡ Some e →
    IsCutShort plan turns count_new list_new others_new
cut_short plan turns count list others p e answer count_new list_new others_new counted received tell within refused s is =
    record { before = count; last = counted; within = omega arith; follows = rw (received, tell, refused, append-nil list, append-nil others) (not_at_end plan count list others p e s is) }
