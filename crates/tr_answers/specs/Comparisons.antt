-- The text of a comparison, and what is made of the calls.
use Rattle.std.specs.Prelude.{◌≡◌, ℕ, suc, List, [], ◌∷◌, ◌++◌, Bool, true, false, Option, Some, None, Result, Ok, Err, codes, decimal, filter, if◌then◌else◌, is_some, length, map, replicate}
use Rattle.tr_model.specs.Runs.{Call}
use Rattle.tr_model.specs.declared.replies.Refusal.{Refusal}
use Rattle.tr_model.specs.declared.replies.Reply.{Reply}
use Rattle.tr_kernel.specs.Foreseen.{foreseen}
use Rattle.tr_kernel.specs.States.{State}
use Rattle.tr_oracle.specs.Expected.{IsAnswered, MayAnswer}
use Rattle.tr_oracle.specs.Offers.{offered}
use Rattle.tr_status.specs.Texts.{texts}
use Rattle.tr_reading.specs.Kinds.{event_name}
use Rattle.tr_scenario.specs.Replies.{refusal_text, reply_text}
use Rattle.tr_scenario.specs.RunTexts.{call_of}
use Rattle.tr_answers.specs.declared.records.Answered.{Answered}
use Rattle.tr_answers.specs.Fits.{fits, is_open}

-- What is asked

-- a call of the step at a place, the first step's being 1, and what is known of its answer
pub record Asked : Type 0 where
  pub place : ℕ
  pub call : Call
  pub expected : Option (List ℕ)

-- a step's call, with the answer that it has
abbrev pub asked_by : ℕ → Answered → Asked
asked_by k a = record { place = k; call = call_of a.step.actor a.step.event; expected = a.answer }

-- each step's call again and again, as often as it says
abbrev pub asked_from : ℕ → List Answered → List Asked
asked_from k [] = []
asked_from k (a ∷ rest) = replicate a.step.times (asked_by k a) ++ asked_from (suc k) rest

-- how many of the answers are known
abbrev pub known : List Asked → ℕ
known qs = length (filter (λ q. is_some q.expected) qs)

-- Answers

-- a reply or a refusal in words and numbers
abbrev pub answer_text : Result Reply Refusal → List ℕ
answer_text (Ok r) = reply_text r
answer_text (Err why) = refusal_text why

-- the answer's text fits; where nothing is known of it, any does
abbrev pub is_expected : Option (List ℕ) → Result Reply Refusal → Bool
is_expected None x = true
is_expected (Some t) x = fits t (answer_text x)

-- each reply that is offered, where the call leaves a choice open; else the kernel's own answer
abbrev pub admitted_by : Result Reply Refusal → List Reply → List (Result Reply Refusal)
admitted_by (Ok own) (r ∷ rs) = map (λ r. Ok r) (r ∷ rs)
admitted_by own _ = own ∷ []

-- what a call may be answered; of all new ids of a clone this is the kernel's own
abbrev pub admitted : State → Call → List (Result Reply Refusal)
admitted s c = admitted_by (foreseen s c) (offered s.table c.actor c.event)

-- Lines

-- which step it is, and its call
abbrev pub step_text : Asked → List ℕ
step_text q = texts (codes "step " ∷ decimal q.place ∷ codes ": `" ∷ decimal q.call.actor ∷ codes " " ∷ event_name q.call.event ∷ codes "`: " ∷ [])

-- the answer that was made
abbrev pub assumed_line : Asked → Result Reply Refusal → List ℕ
assumed_line q x = texts (step_text q ∷ codes "assumed `" ∷ answer_text x ∷ codes "`\n" ∷ [])

-- an answer of which a word was left open is told
abbrev pub made_line : Asked → Result Reply Refusal → Option (List ℕ) → List ℕ
made_line q x None = []
made_line q x (Some t) = if is_open t then assumed_line q x else []

-- an answer between backquotes
abbrev pub quoted : Result Reply Refusal → List ℕ
quoted x = texts (codes "`" ∷ answer_text x ∷ codes "`" ∷ [])

-- one after the other, with commas between
abbrev pub listed : List (Result Reply Refusal) → List ℕ
listed [] = []
listed (x ∷ []) = quoted x
listed (x ∷ y ∷ xs) = quoted x ++ (codes ", " ++ listed (y ∷ xs))

-- what was answered, and what may be
abbrev pub difference_line : State → Asked → List ℕ → List ℕ
difference_line s q t = texts (step_text q ∷ codes "answered `" ∷ t ∷ codes "`; admitted: " ∷ listed (admitted s q.call) ∷ codes "\n" ∷ [])

-- how many answers agree
abbrev pub agreement_line : ℕ → List ℕ
agreement_line n = texts (codes "agrees: " ∷ decimal n ∷ codes " answers\n" ∷ [])

-- Comparisons

-- the calls are made with answers as they are known, and these are the lines of those that were open
abbrev pub Goes : State → List Asked → List ℕ → State → Type 0
Goes s [] text u = (text ≡ []) × (u ≡ s)
Goes s (q ∷ qs) text u = (x : Result Reply Refusal) × (m : State) × (rest : List ℕ) × IsAnswered s m q.call (is_expected q.expected) x × Goes m qs rest u × (text ≡ made_line q x q.expected ++ rest)

-- this was answered, and no answer that the call may be given fits it
pub record IsRefuted (s : State) (q : Asked) (t : List ℕ) : Type 0 where
  pub told : q.expected ≡ Some t
  pub unfit : (x : Result Reply Refusal) → MayAnswer s q.call x → fits t (answer_text x) ≡ false

-- all calls are made
pub record Agrees (s : State) (qs : List Asked) (text : List ℕ) : Type 0 where
  pub last : State
  pub lines : List ℕ
  pub goes : Goes s qs lines last
  pub whole : text ≡ lines ++ agreement_line (known qs)

-- the calls before the first whose answer can't be made, and then that answer is told
pub record Differs (s : State) (qs : List Asked) (text : List ℕ) : Type 0 where
  pub before : List Asked
  pub call : Asked
  pub rest : List Asked
  pub calls : qs ≡ before ++ call ∷ rest
  pub at : State
  pub lines : List ℕ
  pub goes : Goes s before lines at
  pub answer : List ℕ
  pub refuted : IsRefuted at call answer
  pub whole : text ≡ lines ++ difference_line at call answer

-- the text of a comparison, and whether the answers agree
abbrev pub Tells : State → List Asked → List ℕ → Bool → Type 0
Tells s qs text true = Agrees s qs text
Tells s qs text false = Differs s qs text
