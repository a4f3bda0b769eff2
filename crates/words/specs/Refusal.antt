-- A refusal's number, and a call's answer beside its state (document 01, "Numbers a caller may get back").
-- Assumes nothing.
use Rattle.std.specs.Prelude.{ℕ, List, [], ◌∷◌, Result, Ok, Err}
use Rattle.words.specs.declared.refusal.Refusal.{Refusal}
use Rattle.words.specs.declared.refusal.Refusal.TheVariants.{NotReady, NoAcceptedReset, BadSize, TransferOpen, TransfersSpent, NotTwoWords, ReservedBits, BadReset, OtherLink, Over1024}
use Rattle.words.specs.declared.refusal.Refusal.TheVariants.{Over4096, NoReset, LastHandled, HandFull, WrongLength, NothingToTake, ShortBuffer, NothingAsked, BadMessage, BadConfiguration}
use Rattle.words.specs.declared.refusal.Stepped.{Stepped as SteppedOr}

abbrev pub refusal_number : Refusal → ℕ
refusal_number NotReady = 1
refusal_number NoAcceptedReset = 2
refusal_number BadSize = 3
refusal_number TransferOpen = 4
refusal_number TransfersSpent = 5
refusal_number NotTwoWords = 6
refusal_number ReservedBits = 7
refusal_number BadReset = 8
refusal_number OtherLink = 9
refusal_number Over1024 = 10
refusal_number Over4096 = 11
refusal_number NoReset = 12
refusal_number LastHandled = 13
refusal_number HandFull = 14
refusal_number WrongLength = 15
refusal_number NothingToTake = 16
refusal_number ShortBuffer = 17
refusal_number NothingAsked = 18
refusal_number BadMessage = 19
refusal_number BadConfiguration = 20

-- what a call answers that has nothing else to give
abbrev pub Answer : Type 0
Answer = Result (Unit {0}) Refusal

-- 0 where accepted; a refusal may be any number
abbrev pub numbered_of : {E : Type 0} → (E → ℕ) → Result (Unit {0}) E → ℕ
numbered_of number (Ok u) = 0
numbered_of number (Err e) = number e

-- the paper's number, 0 where accepted
abbrev pub number_of : Answer → ℕ
number_of answer = numbered_of refusal_number answer

-- the paper's number, 0 for accepted, and the values
abbrev pub numbers_of : {T : Type 0} → (T → List ℕ) → Result T Refusal → List ℕ
numbers_of values (Ok x) = 0 ∷ values x
numbers_of values (Err r) = refusal_number r ∷ []

-- a state beside what the call answers, with the paper's refusals
abbrev pub Stepped : Type 0 → Type 0 → Type 0
Stepped S T = SteppedOr S T Refusal

abbrev pub accept : {S : Type 0} → S → Stepped S (Unit {0})
accept s = record { state = s; answer = Ok tt }

abbrev pub refuse : {S T E : Type 0} → E → S → SteppedOr S T E
refuse e s = record { state = s; answer = Err e }
