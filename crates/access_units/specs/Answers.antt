-- How many answers are right at one moment, and which of them stay.
use Rattle.std.specs.Prelude.{◌≡◌, ℕ, List, [], ◌∷◌}
use Rattle.access_units.specs.Acceptors.{IsAnswer, IsNext, MayFeed, Past, fed}
use Rattle.access_units.specs.Pictures.{Picture}
use Rattle.access_units.specs.declared.acceptor.Next.{Next}
use Rattle.access_units.specs.declared.acceptor.Next.TheVariants as next

-- At one moment one answer is right at most: that more bytes are wanted, one picture with one submission, the end, or a refusal at
-- one place for one cause.
abbrev pub AnswersAreOne : Type 0
AnswersAreOne = (past : Past) (one other : Next) → IsAnswer past one → IsAnswer past other → one ≡ other

-- and one picture is next at most
abbrev pub NextPicturesAreOne : Type 0
NextPicturesAreOne = (past : Past) (one other : Picture) → IsNext past one → IsNext past other → one ≡ other

-- ---- behind an answer

-- These pieces are fed one after the other, each of them where bytes may be fed, and nothing else happens.
abbrev pub IsFedOn : Past → List (List ℕ) → Past → Type 0
IsFedOn past [] later = later ≡ past
IsFedOn past (bytes ∷ pieces) later = MayFeed past bytes × IsFedOn (fed past bytes) pieces later

-- Whatever is fed, this stays the answer, and no other one comes.
abbrev pub Stays : Past → Next → Type 0
Stays past answer = (pieces : List (List ℕ)) (later : Past) → IsFedOn past pieces later → IsAnswer later answer × ((other : Next) → IsAnswer later other → other ≡ answer)

-- The end and a refusal are the last answers.
abbrev pub StaysIfLast : Past → Next → Type 0
StaysIfLast past next.Hungry = Unit {0}
StaysIfLast past (next.Picture unsettled) = Unit {0}
StaysIfLast past answer = Stays past answer
