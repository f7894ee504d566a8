-- A file has one reading, and what a front of it settled are the first of its pictures.
use Rattle.std.proofs.Common.{◌≡◌, ℕ, inl, inr, true, List, [], ◌∷◌, ◌++◌, length, Option, Some, None, refl, sym, ap, subst, ◌∙◌, arith}
use Rattle.std.proofs.lemmas.Bool.{cases_lt}
use Rattle.std.proofs.lemmas.List.{append-nil, length-append}
use Rattle.access_units.specs.AccessUnits.{AccessUnit}
use Rattle.access_units.specs.Acceptors.{AreAll, IsSettled}
use Rattle.access_units.specs.Pictures.{ArePictures}
use Rattle.accepted_pictures.specs.Files.{AreAllWhole, AreDecoded, Decoded, Fault, HasPictures, IsAcceptedPicture, IsFirstRefused, IsRead, IsReadTo, IsReadWhole, IsTooLong, fault_of}
use Rattle.accepted_pictures.proofs.OneDecoded.{AreReadUnits, decoded_one, head_of, last_read, settled_read, splits}
use Rattle.access_units.proofs.OneGrouping.{all_settled, settled}
use Rattle.access_units.proofs.OneList.{cases_of, share, whole_within}
use Rattle.access_units.proofs.WholeSlices.{some_slices}

whole_read : (text : List ℕ) (front : List AccessUnit) → AreAll text front → AreReadUnits front
whole_read text front w = last_read w.tail front (settled_read text (w.tail ++ front) (all_settled text front w))

units_read : (text : List ℕ) (front : List AccessUnit) (au : AccessUnit) → IsSettled text true front au → AreReadUnits (au ∷ front)
units_read text front au is = settled_read text (au ∷ front) (settled text front au is)

-- ---- an accepted access unit isn't refused, and isn't the tail of a text

accepted_or_refused : (later front : List AccessUnit) (au : AccessUnit) (decoded before : List Decoded) → AreDecoded (later ++ au ∷ front) decoded → AreReadUnits front → AreDecoded front before → IsFirstRefused before au → ⊥
accepted_or_refused later front au decoded before are read front_are refused =
    let s = splits later (au ∷ front) decoded are in
    let h = head_of au front s.last s.are in
    let same : h.before ≡ before = decoded_one front h.before before read h.are front_are in
    refused.not_decoded h.one (subst (λ (l : List Decoded). IsAcceptedPicture l au h.one) same h.is)

no_tail : (text : List ℕ) (front : List AccessUnit) (au : AccessUnit) (decoded : List Decoded) → IsSettled text true front au → AreDecoded (au ∷ front) decoded → au.refused ≡ None → au.slices ≡ [] → ⊥
no_tail text front au decoded is are fine empty =
    let h = head_of au front decoded are in
    let first = h.is.picture.first in
    some_slices text true front au is (λ none. let e : Some h.is.picture.named ≡ None = sym first ∙ none in absurd (cc)) empty

-- ---- both read whole

settled_last : (text : List ℕ) (front : List AccessUnit) (au : AccessUnit) → AreAll text (au ∷ front) → IsSettled text true front au
settled_last text front au w = record { told = w.told; each = w.each; by = inr (w.broken, inl (refl, w.units), (w.tail, w.split)) }

whole_longer : (text : List ℕ) (front other : List AccessUnit) (decoded : List Decoded) → AreAll text front → AreAll text other → AreDecoded front decoded → (later : List AccessUnit) × (other ≡ later ++ front)
whole_longer text [] other decoded w v are = (other, sym (append-nil other))
whole_longer text (au ∷ front) other decoded w v are =
    let is = settled_last text front au w in
    whole_within text other front au v is (no_tail text front au decoded is are)

nil_of : (xs : List AccessUnit) → length xs ≡ 0 → xs ≡ []
nil_of [] e = refl
nil_of (x ∷ xs) e = absurd (omega arith)

fronts_one : (xs ys k l : List AccessUnit) → ys ≡ k ++ xs → xs ≡ l ++ ys → xs ≡ ys
fronts_one xs ys k l e f =
    let none : length k ≡ 0 = omega (arith, ap length e, ap length f, length-append k xs, length-append l ys) in
    ap (λ (z : List AccessUnit). z ++ xs) (sym (nil_of k none)) ∙ sym e

wholes_one : (text : List ℕ) (a b : List Decoded) → IsReadWhole text a → IsReadWhole text b → a ≡ b
wholes_one text a b is also =
    let more = whole_longer text is.front also.front a is.all also.all is.accepted in
    let less = whole_longer text also.front is.front b also.all is.all also.accepted in
    let same = fronts_one is.front also.front more.0 less.0 more.1 less.1 in
    decoded_one also.front a b (whole_read text also.front also.all) (subst (λ (f : List AccessUnit). AreDecoded f a) same is.accepted) also.accepted

-- ---- one whole, one not

whole_or_not : (text : List ℕ) (a b : List Decoded) (fault : Fault) → IsReadWhole text a → IsReadTo text true b fault → ⊥
whole_or_not text a b fault is to =
    let within = whole_within text is.front to.front to.au is.all to.settled to.refused.not_tail in
    accepted_or_refused within.0 to.front to.au a b (subst (λ (f : List AccessUnit). AreDecoded f a) within.1 is.accepted) (units_read text to.front to.au to.settled).1 to.accepted to.refused

-- ---- neither

-- one access unit that isn't accepted is no later than another one
no_later : (text : List ℕ) (a b : List Decoded) (f g : Fault) (is : IsReadTo text true a f) (also : IsReadTo text true b g) (k : List AccessUnit) → is.au ∷ is.front ≡ k ++ also.au ∷ also.front → (a ≡ b) × (f ≡ g)
no_later text a b f g is also [] e =
    let au : is.au ≡ also.au = cc in
    let front : is.front ≡ also.front = cc in
    let decoded = decoded_one also.front a b (units_read text also.front also.au also.settled).1 (subst (λ (u : List AccessUnit). AreDecoded u a) front is.accepted) also.accepted in
    (decoded, is.fault_is ∙ ap fault_of au ∙ sym also.fault_is)
no_later text a b f g is also (x ∷ k) e =
    let front : is.front ≡ k ++ also.au ∷ also.front = cc in
    absurd (accepted_or_refused k also.front also.au a b (subst (λ (u : List AccessUnit). AreDecoded u a) front is.accepted) (units_read text also.front also.au also.settled).1 also.accepted also.refused)

tos_one : (text : List ℕ) (a b : List Decoded) (f g : Fault) → IsReadTo text true a f → IsReadTo text true b g → (a ≡ b) × (f ≡ g)
tos_one text a b f g is also =
    elim (cases_of (is.au ∷ is.front) (also.au ∷ also.front) (share text (is.au ∷ is.front) (also.au ∷ also.front) (settled text is.front is.au is.settled) (settled text also.front also.au also.settled))) [
      | inl later ↦ no_later text a b f g is also later.0 later.1
      | inr earlier ↦ (let same = no_later text b a g f also is earlier.0 earlier.1 in (sym same.0, sym same.1))
    ]

-- ---- a file

read_one : (text : List ℕ) (a b : List Decoded) (f g : Option Fault) → IsRead text a f → IsRead text b g → (a ≡ b) × (f ≡ g)
read_one text a b None None is also = (wholes_one text a b is also, refl)
read_one text a b None (Some g) is also = absurd (whole_or_not text a b g is also)
read_one text a b (Some f) None is also = absurd (whole_or_not text b a f also is)
read_one text a b (Some f) (Some g) is also = let same = tos_one text a b f g is also in (same.0, ap Some same.1)

pub one_reading : (text : List ℕ) (a b : List Decoded) (f g : Option Fault) → HasPictures text a f → HasPictures text b g → (a ≡ b) × (f ≡ g)
one_reading text a b f g is also = elim (cases_lt 1073741824 (length text)) [
  | inl long ↦ ((is.0 long).0 ∙ sym (also.0 long).0, (is.0 long).1 ∙ sym (also.0 long).1)
  | inr short ↦ (let fits : IsTooLong text → ⊥ = λ long. omega arith in read_one text a b f g (is.1 fits) (also.1 fits))
]

-- ---- the first pictures of a file

go_on : (text : List ℕ) (later front : List AccessUnit) (au : AccessUnit) (first decoded : List Decoded) → IsSettled text true front au → AreDecoded (au ∷ front) first → AreDecoded (later ++ au ∷ front) decoded → (more : List Decoded) × (decoded ≡ more ++ first)
go_on text later front au first decoded is are all =
    let s = splits later (au ∷ front) decoded all in
    let same : s.last ≡ first = decoded_one (au ∷ front) s.last first (units_read text front au is) s.are are in
    (s.more, s.all ∙ ap (λ (l : List Decoded). s.more ++ l) same)

to_first : (text : List ℕ) (front : List AccessUnit) (au : AccessUnit) (first decoded : List Decoded) (fault : Fault) → IsSettled text true front au → AreDecoded (au ∷ front) first → (to : IsReadTo text true decoded fault)
    → (k : List AccessUnit) → to.au ∷ to.front ≡ k ++ au ∷ front → (more : List Decoded) × (decoded ≡ more ++ first)
to_first text front au first decoded fault is are to [] e =
    absurd (accepted_or_refused [] to.front to.au first decoded (subst (λ (u : List AccessUnit). AreDecoded u first) (sym e) are) (units_read text to.front to.au to.settled).1 to.accepted to.refused)
to_first text front au first decoded fault is are to (x ∷ k) e =
    let same : to.front ≡ k ++ au ∷ front = cc in
    go_on text k front au first decoded is are (subst (λ (u : List AccessUnit). AreDecoded u decoded) same to.accepted)

pub first_pictures : (text : List ℕ) (front : List AccessUnit) (au : AccessUnit) (first decoded : List Decoded) (fault : Option Fault) → IsSettled text true front au → AreDecoded (au ∷ front) first → IsRead text decoded fault
    → (more : List Decoded) × (decoded ≡ more ++ first)
first_pictures text front au first decoded None is are whole =
    let within = whole_within text whole.front front au whole.all is (no_tail text front au first is are) in
    go_on text within.0 front au first decoded is are (subst (λ (u : List AccessUnit). AreDecoded u decoded) within.1 whole.accepted)
first_pictures text front au first decoded (Some fault) is are to =
    elim (cases_of (au ∷ front) (to.au ∷ to.front) (share text (au ∷ front) (to.au ∷ to.front) (settled text front au is) (settled text to.front to.au to.settled))) [
      | inl later ↦
          absurd (accepted_or_refused later.0 to.front to.au first decoded (subst (λ (u : List AccessUnit). AreDecoded u first) later.1 are) (units_read text to.front to.au to.settled).1 to.accepted to.refused)
      | inr earlier ↦ to_first text front au first decoded fault is are to earlier.0 earlier.1
    ]

none_decoded : AreDecoded [] []
unfolding ArePictures AreAllWhole
none_decoded = record { pictures = tt; whole = tt }

read_decoded : (text : List ℕ) (decoded : List Decoded) (fault : Option Fault) → IsRead text decoded fault → (front : List AccessUnit) × AreDecoded front decoded
read_decoded text decoded None is = (is.front, is.accepted)
read_decoded text decoded (Some fault) is = (is.front, is.accepted)

-- A file's pictures are accepted pictures, one behind the other.
pub are_decoded : (text : List ℕ) (decoded : List Decoded) (fault : Option Fault) → HasPictures text decoded fault → (front : List AccessUnit) × AreDecoded front decoded
are_decoded text decoded fault is = elim (cases_lt 1073741824 (length text)) [
  | inl long ↦ ([], subst (λ (l : List Decoded). AreDecoded [] l) (sym (is.0 long).0) none_decoded)
  | inr short ↦ (let fits : IsTooLong text → ⊥ = λ long. omega arith in read_decoded text decoded fault (is.1 fits))
]
