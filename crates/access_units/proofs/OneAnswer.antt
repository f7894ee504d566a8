-- At one moment one answer is right at most.
use Rattle.std.proofs.Common.{◌≡◌, ℕ, suc, ◌+◌, ◌<◌, ◌≤◌, inl, inr, Bool, true, false, cond, List, [], ◌∷◌, ◌++◌, length, take, drop, Option, Some, None, Result, Ok, refl, sym, ap, subst, ◌∙◌, arith, length-append}
use Rattle.std.specs.Prelude.{filter, nat_le, unwrap_or}
use Rattle.std.proofs.lemmas.Bool.{le-leb, leb-true}
use Rattle.std.proofs.lemmas.List.{length-drop, take-append-drop}
use Rattle.std.proofs.lemmas.List.Elements.{filter-append}
use Rattle.marking.specs.Begun.{begun_of}
use Rattle.marking.specs.declared.begun.Begun.{Begun}
use Rattle.marking.specs.declared.begun.MarkFault.{MarkFault}
use Rattle.marking.specs.declared.marker.Marker.{Marker}
use Rattle.nal_units.specs.Settled.{Settles, ended}
use Rattle.nal_units.specs.Units.{Units}
use Rattle.nal_units.proofs.Growing.{settled_first}
use Rattle.nal_units.proofs.Unique.{units_unique}
use Rattle.access_units.specs.AccessUnits.{AccessUnit, grouped}
use Rattle.access_units.specs.Acceptors.{AreAllSettled, AreFirst, IsAtEnd, IsAtAnEnd, IsFailed, IsHungry, IsNext, IsSettled, IsStopped, IsUpNext, Past, Shows}
use Rattle.access_units.specs.Answers.{AnswersAreOne, NextPicturesAreOne}
use Rattle.access_units.specs.Contents.{AreTold, Told, places_of}
use Rattle.access_units.specs.Pictures.{ArePictures, IsPicture, Picture}
use Rattle.access_units.specs.declared.acceptor.Next.TheVariants as next
use Rattle.access_units.specs.declared.acceptor.Unsettled.{Unsettled}
use Rattle.access_units.specs.declared.content.Named.{Named}
use Rattle.access_units.proofs.OneGrouping.{all_first, fewer_first, grouped_more, length_places, settled}
use Rattle.access_units.proofs.OneList.{one_list, share, whole_within}
use Rattle.access_units.proofs.Onward.{settled_at_end}
use Rattle.access_units.proofs.WholeSlices.{some_slices}

-- ---- an access unit is one picture at most

begun_one : (m n : Marker) (a b : Named) (x y : Begun) → m ≡ n → a ≡ b → begun_of m a.sps a.pps a.header ≡ Ok x → begun_of n b.sps b.pps b.header ≡ Ok y → x ≡ y
begun_one m n a b x y em en is also =
    let f : Marker → Named → Result Begun MarkFault = λ m n. begun_of m n.sps n.pps n.header in
    let same : f m a ≡ f n b = ap (λ (k : Marker). f k a) em ∙ ap (λ (k : Named). f n k) en in
    let all : Ok x ≡ Ok y = sym is ∙ (same ∙ also) in
    cc

pub picture_one : (before : List Picture) (au : AccessUnit) (a b : Picture) → IsPicture before au a → IsPicture before au b → a ≡ b
picture_one before au a b is also =
    let first = is.first in
    let first' = also.first in
    let named : is.named ≡ also.named = cc in
    let behind = is.begins.behind in
    let behind' = also.begins.behind in
    let marker : is.begins.marker ≡ also.begins.marker = cc in
    let begun : is.begun ≡ also.begun = begun_one is.begins.marker also.begins.marker is.named also.named is.begun also.begun marker named is.begins.begins also.begins.begins in
    let is_a = is.is in
    let is_b = also.is in
    cc

-- ---- the access unit that is next is one

pub pictures_many : (units : List AccessUnit) (pictures : List Picture) → ArePictures units pictures → length units ≡ length pictures
unfolding ArePictures
pictures_many [] [] are = refl
pictures_many [] (picture ∷ before) are = absurd are
pictures_many (au ∷ earlier) [] are = absurd are
pictures_many (au ∷ earlier) (picture ∷ before) are = ap suc (pictures_many earlier before are.0)

module _ (past : Past) where
  -- as many access units stand before it as pictures were given
  before_up : (au : AccessUnit) (up : IsUpNext past au) → length up.front ≡ length past.given
  before_up au up = pictures_many up.front past.given up.pictures

  up_settled : (au : AccessUnit) (up : IsUpNext past au) → IsSettled past.text true up.front au
  up_settled au up = settled_at_end past.text past.ended up.front au up.settled

  first_same : (a b : AccessUnit) (xs ys : List AccessUnit) → a ∷ xs ≡ b ∷ ys → a ≡ b
  first_same a b xs ys e = cc

  pub up_one : (a b : AccessUnit) → IsUpNext past a → IsUpNext past b → a ≡ b
  up_one a b x y =
      let xs : List AccessUnit = a ∷ x.front in
      let ys : List AccessUnit = b ∷ y.front in
      let long : length xs ≡ length ys = ap suc (before_up a x ∙ sym (before_up b y)) in
      first_same a b x.front y.front (one_list xs ys (share past.text xs ys (settled past.text x.front a (up_settled a x)) (settled past.text y.front b (up_settled b y))) long)

  -- at the end no access unit is next but a tail
  pub not_at_end : (au : AccessUnit) → IsAtEnd past → IsUpNext past au → (au.refused ≡ None → au.slices ≡ [] → ⊥) → ⊥
  not_at_end au end up some =
      let within = whole_within past.text end.front up.front au end.all (up_settled au up) some in
      let all = pictures_many end.front past.given end.pictures in
      let before = before_up au up in
      omega (arith, all, before, ap length within.1, length-append within.0 (au ∷ up.front))

-- ---- where more bytes are wanted no access unit is next

filter_stays : {A : Type 0} (p q : A → Bool) → ((x : A) → q x ≡ true → p x ≡ true) → (xs : List A) → filter p (filter q xs) ≡ filter q xs
filter_stays p q weaker [] = refl
filter_stays p q weaker (x ∷ xs) =
    let later = filter_stays p q weaker xs in
    elim (q x) as (λ b. q x ≡ b → filter p (cond b (x ∷ filter q xs) (filter q xs)) ≡ cond b (x ∷ filter q xs) (filter q xs)) [
      | true ↦ λ yes. ap (λ b. cond b (x ∷ filter p (filter q xs)) (filter p (filter q xs))) (weaker x yes) ∙ ap (λ ys. x ∷ ys) later
      | false ↦ λ no. later
    ] refl

-- what has ended in a front of a text has ended in the text
ended_more : (front text : List ℕ) (spots : List (ℕ × ℕ)) → length front ≤ length text → ended text (ended front spots) ≡ ended front spots
ended_more front text spots le =
    filter_stays (λ (u : ℕ × ℕ). nat_le (u.1 + 3) (length text)) (λ (u : ℕ × ℕ). nat_le (u.1 + 3) (length front))
    (λ u has. le-leb (u.1 + 3) (length text) (let fits = leb-true (u.1 + 3) (length front) has in omega (arith, fits, le))) spots

-- The units that a front of the text settles are the first of those that the text settles.
first_settled : (text : List ℕ) (all some : List (ℕ × ℕ)) → Settles text all None → AreFirst text some → (later : List (ℕ × ℕ)) × (all ≡ some ++ later)
first_settled text all some settles first =
    let front : List ℕ = take first.0 text in
    let have = settles.1 in
    let whole : front ++ drop first.0 text ≡ text = take-append-drop first.0 text in
    let there : Units (front ++ drop first.0 text) have.0 have.1 = subst (λ (t : List ℕ). Units t have.0 have.1) (sym whole) have.2 in
    let begins = settled_first front (drop first.0 text) some have.0 have.1 first.2 there in
    let short : length front ≤ length text = omega (arith, ap length whole, length-append front (drop first.0 text)) in
    let own = first.2.1 in
    let stays : ended text some ≡ some = ap (ended text) own.3 ∙ ended_more front text own.0 short ∙ sym own.3 in (
      ended text begins.0,
      have.3 ∙ ap (ended text) begins.1 ∙ filter-append (λ (u : ℕ × ℕ). nat_le (u.1 + 3) (length text)) some begins.0 ∙ ap (λ (xs : List (ℕ × ℕ)). xs ++ ended text begins.0) stays,
    )

-- An access unit behind which another one began isn't the last that the text settles.
more_settled : (text : List ℕ) (front xs : List AccessUnit) (another : AccessUnit) (told : List Told) (w : AreAllSettled text front) (each : AreTold text told) → AreFirst text (places_of told)
    → grouped told ≡ another ∷ xs → length xs ≤ length front
more_settled text front xs another told w each first is =
    let begins = first_settled text (places_of w.told) (places_of told) w.settles first in
    let few : length told ≤ length w.told = omega (arith, ap length begins.1, length-append (places_of told) begins.0, length_places told, length_places w.told) in
    let later = fewer_first text (places_of w.told) told w.told each w.each begins (all_first (places_of w.told) w.told refl) few in
    let all = grouped_more later.0 told xs another is in
    let more : List AccessUnit = all.0 in
    let last : AccessUnit = all.1 in
    let same : length (grouped w.told) ≡ length (more ++ last ∷ xs) = ap length (ap grouped later.1 ∙ all.2) in
    let rest : length (drop 1 (grouped w.told)) ≡ length front = ap length w.split in
    omega (arith, rest, length-drop 1 (grouped w.told), same, length-append more (last ∷ xs))

-- A text that can be whole has no broken place.
not_broken : (text : List ℕ) (front : List AccessUnit) (spots : List (ℕ × ℕ)) (broken : Option ℕ) → AreAllSettled text front → IsAtAnEnd text false spots broken → ⊥
not_broken text front spots broken w (inl all) = let bad = all.0 in absurd (cc)
not_broken text front spots broken w (inr all) =
    let can = w.settles.0 in all.0 (units_unique (text ++ can.0) spots can.1 broken None (all.1 can.0) can.2).1

none_up : (text : List ℕ) (front up : List AccessUnit) (au : AccessUnit) → AreAllSettled text front → IsSettled text false up au → length up < length front
none_up text front up au w is = elim is.by [
  | inl first ↦ (let le = more_settled text front (au ∷ up) first.1.0 is.told w is.each first.0 first.1.1 in omega (arith, le))
  | inr all ↦ absurd (not_broken text front (places_of is.told) all.0 w all.1)
]

pub not_hungry : (past : Past) (au : AccessUnit) → IsHungry past → IsUpNext past au → ⊥
not_hungry past au hungry up =
    let is : IsSettled past.text false up.front au = subst (λ (e : Bool). IsSettled past.text e up.front au) hungry.not_ended up.settled in
    let less = none_up past.text hungry.front up.front au hungry.all is in
    omega (arith, less, pictures_many hungry.front past.given hungry.pictures, before_up past au up)

-- ---- a picture

pub next_one : NextPicturesAreOne
next_one past one other x y =
    let au : x.au ≡ y.au = up_one past x.au y.au x.up_next y.up_next in
    picture_one past.given y.au one other (subst (λ (u : AccessUnit). IsPicture past.given u one) au x.is) y.is

unsettled_of : (u v : Unsettled) → u.offset ≡ v.offset → u.begun ≡ v.begun → u.size ≡ v.size → u.depth ≡ v.depth → u.references ≡ v.references → u.submission ≡ v.submission → u ≡ v
unsettled_of u v offset begun size depth references submission = λ i. record {
  offset = offset i;
  begun = begun i;
  size = size i;
  depth = depth i;
  references = references i;
  submission = submission i;
}

shown_one : (u v : Unsettled) (p q : Picture) → p ≡ q → Shows u p → Shows v q → u ≡ v
shown_one u v p q same x z =
    let y : Shows v p = subst (Shows v) (sym same) z in
    unsettled_of u v (x.offset ∙ sym y.offset) (x.begun ∙ sym y.begun) (x.size ∙ sym y.size) (x.depth ∙ sym y.depth) (x.references ∙ sym y.references) (x.submission ∙ sym y.submission)

-- it has a slice
pub next_some : (past : Past) (picture : Picture) (x : IsNext past picture) → x.au.refused ≡ None → x.au.slices ≡ [] → ⊥
next_some past picture x fine empty =
    let first = x.is.first in
    some_slices past.text past.ended x.up_next.front x.au x.up_next.settled (λ none. let e : Some x.is.named ≡ None = sym first ∙ none in absurd (cc)) empty

not_stopped : (past : Past) (picture : Picture) (offset : ℕ) (large : Bool) → IsNext past picture → IsStopped past offset large → ⊥
not_stopped past picture offset large x y =
    let au : x.au ≡ y.au = up_one past x.au y.au x.up_next y.up_next in
    y.refused.no_picture picture (subst (λ (u : AccessUnit). IsPicture past.given u picture) au x.is)

-- ---- a refusal

refusal_of : (a b : ℕ) (x y : Bool) → a ≡ b → x ≡ y → next.Refused a x ≡ next.Refused b y
refusal_of a b x y offset large = λ i. next.Refused (offset i) (large i)

stopped_one : (past : Past) (a b : ℕ) (x y : Bool) → IsStopped past a x → IsStopped past b y → next.Refused a x ≡ next.Refused b y
stopped_one past a b x y one other =
    let au : one.au ≡ other.au = up_one past one.au other.au one.up_next other.up_next in
    refusal_of a b x y (one.offset_is ∙ ap (λ (u : AccessUnit). u.offset) au ∙ sym other.offset_is) (one.large_is ∙ ap (λ (u : AccessUnit). unwrap_or u.refused false) au ∙ sym other.large_is)

last_same : (a b : Picture) (xs ys : List Picture) → a ∷ xs ≡ b ∷ ys → a ≡ b
last_same a b xs ys e = cc

failed_one : (past : Past) (a b : ℕ) (x y : Bool) → IsFailed past a → x ≡ false → IsFailed past b → y ≡ false → next.Refused a x ≡ next.Refused b y
failed_one past a b x y one small other also =
    let last : one.last ≡ other.last = last_same one.last other.last one.before other.before (sym one.given ∙ other.given) in
    refusal_of a b x y (one.offset_is ∙ ap (λ (p : Picture). p.offset) last ∙ sym other.offset_is) (small ∙ sym also)

-- Where the last picture came to no whole one, nothing else is right.
not_whole : (past : Past) (offset : ℕ) → IsFailed past offset → past.outcome ≡ Some true → ⊥
not_whole past offset failed whole = let e : Some false ≡ Some true = sym failed.outcome ∙ whole in absurd (cc)

not_ended : (past : Past) → past.ended ≡ true → past.ended ≡ false → ⊥
not_ended past is isnt = let e : true ≡ false = sym is ∙ isnt in absurd (cc)

-- ---- all answers

pub answers_one : AnswersAreOne
answers_one past next.Hungry next.Hungry x y = refl
answers_one past next.Hungry (next.Picture v) x y = absurd (not_hungry past y.1.au x y.1.up_next)
answers_one past next.Hungry next.End x y = absurd (not_ended past y.ended x.not_ended)
answers_one past next.Hungry (next.Refused b q) x (inl y) = absurd (not_whole past b y.0 x.outcome)
answers_one past next.Hungry (next.Refused b q) x (inr y) = absurd (not_hungry past y.au x y.up_next)
answers_one past (next.Picture u) next.Hungry x y = absurd (not_hungry past x.1.au y x.1.up_next)
answers_one past (next.Picture u) (next.Picture v) x y = ap next.Picture (shown_one u v x.0 y.0 (next_one past x.0 y.0 x.1 y.1) x.2 y.2)
answers_one past (next.Picture u) next.End x y = absurd (not_at_end past x.1.au y x.1.up_next (next_some past x.0 x.1))
answers_one past (next.Picture u) (next.Refused b q) x (inl y) = absurd (not_whole past b y.0 x.1.outcome)
answers_one past (next.Picture u) (next.Refused b q) x (inr y) = absurd (not_stopped past x.0 b q x.1 y)
answers_one past next.End next.Hungry x y = absurd (not_ended past x.ended y.not_ended)
answers_one past next.End (next.Picture v) x y = absurd (not_at_end past y.1.au x y.1.up_next (next_some past y.0 y.1))
answers_one past next.End next.End x y = refl
answers_one past next.End (next.Refused b q) x (inl y) = absurd (not_whole past b y.0 x.outcome)
answers_one past next.End (next.Refused b q) x (inr y) = absurd (not_at_end past y.au x y.up_next y.refused.not_tail)
answers_one past (next.Refused a p) next.Hungry (inl x) y = absurd (not_whole past a x.0 y.outcome)
answers_one past (next.Refused a p) next.Hungry (inr x) y = absurd (not_hungry past x.au y x.up_next)
answers_one past (next.Refused a p) (next.Picture v) (inl x) y = absurd (not_whole past a x.0 y.1.outcome)
answers_one past (next.Refused a p) (next.Picture v) (inr x) y = absurd (not_stopped past y.0 a p y.1 x)
answers_one past (next.Refused a p) next.End (inl x) y = absurd (not_whole past a x.0 y.outcome)
answers_one past (next.Refused a p) next.End (inr x) y = absurd (not_at_end past x.au y x.up_next x.refused.not_tail)
answers_one past (next.Refused a p) (next.Refused b q) (inl x) (inl y) = failed_one past a b p q x.0 x.1 y.0 y.1
answers_one past (next.Refused a p) (next.Refused b q) (inl x) (inr y) = absurd (not_whole past a x.0 y.outcome)
answers_one past (next.Refused a p) (next.Refused b q) (inr x) (inl y) = absurd (not_whole past b y.0 x.outcome)
answers_one past (next.Refused a p) (next.Refused b q) (inr x) (inr y) = stopped_one past a b p q x y
