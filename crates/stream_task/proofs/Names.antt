-- The names that a task holds, when one of its places changes.
use Rattle.std.proofs.Common.{◌≡◌, inl, inr, ℕ, zero, suc, ◌<◌, ◌≤◌, ◌==◌, Bool, true, false, ◌||◌, List, [], ◌∷◌, ◌++◌, All, filter_map, get_or, set, length, slice_get, Option, Some, None, refl, ap, sym, ◌∙◌, subst, arith}
use Rattle.std.specs.Option.{option_to_list}
use Rattle.std.proofs.lemmas.Bool.{eq-eqb, eqb-true, or_cases, or_left, or_right, false≢true}
use Rattle.std.proofs.lemmas.List.{length-append}
use Rattle.std.proofs.lemmas.List.Elements.{All-get_or}
use Rattle.std.proofs.lemmas.List.Folds.{list_any-append}
use Rattle.driver_model.specs.Parts.{is_among}
use Rattle.stream_task.specs.Keeping.{made_at, name_in, names_held}
use Rattle.stream_task.specs.declared.objects.Made.{Made}
use Rattle.stream_task.specs.declared.objects.Objects.{Objects}

abbrev pub names : List (Option Made) → List ℕ
names made = filter_map name_in made

or_comm : (a b : Bool) → (a || b) ≡ (b || a)
or_comm true true = refl
or_comm true false = refl
or_comm false true = refl
or_comm false false = refl

or_assoc : (a b c : Bool) → (a || (b || c)) ≡ ((a || b) || c)
or_assoc true b c = refl
or_assoc false b c = refl

-- the name in a place is among them
pub among_made : (made : List (Option Made)) (i : ℕ) (object : Made) → get_or made i None ≡ Some object → is_among (names made) object.name ≡ true
among_made [] i object e = absurd (let k : (let o : Option Made = None in o ≡ Some object) = e in cc)
among_made (None ∷ made) zero object e = absurd (let k : (let o : Option Made = None in o ≡ Some object) = e in cc)
among_made (Some one ∷ made) zero object e =
    let same : one ≡ object = (let k : (let o : Option Made = Some one in o ≡ Some object) = e in cc) in
    subst (λ (o : Made). is_among (names (Some one ∷ made)) o.name ≡ true) same (or_left (one.name == one.name) (is_among (names made) one.name) (eq-eqb one.name one.name refl))
among_made (None ∷ made) (suc i) object e = among_made made i object e
among_made (Some one ∷ made) (suc i) object e = or_right (one.name == object.name) (is_among (names made) object.name) (among_made made i object e)

-- a name more
pub one_more : (made : List (Option Made)) (i : ℕ) (object : Made) (name : ℕ) → i < length made → get_or made i None ≡ None
    → is_among (names (set made i (Some object))) name ≡ (is_among (names made) name || (object.name == name))
one_more [] i object name inside e = absurd (omega (arith, inside))
one_more (None ∷ made) zero object name inside e = or_comm (object.name == name) (is_among (names made) name)
one_more (Some one ∷ made) zero object name inside e = absurd (let k : (let o : Option Made = Some one in o ≡ None) = e in cc)
one_more (None ∷ made) (suc i) object name inside e = one_more made i object name (omega (arith, inside)) e
one_more (Some one ∷ made) (suc i) object name inside e =
    ap (λ b. (one.name == name) || b) (one_more made i object name (omega (arith, inside)) e) ∙ or_assoc (one.name == name) (is_among (names made) name) (object.name == name)

-- A name that is there without an object was there before, and each that was there is still, but for the object's own.
pub none_more : (made : List (Option Made)) (i : ℕ) (name : ℕ) → is_among (names (set made i None)) name ≡ true → is_among (names made) name ≡ true
none_more [] i name e = e
none_more (None ∷ made) zero name e = e
none_more (Some one ∷ made) zero name e = or_right (one.name == name) (is_among (names made) name) e
none_more (None ∷ made) (suc i) name e = none_more made i name e
none_more (Some one ∷ made) (suc i) name e = elim (or_cases (one.name == name) (is_among (names (set made i None)) name) e) [
  | inl here ↦ or_left (one.name == name) (is_among (names made) name) here
  | inr there ↦ or_right (one.name == name) (is_among (names made) name) (none_more made i name there)
]

pub others_stay : (made : List (Option Made)) (i : ℕ) (object : Made) (name : ℕ) → get_or made i None ≡ Some object → (object.name == name) ≡ false
    → is_among (names made) name ≡ true → is_among (names (set made i None)) name ≡ true
others_stay [] i object name e other is = is
others_stay (None ∷ made) zero object name e other is = is
others_stay (Some one ∷ made) zero object name e other is =
    let same : one ≡ object = (let k : (let o : Option Made = Some one in o ≡ Some object) = e in cc) in
    let no : (one.name == name) ≡ false = subst (λ (o : Made). (o.name == name) ≡ false) (sym same) other in
    elim (or_cases (one.name == name) (is_among (names made) name) is) [
      | inl here ↦ absurd (false≢true (sym no ∙ here))
      | inr there ↦ there
    ]
others_stay (None ∷ made) (suc i) object name e other is = others_stay made i object name e other is
others_stay (Some one ∷ made) (suc i) object name e other is = elim (or_cases (one.name == name) (is_among (names made) name) is) [
  | inl here ↦ or_left (one.name == name) (is_among (names (set made i None)) name) here
  | inr there ↦ or_right (one.name == name) (is_among (names (set made i None)) name) (others_stay made i object name e other there)
]

-- ---- how many they are

names_few : (made : List (Option Made)) → length (names made) ≤ length made
names_few [] = omega (arith)
names_few (None ∷ made) = let later = names_few made in omega (arith, later)
names_few (Some one ∷ made) = let later = names_few made in omega (arith, later)

option_few : (o : Option ℕ) → length (option_to_list o) ≤ 1
option_few None = omega (arith)
option_few (Some n) = omega (arith)

pub held_few : (objects : Objects) → length objects.made ≡ 40 → length (names_held objects) ≤ 42
held_few objects places =
    let whole = length-append (option_to_list objects.device) (option_to_list objects.queue ++ names objects.made) in
    let rest = length-append (option_to_list objects.queue) (names objects.made) in
    let d = option_few objects.device in
    let q = option_few objects.queue in
    let m = names_few objects.made in
    omega (arith, whole, rest, d, q, m, places)

-- ---- all of them

pub held_parts : (objects : Objects) (name : ℕ) → is_among (names_held objects) name ≡ (is_among (option_to_list objects.device) name || (is_among (option_to_list objects.queue) name || is_among (names objects.made) name))
held_parts objects name =
    list_any-append (λ other. other == name) (option_to_list objects.device) (option_to_list objects.queue ++ names objects.made)
    ∙ ap (λ b. is_among (option_to_list objects.device) name || b) (list_any-append (λ other. other == name) (option_to_list objects.queue) (names objects.made))

listed : (o : Option ℕ) (name : ℕ) → o ≡ Some name → is_among (option_to_list o) name ≡ true
listed None name e = absurd (let k : (let p : Option ℕ = None in p ≡ Some name) = e in cc)
listed (Some one) name e =
    let same : one ≡ name = (let k : (let p : Option ℕ = Some one in p ≡ Some name) = e in cc) in
    or_left (one == name) false (eq-eqb one name same)

pub device_held : (objects : Objects) (device : ℕ) → objects.device ≡ Some device → is_among (names_held objects) device ≡ true
device_held objects device e = held_parts objects device ∙ or_left (is_among (option_to_list objects.device) device) (is_among (option_to_list objects.queue) device || is_among (names objects.made) device) (listed objects.device device e)

pub queue_held : (objects : Objects) (queue : ℕ) → objects.queue ≡ Some queue → is_among (names_held objects) queue ≡ true
queue_held objects queue e =
    held_parts objects queue
    ∙ or_right (is_among (option_to_list objects.device) queue) (is_among (option_to_list objects.queue) queue || is_among (names objects.made) queue)
    (or_left (is_among (option_to_list objects.queue) queue) (is_among (names objects.made) queue) (listed objects.queue queue e))

pub place_held : (objects : Objects) (i : ℕ) (object : Made) → made_at objects i ≡ Some object → is_among (names_held objects) object.name ≡ true
place_held objects i object e =
    held_parts objects object.name
    ∙ or_right (is_among (option_to_list objects.device) object.name) (is_among (option_to_list objects.queue) object.name || is_among (names objects.made) object.name)
    (or_right (is_among (option_to_list objects.queue) object.name) (is_among (names objects.made) object.name) (among_made objects.made i object e))

-- one name alone
pub only_one : (one name : ℕ) → is_among (one ∷ []) name ≡ true → one ≡ name
only_one one name is = elim (or_cases (one == name) false is) [
  | inl e ↦ eqb-true one name e
  | inr f ↦ absurd (false≢true f)
]

pub one_held : (held : List ℕ) (one name : ℕ) → is_among held one ≡ true → is_among (one ∷ []) name ≡ true → is_among held name ≡ true
one_held held one name there is = subst (λ n. is_among held n ≡ true) (only_one one name is) there

some_one : {X : Type 0} (one other : X) → (let o : Option X = Some one in o ≡ Some other) → one ≡ other
some_one one other e = (let k : (let o : Option _ = Some one in o ≡ Some other) = e in cc)

-- what is got at a place is there
pub got : {X : Type 0} (xs : List X) (i : ℕ) (x d : X) → slice_get xs i ≡ Some x → get_or xs i d ≡ x
got [] i x d e = absurd (let k : (let o : Option _ = None in o ≡ Some x) = e in cc)
got (y ∷ ys) zero x d e = some_one y x e
got (y ∷ ys) (suc i) x d e = got ys i x d e

there : {X : Type 0} (xs : List X) (i : ℕ) (x : X) → slice_get xs i ≡ Some x → i < length xs
there [] i x e = absurd (let k : (let o : Option _ = None in o ≡ Some x) = e in cc)
there (y ∷ ys) zero x e = omega (arith)
there (y ∷ ys) (suc i) x e = let later = there ys i x e in omega (arith, later)

-- what holds of all of them holds of the one that is got
pub got_all : {X : Type 0} (P : X → Type 0) (xs : List X) (i : ℕ) (x : X) → All P xs → slice_get xs i ≡ Some x → P x
got_all P xs i x all e = subst P (got xs i x x e) (All-get_or P xs i x (there xs i x e) all)
