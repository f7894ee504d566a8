-- The numbers of notes.
use Rattle.std.proofs.Common.{◌≡◌, ℕ, suc, ◌+◌, ◌-◌, ◌<◌, ◌≤◌, ◌==◌, Bool, true, false, if◌then◌else◌, List, [], ◌∷◌, ◌++◌, Vec, Global, ◌&&◌, eqb, filter, map, eq-eqb, refl, ap, sym, ◌∙◌, arith}
use Rattle.std.specs.List.{list_any}
use Rattle.std.specs.Cmp.Lexicographic.{pointwise}
use Rattle.device_lock.specs.Lists.{same}
use Rattle.driver_model.specs.States.{Note, State, free_number, free_number_from, is_note_of, with_note}
use Rattle.decoder_render.specs.declared.outcome.Outcome.{Outcome}
use Rattle.plain_driver.specs.States.{note_of, state_of}
use Rattle.plain_driver.specs.declared.driver.Plain.{Plain}
use Rattle.plain_driver.specs.declared.objects.PlainNote.{PlainNote}
use Rattle.std.proofs.lemmas.List.{map-append}

module _ (numbers : List ℕ) where
  pub free_step : (n i : ℕ) → i < n → free_number_from numbers (n - i) i ≡ (if list_any (λ taken. taken == i) numbers then free_number_from numbers (n - (i + 1)) (i + 1) else i)
  unfolding free_number_from
  free_step n i below = ap (λ k. free_number_from numbers k i) (let e : n - i ≡ suc (n - (i + 1)) = omega arith in e)

  pub free_taken : (n i : ℕ) → i < n → list_any (λ taken. taken == i) numbers ≡ true → free_number_from numbers (n - i) i ≡ free_number_from numbers (n - (i + 1)) (i + 1)
  free_taken n i below taken = free_step n i below ∙ ap (λ b. if b then free_number_from numbers (n - (i + 1)) (i + 1) else i) taken

  pub free_found : (n i : ℕ) → i < n → list_any (λ taken. taken == i) numbers ≡ false → free_number_from numbers (n - i) i ≡ i
  free_found n i below free = free_step n i below ∙ ap (λ b. if b then free_number_from numbers (n - (i + 1)) (i + 1) else i) free

  pub free_end : (n i : ℕ) → n ≤ i → free_number_from numbers (n - i) i ≡ i
  unfolding free_number_from
  free_end n i past = ap (λ k. free_number_from numbers k i) (let e : n - i ≡ 0 = omega arith in e)

-- two numbers of callers are one where each of their parts is
pub same-pointwise : (c d : List ℕ) → same c d ≡ pointwise eqb c d
same-pointwise [] [] = refl
same-pointwise [] (n ∷ ns) = refl
same-pointwise (m ∷ ms) [] = refl
same-pointwise (m ∷ ms) (n ∷ ns) = ap (λ b. (m == n) && b) (same-pointwise ms ns)

pub is_note-true : (caller : List ℕ) (place : ℕ) (note : Note) → note.place ≡ place → is_note_of caller place note ≡ pointwise eqb caller note.caller
is_note-true caller place note is = ap (λ b. b && same caller note.caller) (eq-eqb note.place place is) ∙ same-pointwise caller note.caller

-- what is left of a list by what its elements stand for
filter_by : {X Y : Type 0} (f : X → Y) (b : Bool) (x : X) (xs : List X) (ys : List Y) → ys ≡ map f xs → (if b then f x ∷ ys else ys) ≡ map f (if b then x ∷ xs else xs)
filter_by f true x xs ys e = ap (λ rest. f x ∷ rest) e
filter_by f false x xs ys e = e

pub filter-map : {X Y : Type 0} (f : X → Y) (p : Y → Bool) (xs : List X) → filter p (map f xs) ≡ map f (filter (λ x. p (f x)) xs)
filter-map f p [] = refl
filter-map f p (x ∷ xs) = filter_by f (p (f x)) x (filter (λ y. p (f y)) xs) (filter p (map f xs)) (filter-map f p xs)

numbers-note_of : (notes : List PlainNote) → map (λ (n : Note). n.number) (map note_of notes) ≡ map (λ (n : PlainNote). n.number) notes
numbers-note_of [] = refl
numbers-note_of (note ∷ later) = ap (λ rest. note.number ∷ rest) (numbers-note_of later)

-- one note more
pub note_added : (s : Plain) (caller : List ℕ) (target : ℕ) (outcome : Outcome) (held : Vec ℕ Global) (number : ℕ) (new : List PlainNote)
    → held.items ≡ caller
    → number ≡ free_number (map (λ (n : PlainNote). n.number) s.notes.items)
    → (let one : PlainNote = record { place = s.items; caller = held; target = target; outcome = outcome; number = number } in new ≡ s.notes.items ++ one ∷ [])
    → (let after : State = record (state_of s) { notes = map note_of new } in after) ≡ with_note (state_of s) caller target outcome
note_added s caller target outcome held number new is_caller is_number all =
    let noted : List ℕ → ℕ → Note = λ c n. record { place = s.items; caller = c; target = target; outcome = outcome; number = n } in
    let with : Note → State = λ one. record (state_of s) { notes = map note_of s.notes.items ++ one ∷ [] } in
    let one : PlainNote = record { place = s.items; caller = held; target = target; outcome = outcome; number = number } in
    ap (λ (notes : List Note). let t : State = record (state_of s) { notes = notes } in t) (ap (map note_of) all ∙ map-append note_of s.notes.items (one ∷ []))
    ∙ (ap (λ c. with (noted c number)) is_caller
    ∙ ap (λ n. with (noted caller n)) (is_number ∙ ap free_number (sym (numbers-note_of s.notes.items))))
