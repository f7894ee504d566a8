-- Changes of one object, under which all stays sound.
use Rattle.std.proofs.Common.{◌≡◌, ◌≢◌, ℕ, zero, suc, ◌+◌, ◌<◌, ◌&&◌, ◌==◌, ◌⊎◌, inl, inr, true, if◌then◌else◌, List, [], ◌∷◌, length, set, slice_get, Some, None, refl, sym, ap, ◌∙◌, subst, arith}
use Rattle.std.proofs.lemmas.Bool.Decides.{nat_tests}
use Rattle.std.proofs.lemmas.List.{length-append}
use Rattle.std.proofs.lemmas.Option.{none-some}
use Rattle.std.proofs.Math.Logic.{∥∥₁_map}
use Rattle.handle_table.specs.Given.{HasGiven}
use Rattle.handle_table.specs.Handles.{Adds, Handle, Handles, Updates, lookup}
use Rattle.handle_table.specs.Name.{kind_of}
use Rattle.driver_objects.specs.Listed.{called, destroyed, with_content}
use Rattle.driver_objects.specs.Sound.{IsSound, called_place}
use Rattle.driver_objects.specs.declared.content.Content.{Content}
use Rattle.driver_objects.specs.declared.object.Object.{Object}
use Rattle.driver_objects.proofs.Lists.{count_set, element_is, get_set_other, get_set_same}
use Rattle.driver_objects.proofs.Named.{called_place-absent}

-- what an object is known by stays, but that it may die
pub record SameHead (old new : Object) : Type 0 where
  pub place : new.place ≡ old.place
  pub name : new.name ≡ old.name
  pub live : new.is_live ≡ true → old.is_live ≡ true

-- each object of the new list stands where one with its head stood
abbrev pub Follows : List Object → List Object → Type 0
Follows old new = (i : ℕ) (b : Object) → slice_get new i ≡ Some b → (a : Object) × (slice_get old i ≡ Some a) × SameHead a b

module _ (names : Handles ℕ) (old new : List Object) (made : ℕ) (sound : IsSound names old made) (follows : Follows old new) where
  pub rising_follows : (i j : ℕ) (a b : Object) → i < j → slice_get new i ≡ Some a → slice_get new j ≡ Some b → a.place < b.place
  rising_follows i j a b lt here there =
      let x = follows i a here in
      let y = follows j b there in
      grind (arith, sound.rising i j x.0 y.0 lt x.1 y.1, x.2.place, y.2.place)

  pub below_follows : (i : ℕ) (object : Object) → slice_get new i ≡ Some object → object.place < made
  below_follows i object stands = let x = follows i object stands in grind (arith, sound.below i x.0 x.1, x.2.place)

  pub apart_follows : (i j : ℕ) (a b : Object) → i < j → slice_get new i ≡ Some a → slice_get new j ≡ Some b → a.is_live ≡ true → b.is_live ≡ true → a.name ≢ b.name
  apart_follows i j a b lt here there live living same =
      let x = follows i a here in
      let y = follows j b there in
      sound.apart i j x.0 y.0 lt x.1 y.1 (x.2.live live) (y.2.live living) (sym x.2.name ∙ (same ∙ y.2.name))

follows_set : (old : List Object) (index : ℕ) (object other : Object) → slice_get old index ≡ Some object → SameHead object other → Follows old (set old index other)
follows_set old index object other stands head i b at = elim (either i index) [
  | inl here ↦
      let same : other ≡ b = element_is other b (sym (subst (λ k. slice_get (set old index other) k ≡ Some other) (sym here) (get_set_same old index object other stands)) ∙ at) in
      (object, subst (λ k. slice_get old k ≡ Some object) (sym here) stands, subst (SameHead object) same head)
  | inr apart ↦ (b, sym (get_set_other old index i other apart) ∙ at, record { place = refl; name = refl; live = λ e. e })
]
  where
    either : (m n : ℕ) → (m ≡ n) ⊎ (m ≢ n)
    either m n = grind arith

-- ---- other content

called_place-content : (kind name : ℕ) (kept : List Object) (index : ℕ) (object : Object) (content : Content) → slice_get kept index ≡ Some object
    → called_place kind name (set kept index (with_content object content)) ≡ called_place kind name kept
called_place-content kind name [] index object content stands = absurd (none-some object stands)
called_place-content kind name (first ∷ later) zero object content stands = grind (arith, element_is first object stands)
called_place-content kind name (first ∷ later) (suc index) object content stands = ap (λ rest. if called kind name first then Some first.place else rest) (called_place-content kind name later index object content stands)

pub replaced : (names : Handles ℕ) (kept : List Object) (made : ℕ) → IsSound names kept made → (index : ℕ) (object : Object) (content : Content) → slice_get kept index ≡ Some object
    → IsSound names (set kept index (with_content object content)) made
replaced names kept made sound index object content stands =
    let follows = follows_set kept index object (with_content object content) stands (record { place = refl; name = refl; live = λ e. e }) in
    record {
      rising = rising_follows names kept _ made sound follows;
      below = below_follows names kept _ made sound follows;
      apart = apart_follows names kept _ made sound follows;
      named = λ kind name. sound.named kind name ∙ sym (called_place-content kind name kept index object content stands);
      counted = grind (arith, sound.counted, count_set (λ object. object.is_live) kept index object (with_content object content) stands);
      few = sound.few;
      given = sound.given;
    }

-- ---- a live object is destroyed

module _ (names : Handles ℕ) (kind name : ℕ) where
  called_place-destroyed : (kept : List Object) → ((i j : ℕ) (a b : Object) → i < j → slice_get kept i ≡ Some a → slice_get kept j ≡ Some b → a.is_live ≡ true → b.is_live ≡ true → a.name ≢ b.name)
      → (index : ℕ) (object : Object) → slice_get kept index ≡ Some object → object.is_live ≡ true
      → called_place kind name (set kept index (destroyed object)) ≡ (if (object.name == name) && (kind_of object.name == kind) then None else called_place kind name kept)
  called_place-destroyed [] apart index object stands live = absurd (none-some object stands)
  called_place-destroyed (first ∷ later) apart zero object stands live =
      let is : first ≡ object = element_is first object stands in
      let none : object.name ≡ name → called_place kind name later ≡ None = λ same. called_place-absent kind name later (λ i b at. grind (arith, nat_tests, apart 0 (suc i) first b, is)) in
      grind (arith, nat_tests, none, is)
  called_place-destroyed (first ∷ later) apart (suc index) object stands live =
      let hypothesis = called_place-destroyed later (λ i j a b lt here there. apart (suc i) (suc j) a b (omega (arith, lt)) here there) index object stands live in
      grind (arith, nat_tests, hypothesis, apart 0 (suc index) first object)

-- a live object is found by its own kind and name
called_place-live : (kept : List Object) → ((i j : ℕ) (a b : Object) → i < j → slice_get kept i ≡ Some a → slice_get kept j ≡ Some b → a.is_live ≡ true → b.is_live ≡ true → a.name ≢ b.name)
    → (index : ℕ) (object : Object) → slice_get kept index ≡ Some object → object.is_live ≡ true → called_place (kind_of object.name) object.name kept ≡ Some object.place
called_place-live [] apart index object stands live = absurd (none-some object stands)
called_place-live (first ∷ later) apart zero object stands live = grind (arith, nat_tests, element_is first object stands, live)
called_place-live (first ∷ later) apart (suc index) object stands live =
    let hypothesis = called_place-live later (λ i j a b lt here there. apart (suc i) (suc j) a b (omega (arith, lt)) here there) index object stands live in
    grind (arith, nat_tests, hypothesis, apart 0 (suc index) first object)

pub length_adds : (small large : List (Handle ℕ)) (h : Handle ℕ) → Adds small large h → length large ≡ length small + 1
length_adds small large h adds = rw (adds.was, adds.is, length-append adds.before adds.after, length-append adds.before (h ∷ adds.after)) (omega arith)

pub destroyed_sound : (names after : Handles ℕ) (kept : List Object) (made : ℕ) → IsSound names kept made
    → (index : ℕ) (object : Object) → slice_get kept index ≡ Some object → object.is_live ≡ true
    → Updates names.live after.live (kind_of object.name) object.name None
    → ((value : ℕ) → lookup names.live (kind_of object.name) object.name ≡ Some value → Adds after.live names.live (record { kind = kind_of object.name; name = object.name; value = value }))
    → ((all : List ℕ) → HasGiven names all → HasGiven after all)
    → IsSound after (set kept index (destroyed object)) made
destroyed_sound names after kept made sound index object stands live updates removed given =
    let follows = follows_set kept index object (destroyed object) stands (record { place = refl; name = refl; live = λ e. live }) in
    record {
      rising = rising_follows names kept _ made sound follows;
      below = below_follows names kept _ made sound follows;
      apart = apart_follows names kept _ made sound follows;
      named = λ kind name. updates kind name ∙ (ap (λ found. if (object.name == name) && (kind_of object.name == kind) then None else found) (sound.named kind name)
          ∙ sym (called_place-destroyed names kind name kept sound.apart index object stands live));
      counted =
          let found : lookup names.live (kind_of object.name) object.name ≡ Some object.place = sound.named (kind_of object.name) object.name ∙ called_place-live kept sound.apart index object stands live in
          let shorter = length_adds after.live names.live _ (removed object.place found) in
          let counts = count_set (λ object. object.is_live) kept index object (destroyed object) stands in
          grind (arith, sound.counted, shorter, counts, live);
      few =
          let found : lookup names.live (kind_of object.name) object.name ≡ Some object.place = sound.named (kind_of object.name) object.name ∙ called_place-live kept sound.apart index object stands live in
          let shorter = length_adds after.live names.live _ (removed object.place found) in
          omega (arith, sound.few, shorter);
      given = ∥∥₁_map sound.given (λ all. (all.0, given all.0 all.1, all.2));
    }
