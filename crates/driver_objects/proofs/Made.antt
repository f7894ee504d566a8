-- An object is let go of, and one is added.
use Rattle.std.proofs.Common.{◌≡◌, ◌≢◌, ℕ, zero, suc, ◌+◌, ◌%◌, ◌^◌, ◌<◌, ◌≤◌, ◌&&◌, ◌==◌, ◌⊎◌, inl, inr, Bool, true, false, if◌then◌else◌, List, [], ◌∷◌, ◌++◌, length, map, eqb, get_or, slice_get, Option, Some, None, refl, sym, ap, ◌∙◌, subst, arith}
use Rattle.std.specs.List.{AllPairs, list_any, remove}
use mathlib.Core.Bool.{false≢true}
use Rattle.std.proofs.lemmas.Bool.Decides.{Decides-eqb, nat_tests}
use Rattle.std.proofs.lemmas.Map.Steps.{length-le_from_distinct_below}
use Rattle.std.proofs.lemmas.Map.Made.{IsDistinct-from_AllPairs}
use Rattle.std.proofs.lemmas.List.{get_or-map, length-append, length-map}
use Rattle.std.proofs.lemmas.Option.{none-some}
use Rattle.std.proofs.Math.Logic.{∥∥₁_map}
use Rattle.handle_table.specs.Given.{HasGiven}
use Rattle.handle_table.specs.Handles.{Adds, Handles, Updates, lookup}
use Rattle.handle_table.proofs.Names.{kind_of-name_of}
use Rattle.handle_table.specs.Name.{IsNameOf, generation_of, index_of, kind_of}
use Rattle.driver_objects.specs.Listed.{called, made_object}
use Rattle.driver_objects.specs.Sound.{IsSound, called_place}
use Rattle.driver_objects.specs.declared.content.Content.{Content}
use Rattle.driver_objects.specs.declared.object.Object.{Object}
use Rattle.driver_objects.proofs.Cases.{below_or_not}
use Rattle.driver_objects.proofs.Changed.{length_adds}
use Rattle.driver_objects.proofs.Lists.{at_append, count_append, count_remove, element_is, get_remove_before, get_remove_behind}
use Rattle.driver_objects.proofs.Named.{called_place-None}

-- ---- a destroyed object is let go of

called_place-forgotten : (kind name : ℕ) (kept : List Object) (index : ℕ) (object : Object) → slice_get kept index ≡ Some object → object.is_live ≡ false
    → called_place kind name (remove kept index) ≡ called_place kind name kept
called_place-forgotten kind name [] index object stands dead = absurd (none-some object stands)
called_place-forgotten kind name (first ∷ later) zero object stands dead = grind (arith, element_is first object stands, dead)
called_place-forgotten kind name (first ∷ later) (suc index) object stands dead = ap (λ rest. if called kind name first then Some first.place else rest) (called_place-forgotten kind name later index object stands dead)

pub forgotten_sound : (names : Handles ℕ) (kept : List Object) (made : ℕ) → IsSound names kept made
    → (index : ℕ) (object : Object) → slice_get kept index ≡ Some object → object.is_live ≡ false → IsSound names (remove kept index) made
forgotten_sound names kept made sound index object stands dead =
    record {
      rising = λ i j a b lt here there. let x = from i a here in let y = from j b there in sound.rising x.0 y.0 a b (omega (arith, lt, x.2, y.2)) x.1 y.1;
      below = λ i o here. let x = from i o here in sound.below x.0 o x.1;
      apart = λ i j a b lt here there. let x = from i a here in let y = from j b there in sound.apart x.0 y.0 a b (omega (arith, lt, x.2, y.2)) x.1 y.1;
      named = λ kind name. sound.named kind name ∙ sym (called_place-forgotten kind name kept index object stands dead);
      counted = grind (arith, sound.counted, count_remove (λ object. object.is_live) kept index object stands, dead);
      few = sound.few;
      given = sound.given;
    }
  where
    from : (i : ℕ) (a : Object) → slice_get (remove kept index) i ≡ Some a → (k : ℕ) × (slice_get kept k ≡ Some a) × (((i < index) × (k ≡ i)) ⊎ ((index ≤ i) × (k ≡ i + 1)))
    from i a here = elim (below_or_not i index) [
      | inl below ↦ (i, sym (get_remove_before kept index i below) ∙ here, inl (below, refl))
      | inr behind ↦ (suc i, sym (get_remove_behind kept index i behind) ∙ here, inr (behind, omega arith))
    ]

-- ---- one is added

called_place-added : (kind name : ℕ) (kept : List Object) (one : Object) → (called kind name one ≡ true → called_place kind name kept ≡ None)
    → called_place kind name (kept ++ one ∷ []) ≡ (if called kind name one then Some one.place else called_place kind name kept)
called_place-added kind name [] one alone = refl
called_place-added kind name (first ∷ later) one alone =
    cases (called kind name first) (called kind name one) first.place one.place (called_place kind name later) (called_place kind name (later ++ one ∷ [])) alone (called_place-added kind name later one)
  where
    cases : (a b : Bool) (x y : ℕ) (rest grown : Option ℕ) → (b ≡ true → (if a then Some x else rest) ≡ None)
        → ((b ≡ true → rest ≡ None) → grown ≡ (if b then Some y else rest)) → (if a then Some x else grown) ≡ (if b then Some y else (if a then Some x else rest))
    cases true true x y rest grown alone further = absurd (none-some x (sym (alone refl)))
    cases true false x y rest grown alone further = refl
    cases false b x y rest grown alone further = further alone

-- the name is found as one of its kind
kind_of_name : (kind name : ℕ) → IsNameOf kind name → kind_of name ≡ kind
kind_of_name kind name is = ap kind_of is.is ∙ kind_of-name_of kind is.generation is.index is.in_generations is.in_indices

module _ (names after : Handles ℕ) (kept : List Object) (made : ℕ) (sound : IsSound names kept made) (kind name : ℕ) (device : Option ℕ) (content : Content)
    (form : IsNameOf kind name)
    (not_live : (k : ℕ) → lookup names.live k name ≡ None) (few : length after.live ≤ 1024) where
  abbrev pub one : Object
  one = made_object made name device content

  -- no live object has the name
  unnamed : (i : ℕ) (object : Object) → slice_get kept i ≡ Some object → object.is_live ≡ true → object.name ≢ name
  unnamed i object stands live same =
      let nothing : called_place (kind_of object.name) name kept ≡ None = sym (sound.named (kind_of object.name) name) ∙ not_live (kind_of object.name) in
      grind (arith, nat_tests, called_place-None (kind_of object.name) name kept nothing i object stands, live, same)

  -- what each kind and name find
  found : (k n : ℕ) → called_place k n (kept ++ one ∷ []) ≡ (if (name == n) && (kind == k) then Some made else lookup names.live k n)
  found k n =
      let alone : called k n one ≡ true → called_place k n kept ≡ None = λ is. sym (sound.named k n) ∙ subst (λ m. lookup names.live k m ≡ None) (grind (arith, nat_tests, is)) (not_live k) in
      let e : called_place k n (kept ++ one ∷ []) ≡ (if called k n one then Some made else called_place k n kept) = called_place-added k n kept one alone in
      rw (sound.named k n, e) (ap (λ m. if (name == n) && (m == k) then Some made else called_place k n kept) (kind_of_name kind name form))

  pub added_sound : Updates names.live after.live kind name (Some made) → Adds names.live after.live (record { kind = kind; name = name; value = made })
      → ((all : List ℕ) → HasGiven names all → HasGiven after (all ++ name ∷ [])) → IsSound after (kept ++ one ∷ []) (made + 1)
  added_sound updates adds given = record {
    rising = λ i j a b lt here there. elim (at_append kept one b j there) [
      | inl b_before ↦ elim (at_append kept one a i here) [
        | inl a_before ↦ sound.rising i j a b lt a_before.1 b_before.1
        | inr a_last ↦ absurd (omega (arith, lt, a_last.0, b_before.0))
      ]
      | inr b_last ↦ elim (at_append kept one a i here) [
        | inl a_before ↦ subst (λ (o : Object). a.place < o.place) b_last.1 (sound.below i a a_before.1)
        | inr a_last ↦ absurd (omega (arith, lt, a_last.0, b_last.0))
      ]
    ];
    below = λ i a here. elim (at_append kept one a i here) [
      | inl before ↦ omega (arith, sound.below i a before.1)
      | inr last ↦ subst (λ (o : Object). o.place < made + 1) last.1 (omega arith)
    ];
    apart = λ i j a b lt here there live living. elim (at_append kept one b j there) [
      | inl b_before ↦ elim (at_append kept one a i here) [
        | inl a_before ↦ sound.apart i j a b lt a_before.1 b_before.1 live living
        | inr a_last ↦ absurd (omega (arith, lt, a_last.0, b_before.0))
      ]
      | inr b_last ↦ elim (at_append kept one a i here) [
        | inl a_before ↦ λ same. unnamed i a a_before.1 live (same ∙ sym (ap (λ (o : Object). o.name) b_last.1))
        | inr a_last ↦ absurd (omega (arith, lt, a_last.0, b_last.0))
      ]
    ];
    named = λ k n. updates k n ∙ sym (found k n);
    few = few;
    counted = grind (arith, sound.counted, length_adds names.live after.live _ adds, count_append (λ object. object.is_live) kept one);
    given = ∥∥₁_map sound.given (λ all. (all.0 ++ name ∷ [], given all.0 all.1, omega (arith, all.2, length-append all.0 (name ∷ []))));
  }

-- ---- how many names there are

-- a name without its kind
abbrev low : ℕ → ℕ
low name = name % 2 ^ 29

low_apart : (a b : ℕ) → (index_of a ≡ index_of b → generation_of a ≢ generation_of b) → low a ≢ low b
low_apart a b apart same = apart (omega (arith, same)) (omega (arith, same))

low_below : (names : List ℕ) (q : ℕ) → list_any (eqb q) (map low names) ≡ true → q < 2 ^ 29
low_below [] q any = absurd (false≢true any)
low_below (name ∷ names) q any =
    let least : low name < 2 ^ 29 = omega arith in
    grind (arith, nat_tests, any, low_below names q, least)

pub few_names : (names : Handles ℕ) (all : List ℕ) → HasGiven names all → length all ≤ 2 ^ 29
few_names names all given =
    let apart : AllPairs (λ x y. x ≢ y) (map low all) = λ i j d lt within.
    let length_same : length (map low all) ≡ length all = length-map all low in
    let at_i : get_or (map low all) i d ≡ low (get_or all i d) = get_or-map low all i d d (omega (arith, lt, within, length_same)) in
    let at_j : get_or (map low all) j d ≡ low (get_or all j d) = get_or-map low all j d d (omega (arith, within, length_same)) in
    λ same. low_apart (get_or all i d) (get_or all j d) (given.once i j d lt (omega (arith, within, length_same))) (sym at_i ∙ (same ∙ at_j)) in
    let few = length-le_from_distinct_below (map low all) (2 ^ 29) (IsDistinct-from_AllPairs Decides-eqb (map low all) apart) (low_below all) in
    omega (arith, few, length-map all low)
