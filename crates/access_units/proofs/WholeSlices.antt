-- The slices of a picture that is next are whole units, of which no byte is forbidden, and there is one at least.
use Rattle.std.proofs.Common.{◌≡◌, ◌≢◌, ℕ, suc, ◌+◌, ◌-◌, inl, inr, Bool, true, false, not, ◌==◌, ◌&&◌, ◌||◌, cond, List, [], ◌∷◌, ◌++◌, length, take, drop, replicate, map, Option, Some, None, refl, sym, ◌∙◌, ap, subst, append_assoc, arith, length-append}
use Rattle.std.specs.Prelude.{slice_range, reverse, All}
use Rattle.std.specs.List.{AllByRecursion}
use Rattle.std.specs.Option.{is_some}
use Rattle.std.proofs.lemmas.List.{append-nil, length-replicate, take-append-drop}
use Rattle.std.proofs.lemmas.List.Elements.{All-append, All-filter, All-from_recursion}
use Rattle.std.proofs.lemmas.List.Sorted.{All-permutation, IsPermutation-reverse, IsPermutation-sym}
use Rattle.std.proofs.Math.Seq.{take-append_seam, drop-append_seam}
use Rattle.nal_units.specs.Settled.{Settles}
use Rattle.nal_units.specs.Units.{Units, Part, IsPart, IsUnit, stream, places}
use Rattle.nal_units.proofs.Streams.{stream-append}
use Rattle.access_units.specs.AccessUnits.{AccessUnit, access_units, added_to, are_some, begins_another, begins_by, broken_off, empty_at, goes_on, grouped, has_slice, unit_alone, with_slice, with_unit}
use Rattle.access_units.specs.Acceptors.{AreFirst, IsAtAnEnd, IsNext, IsSettled, Past}
use Rattle.access_units.specs.Contents.{AreTold, HasHeader, IsAllowed, Tells, Told, WhereElse, has_first_bit, is_partition, is_slice, places_of, sets_behind, type_of}
use Rattle.access_units.specs.Pictures.{Picture}
use Rattle.access_units.specs.Sets.{Sets}
use Rattle.access_units.specs.declared.content.Content.{Content}
use Rattle.access_units.specs.declared.content.Content.TheVariants.{Other, PictureSet, Refused, SequenceSet, Slice, TooLarge}
use Rattle.access_units.specs.declared.content.Named.{Named}

-- A whole NAL unit, of which no byte is forbidden.
pub record IsWholeUnit (bytes : List ℕ) : Type 0 where
  pub unit : IsUnit bytes
  pub allowed : IsAllowed bytes

-- ---- the units of a text are whole

abbrev IsUnitAt : List ℕ → ℕ × ℕ → Type 0
IsUnitAt text spot = IsUnit (slice_range text spot.0 spot.1)

abbrev AreUnitsAt : List ℕ → List (ℕ × ℕ) → Type 0
AreUnitsAt text spots = All (IsUnitAt text) spots

abbrev AreUnitsIn : List ℕ → List (ℕ × ℕ) → Type 0
AreUnitsIn text spots = AllByRecursion (IsUnitAt text) spots

slice_seam : (front unit more : List ℕ) (at : ℕ) → length front ≡ at → slice_range (front ++ (unit ++ more)) at (at + length unit) ≡ unit
slice_seam front unit more at len =
    let count : at + length unit - at ≡ length unit = omega arith in
    ap (λ k. take (at + length unit - at) (drop k (front ++ (unit ++ more)))) (sym len)
    ∙ ap (λ s. take (at + length unit - at) s) (drop-append_seam front (unit ++ more))
    ∙ ap (λ k. take k (unit ++ more)) count
    ∙ take-append_seam unit more

parts_whole : (parts : List Part) (front rest : List ℕ) (from : ℕ) → length front ≡ from → AllByRecursion IsPart parts → AreUnitsIn (front ++ stream parts rest) (places from parts)
parts_whole [] front rest from len each = tt
parts_whole (part ∷ parts) front rest from len each =
    let zeros : List ℕ = replicate part.zeros 0 in
    let later : List ℕ = stream parts rest in
    let begun : List ℕ = front ++ (zeros ++ 1 ∷ []) in
    let at : length begun ≡ from + part.zeros + 1 = omega (arith, length-append front (zeros ++ 1 ∷ []), length-append zeros (1 ∷ []), length-replicate {A = ℕ} part.zeros 0) in
    let next : length (begun ++ part.unit) ≡ from + part.zeros + 1 + length part.unit = omega (arith, length-append begun part.unit) in
    let text : front ++ (zeros ++ 1 ∷ (part.unit ++ later)) ≡ begun ++ (part.unit ++ later) =
    ap (λ s. front ++ s) (sym (append_assoc zeros (1 ∷ []) (part.unit ++ later))) ∙ sym (append_assoc front (zeros ++ 1 ∷ []) (part.unit ++ later)) in
    let here : IsUnit (slice_range (begun ++ (part.unit ++ later)) (from + part.zeros + 1) (from + part.zeros + 1 + length part.unit)) =
    subst IsUnit (sym (slice_seam begun part.unit later (from + part.zeros + 1) at)) each.0.unit in
    let further : AreUnitsIn ((begun ++ part.unit) ++ later) (places (from + part.zeros + 1 + length part.unit) parts) =
    parts_whole parts (begun ++ part.unit) rest (from + part.zeros + 1 + length part.unit) next each.1 in
    let F : List ℕ → Type 0 = λ t. AreUnitsIn t (places (from + part.zeros + 1 + length part.unit) parts) in
    let G : List ℕ → Type 0 = λ t. AreUnitsIn t (places from (part ∷ parts)) in
    subst G (sym text) (here, subst F (append_assoc begun part.unit later) further)

units_whole : (text more : List ℕ) (spots : List (ℕ × ℕ)) (broken : Option ℕ) → Units text spots broken → AreUnitsAt (text ++ more) spots
units_whole text more spots broken are =
    let rest : List ℕ = (replicate are.run 0 ++ are.tail) ++ more in
    let spelled : text ++ more ≡ stream are.parts rest = ap (λ t. t ++ more) are.spelled ∙ stream-append are.parts (replicate are.run 0 ++ are.tail) more in
    let whole : AreUnitsIn (stream are.parts rest) (places 0 are.parts) = parts_whole are.parts [] rest 0 refl are.each in
    let F : List ℕ → Type 0 = λ t. AreUnitsIn t (places 0 are.parts) in
    let G : List (ℕ × ℕ) → Type 0 = λ s. AreUnitsIn (text ++ more) s in
    All-from_recursion _ spots (subst G (sym are.placed) (subst F (sym spelled) whole))

ended_whole : (text more : List ℕ) (spots : List (ℕ × ℕ)) → Settles text spots None → AreUnitsAt (text ++ more) spots
ended_whole text more spots settles =
    let have = settles.1 in
    let G : List (ℕ × ℕ) → Type 0 = λ s. AreUnitsAt (text ++ more) s in
    subst G (sym have.3) (All-filter _ (IsUnitAt (text ++ more)) have.0 (units_whole text more have.0 have.1 have.2))

first_whole : (text : List ℕ) (spots : List (ℕ × ℕ)) → AreFirst text spots → AreUnitsAt text spots
first_whole text spots first =
    let F : List ℕ → Type 0 = λ t. AreUnitsAt t spots in
    subst F (take-append-drop first.0 text) (ended_whole (take first.0 text) (drop first.0 text) spots first.2)

end_whole : (text : List ℕ) (is_ended : Bool) (spots : List (ℕ × ℕ)) (broken : Option ℕ) → IsAtAnEnd text is_ended spots broken → AreUnitsAt text spots
end_whole text is_ended spots broken (inl all) =
    let F : List ℕ → Type 0 = λ t. AreUnitsAt t spots in
    subst F (append-nil text) (units_whole text [] spots broken all.1)
end_whole text is_ended spots broken (inr all) =
    let F : List ℕ → Type 0 = λ t. AreUnitsAt t spots in
    subst F (append-nil (text ++ []) ∙ append-nil text) (units_whole (text ++ []) [] spots broken (all.1 []))

abbrev AreWholeTold : List Told → Type 0
AreWholeTold told = AllByRecursion (λ (unit : Told). IsUnit unit.bytes) told

told_whole : (text : List ℕ) (told : List Told) → AreTold text told → AllByRecursion (λ (unit : Told). IsUnit (slice_range text unit.place.0 unit.place.1)) told → AreWholeTold told
unfolding AreTold
told_whole text [] each whole = tt
told_whole text (unit ∷ earlier) each whole = (subst IsUnit (sym each.1) whole.0, told_whole text earlier each.0 whole.1)

mapped_each : (P : ℕ × ℕ → Type 0) (told : List Told) → All P (map (λ (unit : Told). unit.place) told) → AllByRecursion (λ (unit : Told). P unit.place) told
mapped_each P [] at = tt
mapped_each P (unit ∷ earlier) at = (at 0 (0, 0) (omega arith), mapped_each P earlier (λ k d lt. at (suc k) d (omega arith)))

-- what holds of each place, by the units
pub placed_each : (P : ℕ × ℕ → Type 0) (told : List Told) → All P (places_of told) → AllByRecursion (λ (unit : Told). P unit.place) told
placed_each P told at =
    let spots : List (ℕ × ℕ) = map (λ (unit : Told). unit.place) told in
    mapped_each P told (All-permutation P (reverse spots) spots (IsPermutation-sym spots (reverse spots) (IsPermutation-reverse spots)) at)

placed_whole : (text : List ℕ) (told : List Told) → AreTold text told → AreUnitsAt text (places_of told) → AreWholeTold told
placed_whole text told each at = told_whole text told each (placed_each (IsUnitAt text) told at)

-- ---- the slices of an access unit are allowed where its first one has a header

slice_by : (named : Option Named) (a b c d : Bool) (H : Type 0) → WhereElse a H (WhereElse b (Slice named ≡ Refused) (WhereElse c ⊥ (WhereElse d ⊥ (Slice named ≡ Other)))) → H
slice_by named true b c d H told = told
slice_by named false true c d H told = absurd (cc)
slice_by named false false true d H told = absurd told
slice_by named false false false true H told = absurd told
slice_by named false false false false H told = absurd (cc)

slice_told : (sets : Sets) (bytes : List ℕ) (named : Option Named) → Tells sets bytes (Slice named) → HasHeader sets bytes named
slice_told sets bytes named told =
    slice_by named (is_slice bytes) (has_first_bit bytes || is_partition bytes) (type_of bytes == 7) (type_of bytes == 8) (HasHeader sets bytes named) told

record IsSoundBy (slices : List (List ℕ)) (first : Option Named) : Type 0 where
  none : slices ≡ [] → first ≡ None
  units : All IsUnit slices
  allowed : first ≢ None → All IsAllowed slices

abbrev IsSound : AccessUnit → Type 0
IsSound au = IsSoundBy au.slices au.first

abbrev AreSound : List AccessUnit → Type 0
AreSound units = AllByRecursion IsSound units

only_one : (P : List ℕ → Type 0) (bytes : List ℕ) → P bytes → All P (bytes ∷ [])
only_one P bytes here = All-from_recursion P (bytes ∷ []) (here, tt)

no_slices : IsSoundBy [] None
no_slices = record { none = λ e. refl; units = All-from_recursion IsUnit [] tt; allowed = λ some. absurd (some refl) }

named_allowed : (sets : Sets) (bytes : List ℕ) (named : Option Named) → HasHeader sets bytes named → named ≢ None → IsAllowed bytes
named_allowed sets bytes None header some = absurd (some refl)
named_allowed sets bytes (Some named) header some = header.allowed

on_allowed : (sets : Sets) (bytes : List ℕ) (last named : Option Named) → HasHeader sets bytes named → goes_on last named ≡ true → IsAllowed bytes
on_allowed sets bytes None None header on = absurd (cc)
on_allowed sets bytes (Some last) None header on = absurd (cc)
on_allowed sets bytes last (Some named) header on = header.allowed

sound_more : (slices : List (List ℕ)) (first last named : Option Named) (bytes : List ℕ) (sets : Sets) → IsSoundBy slices first → IsUnit bytes → HasHeader sets bytes named
    → (are_some slices ≡ true → goes_on last named ≡ true) → IsSoundBy (slices ++ bytes ∷ []) (cond (are_some slices) first named)
sound_more [] first last named bytes sets sound unit header on = record {
  none = λ e. absurd (cc);
  units = only_one IsUnit bytes unit;
  allowed = λ some. only_one IsAllowed bytes (named_allowed sets bytes named header some);
}
sound_more (slice ∷ slices) first last named bytes sets sound unit header on = record {
  none = λ e. absurd (cc);
  units = All-append IsUnit (slice ∷ slices) (bytes ∷ []) sound.units (only_one IsUnit bytes unit);
  allowed = λ some. All-append IsAllowed (slice ∷ slices) (bytes ∷ []) (sound.allowed some) (only_one IsAllowed bytes (on_allowed sets bytes last named header (on refl)));
}

not_begun : (some on : Bool) → (some && not on) ≡ false → some ≡ true → on ≡ true
not_begun true true none is = refl
not_begun true false none is = absurd (cc)
not_begun false on none is = absurd (cc)

sound_with : (au : AccessUnit) (refused : Option Bool) (bytes : List ℕ) (content : Content) (sets : Sets) → IsSound au → IsUnit bytes → Tells sets bytes content
    → (has_slice au && begins_by au bytes content) ≡ false → IsSound (with_slice (record au { refused = refused }) bytes content)
sound_with au refused bytes (Slice named) sets sound unit told on =
    sound_more au.slices au.first au.last named bytes sets sound unit (slice_told sets bytes named told) (not_begun (has_slice au) (goes_on au.last named) on)
sound_with au refused bytes (SequenceSet sps) sets sound unit told on = sound
sound_with au refused bytes (PictureSet pps) sets sound unit told on = sound
sound_with au refused bytes Refused sets sound unit told on = sound
sound_with au refused bytes TooLarge sets sound unit told on = sound
sound_with au refused bytes Other sets sound unit told on = sound

choose : (b : Bool) (P : List AccessUnit → Type 0) (xs ys : List AccessUnit) → P xs → (b ≡ false → P ys) → P (cond b xs ys)
choose true P xs ys first second = first
choose false P xs ys first second = second refl

alone_sound : (unit : Told) (sets : Sets) → IsUnit unit.bytes → Tells sets unit.bytes unit.content → IsSound (unit_alone unit)
alone_sound unit sets whole told = sound_with (empty_at unit.place.0) _ unit.bytes unit.content sets no_slices whole told refl

added_sound : (units : List AccessUnit) (unit : Told) (sets : Sets) → AreSound units → IsUnit unit.bytes → Tells sets unit.bytes unit.content → AreSound (added_to units unit)
added_sound [] unit sets sound whole told = (alone_sound unit sets whole told, tt)
added_sound (au ∷ earlier) unit sets sound whole told =
    choose (begins_another au unit) AreSound (unit_alone unit ∷ au ∷ earlier) (with_unit au unit ∷ earlier)
    (alone_sound unit sets whole told, sound)
    (λ on. (sound_with au _ unit.bytes unit.content sets sound.0 whole told on, sound.1))

grouped_sound : (text : List ℕ) (told : List Told) → AreTold text told → AreWholeTold told → AreSound (grouped told)
unfolding AreTold grouped
grouped_sound text [] each whole = tt
grouped_sound text (unit ∷ earlier) each whole = added_sound (grouped earlier) unit (sets_behind earlier) (grouped_sound text earlier each.0 whole.1) whole.0 each.2

broken_sound : (units : List AccessUnit) → AreSound units → AreSound (broken_off units)
broken_sound [] sound = (no_slices, tt)
broken_sound (au ∷ earlier) sound = sound

sound_at : (later front : List AccessUnit) (au : AccessUnit) → AreSound (later ++ au ∷ front) → IsSound au
sound_at [] front au sound = sound.0
sound_at (one ∷ later) front au sound = sound_at later front au sound.1

settled_sound : (text : List ℕ) (is_ended : Bool) (front : List AccessUnit) (au : AccessUnit) → IsSettled text is_ended front au → IsSound au
settled_sound text is_ended front au settled =
    elim settled.by [
      | inl first ↦
          let sound = grouped_sound text settled.told settled.each (placed_whole text settled.told settled.each (first_whole text (places_of settled.told) first.0)) in
          sound_at (first.1.0 ∷ []) front au (subst AreSound first.1.1 sound)
      | inr all ↦
          let whole = placed_whole text settled.told settled.each (end_whole text is_ended (places_of settled.told) all.0 all.1) in
          let sound = grouped_sound text settled.told settled.each whole in
          let of_all : AreSound (access_units settled.told all.0) =
          choose (is_some all.0) AreSound (broken_off (grouped settled.told)) (grouped settled.told) (broken_sound (grouped settled.told) sound) (λ none. sound) in
          sound_at all.2.0 front au (subst AreSound all.2.1 of_all)
    ]

-- An access unit whose first slice has a header has a slice.
pub some_slices : (text : List ℕ) (is_ended : Bool) (front : List AccessUnit) (au : AccessUnit) → IsSettled text is_ended front au → au.first ≢ None → au.slices ≢ []
some_slices text is_ended front au settled some empty = some ((settled_sound text is_ended front au settled).none empty)

-- ---- the slices of the next picture

slices_whole : (slices : List (List ℕ)) (first : Option Named) → IsSoundBy slices first → first ≢ None → (slices ≢ []) × All IsWholeUnit slices
slices_whole slices first sound some = ((λ e. some (sound.none e)), (λ k d lt. record { unit = sound.units k d lt; allowed = sound.allowed some k d lt }))

pub next_slices : (past : Past) (picture : Picture) → IsNext past picture → (picture.slices ≢ []) × All IsWholeUnit picture.slices
next_slices past picture next =
    let sound = settled_sound past.text past.ended next.up_next.front next.au next.up_next.settled in
    let first = next.is.first in
    let some : next.au.first ≢ None = λ none. let e : Some next.is.named ≡ None = sym first ∙ none in absurd (cc) in
    let same : next.au.slices ≡ picture.slices = sym (ap (λ (p : Picture). p.slices) next.is.is) in
    let F : List (List ℕ) → Type 0 = λ s. (s ≢ []) × All IsWholeUnit s in
    subst F same (slices_whole next.au.slices next.au.first sound some)
