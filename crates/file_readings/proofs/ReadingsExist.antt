-- A file has a reading.
use Rattle.std.proofs.Common.{◌≡◌, ◌≢◌, ℕ, Bool, true, false, ◌&&◌, cond, List, [], ◌∷◌, ◌++◌, length, map, Option, Some, None, inl, inr, ◌⊎◌, refl, sym, ap, subst, ◌∙◌, arith}
use Rattle.std.specs.Prelude.{reverse, slice_range}
use Rattle.std.specs.List.{AllByRecursion}
use Rattle.std.specs.Option.{is_some}
use Rattle.std.proofs.lemmas.Bool.{cases_lt}
use Rattle.nal_units.specs.Units.{Units}
use Rattle.nal_units.proofs.Advancing.{text_has_units}
use Rattle.access_units.specs.AccessUnits.{AccessUnit, access_units, added_to, are_some, begins_another, begins_by, broken_off, grouped, has_slice, unit_alone, with_unit}
use Rattle.access_units.specs.Contents.{AreTold, Told, places_of, sets_behind}
use Rattle.access_units.specs.Pictures.{ArePictures}
use Rattle.accepted_pictures.specs.Files.{AreAllWhole, AreDecoded, Decoded, Fault, IsAcceptedPicture, IsRead, fault_of}
use Rattle.access_units.proofs.OneGrouping.{Settle, all_first, all_units, broken_place, reverse_twice}
use Rattle.accepted_pictures.proofs.OneDecoded.{AreReadUnits, settled_read}
use Rattle.accepted_pictures.proofs.OneReading.{one_reading}
use Rattle.finite.specs.Decided.{Decided}
use Rattle.finite.proofs.Deciding.{both}
use Rattle.finite.proofs.Equal.{is_none}
use Rattle.file_readings.specs.Laws.{FilesHaveReadings, ReadingsAreFunctions}
use Rattle.file_readings.proofs.AcceptedDecided.{accepted_decided}
use Rattle.file_readings.proofs.ContentsExist.{tells_some}

-- ---- what units tell

abbrev spots_of : List Told → List (ℕ × ℕ)
spots_of told = map (λ (unit : Told). unit.place) told

-- these places of the text, the newest first, tell something
abbrev AreSpots : List ℕ → List (ℕ × ℕ) → Type 0
AreSpots text spots = (told : List Told) × (spots_of told ≡ spots) × AreTold text told

told_some : (text : List ℕ) (spots : List (ℕ × ℕ)) → AreSpots text spots
unfolding AreTold
told_some text [] = ([], refl, tt)
told_some text (spot ∷ spots) =
    let before = told_some text spots in
    let bytes : List ℕ = slice_range text spot.0 spot.1 in
    let here = tells_some (sets_behind before.0) bytes in
    (record { place = spot; bytes = bytes; content = here.0 } ∷ before.0, ap (λ (xs : List (ℕ × ℕ)). spot ∷ xs) before.1, (before.2, refl, here.1))

abbrev TellAll : List ℕ → Type 0
TellAll text = (told : List Told) × (places_of told ≡ all_units text) × AreTold text told

all_told : (text : List ℕ) → TellAll text
all_told text = let all = told_some text (reverse (all_units text)) in (all.0, ap reverse all.1 ∙ reverse_twice (all_units text), all.2)

-- ---- each access unit but the newest has a slice

abbrev HaveSlices : List AccessUnit → Type 0
HaveSlices units = AllByRecursion (λ (au : AccessUnit). au.slices ≢ []) units

some_slice : (slices : List (List ℕ)) → are_some slices ≡ true → slices ≢ []
some_slice [] some e = absurd (cc)
some_slice (slice ∷ slices) some e = cc

both_true : (a b : Bool) → (a && b) ≡ true → a ≡ true
both_true true b e = refl
both_true false b e = absurd cc

-- of a list with its newest
abbrev FollowSlices : List AccessUnit → Type 0
FollowSlices [] = Unit {0}
FollowSlices (au ∷ earlier) = HaveSlices earlier

begun_slices : (au : AccessUnit) (unit : Told) (earlier : List AccessUnit) → HaveSlices earlier → FollowSlices (added_to (au ∷ earlier) unit)
begun_slices au unit earlier have = elim (begins_another au unit) as (λ b. begins_another au unit ≡ b → FollowSlices (cond b (unit_alone unit ∷ au ∷ earlier) (with_unit au unit ∷ earlier))) [
  | true ↦ λ begins. (some_slice au.slices (both_true (has_slice au) (begins_by au unit.bytes unit.content) begins), have)
  | false ↦ λ stays. have
] refl

grouped_slices : (told : List Told) → FollowSlices (grouped told)
unfolding grouped
grouped_slices [] = tt
grouped_slices (unit ∷ earlier) = added (grouped earlier) (grouped_slices earlier)
  where
    added : (units : List AccessUnit) → FollowSlices units → FollowSlices (added_to units unit)
    added [] have = tt
    added (au ∷ units) have = begun_slices au unit units have

broken_slices : (units : List AccessUnit) → FollowSlices units → FollowSlices (broken_off units)
broken_slices [] have = tt
broken_slices (au ∷ earlier) have = have

all_slices : (told : List Told) (broken : Option ℕ) → FollowSlices (access_units told broken)
all_slices told broken = elim (is_some broken) as (λ b. FollowSlices (cond b (broken_off (grouped told)) (grouped told))) [ true ↦ broken_slices (grouped told) (grouped_slices told) | false ↦ grouped_slices told ]

last_slices : (later front : List AccessUnit) (au : AccessUnit) → HaveSlices (later ++ au ∷ front) → au.slices ≢ []
last_slices [] front au have = have.0
last_slices (one ∷ later) front au have = last_slices later front au have.1

-- an access unit without a slice is the newest
newest : (later front units : List AccessUnit) (au : AccessUnit) → FollowSlices units → units ≡ later ++ au ∷ front → au.slices ≡ [] → later ≡ []
newest [] front units au have is empty = refl
newest (one ∷ later) front units au have is empty =
    let F : List AccessUnit → Type 0 = λ us. FollowSlices us in
    absurd (last_slices later front au (subst F is have) empty)

-- ---- which access units are accepted

-- all of these are, or the first of them that isn't stands behind those that are
record IsFirstNot (units : List AccessUnit) : Type 0 where
  later : List AccessUnit
  au : AccessUnit
  front : List AccessUnit
  decoded : List Decoded
  split : units ≡ later ++ au ∷ front
  are : AreDecoded front decoded
  none : (one : Decoded) → IsAcceptedPicture decoded au one → ⊥

abbrev AreAccepted : List AccessUnit → Type 0
AreAccepted units = ((decoded : List Decoded) × AreDecoded units decoded) ⊎ IsFirstNot units

none_accepted : AreDecoded [] []
unfolding ArePictures AreAllWhole
none_accepted = record { pictures = tt; whole = tt }

one_accepted : (au : AccessUnit) (units : List AccessUnit) (decoded : List Decoded) (one : Decoded) → AreDecoded units decoded → IsAcceptedPicture decoded au one → AreDecoded (au ∷ units) (one ∷ decoded)
unfolding ArePictures AreAllWhole
one_accepted au units decoded one are is = record { pictures = (are.pictures, is.picture); whole = (are.whole, is.whole) }

accepted_next : (au : AccessUnit) (units : List AccessUnit) → AreReadUnits (au ∷ units) → AreAccepted units → AreAccepted (au ∷ units)
accepted_next au units read (inl are) = elim (accepted_decided are.0 au read.0) [
  | inl one ↦ inl (one.0 ∷ are.0, one_accepted au units are.0 one.0 are.1 one.1)
  | inr none ↦ inr (record { later = []; au = au; front = units; decoded = are.0; split = refl; are = are.1; none = λ one is. none (one, is) })
]
accepted_next au units read (inr not_all) = inr (record {
  later = au ∷ not_all.later;
  au = not_all.au;
  front = not_all.front;
  decoded = not_all.decoded;
  split = ap (λ (us : List AccessUnit). au ∷ us) not_all.split;
  are = not_all.are;
  none = not_all.none;
})

accepted_some : (units : List AccessUnit) → AreReadUnits units → AreAccepted units
accepted_some [] read = inl ([], none_accepted)
accepted_some (au ∷ units) read = accepted_next au units read (accepted_some units read.1)

no_slices : (slices : List (List ℕ)) → Decided (slices ≡ [])
no_slices [] = inl refl
no_slices (slice ∷ slices) = inr (λ e. absurd (cc))

-- ---- a reading

abbrev HasReading : List ℕ → Type 0
HasReading text = (decoded : List Decoded) × ((fault : Option Fault) × IsRead text decoded fault)

module _ (text : List ℕ) (told : List Told) (places : places_of told ≡ all_units text) (each : AreTold text told) where
  units : List AccessUnit
  units = access_units told (broken_place text)

  known : Units text (places_of told) (broken_place text)
  known = subst (λ (spots : List (ℕ × ℕ)). Units text spots (broken_place text)) (sym places) (text_has_units text).2

  all_accepted : (decoded : List Decoded) → AreDecoded units decoded → HasReading text
  unfolding units
  all_accepted decoded are =
      (decoded, (None, record { front = units; all = record { told = told; each = each; broken = broken_place text; units = known; tail = []; is_tail = inl refl; split = refl }; accepted = are }))

  tail_left : (n : IsFirstNot units) → n.au.refused ≡ None → n.au.slices ≡ [] → HasReading text
  unfolding units
  tail_left n fine empty =
      let none : n.later ≡ [] = newest n.later n.front units n.au (all_slices told (broken_place text)) n.split empty in
      let split : units ≡ (n.au ∷ []) ++ n.front = n.split ∙ ap (λ (us : List AccessUnit). us ++ n.au ∷ n.front) none in (
        n.decoded,
        (
          None,
          record {
            front = n.front;
            all = record { told = told; each = each; broken = broken_place text; units = known; tail = n.au ∷ []; is_tail = inr (n.au, refl, fine, empty); split = split };
            accepted = n.are;
          },
        ),
      )

  refused_at : (n : IsFirstNot units) → ((n.au.refused ≡ None) × (n.au.slices ≡ []) → ⊥) → HasReading text
  unfolding units
  refused_at n no_tail = (
    n.decoded,
    (
      Some (fault_of n.au),
      record {
        front = n.front;
        au = n.au;
        settled = record { told = told; each = each; by = inr (broken_place text, inl (refl, known), (n.later, n.split)) };
        accepted = n.are;
        refused = record { not_decoded = n.none; not_tail = λ fine empty. no_tail (fine, empty) };
        fault_is = refl;
      },
    ),
  )

  all_settle : Settle text units
  unfolding units
  all_settle = record { told = told; each = each; first = all_first (all_units text) told places; by = inr (places, ([], refl)) }

  read_some : HasReading text
  read_some = elim (accepted_some units (settled_read text units all_settle)) [
    | inl are ↦ all_accepted are.0 are.1
    | inr n ↦ elim (both (is_none n.au.refused) (λ fine. no_slices n.au.slices)) [
      | inl tail ↦ tail_left n tail.0 tail.1
      | inr no_tail ↦ refused_at n no_tail
    ]
  ]

pub readings_exist : FilesHaveReadings
readings_exist text = elim (cases_lt 1073741824 (length text)) [
  | inl long ↦ ([], Some (record { offset = 0; large = true }), ((λ too_long. (refl, refl)), (λ fits. absurd (fits long))))
  | inr short ↦
      (let all = all_told text in
      let read = read_some text all.0 all.1 all.2 in
      (read.0, read.1.0, ((λ long. absurd (omega arith)), (λ fits. read.1.1))))
]

-- There is one at most, so that its parts are functions of the bytes.
pub readings_are_functions : ReadingsAreFunctions
readings_are_functions = (
  λ text. (readings_exist text).0,
  λ text. (readings_exist text).1,
  record {
    has = λ text. (readings_exist text).2;
    only = λ text decoded fault is. let reading = readings_exist text in one_reading text decoded reading.0 fault reading.1 is reading.2;
  },
)
