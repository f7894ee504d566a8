-- Access units that are accepted pictures are one list of pictures.
use Rattle.std.proofs.Common.{◌≡◌, ℕ, inl, inr, Bool, true, false, cond, List, [], ◌∷◌, ◌++◌, length, Option, refl, sym, ap, subst, ◌∙◌}
use Rattle.std.specs.Prelude.{IfSome}
use Rattle.std.specs.List.{AllByRecursion}
use Rattle.std.specs.Option.{is_some, option_or}
use Rattle.cb_types.specs.SizeMbs.{IsWithinLimits}
use Rattle.decoder_render.specs.Coverage.{given}
use Rattle.decoder_render.proofs.OneOutcome.{whole_by}
use Rattle.marking.specs.Begun.{begun_by, settled_of}
use Rattle.marking.specs.declared.begun.Begun.{Begun}
use Rattle.marking.proofs.HistoryLemmas.{ok_inv}
use Rattle.slice_header.specs.Conditions.{HasRanges}
use Rattle.vd_plane.proofs.OnePicture.{picture_one as samples_one}
use Rattle.access_units.specs.AccessUnits.{AccessUnit, access_units, added_to, begins_another, broken_off, empty_at, grouped, has_slice, refusal_of, unit_alone, with_slice, with_unit}
use Rattle.access_units.specs.Contents.{Told}
use Rattle.access_units.specs.Pictures.{ArePictures, IsPicture, Picture, payloads_of, size_in, with_count}
use Rattle.access_units.specs.declared.content.Content.{Content}
use Rattle.access_units.specs.declared.content.Content.TheVariants.{Other, PictureSet, Refused, SequenceSet, Slice, TooLarge}
use Rattle.access_units.specs.declared.content.Named.{Named}
use Rattle.accepted_pictures.specs.Files.{AreAllWhole, AreDecoded, Decoded, IsAcceptedPicture, IsWholeBehind, pictures_in, references_of}
use Rattle.access_units.proofs.OneAnswer.{picture_one}
use Rattle.access_units.proofs.OneContent.{IsRead, IsReadContent, told_read}
use Rattle.access_units.proofs.OneGrouping.{Settle, broken_place}

-- ---- the sets of an access unit's first header can be read

abbrev pub IsReadUnit : AccessUnit → Type 0
IsReadUnit au = IfSome au.first IsRead

abbrev pub AreReadUnits : List AccessUnit → Type 0
AreReadUnits units = AllByRecursion IsReadUnit units

read_choice : (b : Bool) (x y : Option Named) → IfSome x IsRead → IfSome y IsRead → IfSome (cond b x y) IsRead
read_choice true x y first second = first
read_choice false x y first second = second

slice_read : (au : AccessUnit) (bytes : List ℕ) (content : Content) → IsReadUnit au → IsReadContent content → IsReadUnit (with_slice au bytes content)
slice_read au bytes (Slice named) before here = read_choice (has_slice au) au.first named before here
slice_read au bytes (SequenceSet sps) before here = before
slice_read au bytes (PictureSet pps) before here = before
slice_read au bytes Refused before here = before
slice_read au bytes TooLarge before here = before
slice_read au bytes Other before here = before

unit_read : (au : AccessUnit) (unit : Told) → IsReadUnit au → IsReadContent unit.content → IsReadUnit (with_unit au unit)
unit_read au unit before here = slice_read (record au { refused = option_or au.refused (refusal_of unit) }) unit.bytes unit.content before here

read_by : (b : Bool) (us vs : List AccessUnit) → AreReadUnits us → AreReadUnits vs → AreReadUnits (cond b us vs)
read_by true us vs first second = first
read_by false us vs first second = second

added_read : (units : List AccessUnit) (unit : Told) → AreReadUnits units → IsReadContent unit.content → AreReadUnits (added_to units unit)
added_read [] unit before here = (unit_read (empty_at unit.place.0) unit tt here, tt)
added_read (au ∷ earlier) unit before here =
    read_by (begins_another au unit) (unit_alone unit ∷ au ∷ earlier) (with_unit au unit ∷ earlier) (unit_read (empty_at unit.place.0) unit tt here, before) (unit_read au unit before.0 here, before.1)

grouped_read : (told : List Told) → AllByRecursion (λ (unit : Told). IsReadContent unit.content) told → AreReadUnits (grouped told)
unfolding grouped
grouped_read [] each = tt
grouped_read (unit ∷ earlier) each = added_read (grouped earlier) unit (grouped_read earlier each.1) each.0

broken_read : (units : List AccessUnit) → AreReadUnits units → AreReadUnits (broken_off units)
broken_read [] each = (tt, tt)
broken_read (au ∷ earlier) each = each

all_read : (told : List Told) (broken : Option ℕ) → AllByRecursion (λ (unit : Told). IsReadContent unit.content) told → AreReadUnits (access_units told broken)
all_read told broken each = read_by (is_some broken) (broken_off (grouped told)) (grouped told) (broken_read (grouped told) (grouped_read told each)) (grouped_read told each)

pub last_read : (later xs : List AccessUnit) → AreReadUnits (later ++ xs) → AreReadUnits xs
last_read [] xs each = each
last_read (au ∷ later) xs each = last_read later xs each.1

pub settled_read : (text : List ℕ) (xs : List AccessUnit) → Settle text xs → AreReadUnits xs
settled_read text xs a = elim a.by [
  | inl first ↦ last_read (first.0 ∷ []) xs (subst AreReadUnits first.1 (grouped_read a.told (told_read text a.told a.each)))
  | inr all ↦ last_read all.1.0 xs (subst AreReadUnits all.1.1 (all_read a.told (broken_place text) (told_read text a.told a.each)))
]

-- ---- such an access unit is one picture

pub record IsSized (picture : Picture) : Type 0 where
  pub ranges : HasRanges picture.begun.info
  pub limits : IsWithinLimits (size_in picture)

pub picture_sized : (before : List Picture) (au : AccessUnit) (picture : Picture) → IsReadUnit au → IsPicture before au picture → IsSized picture
picture_sized before au picture read is =
    let named = is.named in
    let sets : IsRead named = subst (λ (o : Option Named). IfSome o IsRead) is.first read in
    let inv = ok_inv named.sps named.pps named.header is.begun (settled_of is.begins.marker named.sps named.header) is.begins.begins in
    let of_settled : HasRanges (begun_by named.sps named.pps named.header inv.0).info = record {
      frame_num_bits = sets.sps.log2_max_frame_num_minus4;
      lsb_bits = sets.sps.log2_max_pic_order_cnt_lsb_minus4;
      active = sets.pps.num_ref_idx_l0_default_active_minus1;
      qp_least = sets.pps.qp_least;
      qp_most = sets.pps.qp_most;
    } in
    let of_begun : HasRanges is.begun.info = subst (λ (b : Begun). HasRanges b.info) inv.2 of_settled in
    let whole : IsSized (record { offset = au.offset; slices = au.slices; sps = named.sps; begun = with_count (length au.slices) is.begun }) = record {
      ranges = record { frame_num_bits = of_begun.frame_num_bits; lsb_bits = of_begun.lsb_bits; active = of_begun.active; qp_least = of_begun.qp_least; qp_most = of_begun.qp_most };
      limits = sets.sps.size;
    } in
    subst IsSized (sym is.is) whole

decoded_of : (x y : Decoded) → x.picture ≡ y.picture → x.samples ≡ y.samples → x ≡ y
decoded_of x y picture whole = λ i. record { picture = picture i; samples = whole i }

cons_of : (x y : Decoded) (xs ys : List Decoded) → x ≡ y → xs ≡ ys → x ∷ xs ≡ y ∷ ys
cons_of x y xs ys e f = ap (λ z. z ∷ xs) e ∙ ap (λ zs. y ∷ zs) f

-- its slices come to one picture's samples
whole_one : (before : List Decoded) (x y : Decoded) → x.picture ≡ y.picture → IsSized y.picture → IsWholeBehind before x → IsWholeBehind before y → x.samples ≡ y.samples
whole_one before x y same sized is also =
    let picture = y.picture in
    let info = picture.begun.info in
    let there : IsWholeBehind before (record { picture = picture; samples = x.samples }) =
    subst (λ (p : Picture). IsWholeBehind before (record { picture = p; samples = x.samples })) same is in
    samples_one x.samples y.samples (whole_by (given info (size_in picture) (references_of before info)) (payloads_of picture.slices) sized.ranges sized.limits x.samples y.samples there also)

pub one_decoded : (before : List Decoded) (au : AccessUnit) (x y : Decoded) → IsReadUnit au → IsAcceptedPicture before au x → IsAcceptedPicture before au y → x ≡ y
one_decoded before au x y read is also =
    let same : x.picture ≡ y.picture = picture_one (pictures_in before) au x.picture y.picture is.picture also.picture in
    let sized = picture_sized (pictures_in before) au y.picture read also.picture in
    decoded_of x y same (whole_one before x y same sized is.whole also.whole)

both_decoded : (units : List AccessUnit) (a b : List Decoded) → AreReadUnits units → ArePictures units (pictures_in a) → ArePictures units (pictures_in b) → AreAllWhole a → AreAllWhole b → a ≡ b
unfolding ArePictures AreAllWhole
both_decoded [] [] [] read is also whole other = refl
both_decoded [] (x ∷ a) b read is also whole other = absurd is
both_decoded [] [] (y ∷ b) read is also whole other = absurd also
both_decoded (au ∷ units) [] b read is also whole other = absurd is
both_decoded (au ∷ units) (x ∷ a) [] read is also whole other = absurd also
both_decoded (au ∷ units) (x ∷ a) (y ∷ b) read is also whole other =
    let before = both_decoded units a b read.1 is.0 also.0 whole.0 other.0 in
    let A : List Decoded → Type 0 = λ l. IsAcceptedPicture l au x in
    let here : IsAcceptedPicture a au x = record { picture = is.1; whole = whole.1 } in
    let there : IsAcceptedPicture b au y = record { picture = also.1; whole = other.1 } in
    cons_of x y a b (one_decoded b au x y read.0 (subst A before here) there) before

pub decoded_one : (units : List AccessUnit) (a b : List Decoded) → AreReadUnits units → AreDecoded units a → AreDecoded units b → a ≡ b
decoded_one units a b read is also = both_decoded units a b read is.pictures also.pictures is.whole also.whole

-- ---- parts of a list

-- The last of the access units are the last of the pictures.
pub record Splits (units : List AccessUnit) (decoded : List Decoded) : Type 0 where
  pub more : List Decoded
  pub last : List Decoded
  pub all : decoded ≡ more ++ last
  pub are : AreDecoded units last

split_by : (later units : List AccessUnit) (decoded : List Decoded) → ArePictures (later ++ units) (pictures_in decoded) → AreAllWhole decoded → Splits units decoded
unfolding ArePictures AreAllWhole
split_by [] units decoded is whole = record { more = []; last = decoded; all = refl; are = record { pictures = is; whole = whole } }
split_by (au ∷ later) units [] is whole = absurd is
split_by (au ∷ later) units (one ∷ decoded) is whole =
    let rest = split_by later units decoded is.0 whole.0 in
    record { more = one ∷ rest.more; last = rest.last; all = ap (λ (l : List Decoded). one ∷ l) rest.all; are = rest.are }

pub splits : (later units : List AccessUnit) (decoded : List Decoded) → AreDecoded (later ++ units) decoded → Splits units decoded
splits later units decoded are = split_by later units decoded are.pictures are.whole

-- The first of them is an accepted picture behind the others.
pub record IsHead (au : AccessUnit) (units : List AccessUnit) (decoded : List Decoded) : Type 0 where
  pub one : Decoded
  pub before : List Decoded
  pub all : decoded ≡ one ∷ before
  pub is : IsAcceptedPicture before au one
  pub are : AreDecoded units before

head_by : (au : AccessUnit) (units : List AccessUnit) (decoded : List Decoded) → ArePictures (au ∷ units) (pictures_in decoded) → AreAllWhole decoded → IsHead au units decoded
unfolding ArePictures AreAllWhole
head_by au units [] is whole = absurd is
head_by au units (one ∷ before) is whole = record {
  one = one;
  before = before;
  all = refl;
  is = record { picture = is.1; whole = whole.1 };
  are = record { pictures = is.0; whole = whole.0 };
}

pub head_of : (au : AccessUnit) (units : List AccessUnit) (decoded : List Decoded) → AreDecoded (au ∷ units) decoded → IsHead au units decoded
head_of au units decoded are = head_by au units decoded are.pictures are.whole
