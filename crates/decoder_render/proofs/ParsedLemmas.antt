-- Slices that are read one behind the other: what stands of the earlier ones when the next is written.
use Rattle.std.proofs.Common.{◌≡◌, ℕ, zero, suc, ◌+◌, ◌<◌, ◌≤◌, List, [], ◌∷◌, length, take, drop, get_or, set, Option, Some, None, inl, inr, refl, sym, ap, ◌∙◌, subst, arith}
use Rattle.std.proofs.lemmas.Bool.{cases_lt, false≢true}
use Rattle.std.proofs.lemmas.List.{drop-take, get_or-map, get_or-set_other, get_or-set_same, take-take}
use Rattle.std.specs.Prelude.{IfSome, IsTrue, Vec, is_some, option_map}
use Rattle.std.specs.declared.alloc.Global.{Global}
use Rattle.cb_types.specs.declared.header.Header.{Header}
use Rattle.cb_types.specs.declared.macroblock.Macroblock.{Macroblock}
use Rattle.cb_types.specs.declared.picture_info.PictureInfo.{PictureInfo}
use Rattle.cb_types.specs.declared.size.SizeMbs.{SizeMbs}
use Rattle.decoder_render.specs.Parsed.{AreParsed, IsParsed, IsParsedUnit, IsUnparsed, first_header, header_in, no_slice, slice_at, start_of}
use Rattle.decoder_render.specs.Submission.{bytes_of, payload_at}
use Rattle.decoder_render.specs.declared.parsing.ParsedSlice.{ParsedSlice}

-- a slice ends before the next ones begin
pub starts_rise : (slices : List ParsedSlice) (n k : ℕ) → n < k → start_of slices n + (slice_at slices n).count ≤ start_of slices k
unfolding start_of
starts_rise slices n zero lt = absurd (omega arith)
starts_rise slices n (suc k) lt = elim (cases_lt n k) [
  | inl less ↦ let before = starts_rise slices n k less in omega (arith, before)
  | inr le ↦ let same : n ≡ k = omega arith in subst (λ j. start_of slices n + (slice_at slices n).count ≤ start_of slices j + (slice_at slices j).count) same (omega arith)
]

-- a part of a list in front of what changes
pub part_kept : {A : Type 0} (xs ys : List A) (end first count : ℕ) → take end xs ≡ take end ys → first + count ≤ end → take count (drop first xs) ≡ take count (drop first ys)
part_kept xs ys end first count same within =
    let a : take count (drop first xs) ≡ drop first (take (first + count) xs) = sym (drop-take first count xs) in
    let b : take (first + count) xs ≡ take (first + count) ys = sym (take-take (first + count) end xs within) ∙ (ap (take (first + count)) same ∙ take-take (first + count) end ys within) in
    a ∙ (ap (drop first) b ∙ drop-take first count ys)

-- what is read, from what is the same
moved : (info : PictureInfo) (size : SizeMbs) (payload : List ℕ) (first first' : Option Header) (start start' : ℕ) (slice slice' : ParsedSlice) (old new : List Macroblock)
    → first ≡ first' → start ≡ start' → slice ≡ slice' → take slice.count (drop start old) ≡ take slice.count (drop start new)
    → IsParsed info size first start payload slice (take slice.count (drop start old)) → IsParsed info size first' start' payload slice' (take slice'.count (drop start' new))
moved info size payload first first' start start' slice slice' old new e f g h is =
    let a = subst (λ (m : List Macroblock). IsParsed info size first start payload slice m) h is in
    let b = subst (λ (x : Option Header). IsParsed info size x start payload slice (take slice.count (drop start new))) e a in
    let d = subst (λ (x : ℕ). IsParsed info size first' x payload slice (take slice.count (drop x new))) f b in
    subst (λ (x : ParsedSlice). IsParsed info size first' start' payload x (take x.count (drop start' new))) g d

-- earlier slices stay

slice_kept : (slices : List ParsedSlice) (n k : ℕ) (slice : ParsedSlice) → n < k → slice_at (set slices k slice) n ≡ slice_at slices n
slice_kept slices n k slice lt = get_or-set_other slices k n slice no_slice (λ e. omega arith)

starts_kept : (slices : List ParsedSlice) (n k : ℕ) (slice : ParsedSlice) → n ≤ k → start_of (set slices k slice) n ≡ start_of slices n
unfolding start_of
starts_kept slices zero k slice le = refl
starts_kept slices (suc n) k slice le =
    let before = starts_kept slices n k slice (omega arith) in
    let count = ap (λ (s : ParsedSlice). s.count) (slice_kept slices n k slice (omega arith)) in
    omega (arith, before, count)

header_kept : (slices : List ParsedSlice) (n k : ℕ) (slice : ParsedSlice) → n ≤ k → first_header (set slices k slice) n ≡ first_header slices n
header_kept slices zero k slice le = refl
header_kept slices (suc n) k slice le = ap (λ (s : ParsedSlice). Some s.header) (slice_kept slices 0 k slice (omega arith))

-- the first header of those in front
pub header_before : (slices : List ParsedSlice) (n : ℕ) → n ≤ length slices → header_in (take n slices) ≡ first_header slices n
header_before slices zero le = refl
header_before [] (suc n) le = absurd (omega arith)
header_before (slice ∷ slices) (suc n) le = refl

-- the payload of a unit that is kept
pub unit_at : (units : List (Option (Vec ℕ Global))) (k : ℕ) (unit : Option (Vec ℕ Global)) → k < length units → unit ≡ get_or units k unit
    → payload_at (bytes_of units) k ≡ option_map (λ (bytes : Vec ℕ Global). bytes.items) unit
unit_at units k unit below is =
    let items : Option (Vec ℕ Global) → Option (List ℕ) = λ u. option_map (λ (bytes : Vec ℕ Global). bytes.items) u in
    get_or-map items units k unit None below ∙ ap items (sym is)

pub none_parsed : (info : PictureInfo) (size : SizeMbs) (units : List (Option (List ℕ))) (slices : List ParsedSlice) (macroblocks : List Macroblock) → AreParsed info size units slices macroblocks 0
none_parsed info size units slices macroblocks = λ n lt. absurd (omega (arith, lt))

-- nothing is covered before the first slice
pub starts_at_none : (slices : List ParsedSlice) → start_of slices 0 ≡ 0
unfolding start_of
starts_at_none slices = refl

-- where the slice behind a written one starts
pub start_behind : (slices : List ParsedSlice) (k : ℕ) (slice : ParsedSlice) → k < length slices → start_of (set slices k slice) (k + 1) ≡ start_of slices k + slice.count
unfolding start_of
start_behind slices k slice room =
    let written : slice_at (set slices k slice) k ≡ slice = get_or-set_same slices k slice no_slice room in
    let same = starts_kept slices k k slice (omega arith) in
    let next : start_of (set slices k slice) (suc k) ≡ start_of slices k + slice.count = ap (λ (n : ℕ). n + (slice_at (set slices k slice) k).count) same ∙ ap (λ (s : ParsedSlice). start_of slices k + s.count) written in
    let e : k + 1 ≡ suc k = omega arith in
    ap (start_of (set slices k slice)) e ∙ next

-- the slice of number k is read: it is written, and so are its macroblocks behind those that are covered
pub parsed_more : (info : PictureInfo) (size : SizeMbs) (units : List (Option (List ℕ))) (slices : List ParsedSlice) (old new : List Macroblock) (k : ℕ) (payload : List ℕ) (slice : ParsedSlice)
    → k < length slices → payload_at units k ≡ Some payload
    → take (start_of slices k) new ≡ take (start_of slices k) old
    → IsParsed info size (first_header slices k) (start_of slices k) payload slice (take slice.count (drop (start_of slices k) new))
    → AreParsed info size units slices old k → AreParsed info size units (set slices k slice) new (k + 1)
parsed_more info size units slices old new k payload slice room unit same is before n lt = elim (cases_lt n k) [
  | inl less ↦
      let was = before n less in
      let here = slice_kept slices n k slice less in
      let start = starts_kept slices n k slice (omega arith) in
      let rise = starts_rise slices n k less in
      let part : take (slice_at slices n).count (drop (start_of slices n) old) ≡ take (slice_at slices n).count (drop (start_of slices n) new) =
      part_kept old new (start_of slices k) (start_of slices n) (slice_at slices n).count (sym same) rise in
      record {
        payload = was.payload;
        unit = was.unit;
        parsed = moved info size was.payload (first_header slices n) (first_header (set slices k slice) n) (start_of slices n) (start_of (set slices k slice) n)
            (slice_at slices n) (slice_at (set slices k slice) n) old new (sym (header_kept slices n k slice (omega arith))) (sym start) (sym here) part was.parsed;
      }
  | inr le ↦
      let at : k ≡ n = omega arith in
      subst (λ (j : ℕ). IsParsedUnit info size units (set slices k slice) new j) at
      (record {
        payload = payload;
        unit = unit;
        parsed = moved info size payload (first_header slices k) (first_header (set slices k slice) k) (start_of slices k) (start_of (set slices k slice) k)
            slice (slice_at (set slices k slice) k) new new (sym (header_kept slices k k slice (omega arith))) (sym (starts_kept slices k k slice (omega arith)))
            (sym (get_or-set_same slices k slice no_slice room)) refl is;
      })
]

-- They stay read where macroblocks behind those that they cover change.
pub parsed_kept : (info : PictureInfo) (size : SizeMbs) (units : List (Option (List ℕ))) (slices : List ParsedSlice) (old new : List Macroblock) (k : ℕ)
    → take (start_of slices k) new ≡ take (start_of slices k) old → AreParsed info size units slices old k → AreParsed info size units slices new k
parsed_kept info size units slices old new k same before n lt =
    let was = before n lt in
    let part : take (slice_at slices n).count (drop (start_of slices n) old) ≡ take (slice_at slices n).count (drop (start_of slices n) new) =
    part_kept old new (start_of slices k) (start_of slices n) (slice_at slices n).count (sym same) (starts_rise slices n k lt) in
    record {
      payload = was.payload;
      unit = was.unit;
      parsed = subst (λ (mbs : List Macroblock). IsParsed info size (first_header slices n) (start_of slices n) was.payload (slice_at slices n) mbs) part was.parsed;
    }

-- What the reading of the unit of number k says of the slices.
module _ (info : PictureInfo) (size : SizeMbs) (units : List (Option (Vec ℕ Global))) (slices : List ParsedSlice) (k covered : ℕ)
    (below : k < length units) (start : covered ≡ start_of slices k) where
  pub kept_behind : (old new : List Macroblock) → take covered new ≡ take covered old → AreParsed info size (bytes_of units) slices old k → AreParsed info size (bytes_of units) slices new k
  kept_behind old new same before =
      parsed_kept info size (bytes_of units) slices old new k (subst (λ (n : ℕ). take n new ≡ take n old) start same) before

  pub more_behind : (unit : Option (Vec ℕ Global)) (old new : List Macroblock) (slice : ParsedSlice) → k < length slices → unit ≡ get_or units k unit
      → take covered new ≡ take covered old → IsTrue (is_some unit)
      → IfSome unit (λ (bytes : Vec ℕ Global). IsParsed info size (header_in (take k slices)) covered bytes.items slice (take slice.count (drop covered new)))
      → AreParsed info size (bytes_of units) slices old k → AreParsed info size (bytes_of units) (set slices k slice) new (k + 1)
  more_behind None old new slice room at same some read before = absurd (false≢true some)
  more_behind (Some bytes) old new slice room at same some read before =
      let here = subst (λ (x : Option Header). IsParsed info size x covered bytes.items slice (take slice.count (drop covered new))) (header_before slices k (omega (arith, room))) read in
      parsed_more info size (bytes_of units) slices old new k bytes.items slice room (unit_at units k (Some bytes) below at) (subst (λ (n : ℕ). take n new ≡ take n old) start same)
      (subst (λ (n : ℕ). IsParsed info size (first_header slices k) n bytes.items slice (take slice.count (drop n new))) start here) before

  pub none_behind : (unit : Option (Vec ℕ Global)) → k ≤ length slices → unit ≡ get_or units k unit
      → IsUnparsed info size (header_in (take k slices)) covered (option_map (λ (bytes : Vec ℕ Global). bytes.items) unit)
      → IsUnparsed info size (first_header slices k) covered (payload_at (bytes_of units) k)
  none_behind unit room at none =
      let here = subst (λ (x : Option Header). IsUnparsed info size x covered (option_map (λ (bytes : Vec ℕ Global). bytes.items) unit)) (header_before slices k room) none in
      subst (λ (x : Option (List ℕ)). IsUnparsed info size (first_header slices k) covered x) (sym (unit_at units k unit below at)) here
