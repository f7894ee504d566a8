-- What a slice that is constructed adds to what is covered, and why one that stops is refused.
use Rattle.std.proofs.Common.{◌≡◌, ℕ, zero, suc, ◌+◌, ◌≤◌, List, ◌++◌, length, take, Option, Some, None, refl, sym, ap, ◌∙◌, subst}
use Rattle.std.specs.Prelude.{unwrap_or}
use Rattle.std.proofs.lemmas.List.{length-take-le}
use Rattle.std.proofs.Math.Seq.{take-append-add, take-append_seam}
use Rattle.cb_types.specs.AcceptedInfo.{IsAcceptedBySome}
use Rattle.cb_types.specs.SizeMbs.{IsWithinLimits}
use Rattle.cb_types.specs.declared.header.Header.{Header}
use Rattle.cb_types.specs.declared.macroblock.Macroblock.{Macroblock}
use Rattle.cb_types.specs.declared.mark.MbMark.{MbMark}
use Rattle.cb_types.specs.declared.picture_info.PictureInfo.{PictureInfo}
use Rattle.cb_types.specs.declared.size.SizeMbs.{SizeMbs}
use Rattle.recon.specs.Laws.{AreWhole}
use Rattle.recon.specs.Rebuilt.{AreRebuilt, StopsWithin}
use Rattle.recon.specs.Slice.{slice_of}
use Rattle.recon.proofs.StopLemmas.{stopped_has_none}
use Rattle.ref_lists.specs.ReferenceList.{reference_list}
use Rattle.slice_header.specs.AcceptedSlices.{IsAcceptedSlice}
use Rattle.vd_plane.specs.declared.picture.Picture.{Picture}
use Rattle.vd_plane.specs.declared.tile.Tile.{Tile}
use Rattle.decoder_render.specs.Coverage.{AreAccepted, Covered, Covers, Given, IsNextSlice, IsRefused, covered_with, given, in_places, slice_in}
use Rattle.decoder_render.specs.Parsed.{IsParsed, IsUnparsed, covered_by, first_header, slice_at, start_of}
use Rattle.decoder_render.specs.Submission.{payload_at}
use Rattle.decoder_render.specs.declared.parsing.ParsedSlice.{ParsedSlice}
use Rattle.slice_header.proofs.InfoRanges.{info_ranges}
use Rattle.decoder_render.proofs.SameSlice.{same_slice}

-- the list up to the end of a part that was written
pub written_front : {A : Type 0} (xs part rest : List A) (first count : ℕ) → first ≤ length xs → length part ≡ count → take (first + count) (take first xs ++ (part ++ rest)) ≡ take first xs ++ part
written_front xs part rest first count room size =
    let long = length-take-le first xs room in
    ap (λ n. take (n + count) (take first xs ++ (part ++ rest))) (sym long)
    ∙ (take-append-add (take first xs) (part ++ rest) count
    ∙ ap (λ s. take first xs ++ s) (ap (λ n. take n (part ++ rest)) (sym size) ∙ take-append_seam part rest))

-- the list in front of it
pub kept_front : {A : Type 0} (xs part rest : List A) (first : ℕ) → first ≤ length xs → take first (take first xs ++ (part ++ rest)) ≡ take first xs
kept_front xs part rest first room =
    let long = length-take-le first xs room in
    ap (λ n. take n (take first xs ++ (part ++ rest))) (sym long) ∙ take-append_seam (take first xs) (part ++ rest)

header_next : (slices : List ParsedSlice) (n : ℕ) → first_header slices (suc n) ≡ Some (unwrap_or (first_header slices n) (slice_at slices n).header)
header_next slices zero = refl
header_next slices (suc n) = refl

covered_made : Option Header → List MbMark → List Tile → Covered
covered_made first marks tiles = record { first = first; marks = marks; tiles = tiles }

covered_fields : (f f' : Option Header) (m m' : List MbMark) (t t' : List Tile) → f ≡ f' → m ≡ m' → t ≡ t' → covered_made f m t ≡ covered_made f' m' t'
covered_fields f f' m m' t t' e g h = cc

-- what is covered by the first slices looks at the marks and tiles in front alone
pub covered_same : (slices : List ParsedSlice) (marks marks' : List MbMark) (tiles tiles' : List Tile) (n : ℕ) → take (start_of slices n) marks' ≡ take (start_of slices n) marks
    → take (start_of slices n) tiles' ≡ take (start_of slices n) tiles → covered_by slices marks' tiles' n ≡ covered_by slices marks tiles n
unfolding covered_made
covered_same slices marks marks' tiles tiles' n of_marks of_tiles = covered_fields _ _ _ _ _ _ refl of_marks of_tiles

-- one more slice is constructed
pub one_more : (info : PictureInfo) (size : SizeMbs) (pictures : List (Option Picture)) (units : List (Option (List ℕ))) (slices : List ParsedSlice) (n : ℕ) (payload : List ℕ) (mbs : List Macroblock)
    (marks part_marks rest_marks : List MbMark) (tiles part_tiles rest_tiles : List Tile)
    → payload_at units n ≡ Some payload
    → IsParsed info size (first_header slices n) (start_of slices n) payload (slice_at slices n) mbs
    → start_of slices n ≤ length marks → start_of slices n ≤ length tiles
    → length part_marks ≡ (slice_at slices n).count → length part_tiles ≡ (slice_at slices n).count
    → AreWhole part_marks part_tiles (slice_at slices n).count
    → AreRebuilt (slice_of info (slice_at slices n).header (slice_at slices n).list.entries pictures size mbs) part_marks part_tiles (slice_at slices n).count
    → AreAccepted (given info size pictures) units n (covered_by slices marks tiles n)
    → AreAccepted (given info size pictures) units (suc n)
    (covered_by slices (take (start_of slices n) marks ++ (part_marks ++ rest_marks)) (take (start_of slices n) tiles ++ (part_tiles ++ rest_tiles)) (suc n))
unfolding AreAccepted start_of covered_made
one_more info size pictures units slices n payload mbs marks pm rm tiles pt rt unit parsed room room' of_marks of_tiles whole rebuilt before =
    let g : Given = given info size pictures in
    let slice : ParsedSlice = slice_at slices n in
    let header : Header = slice.header in
    let covered : Covered = covered_by slices marks tiles n in
    let long : length covered.tiles ≡ start_of slices n = length-take-le (start_of slices n) tiles room' in
    let count = parsed.count in
    let next : IsNextSlice g covered payload header parsed.list mbs pm pt = record {
      spelled = parsed.parse.spelled;
      fits = subst (λ (k : ℕ). IsAcceptedSlice info (unwrap_or covered.first header) k header) (sym long) parsed.parse.fits;
      listed = parsed.parse.listed;
      of_marks = of_marks ∙ sym count;
      of_tiles = of_tiles ∙ sym count;
      whole = subst (λ (k : ℕ). AreWhole pm pt k) (sym count) whole;
      rebuilt = subst (λ (k : ℕ). AreRebuilt (slice_in g header parsed.list mbs) pm pt k) (sym count)
          (subst (λ (entries : List (Option ℕ)). AreRebuilt (slice_of info header entries pictures size mbs) pm pt slice.count) parsed.entries rebuilt);
    } in
    let after : Covered = covered_by slices (take (start_of slices n) marks ++ (pm ++ rm)) (take (start_of slices n) tiles ++ (pt ++ rt)) (suc n) in
    let behind : after ≡ covered_with covered header pm pt =
    covered_fields _ _ _ _ _ _ (header_next slices n) (written_front marks pm rm (start_of slices n) slice.count room of_marks) (written_front tiles pt rt (start_of slices n) slice.count room' of_tiles) in
    let covers : Covers g covered (Some payload) after = record { header = header; list = parsed.list; mbs = mbs; marks = pm; tiles = pt; slice = next; behind = behind } in
    (covered, before, subst (λ (u : Option (List ℕ)). Covers g covered u after) (sym unit) covers)

some_same : {A : Type 0} (a b : A) → Some a ≡ Some b → a ≡ b
some_same a b e = cc

-- one slice can't be constructed
pub is_refused : (info : PictureInfo) (size : SizeMbs) (pictures : List (Option Picture)) (first : Option Header) (start : ℕ) (unit : Option (List ℕ)) (payload : List ℕ) (slice : ParsedSlice) (mbs : List Macroblock)
    (covered : Covered) (marks : List MbMark) (tiles : List Tile) → IsAcceptedBySome info → IsWithinLimits size
    → unit ≡ Some payload
    → IsParsed info size first start payload slice mbs
    → AreWhole marks tiles slice.count
    → StopsWithin (slice_of info slice.header slice.list.entries pictures size mbs) marks tiles slice.count
    → IsRefused (given info size pictures) covered unit
is_refused info size pictures first start unit payload slice mbs covered marks tiles accepted limits same parsed whole stops after covers =
    let g : Given = given info size pictures in
    let here : Covers g covered (Some payload) after = subst (λ (u : Option (List ℕ)). Covers g covered u after) same covers in
    let same_one = same_slice info size payload here.header slice.header here.mbs mbs (info_ranges info accepted) limits here.slice.spelled parsed.parse.spelled in
    let lists : Some here.list ≡ Some parsed.list = sym here.slice.listed ∙ (ap (λ (h : Header). reference_list info h) same_one.of_header ∙ parsed.parse.listed) in
    let list : here.list ≡ parsed.list = some_same _ _ lists in
    let entries : in_places here.list ≡ slice.list.entries = ap in_places list ∙ sym parsed.entries in
    let are = subst (λ (h : Header). AreRebuilt (slice_of info h (in_places here.list) pictures size here.mbs) here.marks here.tiles (length here.mbs)) same_one.of_header here.slice.rebuilt in
    let are' = subst (λ (e : List (Option ℕ)). AreRebuilt (slice_of info slice.header e pictures size here.mbs) here.marks here.tiles (length here.mbs)) entries are in
    let are'' = subst (λ (m : List Macroblock). AreRebuilt (slice_of info slice.header slice.list.entries pictures size m) here.marks here.tiles (length m)) same_one.of_macroblocks are' in
    let count : length mbs ≡ slice.count = parsed.count in
    let wide = limits.some_column in
    let other = subst (λ (m : List Macroblock). AreWhole here.marks here.tiles (length m)) same_one.of_macroblocks here.slice.whole in
    stopped_has_none (slice_of info slice.header slice.list.entries pictures size mbs) slice.count marks here.marks tiles here.tiles wide whole
    (subst (λ (k : ℕ). AreWhole here.marks here.tiles k) count other) stops
    (subst (λ (k : ℕ). AreRebuilt (slice_of info slice.header slice.list.entries pictures size mbs) here.marks here.tiles k) count are'')

-- a unit without a slice is refused
pub unparsed_refused : (info : PictureInfo) (size : SizeMbs) (pictures : List (Option Picture)) (first : Option Header) (start : ℕ) (unit : Option (List ℕ)) (covered : Covered)
    → covered.first ≡ first → length covered.tiles ≡ start → IsUnparsed info size first start unit → IsRefused (given info size pictures) covered unit
unparsed_refused info size pictures first start None covered same long none after covers = covers
unparsed_refused info size pictures first start (Some payload) covered same long none after covers =
    let a = subst (λ (f : Option Header). IsAcceptedSlice info (unwrap_or f covers.header) (length covered.tiles) covers.header) same covers.slice.fits in
    let b = subst (λ (k : ℕ). IsAcceptedSlice info (unwrap_or first covers.header) k covers.header) long a in
    none covers.header covers.list covers.mbs (record { spelled = covers.slice.spelled; fits = b; listed = covers.slice.listed })
