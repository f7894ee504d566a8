-- What is read of a slice is what its construction and its filter ask for.
use Rattle.std.proofs.Common.{◌≡◌, ℕ, ◌+◌, ◌-◌, ◌<◌, ◌≤◌, List, ◌++◌, length, take, drop, get_or, replicate, Option, Some, None, inl, inr, sym, ap, ◌∙◌, subst, arith}
use Rattle.std.proofs.lemmas.Bool.{cases_lt}
use Rattle.std.proofs.lemmas.List.{get_or-append-add, get_or-drop, get_or-take, get_or_append_left, length-take-le}
use Rattle.std.proofs.Math.Seq.{drop-append_seam, take-append_seam}
use Rattle.cb_types.specs.AcceptedInfo.{IsAcceptedBySome}
use Rattle.cb_types.specs.SizeMbs.{IsWithinLimits, macroblocks}
use Rattle.cb_types.specs.declared.header.Header.{Header}
use Rattle.cb_types.specs.declared.macroblock.Macroblock.{Macroblock}
use Rattle.cb_types.specs.declared.mark.MbMark.{MbMark}
use Rattle.cb_types.specs.declared.picture_info.PictureInfo.{PictureInfo}
use Rattle.cb_types.specs.declared.size.SizeMbs.{SizeMbs}
use Rattle.deblock.specs.Marks.{IsMark}
use Rattle.motion.specs.Border.{mark_at, no_mark}
use Rattle.recon.specs.Conditions.{IsSlice}
use Rattle.recon.specs.Laws.{AreWhole, IsWholeMark, IsWholeTile}
use Rattle.recon.specs.Rebuilt.{AreRebuilt}
use Rattle.recon.specs.References.{ArePlaces}
use Rattle.recon.specs.Slice.{slice_of}
use Rattle.ref_lists.specs.ReferenceList.{reference_list}
use Rattle.vd_plane.specs.declared.picture.Picture.{Picture}
use Rattle.vd_plane.specs.declared.tile.Tile.{Tile}
use Rattle.decoder_render.specs.Coverage.{in_places}
use Rattle.decoder_render.specs.Parsed.{IsParsed}
use Rattle.decoder_render.specs.Slices.{bits_behind}
use Rattle.decoder_render.specs.declared.parsing.ParsedSlice.{ParsedSlice}
use Rattle.decoder_render.proofs.HeaderRanges.{taken_header, taken_header_range}
use Rattle.decoder_render.proofs.ListPlaces.{list_places}
use Rattle.decoder_render.proofs.MacroblockRanges.{macroblocks_range}
use Rattle.decoder_render.proofs.MarkRanges.{marks_range}

pub record IsInside (size : SizeMbs) (start : ℕ) (slice : ParsedSlice) : Type 0 where
  pub first : slice.header.first_mb ≡ start
  pub some : 1 ≤ slice.count
  pub end : start + slice.count ≤ macroblocks size

-- a slice has a macroblock at least, and none outside the picture
pub parsed_inside : (info : PictureInfo) (size : SizeMbs) (first : Option Header) (start : ℕ) (payload : List ℕ) (slice : ParsedSlice) (mbs : List Macroblock)
    → IsParsed info size first start payload slice mbs → IsInside size start slice
parsed_inside info size first start payload slice mbs parsed =
    let at = parsed.parse.fits.first_mb in
    let count = parsed.count in
    let some = parsed.parse.spelled.macroblocks.0 in
    let within = parsed.parse.spelled.macroblocks.1.within in
    record { first = at; some = omega (arith, count, some); end = omega (arith, at, count, some, within) }

parsed_places : (info : PictureInfo) (header : Header) (list entries : List (Option ℕ)) → length info.references ≡ 16 → reference_list info header ≡ Some list → entries ≡ in_places list → ArePlaces info entries
parsed_places info header list entries sixteen listed same =
    let front : take (length list) (in_places list) ≡ list = take-append_seam list (replicate (16 - length list) None) in
    let behind : drop (length list) (in_places list) ≡ replicate (16 - length list) None = drop-append_seam list (replicate (16 - length list) None) in
    subst (ArePlaces info) (sym same) (list_places info header (length list) (in_places list) sixteen (listed ∙ ap (λ (l : List (Option ℕ)). Some l) (sym front)) behind)

pub parsed_slice : (info : PictureInfo) (size : SizeMbs) (pictures : List (Option Picture)) (first : Option Header) (start : ℕ) (payload : List ℕ) (slice : ParsedSlice) (mbs : List Macroblock)
    → IsAcceptedBySome info → IsWithinLimits size → length info.references ≡ 16 → IsParsed info size first start payload slice mbs
    → IsSlice (slice_of info slice.header slice.list.entries pictures size mbs) slice.count
parsed_slice info size pictures first start payload slice mbs accepted limits sixteen parsed =
    let inside = parsed_inside info size first start payload slice mbs parsed in
    let spelled = parsed.parse.spelled in
    let header = taken_header slice.header.head info (bits_behind payload) slice.header spelled.rest accepted spelled.elements in
    let count : length mbs ≡ slice.count = parsed.count in
    record {
      info = accepted;
      header = taken_header_range slice.header.head info (bits_behind payload) slice.header spelled.rest accepted spelled.elements;
      size = limits;
      inside = omega (arith, inside.first, inside.end);
      list = parsed_places info slice.header parsed.list slice.list.entries sixteen parsed.parse.listed parsed.entries;
      each = λ number below. macroblocks_range info slice.header size spelled.rest mbs header.active spelled.macroblocks number (omega (arith, below, count));
    }

-- an element of a list of which a part was written
pub in_front : {A : Type 0} (xs part rest : List A) (start count k : ℕ) (d : A) → start ≤ length xs → k < start → get_or (take start xs ++ (part ++ rest)) k d ≡ get_or xs k d
in_front xs part rest start count k d room less =
    let long = length-take-le start xs room in
    get_or_append_left (take start xs) (part ++ rest) d k (omega (arith, less, long)) ∙ get_or-take start xs k d less

pub in_part : {A : Type 0} (xs part rest : List A) (start count k : ℕ) (d : A) → start ≤ length xs → length part ≡ count → start ≤ k → k < start + count
    → get_or (take start xs ++ (part ++ rest)) k d ≡ get_or part (k - start) d
in_part xs part rest start count k d room size le below =
    let long = length-take-le start xs room in
    let back : length (take start xs) + (k - start) ≡ k = omega (arith, le, long) in
    ap (λ n. get_or (take start xs ++ (part ++ rest)) n d) (sym back)
    ∙ (get_or-append-add (take start xs) (part ++ rest) (k - start) d ∙ get_or_append_left part rest d (k - start) (omega (arith, le, below, size)))

pub in_rest : {A : Type 0} (xs part rest : List A) (start count k : ℕ) (d : A) → start ≤ length xs → length part ≡ count → rest ≡ drop (start + count) xs → start + count ≤ k
    → get_or (take start xs ++ (part ++ rest)) k d ≡ get_or xs k d
in_rest xs part rest start count k d room size is le =
    let long = length-take-le start xs room in
    let one : length (take start xs) + (k - start) ≡ k = omega (arith, le, long) in
    let two : length part + (k - start - count) ≡ k - start = omega (arith, le, size) in
    let three : start + count + (k - start - count) ≡ k = omega (arith, le) in
    ap (λ n. get_or (take start xs ++ (part ++ rest)) n d) (sym one)
    ∙ (get_or-append-add (take start xs) (part ++ rest) (k - start) d
    ∙ (ap (λ n. get_or (part ++ rest) n d) (sym two)
    ∙ (get_or-append-add part rest (k - start - count) d
    ∙ (ap (λ s. get_or s (k - start - count) d) is
    ∙ (get_or-drop (start + count) xs (k - start - count) d
    ∙ ap (λ n. get_or xs n d) three)))))

-- what holds of each element holds of each where a part was written of which it holds
each_more : {A : Type 0} (P : A → Type 0) (xs part rest : List A) (start count k : ℕ) (d : A) → start ≤ length xs → length part ≡ count → rest ≡ drop (start + count) xs
    → ((j : ℕ) → j < count → P (get_or part j d)) → P (get_or xs k d) → P (get_or (take start xs ++ (part ++ rest)) k d)
each_more P xs part rest start count k d room size is here before = elim (cases_lt k start) [
  | inl less ↦ subst P (sym (in_front xs part rest start count k d room less)) before
  | inr le ↦ elim (cases_lt k (start + count)) [
    | inl below ↦ subst P (sym (in_part xs part rest start count k d room size le below)) (here (k - start) (omega (arith, le, below)))
    | inr past ↦ subst P (sym (in_rest xs part rest start count k d room size is past)) before
  ]
]

-- the whole marks and tiles of a picture, of which a part was written
pub whole_more : (marks part rest : List MbMark) (tiles part' rest' : List Tile) (start count end : ℕ) → start ≤ length marks → start ≤ length tiles → length part ≡ count → length part' ≡ count
    → rest ≡ drop (start + count) marks → rest' ≡ drop (start + count) tiles → AreWhole part part' count → AreWhole marks tiles end
    → AreWhole (take start marks ++ (part ++ rest)) (take start tiles ++ (part' ++ rest')) end
whole_more marks part rest tiles part' rest' start count end room room' of_part of_part' is_rest is_rest' here before = record {
  of_marks = λ k lt. each_more IsWholeMark marks part rest start count k _ room of_part is_rest here.of_marks (before.of_marks k lt);
  of_tiles = λ k lt. each_more IsWholeTile tiles part' rest' start count k _ room' of_part' is_rest' here.of_tiles (before.of_tiles k lt);
}

-- the marks of a picture, of which a slice's were written
pub marks_more : (info : PictureInfo) (size : SizeMbs) (pictures : List (Option Picture)) (first : Option Header) (start : ℕ) (payload : List ℕ) (slice : ParsedSlice) (mbs : List Macroblock)
    (marks part rest : List MbMark) (tiles : List Tile)
    → IsAcceptedBySome info → IsWithinLimits size → length info.references ≡ 16 → IsParsed info size first start payload slice mbs
    → start ≤ length marks → length part ≡ slice.count → AreWhole part tiles slice.count
    → AreRebuilt (slice_of info slice.header slice.list.entries pictures size mbs) part tiles slice.count
    → ((k : ℕ) → k < start → IsMark (mark_at marks k))
    → (k : ℕ) → k < start + slice.count → IsMark (mark_at (take start marks ++ (part ++ rest)) k)
marks_more info size pictures first start payload slice mbs marks part rest tiles accepted limits sixteen parsed room count whole rebuilt before k below =
    let is = parsed_slice info size pictures first start payload slice mbs accepted limits sixteen parsed in
    let spelled = parsed.parse.spelled in
    let header = taken_header slice.header.head info (bits_behind payload) slice.header spelled.rest accepted spelled.elements in
    elim (cases_lt k start) [
      | inl less ↦ subst IsMark (sym (in_front marks part rest start slice.count k no_mark room less)) (before k less)
      | inr le ↦ subst IsMark (sym (in_part marks part rest start slice.count k no_mark room count le below))
          (marks_range (slice_of info slice.header slice.list.entries pictures size mbs) part tiles slice.count is header.deblock_idc whole.of_marks rebuilt (k - start) (omega (arith, le, below)))
    ]
