-- What a payload spells, from what was read of it.
use Rattle.std.proofs.Common.{◌≡◌, ℕ, ◌-◌, ◌≤◌, Bool, List, ◌++◌, length, take, drop, replicate, Option, Some, None, sym, ap, ◌∙◌, subst, arith}
use Rattle.std.specs.Prelude.{unwrap_or}
use Rattle.std.proofs.lemmas.List.{length-take-le, take-append-drop, take_rest}
use Rattle.bit_io.specs.Bits.{bits_of}
use Rattle.cb_types.specs.declared.header.Header.{Header}
use Rattle.cb_types.specs.declared.header.UnitHead.{UnitHead}
use Rattle.cb_types.specs.declared.macroblock.Macroblock.{Macroblock}
use Rattle.cb_types.specs.declared.picture_info.PictureInfo.{PictureInfo}
use Rattle.cb_types.specs.declared.size.SizeMbs.{SizeMbs}
use Rattle.element_tables.specs.Syntax.{Takes}
use Rattle.element_tables.proofs.Unique.{takes_same}
use Rattle.mb_syntax.specs.SliceData.{AreSliceData}
use Rattle.ref_lists.specs.ReferenceList.{reference_list}
use Rattle.slice_header.specs.AcceptedSlices.{IsAcceptedSlice}
use Rattle.slice_header.specs.Headers.{BeginsNoHeader}
use Rattle.slice_header.specs.Spelling.{slice_header}
use Rattle.decoder_render.specs.Coverage.{in_places}
use Rattle.decoder_render.specs.Parsed.{CanParse, IsUnparsed}
use Rattle.decoder_render.specs.Slices.{IsFirstByte, SpellsSlice, bits_behind}
use Rattle.decoder_render.proofs.SameSlice.{same_head}

pub no_head : (info : PictureInfo) (size : SizeMbs) (first : Option Header) (covered : ℕ) (payload : List ℕ)
    → ((head : UnitHead) → IsFirstByte payload head → ⊥) → IsUnparsed info size first covered (Some payload)
no_head info size first covered payload none = λ header list mbs can. none header.head can.spelled.first

elements_at : (info : PictureInfo) (size : SizeMbs) (payload : List ℕ) (head : UnitHead) (other : Header) (mbs : List Macroblock)
    → IsFirstByte payload head → (spelled : SpellsSlice info size payload other mbs) → Takes (slice_header head info) (bits_behind payload) other spelled.rest
elements_at info size payload head other mbs first spelled =
    subst (λ (h : UnitHead). Takes (slice_header h info) (bits_behind payload) other spelled.rest) (same_head payload other.head head spelled.first first) spelled.elements

pub no_header : (info : PictureInfo) (size : SizeMbs) (first : Option Header) (covered : ℕ) (payload : List ℕ) (head : UnitHead) (bits : List Bool) → bits ≡ bits_behind payload
    → IsFirstByte payload head → BeginsNoHeader head info bits → IsUnparsed info size first covered (Some payload)
no_header info size first covered payload head bits same is none = λ header list mbs can.
    none header can.spelled.rest (subst (λ (b : List Bool). Takes (slice_header head info) b header can.spelled.rest) (sym same) (elements_at info size payload head header mbs is can.spelled))

some_or_none : (list : List (Option ℕ)) (found : Option (List (Option ℕ))) → found ≡ None → found ≡ Some list → ⊥
some_or_none list found none some = absurd cc

-- all bits behind the first byte
pub all_behind : (payload : List ℕ) → bits_of (take (length payload - 1) (drop 1 payload)) ≡ bits_behind payload
all_behind payload = ap bits_of (take_rest payload 1)

-- What else is to hold of a header and the bits behind it, once they are read.
pub record GoesOn (info : PictureInfo) (size : SizeMbs) (first : Option Header) (covered : ℕ) (header : Header) (rest : List Bool) (list : List (Option ℕ)) (mbs : List Macroblock) : Type 0 where
  pub fits : IsAcceptedSlice info (unwrap_or first header) covered header
  pub listed : reference_list info header ≡ Some list
  pub macroblocks : AreSliceData info header size rest mbs

module _ (info : PictureInfo) (size : SizeMbs) (first : Option Header) (covered : ℕ) (payload : List ℕ) (head : UnitHead) (header : Header) (bits rest : List Bool)
    (behind : bits ≡ bits_behind payload) (is : IsFirstByte payload head) (elements : Takes (slice_header head info) bits header rest) where
  pub goes_on : (other : Header) (list : List (Option ℕ)) (mbs : List Macroblock) → CanParse info size first covered payload other list mbs → GoesOn info size first covered header rest list mbs
  goes_on other list mbs can =
      let here = subst (λ (b : List Bool). Takes (slice_header head info) b header rest) behind elements in
      let same = takes_same (slice_header head info) (bits_behind payload) can.spelled.rest rest other header (elements_at info size payload head other mbs is can.spelled) here in
      let found : GoesOn info size first covered other can.spelled.rest list mbs = record { fits = can.fits; listed = can.listed; macroblocks = can.spelled.macroblocks } in
      let moved = subst (λ (h : Header). GoesOn info size first covered h can.spelled.rest list mbs) same.0 found in
      subst (λ (b : List Bool). GoesOn info size first covered header b list mbs) same.1 moved

  pub not_fitting : (IsAcceptedSlice info (unwrap_or first header) covered header → ⊥) → IsUnparsed info size first covered (Some payload)
  not_fitting not = λ other list mbs can. not (goes_on other list mbs can).fits

  pub no_list : reference_list info header ≡ None → IsUnparsed info size first covered (Some payload)
  no_list none = λ other list mbs can. let listed = (goes_on other list mbs can).listed in absurd (some_or_none list (reference_list info header) none listed)

  pub no_data : ((mbs : List Macroblock) → AreSliceData info header size rest mbs → ⊥) → IsUnparsed info size first covered (Some payload)
  no_data none = λ other list mbs can. none mbs (goes_on other list mbs can).macroblocks

  pub can_parse : (list : List (Option ℕ)) (mbs : List Macroblock) → header.head ≡ head
      → IsAcceptedSlice info (unwrap_or first header) covered header → reference_list info header ≡ Some list → AreSliceData info header size rest mbs
      → CanParse info size first covered payload header list mbs
  can_parse list mbs same fits listed macroblocks =
      let here = subst (λ (b : List Bool). Takes (slice_header head info) b header rest) behind elements in
      record {
        spelled = record {
          first = subst (λ (h : UnitHead). IsFirstByte payload h) (sym same) is;
          rest = rest;
          elements = subst (λ (h : UnitHead). Takes (slice_header h info) (bits_behind payload) header rest) (sym same) here;
          macroblocks = macroblocks;
        };
        fits = fits;
        listed = listed;
      }

-- entries behind which there are none
pub placed : (entries : List (Option ℕ)) (count : ℕ) → length entries ≡ 16 → count ≤ 16 → drop count entries ≡ replicate (16 - count) None → entries ≡ in_places (take count entries)
placed entries count sixteen few behind =
    let size : length (take count entries) ≡ count = length-take-le count entries (omega (arith, sixteen, few)) in
    sym (ap (λ (n : ℕ). take count entries ++ replicate (16 - n) None) size ∙ (ap (λ (xs : List (Option ℕ)). take count entries ++ xs) (sym behind) ∙ take-append-drop count entries))
