-- The slices of the stream: what is drawn of them can be written.
use Rattle.std.proofs.Common.{◌≡◌, ℕ, ◌+◌, ◌<◌, ◌≤◌, List, [], ◌∷◌, ◌++◌, refl, subst, arith}
use Rattle.std.specs.List.{AllZip}
use Rattle.cb_types.specs.declared.header.Header.{Header}
use Rattle.cb_types.specs.declared.macroblock.Macroblock.{Macroblock}
use Rattle.mb_syntax.specs.Slice.{slice_of}
use Rattle.mb_syntax.specs.SliceData.{IsSliceData}
use Rattle.cb_maker.specs.Draws.{each_below}
use Rattle.cb_maker.specs.Macroblocks.{drawn_macroblock}
use Rattle.cb_maker.specs.Slices.{drawn_header, drawn_mbs, drawn_slice}
use Rattle.cb_maker.specs.declared.stream.TheConstants.{INFO, SIZE, SLICE_MBS}
use Rattle.cb_maker.proofs.Drawing.{after}
use Rattle.cb_maker.proofs.Giving.{AreAll, gives_all}
use Rattle.cb_maker.proofs.GivenHeaders.{IsGiven, IsOfSlice, gives_header}
use Rattle.cb_maker.proofs.GivenMacroblocks.{IsSpelled, all_in_turn, gives_macroblock}

pub header_given : (picture number x y : ℕ) (header : Header) (within : number < 3) → drawn_header picture number x ≡ (header, y) → IsOfSlice picture number within header
header_given picture number x y header within e = subst (λ (d : Header × ℕ). IsOfSlice picture number within d.0) e (gives_header picture number within x)

pub mbs_given : (header : Header) (mbs : List Macroblock) (x y : ℕ) → IsGiven header → header.first_mb ≤ 264 → drawn_mbs header x ≡ (mbs, y) → IsSliceData (slice_of INFO header SIZE) mbs
unfolding drawn_mbs
mbs_given header mbs x y given low e =
    let slice = slice_of INFO header SIZE in
    let are : AreAll (IsSpelled slice) SLICE_MBS (each_below SLICE_MBS (λ behind. drawn_macroblock slice (header.first_mb + behind)) x).0 =
    gives_all SLICE_MBS (λ behind. drawn_macroblock slice (header.first_mb + behind)) (IsSpelled slice) (λ behind. gives_macroblock slice (header.first_mb + behind) given.some) x in
    let here = subst (λ (d : List Macroblock × ℕ). AreAll (IsSpelled slice) SLICE_MBS d.0) e are in
    record { some = omega (arith, here.0); within = omega (arith, here.0, low); each = all_in_turn slice mbs here.1 }

pub slice_drawn : (picture number x y z : ℕ) (header : Header) (mbs : List Macroblock) → drawn_header picture number x ≡ (header, y) → drawn_mbs header y ≡ (mbs, z)
    → drawn_slice picture number x ≡ (record { header = header; mbs = mbs }, z)
unfolding drawn_slice
slice_drawn picture number x y z header mbs e f = after _ _ _ _ _ _ e (after _ _ _ _ _ _ f refl)

pub zip-push : {A B : Type 0} (R : A → B → Type 0) (xs : List A) (ys : List B) (x : A) (y : B) → AllZip R xs ys → R x y → AllZip R (xs ++ x ∷ []) (ys ++ y ∷ [])
zip-push R [] [] x y h r = (r, tt)
zip-push R [] (w ∷ ys) x y h r = absurd h
zip-push R (v ∷ xs) [] x y h r = absurd h
zip-push R (v ∷ xs) (w ∷ ys) x y h r = (h.0, zip-push R xs ys x y h.1 r)
