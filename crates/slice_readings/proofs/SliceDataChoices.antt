-- The lists of macroblocks that the bits behind a slice header spell are few.
use Rattle.std.proofs.Common.{◌≡◌, ℕ, ◌+◌, ◌≤◌, Bool, true, List, [], ◌∷◌, length, arith}
use Rattle.std.specs.List.{All}
use Rattle.std.proofs.lemmas.List.Elements.{All-cons, All-nil}
use Rattle.bit_io.specs.Codewords.{ue}
use Rattle.cavlc.specs.Turns.{AreInTurn, state_behind}
use Rattle.cb_types.specs.declared.header.Header.{Header}
use Rattle.cb_types.specs.declared.macroblock.Macroblock.{Macroblock}
use Rattle.cb_types.specs.declared.picture_info.PictureInfo.{PictureInfo}
use Rattle.cb_types.specs.declared.size.SizeMbs.{SizeMbs}
use Rattle.finite.specs.Decided.{Decided}
use Rattle.finite.specs.Finite.{Finite}
use Rattle.finite.proofs.Deciding.{both, decided_as, either, implies, negated}
use Rattle.finite.proofs.Equal.{at_most, equal_bits, equal_booleans, equal_numbers}
use Rattle.finite.proofs.Lists.{lists_up_to}
use Rattle.finite.proofs.Sets.{joined, narrower, single}
use Rattle.mb_syntax.specs.MacroblockLayer.{place_before}
use Rattle.mb_syntax.specs.Slice.{slice_of}
use Rattle.mb_syntax.specs.SliceData.{AreSliceData, HasSpelling, IsOptionalRun, IsRest, SoFar, Spells, behind, bits_from, mb_behind, start}
use Rattle.mb_syntax.specs.declared.slice.Slice.{Slice}
use Rattle.slice_readings.proofs.MacroblockChoices.{IsFew, macroblocks_few, spelled_few, spelling_decided}
use Rattle.slice_readings.proofs.SpellingDecided.{few_in_turn}

-- ---- the last run

run_decided : (slice : Slice) (at : SoFar) (run : List Bool) → Decided (IsOptionalRun slice at run)
run_decided slice at run =
    decided_as (λ h. record { either = h.0; where_some = h.1 }) (λ h. (h.either, h.where_some))
    (both (either (equal_bits run []) (equal_bits run (ue 0)))
    (λ h. implies (negated (equal_bits run [])) (λ h. both (equal_booleans slice.is_p true) (λ h. equal_numbers at.run 0))))

runs_few : (slice : Slice) (at : SoFar) → Finite (IsOptionalRun slice at)
runs_few slice at = narrower (IsOptionalRun slice at) (joined (single {A = List Bool} []) (single (ue 0)))
    (λ run h. run_decided slice at run) (λ run h. h.either)

-- ---- macroblocks from there on

rest_decided : (slice : Slice) (at : SoFar) (bits : List Bool) (mbs : List Macroblock) → All (IsFew slice) mbs → Decided (IsRest slice at bits mbs)
rest_decided slice at bits mbs few = decided_as (λ h. record { within = h.0; each = h.1.0; last = h.1.1 }) (λ h. (h.within, (h.each, h.last)))
    (both (at_most (length at.before + length mbs) slice.left)
    (λ h. both (few_in_turn (IsFew slice) (HasSpelling slice) mb_behind at.before mbs few (spelling_decided slice))
    (λ h. (runs_few slice (state_behind (behind slice) at mbs)).find (λ run. bits ≡ bits_from slice at mbs run)
    (λ run h. equal_bits bits (bits_from slice at mbs run)))))

all_few : (slice : Slice) (before mbs : List Macroblock) → AreInTurn (HasSpelling slice) mb_behind before mbs → All (IsFew slice) mbs
unfolding AreInTurn
all_few slice before [] h = All-nil (IsFew slice)
all_few slice before (mb ∷ mbs) h = All-cons (IsFew slice) mb mbs (spelled_few slice before mb h.0) (all_few slice (mb_behind before mb) mbs h.1)

spelled_lists_few : (slice : Slice) (place : ℕ) (bits : List Bool) → Finite (λ (mbs : List Macroblock). Spells slice place mbs bits)
spelled_lists_few slice place bits = narrower (λ (mbs : List Macroblock). Spells slice place mbs bits)
    (lists_up_to (IsFew slice) (macroblocks_few slice) slice.left)
    (λ mbs few. both (at_most 1 (length mbs)) (λ h. rest_decided slice (start place) bits mbs few.1))
    (λ mbs h. ((let room : 0 + length mbs ≤ slice.left = h.1.within in omega arith), all_few slice [] mbs h.1.each))

pub slice_data_few : (info : PictureInfo) (header : Header) (size : SizeMbs) (bits : List Bool) → Finite (AreSliceData info header size bits)
slice_data_few info header size bits = spelled_lists_few (slice_of info header size) (place_before bits) bits
