-- A picture's units have one outcome at most, and one picture.
use Rattle.std.proofs.Common.{◌≡◌, ℕ, ◌<◌, inl, inr, List, length, Option, refl, ap, subst, arith}
use Rattle.std.proofs.lemmas.Bool.{cases_lt}
use Rattle.cb_types.specs.AcceptedInfo.{IsAcceptedBySome}
use Rattle.cb_types.specs.SizeMbs.{IsWithinLimits}
use Rattle.slice_header.specs.Conditions.{HasRanges}
use Rattle.slice_header.proofs.InfoRanges.{info_ranges}
use Rattle.vd_plane.specs.Picture.{SameSamples}
use Rattle.vd_plane.specs.declared.picture.Picture.{Picture}
use Rattle.decoder_render.specs.Coverage.{AreAccepted, Covered, Given}
use Rattle.decoder_render.specs.Outcomes.{IsDecoded, IsFault, IsOutcome, IsWhole, Lacks}
use Rattle.decoder_render.specs.declared.outcome.Outcome.{Outcome}
use Rattle.decoder_render.specs.declared.outcome.Outcome.TheVariants as outcome
use Rattle.decoder_render.proofs.OneCovered.{accepted_one, refused_within}
use Rattle.decoder_render.proofs.OnePicture.{picture_one}

module _ (g : Given) (units : List (Option (List ℕ))) (ranges : HasRanges g.info) (limits : IsWithinLimits g.size) where
  -- where all units are accepted, none is at fault
  no_fault : (number : ℕ) (covered : Covered) → IsFault g units number → AreAccepted g units (length units) covered → ⊥
  no_fault number covered fault all = refused_within g units number (length units) fault.covered covered ranges limits fault.before fault.refused fault.within all

  fault_not_before : (a b : ℕ) → IsFault g units a → IsFault g units b → a < b → ⊥
  fault_not_before a b is also less = refused_within g units a b is.covered also.covered ranges limits is.before is.refused less also.before

  fault_one : (a b : ℕ) → IsFault g units a → IsFault g units b → a ≡ b
  fault_one a b is also = elim (cases_lt a b) [
    | inl less ↦ absurd (fault_not_before a b is also less)
    | inr no_less ↦ elim (cases_lt b a) [
      | inl less ↦ absurd (fault_not_before b a also is less)
      | inr le ↦ omega arith
    ]
  ]

  -- all units cover so many macroblocks
  covered_one : (a b : Covered) → AreAccepted g units (length units) a → AreAccepted g units (length units) b → length a.tiles ≡ length b.tiles
  covered_one a b is also = ap (λ (c : Covered). length c.tiles) (accepted_one g units (length units) a b ranges limits is also)

  not_whole : (missing : ℕ) (picture : Picture) → Lacks g units missing → IsWhole g units picture → ⊥
  not_whole missing picture lacks whole =
      let same = covered_one lacks.covered whole.covered lacks.accepted whole.accepted in
      let some = lacks.some in
      let count = lacks.count in
      let all = whole.all in
      omega (arith, same, some, count, all)

  missing_one : (a b : ℕ) → Lacks g units a → Lacks g units b → a ≡ b
  missing_one a b is also =
      let same = covered_one is.covered also.covered is.accepted also.accepted in
      let count = is.count in
      let count' = also.count in
      omega (arith, same, count, count')

  outcome_by : (a b : Outcome) (p q : Picture) → IsOutcome g units a p → IsOutcome g units b q → a ≡ b
  outcome_by outcome.Ok outcome.Ok p q is also = refl
  outcome_by outcome.Ok (outcome.Bitstream slice) p q is also = absurd (no_fault slice is.covered also is.accepted)
  outcome_by outcome.Ok (outcome.Incomplete missing) p q is also = absurd (not_whole missing p also is)
  outcome_by (outcome.Bitstream slice) outcome.Ok p q is also = absurd (no_fault slice also.covered is also.accepted)
  outcome_by (outcome.Bitstream slice) (outcome.Bitstream other) p q is also = ap outcome.Bitstream (fault_one slice other is also)
  outcome_by (outcome.Bitstream slice) (outcome.Incomplete missing) p q is also = absurd (no_fault slice also.covered is also.accepted)
  outcome_by (outcome.Incomplete missing) outcome.Ok p q is also = absurd (not_whole missing q is also)
  outcome_by (outcome.Incomplete missing) (outcome.Bitstream slice) p q is also = absurd (no_fault slice is.covered also is.accepted)
  outcome_by (outcome.Incomplete missing) (outcome.Incomplete other) p q is also = ap outcome.Incomplete (missing_one missing other is also)

  -- its info in its ranges suffices
  pub whole_by : (p q : Picture) → IsWhole g units p → IsWhole g units q → SameSamples p q
  whole_by p q is also =
      let same = accepted_one g units (length units) is.covered also.covered ranges limits is.accepted also.accepted in
      picture_one g also.covered p q (subst (λ (c : Covered). IsDecoded g c p) same is.decoded) also.decoded

pub outcome_one : (g : Given) (units : List (Option (List ℕ))) → IsAcceptedBySome g.info → IsWithinLimits g.size → (a b : Outcome) (p q : Picture) → IsOutcome g units a p → IsOutcome g units b q → a ≡ b
outcome_one g units accepted limits = outcome_by g units (info_ranges g.info accepted) limits

pub whole_one : (g : Given) (units : List (Option (List ℕ))) → IsAcceptedBySome g.info → IsWithinLimits g.size → (p q : Picture) → IsWhole g units p → IsWhole g units q → SameSamples p q
whole_one g units accepted limits = whole_by g units (info_ranges g.info accepted) limits
