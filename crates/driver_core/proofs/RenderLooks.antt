-- What a render finds that isn't refused, up to the bytes.
use Rattle.std.proofs.Common.{◌≡◌, ℕ, ◌<◌, ◌==◌, nat_lt, Bool, true, false, not, if◌then◌else◌, List, length, Option, Some, None, Ok, Err, refl, ap, ◌∙◌, arith}
use Rattle.std.specs.List.{position, position_or_len}
use Rattle.std.proofs.lemmas.Bool.Decides.{nat_tests}
use Rattle.std.proofs.lemmas.List.Sums.{position_or_len_is}
use Rattle.cb_types.specs.AcceptedInfo.{IsAccepted, IsFirstRefused, accepted_fields}
use Rattle.cb_types.specs.declared.picture_info.PictureInfo.{PictureInfo}
use Rattle.vd_status.specs.declared.refusal.Refusal.TheVariants.{BadInfo, BadSize, TargetIsReference}
use Rattle.driver_model.specs.Objects as model
use Rattle.driver_model.specs.Refusals.{Looked, ◌>>=◌, ◌>>◌, refused_if}
use Rattle.driver_model.specs.Renders as renders
use Rattle.driver_model.specs.Renders.{info_taken, is_of_other_size, is_own_reference, render, rendering}
use Rattle.driver_model.specs.States.{State}
use Rattle.driver_objects.specs.Kept.{kept_of}
use Rattle.driver_objects.specs.References.{some_other_size, some_slot}
use Rattle.driver_objects.specs.declared.references.Rendering.{Rendering}
use Rattle.driver_core.specs.Rendered.{RefusesLook, Sees, decoder_of}
use Rattle.driver_core.specs.Stands.{Stands}
use Rattle.driver_core.specs.declared.driver.Core.{Core}
use Rattle.driver_core.proofs.RenderTests.{other_is, own_is}

-- ---- the fields of the info

info_by : Option ℕ → Looked (Unit {0})
info_by field = elim field as (λ f. Looked (Unit {0})) [ None ↦ Ok tt | Some n ↦ Err (BadInfo n) ]

first_at : (tests : List Bool) (n : ℕ) → position_or_len not tests ≡ n → n < length tests → position not tests ≡ Some n
first_at tests n is below =
    let test : nat_lt n (length tests) ≡ true = grind (arith, nat_tests) in
    ap (λ k. if nat_lt k (length tests) then Some k else None) is ∙ ap (λ b. if b then Some n else None) test

first_none : (tests : List Bool) (n : ℕ) → position_or_len not tests ≡ n → n ≡ length tests → position not tests ≡ None
first_none tests n is all =
    let test : nat_lt n (length tests) ≡ false = grind (arith, nat_tests) in
    ap (λ k. if nat_lt k (length tests) then Some k else None) is ∙ ap (λ b. if b then Some n else None) test

all_taken : (decoder : model.Decoder) (info : PictureInfo) → IsAccepted decoder.profile decoder.max_references info → info_taken decoder info ≡ Ok tt
unfolding info_by
all_taken decoder info accepted =
    let tests = accepted_fields decoder.profile decoder.max_references info in
    let none = first_none tests 20 (position_or_len_is not tests 20 false (omega arith) (λ k h. ap not (accepted k h)) (λ h. absurd (let k : 20 < 20 = h in omega arith))) refl in
    ap info_by none

one_not_taken : (decoder : model.Decoder) (info : PictureInfo) (field : ℕ) → IsFirstRefused decoder.profile decoder.max_references info field → info_taken decoder info ≡ Err (BadInfo field)
unfolding info_by
one_not_taken decoder info field is =
    let tests = accepted_fields decoder.profile decoder.max_references info in
    let within : field < 20 = is.within in
    ap info_by (first_at tests field (position_or_len_is not tests field false (omega arith) (λ k h. ap not (is.first k h)) (λ h. ap not is.refused)) within)

-- ---- the looks

module _ (core : Core) (handle surface : ℕ) (info : PictureInfo) (on : Rendering) (sees : Sees core (λ d. rendering d handle surface info.references) on) where
  at_info : renders.Rendering → Looked renders.Rendering
  at_info found = info_taken found.decoder.value info >> Ok found

  at_sizes : renders.Rendering → Looked renders.Rendering
  at_sizes found = refused_if (is_of_other_size found) BadSize >> at_info found

  at_own : renders.Rendering → Looked renders.Rendering
  at_own found = refused_if (is_own_reference found) TargetIsReference >> at_sizes found

  by_own : (d : State) (stands : Stands core d) (b : Bool) → some_slot (λ index. index == on.target) on.references ≡ b
      → render d handle surface info ≡ (refused_if b TargetIsReference >> at_sizes (sees d stands).0)
  unfolding at_info at_sizes at_own
  by_own d stands b is =
      let r = sees d stands in
      ap (λ l. l >>= at_own) r.1 ∙ ap (λ t. refused_if t TargetIsReference >> at_sizes r.0) (own_is core d on r.0 r.2 ∙ is)

  pub own_refused : some_slot (λ index. index == on.target) on.references ≡ true → RefusesLook core (λ d. render d handle surface info) TargetIsReference
  own_refused is d stands = by_own d stands true is

  module _ (apart : some_slot (λ index. index == on.target) on.references ≡ false) where
    by_size : (d : State) (stands : Stands core d) (b : Bool) → some_other_size (kept_of core.objects) on.decoder.size on ≡ b
        → render d handle surface info ≡ (refused_if b BadSize >> at_info (sees d stands).0)
    unfolding at_sizes
    by_size d stands b is =
        let r = sees d stands in
        by_own d stands false apart ∙ ap (λ t. refused_if t BadSize >> at_info r.0) (other_is core d on r.0 r.2 ∙ is)

    pub size_refused : some_other_size (kept_of core.objects) on.decoder.size on ≡ true → RefusesLook core (λ d. render d handle surface info) BadSize
    size_refused is d stands = by_size d stands true is

    module _ (same : some_other_size (kept_of core.objects) on.decoder.size on ≡ false) where
      by_info : (d : State) (stands : Stands core d) (looked : Looked (Unit {0})) → info_taken (decoder_of on.decoder) info ≡ looked → render d handle surface info ≡ (looked >> Ok (sees d stands).0)
      unfolding at_info
      by_info d stands looked is =
          let r = sees d stands in
          by_size d stands false same ∙ ap (λ l. l >> Ok r.0) (ap (λ (x : model.Decoder). info_taken x info) r.2.decoder ∙ is)

      pub info_refused : (field : ℕ) → IsFirstRefused on.decoder.profile on.decoder.max_references info field → RefusesLook core (λ d. render d handle surface info) (BadInfo field)
      info_refused field is d stands = by_info d stands (Err (BadInfo field)) (one_not_taken (decoder_of on.decoder) info field is)

      pub render_seen : IsAccepted on.decoder.profile on.decoder.max_references info → Sees core (λ d. render d handle surface info) on
      render_seen accepted d stands =
          let r = sees d stands in
          (r.0, by_info d stands (Ok tt) (all_taken (decoder_of on.decoder) info accepted), r.2)
