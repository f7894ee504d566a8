-- Whether an access unit is a picture behind others is decided, and which one it is then.
use Rattle.std.proofs.Common.{◌≡◌, ◌≤◌, false, List, [], ◌∷◌, length, Option, Some, None, Result, Ok, Err, inl, inr, refl, sym, subst, ◌∙◌}
use Rattle.cb_types.specs.Slices.{is_idr}
use Rattle.marking.specs.Begun.{begun_of}
use Rattle.marking.specs.declared.begun.Begun.{Begun}
use Rattle.marking.specs.declared.begun.MarkFault.{MarkFault}
use Rattle.marking.specs.declared.marker.Marker.{Marker}
use Rattle.output_order.specs.OutputOrder as order
use Rattle.param_sets.specs.declared.sps.Sps.{Sps}
use Rattle.access_units.specs.AccessUnits.{AccessUnit}
use Rattle.access_units.specs.Depth.{depth_of}
use Rattle.access_units.specs.Pictures.{BeginsBehind, IsPicture, IsSameSet, Picture, marker_behind, ordered, ordered_behind, submission_of, with_count}
use Rattle.access_units.specs.declared.content.Named.{Named}
use Rattle.access_units.proofs.PictureSets.{decides_same, is_same}
use Rattle.finite.specs.Decided.{Decided}
use Rattle.finite.proofs.Deciding.{both, decided_as, implies, tested}
use Rattle.finite.proofs.Equal.{at_most, below, equal_booleans, is_none}

set_decided : (before : List Picture) (sps : Sps) → Decided (IsSameSet before sps)
set_decided [] sps = inr (λ is. is)
set_decided (last ∷ before) sps = tested (is_same last.sps sps) (decides_same last.sps sps)

some_of : {A : Type 0} (found : Option A) → Decided ((a : A) × (found ≡ Some a))
some_of None = inr (λ h. let e = h.1 in absurd (cc))
some_of (Some a) = inl (a, refl)

ok_of : (found : Result Begun MarkFault) → Decided ((begun : Begun) × (found ≡ Ok begun))
ok_of (Ok begun) = inl (begun, refl)
ok_of (Err fault) = inr (λ h. let e = h.1 in absurd (cc))

-- of some of these, one at most
narrowed : {A : Type 0} (P Q : A → Type 0) → Decided ((a : A) × P a) → ((a b : A) → P a → P b → a ≡ b) → ((a : A) → P a → Decided (Q a)) → Decided ((a : A) × P a × Q a)
narrowed P Q (inr none) one decide = inr (λ found. none (found.0, found.1))
narrowed {A} P Q (inl is) one decide = at (decide is.0 is.1)
  where
    at : Decided (Q is.0) → Decided ((a : A) × P a × Q a)
    at (inl q) = inl (is.0, is.1, q)
    at (inr none) = inr (λ found. none (subst Q (one found.0 is.0 found.1 is.1) found.2))

same_some : {A : Type 0} (found : Option A) (a b : A) → found ≡ Some a → found ≡ Some b → a ≡ b
same_some found a b e f = cc

same_ok : (found : Result Begun MarkFault) (a b : Begun) → found ≡ Ok a → found ≡ Ok b → a ≡ b
same_ok found a b e f = cc

module _ (before : List Picture) (named : Named) where
  abbrev Begins : Marker → Begun → Type 0
  Begins marker begun = begun_of marker named.sps named.pps named.header ≡ Ok begun

  abbrev InTime : Begun → Type 0
  InTime begun = order.is_late (depth_of named.sps) (ordered before) (ordered_behind before begun) ≡ false

  begun_decided : (marker : Marker) → Decided ((begun : Begun) × Begins marker begun × InTime begun)
  begun_decided marker = narrowed (Begins marker) InTime (ok_of (begun_of marker named.sps named.pps named.header)) (λ a b e f. same_ok _ a b e f)
      (λ begun e. equal_booleans (order.is_late (depth_of named.sps) (ordered before) (ordered_behind before begun)) false)

  pub begins_decided : Decided ((begun : Begun) × BeginsBehind before named begun)
  begins_decided =
      decided_as
      (λ h. (h.1.1.2.0, record { few = h.0; same_set = h.1.0; marker = h.1.1.0; behind = h.1.1.1; begins = h.1.1.2.1; in_time = h.1.1.2.2 }))
      (λ h. (h.1.few, (h.1.same_set, (h.1.marker, h.1.behind, (h.0, h.1.begins, h.1.in_time)))))
      (both (below (length before) 7000000)
      (λ few. both (implies (equal_booleans (is_idr named.header) false) (λ idr. set_decided before named.sps))
      (λ set. narrowed (λ marker. marker_behind before ≡ Some marker) (λ marker. (begun : Begun) × Begins marker begun × InTime begun) (some_of (marker_behind before))
      (λ a b e f. same_some _ a b e f) (λ marker e. begun_decided marker))))

module _ (before : List Picture) (au : AccessUnit) where
  named_as : (found : Option Named) → au.first ≡ found → au.refused ≡ None → length (submission_of au.slices) ≤ 67108864 → Decided ((picture : Picture) × IsPicture before au picture)
  named_as None none allowed fits = inr (λ h. let first = h.1.first in let e : None ≡ Some h.1.named = sym none ∙ first in absurd (cc))
  named_as (Some named) is allowed fits = elim (begins_decided before named) [
    | inl begins ↦ inl (
      record { offset = au.offset; slices = au.slices; sps = named.sps; begun = with_count (length au.slices) begins.0 },
      record { allowed = allowed; named = named; first = is; begun = begins.0; begins = begins.1; fits = fits; is = refl },
    )
    | inr none ↦ inr (λ h. none (h.1.begun, subst (λ (n : Named). BeginsBehind before n h.1.begun) (same_some au.first h.1.named named h.1.first is) h.1.begins))
  ]

  pub picture_decided : Decided ((picture : Picture) × IsPicture before au picture)
  picture_decided = elim (is_none au.refused) [
    | inr refused ↦ inr (λ h. refused h.1.allowed)
    | inl allowed ↦ elim (at_most (length (submission_of au.slices)) 67108864) [
      | inr long ↦ inr (λ h. long h.1.fits)
      | inl fits ↦ named_as au.first refl allowed fits
    ]
  ]
