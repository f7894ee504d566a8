-- Entries without their names: of a surface is left whether it stands for an unused entry, an absent frame or a picture.
use Rattle.std.proofs.Common.{◌≡◌, ℕ, ◌+◌, inl, inr, Bool, true, false, not, eqb, cond, List, [], ◌∷◌, map, filter, find, Option, Some, refl, ap, ◌∙◌}
use Rattle.std.specs.Prelude.{◌==◌, if◌then◌else◌}
use Rattle.std.specs.List.{enumerate_from}
use Rattle.std.specs.Option.{option_map}
use Rattle.std.proofs.lemmas.Bool.{cases_Bool, eqb-true}
use Rattle.cb_types.specs.References.{is_absent, is_unused}
use Rattle.cb_types.specs.declared.picture_info.Reference.{Reference}
use Rattle.cb_types.specs.declared.picture_info.TheConstants.{ABSENT_SURFACE, UNUSED_SURFACE}
use Rattle.ref_lists.specs.ReferenceList.{Numbers, Placed, comes_before, in_order, put_in_order}
use Rattle.decoder_render.specs.Renamed.{with_surface}

abbrev pub bare_surface : ℕ → ℕ
bare_surface surface = if surface == UNUSED_SURFACE then UNUSED_SURFACE else if surface == ABSENT_SURFACE then ABSENT_SURFACE else 0

abbrev pub bare : Reference → Reference
bare entry = with_surface entry (bare_surface entry.surface)

-- it is unused, or an absent frame, as before
surface_unused : (s : ℕ) → eqb (bare_surface s) UNUSED_SURFACE ≡ eqb s UNUSED_SURFACE
surface_unused s = elim (cases_Bool (eqb s UNUSED_SURFACE)) [
  | inl holds ↦ rw holds refl
  | inr fails ↦ elim (cases_Bool (eqb s ABSENT_SURFACE)) [
    | inl holds ↦ rw (fails, holds) refl
    | inr not_absent ↦ rw (fails, not_absent) refl
  ]
]

surface_absent : (s : ℕ) → eqb (bare_surface s) ABSENT_SURFACE ≡ eqb s ABSENT_SURFACE
surface_absent s = elim (cases_Bool (eqb s UNUSED_SURFACE)) [
  | inl holds ↦ let same : s ≡ UNUSED_SURFACE = eqb-true s UNUSED_SURFACE holds in rw same refl
  | inr fails ↦ elim (cases_Bool (eqb s ABSENT_SURFACE)) [
    | inl holds ↦ rw (fails, holds) refl
    | inr not_absent ↦ rw (fails, not_absent) refl
  ]
]

pub bare_unused : (entry : Reference) → is_unused (bare entry) ≡ is_unused entry
bare_unused entry = surface_unused entry.surface

pub bare_absent : (entry : Reference) → is_absent (bare entry) ≡ is_absent entry
bare_absent entry = surface_absent entry.surface

-- ---- entries with their places

abbrev pub bare_placed : Placed → Placed
bare_placed placed = (placed.0, bare placed.1)

abbrev is_used : Placed → Bool
is_used placed = not (is_unused placed.1)

pub enumerate_bare : (entries : List Reference) (n : ℕ) → enumerate_from n (map bare entries) ≡ map bare_placed (enumerate_from n entries)
enumerate_bare [] n = refl
enumerate_bare (entry ∷ entries) n = ap (λ (later : List Placed). (n, bare entry) ∷ later) (enumerate_bare entries (n + 1))

-- an entry before others, but where it is unused
abbrev kept : Placed → Bool → List Placed → List Placed
kept one unused later = cond (not unused) (one ∷ later) later

kept_bare : (one : Placed) (unused : Bool) (later : List Placed) → kept (bare_placed one) unused (map bare_placed later) ≡ map bare_placed (kept one unused later)
kept_bare one true later = refl
kept_bare one false later = refl

pub used_bare : (placed : List Placed) → filter is_used (map bare_placed placed) ≡ map bare_placed (filter is_used placed)
used_bare [] = refl
used_bare (one ∷ others) =
    ap (λ (unused : Bool). kept (bare_placed one) unused (filter is_used (map bare_placed others))) (bare_unused one.1)
    ∙ (ap (kept (bare_placed one) (is_unused one.1)) (used_bare others) ∙ kept_bare one (is_unused one.1) (filter is_used others))

map_cond : (b : Bool) (xs ys : List Placed) → cond b (map bare_placed xs) (map bare_placed ys) ≡ map bare_placed (cond b xs ys)
map_cond true xs ys = refl
map_cond false xs ys = refl

put_bare : (numbers : Numbers) (one : Placed) (placed : List Placed) → put_in_order numbers (bare_placed one) (map bare_placed placed) ≡ map bare_placed (put_in_order numbers one placed)
unfolding put_in_order
put_bare numbers one [] = refl
put_bare numbers one (other ∷ others) =
    ap (λ (later : List Placed). cond (comes_before numbers one other) (bare_placed one ∷ bare_placed other ∷ map bare_placed others) (bare_placed other ∷ later)) (put_bare numbers one others)
    ∙ map_cond (comes_before numbers one other) (one ∷ other ∷ others) (other ∷ put_in_order numbers one others)

pub in_order_bare : (numbers : Numbers) (placed : List Placed) → in_order numbers (map bare_placed placed) ≡ map bare_placed (in_order numbers placed)
unfolding in_order
in_order_bare numbers [] = refl
in_order_bare numbers (one ∷ others) =
    ap (λ (xs : List Placed). put_in_order numbers (bare_placed one) xs) (in_order_bare numbers others) ∙ put_bare numbers one (in_order numbers others)

pub places_bare : (placed : List Placed) → map (λ (p : Placed). Some p.0) (map bare_placed placed) ≡ map (λ (p : Placed). Some p.0) placed
places_bare [] = refl
places_bare (one ∷ others) = ap (λ (later : List (Option ℕ)). Some one.0 ∷ later) (places_bare others)

module _ (test : Placed → Bool) (same : (placed : Placed) → test (bare_placed placed) ≡ test placed) where
  pub find_bare : (placed : List Placed) → find test (map bare_placed placed) ≡ option_map bare_placed (find test placed)
  find_bare [] = refl
  find_bare (one ∷ others) = elim (cases_Bool (test one)) [
    | inl holds ↦ rw (same one, holds) refl
    | inr fails ↦ rw (same one, fails) (find_bare others)
  ]
