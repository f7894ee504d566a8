-- Each text has a list of payloads: those of its units.
use Rattle.std.proofs.Common.{◌≡◌, ◌≢◌, ℕ, zero, suc, ◌+◌, ◌<◌, ◌≤◌, ◌==◌, ◌⊎◌, Bool, true, false, List, length, map, Option, Some, None, inl, inr, refl, sym, ◌∙◌, subst, below_more, eqb-true, arith}
use Rattle.std.specs.List.{range_with_len}
use Rattle.std.proofs.lemmas.List.FromFn.{get_or-map-range_with_len, length-map-range_with_len}
use Rattle.bit_io.specs.Payload.{IsAllowedBefore, IsFirstForbidden, is_forbidden, payload}
use Rattle.nal_units.specs.Units.{Units}
use Rattle.decoder_render.specs.Submission.{ArePayloads, IsPayload, bytes_at, payload_at, place_at}
use Rattle.driver_jobs.specs.Units.{HasUnits}

-- ---- a unit is spoiled, or it isn't

module _ (unit : List ℕ) where
  abbrev pub IsAllowedOrNot : ℕ → Type 0
  IsAllowedOrNot n = ((at : ℕ) × IsFirstForbidden unit at) ⊎ IsAllowedBefore unit n

  next_allowed : (n : ℕ) (b : Bool) → n < length unit → is_forbidden unit n ≡ b → IsAllowedBefore unit n → IsAllowedOrNot (suc n)
  next_allowed n true inside is allowed = inl (n, record { within = inside; forbidden = is; first = allowed })
  next_allowed n false inside is allowed = inr (λ i lt. below_more (λ i. is_forbidden unit i ≡ false) n allowed is i (omega (arith, lt)))

  allowed_or_not : (n : ℕ) → n ≤ length unit → IsAllowedOrNot n
  allowed_or_not zero fits = inr (λ i lt. absurd (omega (arith, lt)))
  allowed_or_not (suc n) fits = elim (allowed_or_not n (omega (arith, fits))) [ inl some ↦ inl some | inr allowed ↦ next_allowed n (is_forbidden unit n) (omega (arith, fits)) refl allowed ]

-- A unit with a forbidden byte isn't one whose bytes are all allowed.
not_both : (unit : List ℕ) (at : ℕ) → IsFirstForbidden unit at → IsAllowedBefore unit (length unit) → ⊥
not_both unit at forbidden allowed =
    let is : is_forbidden unit at ≡ true = forbidden.forbidden in
    let not : is_forbidden unit at ≡ false = allowed at forbidden.within in
    grind arith

module _ (text : List ℕ) (places : List (ℕ × ℕ)) (broken : Option ℕ) (number : ℕ) where
  abbrev unit : List ℕ
  unit = bytes_at text (place_at places number)

  abbrev IsCut : Type 0
  IsCut = (broken ≢ None) × (number + 1 ≡ length places)

  abbrev HasPayload : Type 0
  HasPayload = (kept : Option (List ℕ)) × IsPayload text places broken number kept

  uncut_payload : (IsCut → ⊥) → HasPayload
  uncut_payload whole = elim (allowed_or_not unit (length unit) (omega arith)) [
    | inl some ↦ (None, inl some)
    | inr allowed ↦ (Some (payload unit), ((λ spoiled. elim spoiled [ inl some ↦ not_both unit some.0 some.1 allowed | inr cut ↦ whole cut ]), refl))
  ]

  last_payload : (b : Bool) → (number + 1 == length places) ≡ b → broken ≢ None → HasPayload
  last_payload true last cut = (None, inr (cut, eqb-true (number + 1) (length places) last))
  last_payload false last cut = uncut_payload (λ is. let same = is.1 in grind (arith, same, last))

pub payload_here : (text : List ℕ) (places : List (ℕ × ℕ)) (broken : Option ℕ) (number : ℕ) → HasPayload text places broken number
payload_here text places None number = uncut_payload text places None number (λ cut. cut.0 refl)
payload_here text places (Some at) number = last_payload text places (Some at) number (number + 1 == length places) refl (λ e. grind arith)

-- ---- the whole text

module _ (text : List ℕ) (places : List (ℕ × ℕ)) (broken : Option ℕ) (units : Units text places broken) where
  abbrev kept : ℕ → Option (List ℕ)
  kept number = (payload_here text places broken number).0

  abbrev payloads : List (Option (List ℕ))
  payloads = map kept (range_with_len 0 (length places))

  count : length payloads ≡ length places
  count = length-map-range_with_len kept 0 (length places)

  each : (number : ℕ) → number < length payloads → IsPayload text places broken number (payload_at payloads number)
  each number lt =
      let is : payload_at payloads number ≡ kept number = get_or-map-range_with_len kept 0 (length places) number number None (omega (arith, lt, count)) (omega arith) in
      subst (IsPayload text places broken number) (sym is) (payload_here text places broken number).1

  pub units_are_payloads : ArePayloads text payloads
  units_are_payloads = record { places = places; broken = broken; units = units; count = count; each = each }

-- a text with these units has so many
pub has_units : (text : List ℕ) (places : List (ℕ × ℕ)) (broken : Option ℕ) (count : ℕ) → Units text places broken → count ≡ length places → HasUnits text count
has_units text places broken number units is = (payloads text places broken units, units_are_payloads text places broken units, is ∙ sym (count text places broken units))
