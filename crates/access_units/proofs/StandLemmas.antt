-- What the fields of an acceptor say of its text, step by step.
use Rattle.std.proofs.Common.{◌≡◌, ◌≢◌, ℕ, ◌+◌, ◌-◌, ◌≤◌, ◌<◌, inl, inr, List, [], ◌∷◌, ◌++◌, Option, Some, None, refl, sym, subst, ap, ◌∙◌, arith, append_assoc}
use Rattle.std.specs.Prelude.{IfSome, take, drop}
use Rattle.std.proofs.Math.Seq.{take-add}
use Rattle.std.proofs.lemmas.List.{drop-drop, take-append-drop}
use Rattle.nal_units.specs.Units.{Units}
use Rattle.access_units.specs.AccessUnits.{AccessUnit, broken_off, empty_at, refused_at_end}
use Rattle.access_units.specs.Hands.{Holds}
use Rattle.access_units.specs.Readable.{IsReadable}
use Rattle.access_units.specs.Standing.{AreWithin, IsBehindStart, Keeps, Within}
use Rattle.access_units.specs.declared.content.Named.{Named}
use Rattle.access_units.specs.declared.hand.InHand.{InHand}
use Rattle.access_units.proofs.UnitLemmas.{AreInOrder, in_order-last, in_order_within}

pub are_within_more : (from to more : ℕ) (places : List (ℕ × ℕ)) → AreWithin from to places → to ≤ more → AreWithin from more places
are_within_more from to more places within le = λ k d lt. let p = within k d lt in (p.0, p.1, omega (arith, p.2, le))

pub within_more : (hand : Option InHand) (from to more : ℕ) → Within hand from to → to ≤ more → Within hand from more
within_more None from to more within le = within
within_more (Some held) from to more within le = (within.0, omega (arith, within.1, le), are_within_more held.offset to more held.slices.items within.2 le)

-- ---- behind a broken place

-- the access unit in hand is refused at the end
pub keeps_broken : (hand : InHand) (after : InHand) (text : List ℕ) (units front : List AccessUnit)
    → ((au : AccessUnit) → Holds hand text au → Holds after text (refused_at_end au)) → after.first ≡ hand.first
    → Keeps (Some hand) text units
    → (units_after : List AccessUnit) × Keeps (Some after) text units_after × (units_after ≢ []) × (broken_off (units ++ front) ≡ units_after ++ front)
keeps_broken hand after text units front holds first keeps =
    let au = keeps.0 in (
      refused_at_end au ∷ [],
      (refused_at_end au, refl, holds au keeps.2, subst (λ (first : Option Named). IfSome first IsReadable) (sym first) keeps.3),
      (λ e. cc),
      subst (λ (list : List AccessUnit). broken_off (list ++ front) ≡ (refused_at_end au ∷ []) ++ front) (sym keeps.1) refl,
    )

-- there was none
pub keeps_none_broken : (after : InHand) (text : List ℕ) (units front : List AccessUnit)
    → Holds after text (refused_at_end (empty_at 0)) → Keeps None text units → (units ≡ [] → front ≡ [])
    → (units_after : List AccessUnit) × Keeps (Some after) text units_after × (units_after ≢ []) × (broken_off (units ++ front) ≡ units_after ++ front)
keeps_none_broken after text units front holds none all =
    let au = refused_at_end (empty_at 0) in (
      au ∷ [],
      (au, refl, holds, subst (λ (first : Option Named). IfSome first IsReadable) (sym holds.first) tt),
      (λ e. cc),
      subst (λ (list : List AccessUnit). broken_off list ≡ (au ∷ []) ++ front) (sym (ap (λ (list : List AccessUnit). list ++ front) none ∙ all none)) (ap (λ (list : List AccessUnit). au ∷ list) (sym (all none))),
    )

-- ---- the text that is looked at

-- the bytes behind what was looked at
pub looked_more : (text bytes : List ℕ) (from looked n : ℕ) → bytes ≡ drop from text → from ≤ looked
    → take looked text ++ take n (drop (looked - from) bytes) ≡ take (looked + n) text
looked_more text bytes from looked n is le =
    let there : from + (looked - from) ≡ looked = omega (arith, le) in
    ap (λ (list : List ℕ). take looked text ++ take n (drop (looked - from) list)) is
    ∙ ap (λ (list : List ℕ). take looked text ++ take n list) (drop-drop (looked - from) from text ∙ ap (λ (k : ℕ). drop k text) there)
    ∙ sym (take-add looked n text)

-- what the front of a text says whatever follows, the text does
pub broken_in_text : (text : List ℕ) (taken at : ℕ) (places : List (ℕ × ℕ)) → ((more : List ℕ) → Units (take taken text ++ more) places (Some at)) → (more : List ℕ) → Units (text ++ more) places (Some at)
broken_in_text text taken at places whatever more =
    subst (λ (whole : List ℕ). Units whole places (Some at))
    (sym (append_assoc (take taken text) (drop taken text) more) ∙ ap (λ (front : List ℕ). front ++ more) (take-append-drop taken text))
    (whatever (drop taken text ++ more))

-- ---- a unit that is found stands behind what was forgotten

pub start_behind : (to from : ℕ) (places : List (ℕ × ℕ)) (start end : ℕ) → AreInOrder 0 to (places ++ (start, end) ∷ []) → IsBehindStart places from → (from ≤ start) × (start < end) × (end ≤ to)
start_behind to from places start end order (inl zero) = let last = in_order-last 0 to places (start, end) order in (omega (arith, zero), last.1, last.2)
start_behind to from places start end order (inr at) =
    let last = in_order-last 0 to places (start, end) order in
    let each = in_order_within 0 start places last.0 at.0 (0, 0) at.1 in
    (omega (arith, at.2, each.0, each.1, each.2), last.1, last.2)

-- ---- an access unit of no units

pub none_within : (from to : ℕ) → AreWithin from to []
none_within from to = λ k d lt. absurd (omega (arith, lt))

-- no slices, and the place where the text begins
pub begins_within : (after : InHand) (from to : ℕ) → after.offset ≡ 0 → after.slices.items ≡ [] → from ≡ 0 → Within (Some after) from to
begins_within after from to offset slices zero =
    (omega (arith, offset, zero), omega (arith, offset), subst (λ (list : List (ℕ × ℕ)). AreWithin after.offset to list) (sym slices) (none_within after.offset to))
