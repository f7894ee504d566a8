-- An access unit of one unit, which an acceptor opens.
use Rattle.std.proofs.Common.{◌≡◌, ℕ, Bool, true, false, cond, List, [], ◌∷◌, Option, Some, None, refl, sym, ap, subst, ◌∙◌}
use Rattle.std.specs.Prelude.{map}
use Rattle.std.specs.Option.{is_some, option_or}
use Rattle.access_units.specs.AccessUnits.{AccessUnit, begins_another, empty_at, with_unit}
use Rattle.access_units.specs.Contents.{Told}
use Rattle.access_units.specs.Hands.{Holds, IsOf}
use Rattle.access_units.specs.Taking.{Begins, HasMore, IsAlone, Opens, with_place}
use Rattle.access_units.specs.declared.acceptor.Acceptor.{Acceptor}
use Rattle.access_units.specs.declared.hand.InHand.{InHand}
use Rattle.access_units.specs.declared.hand.NalUnit.{NalUnit}

map_none : (f : ℕ × ℕ → List ℕ) (places : List (ℕ × ℕ)) → map f places ≡ [] → places ≡ []
map_none f [] e = refl
map_none f (p ∷ ps) e = absurd (cc)

pub alone_from_more : (empty new : InHand) (unit : NalUnit) → ((text : List ℕ) → Holds empty text (empty_at unit.start)) → HasMore empty new unit → IsAlone new unit
alone_from_more empty new unit is_empty more = record {
  holds = λ text told is.
      let P : ℕ → Type 0 = λ start. Holds new text (with_unit (empty_at start) told) in
      subst P is.start (more.holds text (empty_at unit.start) told (is_empty text) is);
  places =
      let none = map_none _ empty.slices.items (is_empty []).slices in
      more.places ∙ ap (λ places. with_place unit.content (unit.start, unit.end) places) none;
}

or_none : (h : Option InHand) (held : InHand) → is_some h ≡ false → Some held ≡ option_or h (Some held)
or_none None held none = refl
or_none (Some first) held none = absurd (cc)

or_some : (h : Option InHand) (held : InHand) → is_some h ≡ true → h ≡ option_or h (Some held)
or_some None held some = absurd (cc)
or_some (Some first) held some = refl

chosen_false : (b : Bool) (x y : Option InHand) → b ≡ false → y ≡ cond b x y
chosen_false true x y e = absurd (cc)
chosen_false false x y e = refl

chosen_true : (b : Bool) (x y : Option InHand) → b ≡ true → x ≡ cond b x y
chosen_true true x y e = refl
chosen_true false x y e = absurd (cc)

-- the first access unit
pub opens_first : (old new : Acceptor) (unit : NalUnit) (held : InHand) → IsAlone held unit → is_some old.hand ≡ false
    → new.hand ≡ Some held → new.opened ≡ old.opened → Opens old new unit
opens_first old new unit held alone none hand opened = record {
  held = held;
  alone = alone;
  hand = hand ∙ or_none old.hand held none;
  opened = opened ∙ chosen_false (is_some old.hand) (Some held) old.opened none;
}

-- one behind that in hand
pub opens_next : (old new : Acceptor) (unit : NalUnit) (held : InHand) → IsAlone held unit → is_some old.hand ≡ true
    → new.hand ≡ old.hand → new.opened ≡ Some held → Opens old new unit
opens_next old new unit held alone some hand opened = record {
  held = held;
  alone = alone;
  hand = hand ∙ or_some old.hand held some;
  opened = opened ∙ chosen_true (is_some old.hand) (Some held) old.opened some;
}

pub begins_from : (hand : Option InHand) (held : InHand) (unit : NalUnit) → hand ≡ Some held
    → ((text : List ℕ) (au : AccessUnit) (told : Told) → Holds held text au → IsOf unit text told → begins_another au told ≡ true) → Begins hand unit
begins_from hand held unit is begins = let P : Option InHand → Type 0 = λ h. Begins h unit in subst P (sym is) begins

pub begins_none : (hand : Option InHand) (unit : NalUnit) → hand ≡ None → Begins hand unit
begins_none hand unit is = let P : Option InHand → Type 0 = λ h. Begins h unit in subst P (sym is) tt

-- an acceptor whose access unit in hand was put back
pub same_in_hand : (a b : Acceptor) (h : Option InHand) → b ≡ record a { hand = h } → a.hand ≡ h → b ≡ a
same_in_hand a b h put is = put ∙ ap (λ x. record a { hand = x }) (sym is)
