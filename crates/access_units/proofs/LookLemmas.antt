-- How the search for units goes on.
use Rattle.std.proofs.Common.{◌≡◌, ◌≢◌, ℕ, ◌+◌, ◌-◌, ◌≤◌, ◌<◌, ◌^◌, ◌⊎◌, inl, inr, Bool, true, false, List, [], ◌∷◌, ◌++◌, length, Option, Some, None, refl, sym, subst, ap, ◌∙◌, arith, length-drop}
use Rattle.std.specs.Prelude.{IfSome, take, drop}
use Rattle.std.proofs.lemmas.List.{append-nil, length-take-le, take_all, take_rest}
use Rattle.std.proofs.lemmas.List.Elements.{All-from_recursion}
use Rattle.nal_units.specs.Finder as finder
use Rattle.nal_units.specs.Settled.{Settles, broken_in, unit_in}
use Rattle.nal_units.specs.Units.{Units}
use Rattle.nal_units.specs.declared.finder.Finder.{Finder}
use Rattle.nal_units.specs.declared.finder.Found.{Found}
use Rattle.nal_units.specs.declared.finder.Found.TheVariants as found
use Rattle.access_units.specs.AccessUnits.{AccessUnit, access_units, broken_off, grouped}
use Rattle.access_units.specs.Acceptors.{IsAtAnEnd}
use Rattle.access_units.specs.Contents.{Told, WhereElse, places_of}
use Rattle.access_units.specs.Standing.{AreWithin, IsBehindStart, IsLookedAt, Keeps, Reads, Within, found_in}
use Rattle.std.specs.declared.vec.Vec.{Vec}
use Rattle.std.specs.declared.alloc.Global.{Global}
use Rattle.access_units.specs.Contents.{sets_behind}
use Rattle.access_units.specs.Known.{IsKnownTo}
use Rattle.access_units.specs.declared.acceptor.Acceptor.{Acceptor}
use Rattle.access_units.specs.declared.hand.InHand.{InHand}
use Rattle.access_units.specs.declared.sets.KnownSets.{KnownSets}
use Rattle.access_units.proofs.StandLemmas.{broken_in_text, looked_more, none_within, start_behind, within_more}
use Rattle.access_units.proofs.UnitLemmas.{grouped-nil, in_order_settled, in_order_units}

-- what the search leaves as it is
pub record SameText (old new : Acceptor) : Type 0 where
  pub from : new.from ≡ old.from
  pub bytes : new.bytes ≡ old.bytes
  pub ended : new.ended ≡ old.ended
  pub known : new.known ≡ old.known
  pub opened : new.opened ≡ old.opened

none_opened : (opened : Option InHand) (text : List ℕ) → Keeps opened text [] → opened ≡ None
none_opened None text keeps = refl
none_opened (Some held) text keeps = absurd (let e : [] ≡ keeps.0 ∷ [] = keeps.1 in let no : ⊥ = cc in no)

-- one step, where no access unit is opened
pub look_step : (old new : Acceptor) (text : List ℕ) (ended : Bool) (told : List Told) (broken after : Option ℕ) (hand hand_after front : List AccessUnit)
    → Reads old text ended told broken [] hand front → SameText old new
    → old.looked ≤ new.looked → new.looked ≤ length text
    → (new.is_over ≡ false → finder.StandsFor new.finder (take new.looked text))
    → IsLookedAt new text ended (places_of told ++ found_in new.found) after
    → (new.found ≢ None → after ≡ None) → AreWithin new.from new.looked (found_in new.found)
    → access_units told after ≡ hand_after ++ front → Keeps new.hand text hand_after
    → (hand_after ≡ [] → (new.is_over ≡ false → (told ≡ []) × (new.from ≡ 0)) × (new.found ≢ None → told ≡ []))
    → Within new.hand new.from new.looked
    → Reads new text ended told after [] hand_after front
look_step old new text ended told broken after hand hand_after front r same more room stands known unbroken found_within units keeps none within =
    record {
      size = r.size;
      from = omega (arith, r.from, more, same.from);
      looked = room;
      bytes = ap (λ (b : Vec ℕ Global). b.items) same.bytes ∙ (r.bytes ∙ ap (λ (n : ℕ). drop n text) (sym same.from));
      ended_is = same.ended ∙ r.ended_is;
      finder = stands;
      each = r.each;
      known = known;
      pending = unbroken;
      from_start = subst (λ (n : ℕ). IsBehindStart (places_of told) n) (sym same.from) r.from_start;
      opened_only = λ some. absurd (some refl);
      found_within = found_within;
      sets = subst (λ (k : KnownSets). IsKnownTo k (sets_behind told)) (sym same.known) r.sets;
      units = units;
      in_hand = keeps;
      is_opened = subst (λ (o : Option InHand). Keeps o text []) (sym same.opened) r.is_opened;
      some_hand = λ empty. (refl, (none empty).0, (none empty).1);
      hand_within = within;
      opened_within = subst (λ (o : Option InHand). IfSome o (λ (held : InHand). IfSome new.hand (λ (first : InHand). first.offset ≤ held.offset) × (held.offset ≤ new.looked) × AreWithin held.offset new.looked held.slices.items)) (sym (same.opened ∙ none_opened old.opened text r.is_opened)) tt;
    }

abbrev IsNone : Option ℕ → Type 0
IsNone broken = broken ≡ None

-- the text goes on, or all of it is known
pub looked_on : (a : Acceptor) (text : List ℕ) (ended : Bool) (places : List (ℕ × ℕ)) (broken : Option ℕ) → a.is_over ≡ false → IsLookedAt a text ended places broken → (broken ≡ None) × Settles (take a.looked text) places None
looked_on a text ended places broken on known = subst (λ (over : Bool). WhereElse over (IsAtAnEnd text ended places broken) ((broken ≡ None) × Settles (take a.looked text) places None)) on known

pub looked_by : (a : Acceptor) (text : List ℕ) (ended : Bool) (places : List (ℕ × ℕ)) → a.is_over ≡ false → Settles (take a.looked text) places None → IsLookedAt a text ended places None
looked_by a text ended places on settles = subst (λ (over : Bool). WhereElse over (IsAtAnEnd text ended places None) (IsNone None × Settles (take a.looked text) places None)) (sym on) (refl, settles)

pub looked_all : (a : Acceptor) (text : List ℕ) (ended : Bool) (places : List (ℕ × ℕ)) (broken : Option ℕ) → a.is_over ≡ true → IsAtAnEnd text ended places broken → IsLookedAt a text ended places broken
looked_all a text ended places broken over known = subst (λ (is_over : Bool). WhereElse is_over (IsAtAnEnd text ended places broken) ((broken ≡ None) × Settles (take a.looked text) places None)) (sym over) known

one_within : (from to start end : ℕ) → from ≤ start → start < end → end ≤ to → AreWithin from to ((start, end) ∷ [])
one_within from to start end a b d = All-from_recursion (λ (place : ℕ × ℕ). (from ≤ place.0) × (place.0 < place.1) × (place.1 ≤ to)) ((start, end) ∷ []) ((a, b, d), tt)

-- ---- what the finder took

pub record Pushed (old : Acceptor) (text : List ℕ) (told : List Told) (taken : ℕ) (result : Found) (after : Finder) : Type 0 where
  pub room : old.looked + taken ≤ length text
  pub stands : finder.StandsFor after (take (old.looked + taken) text)
  pub settles : Settles (take (old.looked + taken) text) (places_of told ++ unit_in result) (broken_in result)
  pub all : result ≡ found.Nothing → old.looked + taken ≡ length text

-- the bytes from a place on, as a slice of the list
abbrev pub slice_of : List ℕ → ℕ → List ℕ
slice_of bytes start = take (length bytes - start) (drop start bytes)

pub slice_is : (bytes items : List ℕ) (start : ℕ) → bytes ≡ items → slice_of bytes start ≡ drop start items
slice_is bytes items start same = take_rest bytes start ∙ ap (λ (list : List ℕ). drop start list) same

pub pushed : (old : Acceptor) (text : List ℕ) (ended : Bool) (told : List Told) (broken : Option ℕ) (hand front : List AccessUnit) (slice : List ℕ) (taken : ℕ) (result : Found) (after : Finder)
    → slice ≡ drop (old.looked - old.from) old.bytes.items → Reads old text ended told broken [] hand front → old.found ≡ None → old.is_over ≡ false
    → taken ≤ length slice
    → (result ≡ found.Nothing → taken ≡ length slice)
    → ((t : List ℕ) → finder.StandsFor old.finder t → finder.StandsFor after (t ++ take taken slice))
    → ((t : List ℕ) (settled : List (ℕ × ℕ)) → finder.StandsFor old.finder t → Settles t settled None → Settles (t ++ take taken slice) (settled ++ unit_in result) (broken_in result))
    → Pushed old text told taken result after
pushed old text ended told broken hand front slice taken result after same r none on most all stands settles =
    let text_is : old.bytes.items ≡ drop old.from text = r.bytes in
    let rest : length slice ≡ length text - old.looked =
    ap length same ∙ length-drop (old.looked - old.from) old.bytes.items ∙ ap (λ (n : ℕ). n - (old.looked - old.from)) (ap length text_is ∙ length-drop old.from text) ∙ omega (arith, r.from, r.looked) in
    let front_is : take old.looked text ++ take taken slice ≡ take (old.looked + taken) text =
    ap (λ (list : List ℕ). take old.looked text ++ take taken list) same ∙ looked_more text old.bytes.items old.from old.looked taken text_is r.from in
    let known = looked_on old text ended (places_of told ++ found_in old.found) broken on r.known in
    let known_places : Settles (take old.looked text) (places_of told) None =
    subst (λ (places : List (ℕ × ℕ)). Settles (take old.looked text) places None) (ap (λ (f : Option (ℕ × ℕ)). places_of told ++ found_in f) none ∙ append-nil (places_of told)) known.1 in
    record {
      room = omega (arith, most, rest, r.looked);
      stands = subst (λ (t : List ℕ). finder.StandsFor after t) front_is (stands (take old.looked text) (r.finder on));
      settles = subst (λ (t : List ℕ). Settles t (places_of told ++ unit_in result) (broken_in result)) front_is (settles (take old.looked text) (places_of told) (r.finder on) known_places);
      all = λ nothing. omega (arith, all nothing, rest, r.looked);
    }

-- ---- what is found while the text goes on

-- nothing
pub found_nothing : (old new : Acceptor) (text : List ℕ) (ended : Bool) (told : List Told) (broken : Option ℕ) (hand front : List AccessUnit) (taken : ℕ)
    → Reads old text ended told broken [] hand front → old.found ≡ None → old.is_over ≡ false → Pushed old text told taken found.Nothing new.finder
    → SameText old new → new.looked ≡ old.looked + taken → new.found ≡ old.found → new.is_over ≡ false → new.hand ≡ old.hand
    → Reads new text ended told None [] hand front
found_nothing old new text ended told broken hand front taken r none on p same looked found_is over hand_is =
    let over_is = looked_on old text ended (places_of told ++ found_in old.found) broken on r.known in
    look_step old new text ended told broken None hand hand front r same (omega (arith, looked)) (omega (arith, looked, p.room))
    (λ still. subst (λ (n : ℕ). finder.StandsFor new.finder (take n text)) (sym looked) p.stands)
    (looked_by new text ended (places_of told ++ found_in new.found) over
    (subst (λ (n : ℕ). Settles (take n text) (places_of told ++ found_in new.found) None) (sym looked)
    (subst (λ (f : Option (ℕ × ℕ)). Settles (take (old.looked + taken) text) (places_of told ++ found_in f) None) (sym (found_is ∙ none)) p.settles)))
    (λ some. refl)
    (subst (λ (f : Option (ℕ × ℕ)). AreWithin new.from new.looked (found_in f)) (sym (found_is ∙ none)) (none_within new.from new.looked))
    (subst (λ (b : Option ℕ). access_units told b ≡ hand ++ front) over_is.0 r.units)
    (subst (λ (h : Option InHand). Keeps h text hand) (sym hand_is) r.in_hand)
    (λ empty. let it = (r.some_hand empty).1 on in ((λ still. (it.0, same.from ∙ it.1)), λ some. it.0))
    (subst (λ (h : Option InHand). Within h new.from new.looked) (sym hand_is)
    (subst (λ (n : ℕ). Within old.hand n new.looked) (sym same.from) (within_more old.hand old.from old.looked new.looked r.hand_within (omega (arith, looked)))))

-- a unit
pub found_unit : (old new : Acceptor) (text : List ℕ) (ended : Bool) (told : List Told) (broken : Option ℕ) (hand front : List AccessUnit) (taken start end : ℕ)
    → Reads old text ended told broken [] hand front → old.found ≡ None → old.is_over ≡ false → Pushed old text told taken (found.Unit start end) new.finder
    → SameText old new → new.looked ≡ old.looked + taken → new.found ≡ Some (start, end) → new.is_over ≡ false → new.hand ≡ old.hand
    → Reads new text ended told None [] hand front
found_unit old new text ended told broken hand front taken start end r none on p same looked found_is over hand_is =
    let over_is = looked_on old text ended (places_of told ++ found_in old.found) broken on r.known in
    let order = start_behind (length (take (old.looked + taken) text)) old.from (places_of told) start end (in_order_settled (take (old.looked + taken) text) (places_of told ++ (start, end) ∷ []) None p.settles) r.from_start in
    let size = length-take-le (old.looked + taken) text p.room in
    look_step old new text ended told broken None hand hand front r same (omega (arith, looked)) (omega (arith, looked, p.room))
    (λ still. subst (λ (n : ℕ). finder.StandsFor new.finder (take n text)) (sym looked) p.stands)
    (looked_by new text ended (places_of told ++ found_in new.found) over
    (subst (λ (n : ℕ). Settles (take n text) (places_of told ++ found_in new.found) None) (sym looked)
    (subst (λ (f : Option (ℕ × ℕ)). Settles (take (old.looked + taken) text) (places_of told ++ found_in f) None) (sym found_is) p.settles)))
    (λ some. refl)
    (subst (λ (f : Option (ℕ × ℕ)). AreWithin new.from new.looked (found_in f)) (sym found_is)
    (one_within new.from new.looked start end (omega (arith, order.0, same.from)) order.1 (omega (arith, order.2, size, looked))))
    (subst (λ (b : Option ℕ). access_units told b ≡ hand ++ front) over_is.0 r.units)
    (subst (λ (h : Option InHand). Keeps h text hand) (sym hand_is) r.in_hand)
    (λ empty. let it = (r.some_hand empty).1 on in ((λ still. (it.0, same.from ∙ it.1)), λ some. it.0))
    (subst (λ (h : Option InHand). Within h new.from new.looked) (sym hand_is)
    (subst (λ (n : ℕ). Within old.hand n new.looked) (sym same.from) (within_more old.hand old.from old.looked new.looked r.hand_within (omega (arith, looked)))))

-- ---- what is found where nothing more is to be found

not_on : (over : Bool) → over ≡ true → over ≡ false → ⊥
not_on over is isnt = let e : true ≡ false = sym is ∙ isnt in cc

-- a unit or nothing, and the text isn't broken
pub over_plain : (old new : Acceptor) (text : List ℕ) (ended : Bool) (told : List Told) (broken : Option ℕ) (hand front : List AccessUnit)
    → Reads old text ended told broken [] hand front → old.found ≡ None → old.is_over ≡ false
    → SameText old new → old.looked ≤ new.looked → new.looked ≤ length text → new.is_over ≡ true → new.hand ≡ old.hand
    → IsAtAnEnd text ended (places_of told ++ found_in new.found) None → AreWithin new.from new.looked (found_in new.found)
    → Reads new text ended told None [] hand front
over_plain old new text ended told broken hand front r none on same more room over hand_is known found_within =
    let over_is = looked_on old text ended (places_of told ++ found_in old.found) broken on r.known in
    look_step old new text ended told broken None hand hand front r same more room
    (λ still. absurd (not_on new.is_over over still))
    (looked_all new text ended (places_of told ++ found_in new.found) None over known)
    (λ some. refl) found_within
    (subst (λ (b : Option ℕ). access_units told b ≡ hand ++ front) over_is.0 r.units)
    (subst (λ (h : Option InHand). Keeps h text hand) (sym hand_is) r.in_hand)
    (λ empty. ((λ still. absurd (not_on new.is_over over still)), λ some. ((r.some_hand empty).1 on).0))
    (subst (λ (h : Option InHand). Within h new.from new.looked) (sym hand_is)
    (subst (λ (n : ℕ). Within old.hand n new.looked) (sym same.from) (within_more old.hand old.from old.looked new.looked r.hand_within more)))

-- where there is no access unit in hand there is none at all
pub none_before : (old : Acceptor) (text : List ℕ) (ended : Bool) (told : List Told) (broken : Option ℕ) (hand front : List AccessUnit)
    → Reads old text ended told broken [] hand front → old.is_over ≡ false → hand ≡ [] → front ≡ []
none_before old text ended told broken hand front r on empty =
    let over_is = looked_on old text ended (places_of told ++ found_in old.found) broken on r.known in
    let units : grouped told ≡ hand ++ front = subst (λ (b : Option ℕ). access_units told b ≡ hand ++ front) over_is.0 r.units in
    sym (sym grouped-nil ∙ ap grouped (sym ((r.some_hand empty).1 on).0) ∙ units ∙ ap (λ (list : List AccessUnit). list ++ front) empty)

keeps_none : (held : Option InHand) (text : List ℕ) (units : List AccessUnit) → Keeps held text units → held ≡ None → units ≡ []
keeps_none None text units keeps e = keeps
keeps_none (Some h) text units keeps e = absurd (let no : ⊥ = cc in no)

-- and the text is kept from its beginning on
pub from_zero : (old : Acceptor) (text : List ℕ) (ended : Bool) (told : List Told) (broken : Option ℕ) (hand front : List AccessUnit)
    → Reads old text ended told broken [] hand front → old.is_over ≡ false → old.hand ≡ None → old.from ≡ 0
from_zero old text ended told broken hand front r on gone = ((r.some_hand (keeps_none old.hand text hand r.in_hand gone)).1 on).1

-- the text is broken
pub over_broken : (old new : Acceptor) (text : List ℕ) (ended : Bool) (told : List Told) (broken : Option ℕ) (hand front : List AccessUnit) (at : ℕ)
    → Reads old text ended told broken [] hand front → old.found ≡ None → old.is_over ≡ false
    → SameText old new → old.looked ≤ new.looked → new.looked ≤ length text → new.is_over ≡ true → new.found ≡ None
    → IsAtAnEnd text ended (places_of told ++ []) (Some at)
    → (hand_after : List AccessUnit) × Keeps new.hand text hand_after × (hand_after ≢ []) × (broken_off (hand ++ front) ≡ hand_after ++ front)
    → Within new.hand new.from new.looked
    → (after : Option ℕ) × (hand_after : List AccessUnit) × Reads new text ended told after [] hand_after front
over_broken old new text ended told broken hand front at r none on same more room over found_is known off within =
    let over_is = looked_on old text ended (places_of told ++ found_in old.found) broken on r.known in
    let units : grouped told ≡ hand ++ front = subst (λ (b : Option ℕ). access_units told b ≡ hand ++ front) over_is.0 r.units in (
      Some at,
      off.0,
      look_step old new text ended told broken (Some at) hand off.0 front r same more room
          (λ still. absurd (not_on new.is_over over still))
          (looked_all new text ended (places_of told ++ found_in new.found) (Some at) over
          (subst (λ (f : Option (ℕ × ℕ)). IsAtAnEnd text ended (places_of told ++ found_in f) (Some at)) (sym found_is) known))
          (λ some. absurd (some found_is))
          (subst (λ (f : Option (ℕ × ℕ)). AreWithin new.from new.looked (found_in f)) (sym found_is) (none_within new.from new.looked))
          (ap broken_off units ∙ off.3)
          off.1
          (λ empty. absurd (off.2 empty))
          within,
    )

-- ---- the answers of the search

-- a broken place that the bytes fed have
pub pushed_broken : (old : Acceptor) (text : List ℕ) (ended : Bool) (told : List Told) (taken at : ℕ) (after : Finder)
    → Pushed old text told taken (found.Broken at) after → IsAtAnEnd text ended (places_of told ++ []) (Some at)
pushed_broken old text ended told taken at after p =
    inr ((λ e. let no : ⊥ = cc in no), broken_in_text text (old.looked + taken) at (places_of told ++ []) p.settles)

-- the end of the text
pub pushed_end : (old : Acceptor) (text : List ℕ) (ended : Bool) (told : List Told) (taken : ℕ) (after : Finder) (result : Found)
    → Pushed old text told taken found.Nothing after → ended ≡ true
    → ((t : List ℕ) (settled : List (ℕ × ℕ)) → finder.StandsFor after t → Settles t settled None → Units t (settled ++ unit_in result) (broken_in result))
    → Units text (places_of told ++ unit_in result) (broken_in result)
pushed_end old text ended told taken after result p is_end units =
    let whole : take (old.looked + taken) text ≡ text = take_all (old.looked + taken) text (omega (arith, p.all refl)) in
    let stands = subst (λ (t : List ℕ). finder.StandsFor after t) whole p.stands in
    let known : Settles text (places_of told) None =
    subst (λ (t : List ℕ). Settles t (places_of told) None) whole (subst (λ (places : List (ℕ × ℕ)). Settles (take (old.looked + taken) text) places None) (append-nil (places_of told)) p.settles) in
    units text (places_of told) stands known

-- the acceptor with the finder moved on
abbrev pub moved : Acceptor → Finder → ℕ → Acceptor
moved a after looked = record a { finder = after; looked = looked }

pub same_moved : (a : Acceptor) (after : Finder) (looked : ℕ) → SameText a (moved a after looked)
same_moved a after looked = record { from = refl; bytes = refl; ended = refl; known = refl; opened = refl }

abbrev pub ended_by : Acceptor → Finder → Acceptor
ended_by a after = record a { is_over = true; finder = after }

abbrev pub Kept : Acceptor → Acceptor → Found → Found → Type 0
Kept mid new before result = ((result ≡ before) × (new ≡ mid)) ⊎ ((mid.ended ≡ true) × (before ≡ found.Nothing) × (new ≡ ended_by mid new.finder))

abbrev pub Finishes : Acceptor → Found → Found → Type 0
Finishes mid before result = mid.ended ≡ true → before ≡ found.Nothing → (t : List ℕ) (settled : List (ℕ × ℕ)) → finder.StandsFor mid.finder t → Settles t settled None → Units t (settled ++ unit_in result) (broken_in result)

abbrev Behind : Acceptor → List ℕ → Bool → List Told → List AccessUnit → Type 0
Behind new text ended told front = (after : Option ℕ) × (hand_after : List AccessUnit) × Reads new text ended told after [] hand_after front

pub look_nothing : (old new : Acceptor) (text : List ℕ) (ended : Bool) (told : List Told) (broken : Option ℕ) (hand front : List AccessUnit) (taken : ℕ) (before result : Found) (after : Finder)
    → Reads old text ended told broken [] hand front → old.found ≡ None → old.is_over ≡ false → Pushed old text told taken before after
    → Kept (moved old after (old.looked + taken)) new before result → Finishes (moved old after (old.looked + taken)) before result → result ≡ found.Nothing
    → Behind new text ended told front
look_nothing old new text ended told broken hand front taken before result after r none on p (inl e) ends is =
    let nothing = subst (λ (f : Found). Pushed old text told taken f after) (sym e.0 ∙ is) p in (
      None,
      hand,
      subst (λ (a : Acceptor). Reads a text ended told None [] hand front) (sym e.1)
          (found_nothing old (moved old after (old.looked + taken)) text ended told broken hand front taken r none on nothing (same_moved old after (old.looked + taken)) refl refl on refl),
    )
look_nothing old new text ended told broken hand front taken before result after r none on p (inr e) ends is =
    let nothing = subst (λ (f : Found). Pushed old text told taken f after) e.1 p in
    let is_end : ended ≡ true = sym r.ended_is ∙ e.0 in
    let last = ended_by (moved old after (old.looked + taken)) new.finder in
    let units = subst (λ (f : Found). Units text (places_of told ++ unit_in f) (broken_in f)) is (pushed_end old text ended told taken after result nothing is_end (ends e.0 e.1)) in (
      None,
      hand,
      subst (λ (a : Acceptor). Reads a text ended told None [] hand front) (sym e.2)
          (over_plain old last text ended told broken hand front r none on
          (record { from = refl; bytes = refl; ended = refl; known = refl; opened = refl })
          (omega arith) p.room refl refl
          (subst (λ (f : Option (ℕ × ℕ)). IsAtAnEnd text ended (places_of told ++ found_in f) None) (sym none) (inl (is_end, units)))
          (subst (λ (f : Option (ℕ × ℕ)). AreWithin old.from (old.looked + taken) (found_in f)) (sym none) (none_within old.from (old.looked + taken)))),
    )

pub look_unit : (old new : Acceptor) (text : List ℕ) (ended : Bool) (told : List Told) (broken : Option ℕ) (hand front : List AccessUnit) (taken : ℕ) (before result : Found) (after : Finder) (start end : ℕ)
    → Reads old text ended told broken [] hand front → old.found ≡ None → old.is_over ≡ false → Pushed old text told taken before after
    → Kept (moved old after (old.looked + taken)) new before result → Finishes (moved old after (old.looked + taken)) before result → result ≡ found.Unit start end
    → Behind (record new { found = Some (start, end) }) text ended told front
look_unit old new text ended told broken hand front taken before result after start end r none on p (inl e) ends is =
    let unit = subst (λ (f : Found). Pushed old text told taken f after) (sym e.0 ∙ is) p in (
      None,
      hand,
      subst (λ (a : Acceptor). Reads (record a { found = Some (start, end) }) text ended told None [] hand front) (sym e.1)
          (found_unit old (record (moved old after (old.looked + taken)) { found = Some (start, end) }) text ended told broken hand front taken start end r none on unit
          (record { from = refl; bytes = refl; ended = refl; known = refl; opened = refl }) refl refl on refl),
    )
look_unit old new text ended told broken hand front taken before result after start end r none on p (inr e) ends is =
    let nothing = subst (λ (f : Found). Pushed old text told taken f after) e.1 p in
    let is_end : ended ≡ true = sym r.ended_is ∙ e.0 in
    let last = record (ended_by (moved old after (old.looked + taken)) new.finder) { found = Some (start, end) } in
    let units = subst (λ (f : Found). Units text (places_of told ++ unit_in f) (broken_in f)) is (pushed_end old text ended told taken after result nothing is_end (ends e.0 e.1)) in
    let order = start_behind (length text) old.from (places_of told) start end (in_order_units text (places_of told ++ (start, end) ∷ []) None units) r.from_start in
    let all = nothing.all refl in (
      None,
      hand,
      subst (λ (a : Acceptor). Reads (record a { found = Some (start, end) }) text ended told None [] hand front) (sym e.2)
          (over_plain old last text ended told broken hand front r none on
          (record { from = refl; bytes = refl; ended = refl; known = refl; opened = refl })
          (omega arith) p.room refl refl (inl (is_end, units))
          (one_within old.from (old.looked + taken) start end order.0 order.1 (omega (arith, order.2, all)))),
    )

broken_end : (old last : Acceptor) (text : List ℕ) (ended : Bool) (told : List Told) (broken : Option ℕ) (hand front : List AccessUnit) (taken at : ℕ) (held : Option InHand) (mid : Acceptor)
    → Reads old text ended told broken [] hand front → old.found ≡ None → old.is_over ≡ false → old.looked + taken ≤ length text
    → last ≡ record mid { is_over = true; hand = last.hand }
    → mid.looked ≡ old.looked + taken → record mid { is_over = old.is_over; looked = old.looked; finder = old.finder } ≡ old
    → IsAtAnEnd text ended (places_of told ++ []) (Some at)
    → held ≡ old.hand
    → ((t : List ℕ) (units older : List AccessUnit) → Keeps held t units → (units ≡ [] → older ≡ []) →
    (units_after : List AccessUnit) × Keeps last.hand t units_after × (units_after ≢ []) × (broken_off (units ++ older) ≡ units_after ++ older))
    → ((from to : ℕ) → Within held from to → (held ≡ None → from ≡ 0) → Within last.hand from to)
    → Behind last text ended told front
broken_end old last text ended told broken hand front taken at held mid r none on room is looked same known hand_is off within =
    let looked_is : last.looked ≡ old.looked + taken = ap (λ (a : Acceptor). a.looked) is ∙ looked in
    let from_is : last.from ≡ old.from = ap (λ (a : Acceptor). a.from) is ∙ ap (λ (a : Acceptor). a.from) same in
    let within_old : Within held last.from last.looked =
    subst (λ (h : Option InHand). Within h last.from last.looked) (sym hand_is)
    (subst (λ (n : ℕ). Within old.hand n last.looked) (sym from_is) (within_more old.hand old.from old.looked last.looked r.hand_within (omega (arith, looked_is)))) in
    over_broken old last text ended told broken hand front at r none on
    (record {
      from = from_is;
      bytes = ap (λ (a : Acceptor). a.bytes) is ∙ ap (λ (a : Acceptor). a.bytes) same;
      ended = ap (λ (a : Acceptor). a.ended) is ∙ ap (λ (a : Acceptor). a.ended) same;
      known = ap (λ (a : Acceptor). a.known) is ∙ ap (λ (a : Acceptor). a.known) same;
      opened = ap (λ (a : Acceptor). a.opened) is ∙ ap (λ (a : Acceptor). a.opened) same;
    })
    (omega (arith, looked_is)) (omega (arith, looked_is, room))
    (ap (λ (a : Acceptor). a.is_over) is)
    (ap (λ (a : Acceptor). a.found) is ∙ (ap (λ (a : Acceptor). a.found) same ∙ none))
    known
    (off text hand front (subst (λ (h : Option InHand). Keeps h text hand) (sym hand_is) r.in_hand) (none_before old text ended told broken hand front r on))
    (within last.from last.looked within_old (λ gone. from_is ∙ from_zero old text ended told broken hand front r on (sym hand_is ∙ gone)))

pub look_broken : (old new last : Acceptor) (text : List ℕ) (ended : Bool) (told : List Told) (broken : Option ℕ) (hand front : List AccessUnit) (taken : ℕ) (before result : Found) (after : Finder) (at : ℕ)
    → Reads old text ended told broken [] hand front → old.found ≡ None → old.is_over ≡ false → Pushed old text told taken before after
    → Kept (moved old after (old.looked + taken)) new before result → Finishes (moved old after (old.looked + taken)) before result → result ≡ found.Broken at
    → ((t : List ℕ) (units older : List AccessUnit) → Keeps new.hand t units → (units ≡ [] → older ≡ []) →
    (units_after : List AccessUnit) × Keeps last.hand t units_after × (units_after ≢ []) × (broken_off (units ++ older) ≡ units_after ++ older))
    → ((from to : ℕ) → Within new.hand from to → (new.hand ≡ None → from ≡ 0) → Within last.hand from to)
    → last ≡ record new { is_over = true; hand = last.hand }
    → Behind last text ended told front
look_broken old new last text ended told broken hand front taken before result after at r none on p (inl e) ends is off within kept =
    let it = subst (λ (f : Found). Pushed old text told taken f after) (sym e.0 ∙ is) p in
    let mid = moved old after (old.looked + taken) in
    let is_last : last ≡ record mid { is_over = true; hand = last.hand } = kept ∙ ap (λ (a : Acceptor). record a { is_over = true; hand = last.hand }) e.1 in
    let hand_is : new.hand ≡ old.hand = ap (λ (a : Acceptor). a.hand) e.1 in
    broken_end old last text ended told broken hand front taken at (new.hand) mid r none on p.room is_last refl refl
    (pushed_broken old text ended told taken at after it) hand_is off within
look_broken old new last text ended told broken hand front taken before result after at r none on p (inr e) ends is off within kept =
    let nothing = subst (λ (f : Found). Pushed old text told taken f after) e.1 p in
    let is_end : ended ≡ true = sym r.ended_is ∙ e.0 in
    let mid = ended_by (moved old after (old.looked + taken)) new.finder in
    let units = subst (λ (f : Found). Units text (places_of told ++ unit_in f) (broken_in f)) is (pushed_end old text ended told taken after result nothing is_end (ends e.0 e.1)) in
    let is_last : last ≡ record mid { is_over = true; hand = last.hand } = kept ∙ ap (λ (a : Acceptor). record a { is_over = true; hand = last.hand }) e.2 in
    let hand_is : new.hand ≡ old.hand = ap (λ (a : Acceptor). a.hand) e.2 in
    broken_end old last text ended told broken hand front taken at (new.hand) mid r none on p.room is_last refl refl (inl (is_end, units)) hand_is off within

-- where what the finder took stands, it has room for the end
pub pushed_stands : (old : Acceptor) (text : List ℕ) (told : List Told) (taken : ℕ) (result : Found) (after : Finder) → Pushed old text told taken result after → length text ≤ 1073741824
    → (t : List ℕ) × finder.StandsFor after t × (length t ≤ 2 ^ 63)
pushed_stands old text told taken result after p size =
    (take (old.looked + taken) text, p.stands, omega (arith, length-take-le (old.looked + taken) text p.room, p.room, size))
