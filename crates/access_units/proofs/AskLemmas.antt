-- What an acceptor answers where it has no picture to give.
use Rattle.std.proofs.Common.{◌≡◌, ◌≢◌, ℕ, ◌+◌, ◌-◌, ◌≤◌, ◌⊎◌, inl, inr, Bool, true, false, List, [], ◌∷◌, ◌++◌, length, Option, Some, None, refl, sym, subst, ap, ◌∙◌, arith, length-drop}
use Rattle.std.specs.Prelude.{map, take, drop, slice_range}
use Rattle.std.specs.Option.{option_or}
use Rattle.std.proofs.lemmas.List.{append-nil, take_all}
use Rattle.nal_units.specs.Settled.{Settles}
use Rattle.nal_units.specs.Units.{Units}
use Rattle.access_units.specs.AccessUnits.{AccessUnit, access_units, broken_off, empty_at, grouped, refused_at_end}
use Rattle.access_units.specs.Acceptors.{IsAtAnEnd, IsAtEnd, IsFailed, IsHungry, IsTail, MayAsk, Past}
use Rattle.access_units.specs.Contents.{Told, WhereElse, places_of}
use Rattle.access_units.specs.Gathering.{HasTail, ReadsFurther, Wants}
use Rattle.access_units.specs.Pictures.{ArePictures, Picture}
use Rattle.access_units.specs.Standing.{IsLast, IsLookedAt, Keeps, KeepsRest, Reads, StandsFor, found_in}
use Rattle.access_units.specs.Stands.{StandsBehind}
use Rattle.access_units.specs.declared.acceptor.Acceptor.{Acceptor}
use Rattle.access_units.specs.declared.hand.InHand.{InHand}
use Rattle.access_units.specs.declared.pictures.Pictures.{Pictures}
use Rattle.access_units.proofs.LookLemmas.{looked_on}
use Rattle.access_units.proofs.UnitFound.{keeps_first}
use Rattle.access_units.proofs.UnitLemmas.{grouped-nil}

-- ---- the last picture given

pub last_same : (old new : Acceptor) (outcome : Option Bool) (given : List Picture) → new.last_offset ≡ old.last_offset → new.has_failed ≡ old.has_failed → IsLast old outcome given → IsLast new outcome given
last_same old new outcome [] offset failed last = (last.0, failed ∙ last.1)
last_same old new outcome (picture ∷ before) offset failed last =
    (offset ∙ last.0, (λ e. last.1 (sym failed ∙ e)), λ e. failed ∙ last.2 e)

-- the acceptor stands for the same where it reads the text on
pub stands_on : (old new : Acceptor) (past : Past) (s : StandsFor old past) → KeepsRest old new → ReadsFurther new past.text past.ended s.front → StandsFor new past
stands_on old new past s rest further = record {
  told = further.told;
  broken = further.broken;
  opened = further.opened;
  hand = further.hand;
  front = s.front;
  reads = further.reads;
  pictures = s.pictures;
  behind = subst (λ (p : Pictures). StandsBehind p past.given) (sym rest.pictures) s.behind;
  last = last_same old new past.outcome past.given rest.last_offset rest.has_failed s.last;
}

not_both : (b : Bool) → b ≡ true → b ≡ false → ⊥
not_both b is isnt = let e : true ≡ false = sym is ∙ isnt in cc

failed_of : (a : Acceptor) (past : Past) (given : List Picture) → past.given ≡ given → IsLast a past.outcome given → a.has_failed ≡ true → IsFailed past a.last_offset
failed_of a past [] is last failed = absurd (not_both a.has_failed failed last.1)
failed_of a past (picture ∷ before) is last failed = record { outcome = last.1 failed; last = picture; before = before; given = is; offset_is = last.0 }

pub failed : (a : Acceptor) (past : Past) → StandsFor a past → a.has_failed ≡ true → IsFailed past a.last_offset
failed a past s is = failed_of a past past.given refl s.last is

accepted_of : (a : Acceptor) (outcome : Option Bool) (given : List Picture) → outcome ≢ None → IsLast a outcome given → a.has_failed ≡ false → outcome ≡ Some true
accepted_of a None given may last isnt = absurd (may refl)
accepted_of a (Some true) given may last isnt = refl
accepted_of a (Some false) [] may last isnt = absurd (let e : Some false ≡ Some true = last.0 in let no : ⊥ = cc in no)
accepted_of a (Some false) (picture ∷ before) may last isnt = absurd (not_both a.has_failed (last.2 refl) isnt)

pub accepted : (a : Acceptor) (past : Past) → StandsFor a past → MayAsk past → a.has_failed ≡ false → past.outcome ≡ Some true
accepted a past s may isnt = accepted_of a past.outcome past.given may s.last isnt

-- ---- at the end

units_at_end : (text : List ℕ) (ended : Bool) (places : List (ℕ × ℕ)) (broken : Option ℕ) → IsAtAnEnd text ended (places ++ []) broken → Units text places broken
units_at_end text ended places broken (inl whole) = subst (λ (list : List (ℕ × ℕ)). Units text list broken) (append-nil places) whole.1
units_at_end text ended places broken (inr all) =
    subst (λ (t : List ℕ). Units t places broken) (append-nil text) (subst (λ (list : List (ℕ × ℕ)). Units (text ++ []) list broken) (append-nil places) (all.1 []))

looked_over : (a : Acceptor) (text : List ℕ) (ended : Bool) (places : List (ℕ × ℕ)) (broken : Option ℕ) → a.is_over ≡ true → IsLookedAt a text ended places broken → IsAtAnEnd text ended places broken
looked_over a text ended places broken over known = subst (λ (is_over : Bool). WhereElse is_over (IsAtAnEnd text ended places broken) ((broken ≡ None) × Settles (take a.looked text) places None)) over known

tail_of : (held : Option InHand) (text : List ℕ) (units : List AccessUnit) → Keeps held text units → HasTail held → IsTail units
tail_of None text units keeps tail = inl keeps
tail_of (Some h) text units keeps tail =
    inr (keeps.0, keeps.1, sym keeps.2.refused ∙ tail.0, sym keeps.2.slices ∙ ap (λ (places : List (ℕ × ℕ)). map (λ (place : ℕ × ℕ). slice_range text place.0 place.1) places) tail.1)

-- the units that are known where nothing is found
known_none : (a : Acceptor) (text : List ℕ) (ended : Bool) (told : List Told) (broken : Option ℕ) (opened hand front : List AccessUnit) → Reads a text ended told broken opened hand front → a.found ≡ None → IsLookedAt a text ended (places_of told ++ []) broken
known_none a text ended told broken opened hand front r none = subst (λ (f : Option (ℕ × ℕ)). IsLookedAt a text ended (places_of told ++ found_in f) broken) none r.known

units_none : (a : Acceptor) (text : List ℕ) (ended : Bool) (told : List Told) (broken : Option ℕ) (opened hand front : List AccessUnit) → Reads a text ended told broken opened hand front → a.opened ≡ None → access_units told broken ≡ hand ++ front
units_none a text ended told broken opened hand front r none = r.units ∙ ap (λ (list : List AccessUnit). list ++ (hand ++ front)) (keeps_first a.opened text opened none r.is_opened)

pub at_end : (a : Acceptor) (past : Past) → StandsFor a past → past.outcome ≡ Some true → Wants a → a.ended ≡ true → IsAtEnd past
at_end a past s outcome w ended =
    let r = s.reads in
    record {
      outcome = outcome;
      ended = sym r.ended_is ∙ ended;
      front = s.front;
      all = record {
        told = s.told;
        each = r.each;
        broken = s.broken;
        units = units_at_end past.text past.ended (places_of s.told) s.broken
            (looked_over a past.text past.ended (places_of s.told ++ []) s.broken (w.end ended) (known_none a past.text past.ended s.told s.broken s.opened s.hand s.front r w.found));
        tail = s.hand;
        is_tail = tail_of a.hand past.text s.hand r.in_hand (w.tail (w.end ended));
        split = units_none a past.text past.ended s.told s.broken s.opened s.hand s.front r w.opened;
      };
      pictures = s.pictures;
    }

-- ---- before the end

refused_first : (first : Option Bool) → option_or first (Some false) ≢ None
refused_first None e = cc
refused_first (Some large) e = cc

broken_first : (units : List AccessUnit) (au : AccessUnit) (rest : List AccessUnit) → broken_off units ≡ au ∷ rest → au.refused ≢ None
broken_first [] au rest is none =
    let e : refused_at_end (empty_at 0) ≡ au = cc in
    refused_first None (ap (λ (u : AccessUnit). u.refused) e ∙ none)
broken_first (other ∷ units) au rest is none =
    let e : refused_at_end other ≡ au = cc in
    refused_first other.refused (ap (λ (u : AccessUnit). u.refused) e ∙ none)

broken_some : (units : List AccessUnit) → broken_off units ≢ []
broken_some [] e = cc
broken_some (au ∷ units) e = cc

picture_first : (au : AccessUnit) (front : List AccessUnit) (given : List Picture) → ArePictures (au ∷ front) given → au.refused ≡ None
unfolding ArePictures
picture_first au front [] are = absurd are
picture_first au front (picture ∷ before) are = are.1.allowed

-- a broken place refuses the access unit in hand, or there is one
no_tail_broken : (told : List Told) (at : ℕ) (held : Option InHand) (text : List ℕ) (hand front : List AccessUnit) (given : List Picture)
    → broken_off (grouped told) ≡ hand ++ front → Keeps held text hand → HasTail held → ArePictures front given → ⊥
no_tail_broken told at None text hand [] given units keeps tail are = broken_some (grouped told) (units ∙ ap (λ (list : List AccessUnit). list ++ []) keeps)
no_tail_broken told at None text hand (au ∷ front) given units keeps tail are =
    broken_first (grouped told) au front (units ∙ ap (λ (list : List AccessUnit). list ++ (au ∷ front)) keeps) (picture_first au front given are)
no_tail_broken told at (Some h) text hand front given units keeps tail are =
    broken_first (grouped told) keeps.0 front (units ∙ ap (λ (list : List AccessUnit). list ++ front) keeps.1) (sym keeps.2.refused ∙ tail.0)

not_over_known : (told : List Told) (text : List ℕ) (ended : Bool) (broken : Option ℕ) (held : Option InHand) (hand front : List AccessUnit) (given : List Picture)
    → ended ≡ false → IsAtAnEnd text ended (places_of told ++ []) broken → access_units told broken ≡ hand ++ front → Keeps held text hand → HasTail held → ArePictures front given → ⊥
not_over_known told text ended broken held hand front given isnt (inl whole) units keeps tail are = not_both ended whole.0 isnt
not_over_known told text ended None held hand front given isnt (inr all) units keeps tail are = all.0 refl
not_over_known told text ended (Some at) held hand front given isnt (inr all) units keeps tail are = no_tail_broken told at held text hand front given units keeps tail are

drop_hand : (told : List Told) (held : Option InHand) (text : List ℕ) (hand front : List AccessUnit) → grouped told ≡ hand ++ front → Keeps held text hand → (hand ≡ [] → told ≡ []) → drop 1 (grouped told) ≡ front
drop_hand told None text hand front units keeps none =
    let no_units : grouped told ≡ [] = ap grouped (none keeps) ∙ grouped-nil in
    ap (λ (list : List AccessUnit). drop 1 list) no_units ∙ (sym no_units ∙ (units ∙ ap (λ (list : List AccessUnit). list ++ front) keeps))
drop_hand told (Some h) text hand front units keeps none = ap (λ (list : List AccessUnit). drop 1 list) (units ∙ ap (λ (list : List AccessUnit). list ++ front) keeps.1)

looked_whole : (a : Acceptor) (text : List ℕ) → a.bytes.items ≡ drop a.from text → a.from ≤ a.looked → a.looked ≤ length text → a.is_over ≡ false
    → (a.is_over ≡ true) ⊎ (a.looked ≡ a.from + length a.bytes.items) → length text ≤ a.looked
looked_whole a text bytes from looked on (inl over) = absurd (not_both a.is_over over on)
looked_whole a text bytes from looked on (inr all) =
    let size : length a.bytes.items ≡ length text - a.from = ap length bytes ∙ length-drop a.from text in
    omega (arith, all, size, from, looked)

hungry_of : (a : Acceptor) (past : Past) (s : StandsFor a past) → past.outcome ≡ Some true → Wants a → a.ended ≡ false → (over : Bool) → a.is_over ≡ over → IsHungry past
hungry_of a past s outcome w isnt true over =
    let r = s.reads in
    absurd (not_over_known s.told past.text past.ended s.broken a.hand s.hand s.front past.given (sym r.ended_is ∙ isnt)
    (looked_over a past.text past.ended (places_of s.told ++ []) s.broken over (known_none a past.text past.ended s.told s.broken s.opened s.hand s.front r w.found))
    (units_none a past.text past.ended s.told s.broken s.opened s.hand s.front r w.opened) r.in_hand (w.tail over) s.pictures)
hungry_of a past s outcome w isnt false on =
    let r = s.reads in
    let known = looked_on a past.text past.ended (places_of s.told ++ []) s.broken on (known_none a past.text past.ended s.told s.broken s.opened s.hand s.front r w.found) in
    let all : length past.text ≤ a.looked = looked_whole a past.text r.bytes r.from r.looked on w.all in
    record {
      outcome = outcome;
      not_ended = sym r.ended_is ∙ isnt;
      front = s.front;
      all = record {
        told = s.told;
        each = r.each;
        settles = subst (λ (t : List ℕ). Settles t (places_of s.told) None) (take_all a.looked past.text all)
            (subst (λ (places : List (ℕ × ℕ)). Settles (take a.looked past.text) places None) (append-nil (places_of s.told)) known.1);
        split = drop_hand s.told a.hand past.text s.hand s.front
            (subst (λ (b : Option ℕ). access_units s.told b ≡ s.hand ++ s.front) known.0 (units_none a past.text past.ended s.told s.broken s.opened s.hand s.front r w.opened))
            r.in_hand (λ empty. ((r.some_hand empty).1 on).0);
      };
      pictures = s.pictures;
    }

pub hungry : (a : Acceptor) (past : Past) → StandsFor a past → past.outcome ≡ Some true → Wants a → a.ended ≡ false → IsHungry past
hungry a past s outcome w isnt = hungry_of a past s outcome w isnt a.is_over refl
