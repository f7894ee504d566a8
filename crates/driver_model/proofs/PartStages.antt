-- A moment of a whole history and of its part about a device, and how items lead to the next.
use Rattle.std.proofs.Common.{◌≡◌, ◌⊎◌, inl, inr, ℕ, ◌+◌, ◌<◌, ◌==◌, true, false, ◌||◌, List, [], ◌∷◌, ◌++◌, length, map, slice_get, Option, Some, None, Ok, refl, ap, sym, ◌∙◌, subst, arith}
use Rattle.std.proofs.lemmas.Bool.{eqb-true, false≢true}
use Rattle.std.specs.List.{AllByRecursion, cons_option, list_any}
use Rattle.std.specs.Option.{is_some, option_map, option_map_or}
use Rattle.decoder_render.specs.declared.outcome.Outcome.{Outcome}
use Rattle.driver_model.specs.Answers.{Reply}
use Rattle.driver_model.specs.Objects.{Object}
use Rattle.driver_model.specs.Parts.{first_name, is_among, is_creation, is_first, name_given}
use Rattle.driver_model.specs.States.{State, Note, with_note}
use Rattle.driver_model.specs.declared.calls.Call.{Call}
use Rattle.driver_model.specs.declared.calls.Call.TheVariants as call
use Rattle.driver_model.specs.declared.replies.Answer.TheVariants.{Name}
use Rattle.driver_model.proofs.PartContents.{part_of}
use Rattle.driver_model.proofs.PartEffects.{Effect, IsNoted}
use Rattle.driver_model.proofs.PartItems.{item_in, item_in-other}
use Rattle.driver_model.proofs.PartNames.{IsAt}
use Rattle.driver_model.proofs.PartNotes.{AreTargets, note_at, notes_in, plain}
use Rattle.driver_model.proofs.PartOwned.{IsSane}
use Rattle.driver_model.proofs.PartPlaces.{Cut, same_tests}
use Rattle.driver_model.proofs.PartTicks.{AreOf}

-- Which objects of a state are the device's: those on it, and those that have one of its names.
pub record Fits (c : Cut) (v on : ℕ) (all : List ℕ) (s : State) : Type 0 where
  pub are_of : AreOf c.own on s.objects
  pub own_name : (place : ℕ) (a : Object) → slice_get s.objects place ≡ Some a → c.own place ≡ is_among all a.name
  pub is_at : IsAt v on s.objects

-- The part's state has what is the device's of the whole's, and its items stand at these places of the whole history.
pub record Stage (c : Cut) (places : List ℕ) (here : ℕ) (s t : State) : Type 0 where
  pub objects : t.objects ≡ part_of c s.objects
  pub notes : map plain t.notes ≡ notes_in c (item_in places) s.notes
  pub items : s.items ≡ here
  pub part_items : t.items ≡ length places
  pub below : AllByRecursion (λ place. place < here) places
  pub note_places : AllByRecursion (λ note. note.place < here) s.notes
  pub targets : AreTargets c (item_in places) s.notes
  pub sane : IsSane s

module _ (c : Cut) (places : List ℕ) (here : ℕ) where
  -- ---- notes, and one item more

  pub more-notes : (notes : List Note) → AllByRecursion (λ note. note.place < here) notes → notes_in c (item_in (places ++ here ∷ [])) notes ≡ notes_in c (item_in places) notes
  more-notes [] below = refl
  more-notes (note ∷ later) below =
      λ i. cons_option (option_map (note_at c (item_in places) note) (item_in-other places here note.place below.0 i)) (more-notes later below.1 i)

  pub more-targets : (notes : List Note) → AllByRecursion (λ note. note.place < here) notes → AreTargets c (item_in places) notes → AreTargets c (item_in (places ++ here ∷ [])) notes
  more-targets [] below targets = tt
  more-targets (note ∷ later) below targets = (ap is_some (item_in-other places here note.place below.0) ∙ targets.0, more-targets later below.1 targets.1)

  pub later-notes : (notes : List Note) → AllByRecursion (λ note. note.place < here) notes → AllByRecursion (λ note. note.place < here + 1) notes
  later-notes [] below = tt
  later-notes (note ∷ later) below = let less = below.0 in (omega (arith, less), later-notes later below.1)

  noted-below : (s : State) (caller : List ℕ) (target : ℕ) (o : Outcome) → s.items ≡ here → AllByRecursion (λ note. note.place < here) s.notes → AllByRecursion (λ note. note.place < here + 1) (with_note s caller target o).notes
  noted-below s caller target o items below = more s.notes _ (omega (arith, items)) below where
    more : (notes : List Note) (note : Note) → note.place < here + 1 → AllByRecursion (λ n. n.place < here) notes → AllByRecursion (λ n. n.place < here + 1) (notes ++ note ∷ [])
    more [] note less below = (less, tt)
    more (other ∷ later) note less below = let first = below.0 in (omega (arith, first), more later note less below.1)

  -- the notes behind a step of the whole
  pub notes_below : (s s' : State) (caller : List ℕ) (call : Call) (reply : Reply) → s.items ≡ here → AllByRecursion (λ note. note.place < here) s.notes → Effect s s' caller call reply → AllByRecursion (λ note. note.place < here + 1) s'.notes
  notes_below s s' caller call reply items below (inl (none, inl same)) = subst (λ (u : State). AllByRecursion (λ note. note.place < here + 1) u.notes) (sym same) (later-notes s.notes below)
  notes_below s s' caller call reply items below (inl (none, inr changed)) = by_notes changed.notes where
    by_notes : (s'.notes ≡ s.notes) ⊎ IsNoted s s' caller changed.device → AllByRecursion (λ note. note.place < here + 1) s'.notes
    by_notes (inl same) = subst (AllByRecursion (λ note. note.place < here + 1)) (sym same) (later-notes s.notes below)
    by_notes (inr noted) = subst (AllByRecursion (λ note. note.place < here + 1)) (sym noted.notes) (noted-below s caller noted.target noted.outcome items below)
  notes_below s s' caller call reply items below (inr grown) = subst (λ (u : State). AllByRecursion (λ note. note.place < here + 1) u.notes) (sym grown.grows) (later-notes s.notes below)

pub step_items : (s s' : State) (caller : List ℕ) (call : Call) (reply : Reply) → Effect s s' caller call reply → s'.items ≡ s.items
step_items s s' caller call reply (inl (none, inl same)) = ap (λ (u : State). u.items) same
step_items s s' caller call reply (inl (none, inr changed)) = changed.items
step_items s s' caller call reply (inr grown) = ap (λ (u : State). u.items) grown.grows

-- ---- which calls are the device's

eqb_comm : (a b : ℕ) → (a == b) ≡ (b == a)
eqb_comm a b = same_tests a b b a (λ e. sym e) (λ e. sym e)

pub creation_is : (v : ℕ) (asked : Call) (reply : Reply) → is_creation v asked reply ≡ true → (asked ≡ call.DeviceCreate) × (name_given reply ≡ Some v)
creation_is v call.DeviceCreate (Ok (Name name)) e = (refl, ap (λ n. Some n) (eqb-true name v e))
creation_is v _ _ e = absurd (false≢true e)

pub first_among : (asked : Call) (all : List ℕ) → list_any (λ name. is_first name asked) all ≡ true → (name : ℕ) × (first_name asked ≡ Some name) × (is_among all name ≡ true)
first_among asked all e = by_first (first_name asked) refl e where
  no_first : (names : List ℕ) → list_any (λ (name : ℕ). option_map_or (λ first. first == name) None false) names ≡ true → ⊥
  no_first [] k = false≢true k
  no_first (name ∷ later) k = no_first later k

  same_first : (first : ℕ) (names : List ℕ) → list_any (λ name. first == name) names ≡ is_among names first
  same_first first [] = refl
  same_first first (name ∷ later) = λ i. eqb_comm first name i || same_first first later i

  by_first : (o : Option ℕ) → first_name asked ≡ o → list_any (λ name. option_map_or (λ first. first == name) o false) all ≡ true → (name : ℕ) × (first_name asked ≡ Some name) × (is_among all name ≡ true)
  by_first None is k = absurd (no_first all k)
  by_first (Some first) is k = (first, is, sym (same_first first all) ∙ k)

pub not_among : (asked : Call) (all : List ℕ) (name : ℕ) → list_any (λ own. is_first own asked) all ≡ false → first_name asked ≡ Some name → is_among all name ≡ false
not_among asked all name e first = sym (same_first all) ∙ e where
  same_first : (names : List ℕ) → list_any (λ own. is_first own asked) names ≡ is_among names name
  same_first [] = refl
  same_first (own ∷ later) = λ i. (ap (λ (o : Option ℕ). option_map_or (λ f. f == own) o false) first ∙ eqb_comm name own) i || same_first later i
