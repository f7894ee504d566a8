-- The notes of running jobs in the part about a device: those of jobs that were begun by items of the part, each with its place
-- there. Their numbers are the part's own.
use Rattle.std.proofs.Common.{◌≡◌, ℕ, ◌==◌, Bool, true, false, not, ◌&&◌, ◌||◌, if◌then◌else◌, List, [], ◌∷◌, ◌++◌, filter, filter_map, map, Option, Some, None, refl, ap, sym, ◌∙◌}
use Rattle.std.proofs.lemmas.Bool.{and_left, eqb-true, false≢true, ne_eqb}
use Rattle.std.proofs.lemmas.List.{map-append}
use Rattle.std.proofs.lemmas.List.Elements.{filter_map-append}
use Rattle.std.specs.List.{AllByRecursion, cons_option, list_any}
use Rattle.std.specs.Option.{is_some, option_map}
use Rattle.decoder_render.specs.declared.outcome.Outcome.{Outcome}
use Rattle.device_lock.specs.Lists.{same}
use Rattle.driver_model.specs.States.{State, Note, has_note, is_note_of, is_out, with_note, without_note}
use Rattle.driver_model.proofs.PartPlaces.{Cut, place_in, place_in-one, same_tests}

some_number : (a b : ℕ) → Some a ≡ Some b → a ≡ b
some_number a b e = cc

nothing_said : (a : ℕ) → (let o : Option ℕ = None in o ≡ Some a) → ⊥
nothing_said a e = cc

-- a note without its number
abbrev pub plain : Note → Note
plain note = record note { number = 0 }

plain_any : (test : Note → Bool) → ((note : Note) → test (plain note) ≡ test note) → (notes : List Note) → list_any test (map plain notes) ≡ list_any test notes
plain_any test is [] = refl
plain_any test is (note ∷ later) = λ i. is note i || plain_any test is later i

plain_filter : (test : Note → Bool) → ((note : Note) → test (plain note) ≡ test note) → (notes : List Note) → map plain (filter test notes) ≡ filter test (map plain notes)
plain_filter test is [] = refl
plain_filter test is (note ∷ later) =
    by_test (test note) (plain_filter test is later) ∙ ap (λ b. if b then plain note ∷ filter test (map plain later) else filter test (map plain later)) (sym (is note))
  where
    by_test : (b : Bool) → map plain (filter test later) ≡ filter test (map plain later)
        → map plain (if b then note ∷ filter test later else filter test later) ≡ (if b then plain note ∷ filter test (map plain later) else filter test (map plain later))
    by_test true rest = ap (λ l. plain note ∷ l) rest
    by_test false rest = rest

-- q says where an item of the whole stands in the part, if it does.
module _ (c : Cut) (q : ℕ → Option ℕ) where
  abbrev pub note_at : Note → ℕ → Note
  note_at note place = record { place = place; caller = note.caller; target = place_in c note.target; outcome = note.outcome; number = 0 }

  abbrev pub note_in : Note → Option Note
  note_in note = option_map (note_at note) (q note.place)

  abbrev pub notes_in : List Note → List Note
  notes_in notes = filter_map note_in notes

  -- A job was begun in the part where its target is the device's own.
  abbrev pub AreTargets : List Note → Type 0
  AreTargets notes = AllByRecursion (λ note. is_some (q note.place) ≡ c.own note.target) notes

  out_in : (place : ℕ) → c.own place ≡ true → (notes : List Note) → AreTargets notes → list_any (λ note. note.target == place_in c place) (notes_in notes) ≡ list_any (λ note. note.target == place) notes
  out_in place own [] targets = refl
  out_in place own (note ∷ later) targets = by_place (q note.place) refl (out_in place own later targets.1) where
    by_place : (o : Option ℕ) → q note.place ≡ o → list_any (λ n. n.target == place_in c place) (notes_in later) ≡ list_any (λ n. n.target == place) later
        → list_any (λ n. n.target == place_in c place) (cons_option (option_map (note_at note) o) (notes_in later)) ≡ ((note.target == place) || list_any (λ n. n.target == place) later)
    by_place None e rest =
        let other : c.own note.target ≡ false = sym targets.0 ∙ ap is_some e in
        rest ∙ ap (λ b. b || list_any (λ n. n.target == place) later) (sym (ne_eqb note.target place (λ at. false≢true (sym other ∙ (ap c.own at ∙ own)))))
    by_place (Some k) e rest = λ i. place_in-one c note.target place i || rest i

  -- a surface is out in the part where it is in the whole
  pub part-out : (s t : State) → map plain t.notes ≡ notes_in s.notes → AreTargets s.notes → (place : ℕ) → c.own place ≡ true → is_out t (place_in c place) ≡ is_out s place
  part-out s t notes targets place own =
      sym (plain_any (λ note. note.target == place_in c place) (λ note. refl) t.notes)
      ∙ (ap (list_any (λ (note : Note). note.target == place_in c place)) notes ∙ out_in place own s.notes targets)

  -- a job is begun in both
  pub part-with_note : (s t : State) (caller : List ℕ) (target : ℕ) (outcome : Outcome) → map plain t.notes ≡ notes_in s.notes → q s.items ≡ Some t.items
      → map plain (with_note t caller (place_in c target) outcome).notes ≡ notes_in (with_note s caller target outcome).notes
  part-with_note s t caller target outcome notes item =
      let note : Note = record { place = s.items; caller = caller; target = target; outcome = outcome; number = 0 } in
      let back : Some t.items ≡ q s.items = sym item in
      map-append plain t.notes _
      ∙ ((λ i. notes i ++ cons_option (option_map (note_at note) (back i)) [])
      ∙ sym (filter_map-append note_in s.notes _))

  pub targets-with_note : (s : State) (caller : List ℕ) (target : ℕ) (outcome : Outcome) → AreTargets s.notes → is_some (q s.items) ≡ c.own target → AreTargets (with_note s caller target outcome).notes
  targets-with_note s caller target outcome targets is = more s.notes _ targets is where
    more : (notes : List Note) (note : Note) → AreTargets notes → is_some (q note.place) ≡ c.own note.target → AreTargets (notes ++ note ∷ [])
    more [] note targets is = (is, tt)
    more (other ∷ later) note targets is = (targets.0, more later note targets.1 is)

  -- a job of another device is begun
  pub other-with_note : (s : State) (caller : List ℕ) (target : ℕ) (outcome : Outcome) → q s.items ≡ None → notes_in (with_note s caller target outcome).notes ≡ notes_in s.notes
  other-with_note s caller target outcome none =
      let note : Note = record { place = s.items; caller = caller; target = target; outcome = outcome; number = 0 } in
      filter_map-append note_in s.notes _
      ∙ (ap (λ o. notes_in s.notes ++ cons_option (option_map (note_at note) o) []) none ∙ append-none (notes_in s.notes))
    where
      append-none : (l : List Note) → l ++ [] ≡ l
      append-none [] = refl
      append-none (x ∷ l) = ap (λ r. x ∷ r) (append-none l)

  -- ---- the ends of jobs

  targets-filter : (test : Note → Bool) (notes : List Note) → AreTargets notes → AreTargets (filter test notes)
  targets-filter test [] targets = tt
  targets-filter test (note ∷ later) targets = by_test (test note) (targets-filter test later targets.1) where
    by_test : (b : Bool) → AreTargets (filter test later) → AreTargets (if b then note ∷ filter test later else filter test later)
    by_test true rest = (targets.0, rest)
    by_test false rest = rest

  pub targets-without_note : (s : State) (caller : List ℕ) (place : ℕ) → AreTargets s.notes → AreTargets (without_note s caller place).notes
  targets-without_note s caller place targets = targets-filter (λ note. not (is_note_of caller place note)) s.notes targets

  -- of a job that isn't of the part
  other_filter : (caller : List ℕ) (place : ℕ) → q place ≡ None → (notes : List Note) → notes_in (filter (λ note. not (is_note_of caller place note)) notes) ≡ notes_in notes
  other_filter caller place none [] = refl
  other_filter caller place none (note ∷ later) = by_test (note.place == place) refl (same caller note.caller) (other_filter caller place none later) where
    by_test : (b : Bool) → (note.place == place) ≡ b → (d : Bool) → notes_in (filter (λ n. not (is_note_of caller place n)) later) ≡ notes_in later
        → notes_in (if not (b && d) then note ∷ filter (λ n. not (is_note_of caller place n)) later else filter (λ n. not (is_note_of caller place n)) later) ≡ cons_option (note_in note) (notes_in later)
    by_test true e true rest = rest ∙ ap (λ o. cons_option (option_map (note_at note) o) (notes_in later)) (sym (ap q (eqb-true note.place place e) ∙ none))
    by_test true e false rest = ap (cons_option (note_in note)) rest
    by_test false e d rest = ap (cons_option (note_in note)) rest

  pub other-without_note : (s : State) (caller : List ℕ) (place : ℕ) → q place ≡ None → notes_in (without_note s caller place).notes ≡ notes_in s.notes
  other-without_note s caller place none = other_filter caller place none s.notes

  -- of one that is
  module _ (one : (a b k : ℕ) → q a ≡ Some k → q b ≡ Some k → a ≡ b) (caller : List ℕ) (place k : ℕ) (is : q place ≡ Some k) where
    same_note : (note : Note) (j : ℕ) → q note.place ≡ Some j → is_note_of caller k (note_at note j) ≡ is_note_of caller place note
    same_note note j e =
        ap (λ b. b && same caller note.caller)
        (same_tests j k note.place place
        (λ at. one note.place place k (e ∙ ap (λ n. Some n) at) is)
        (λ at. some_number j k (sym e ∙ (ap q at ∙ is))))

    other_note : (note : Note) → q note.place ≡ None → is_note_of caller place note ≡ false
    other_note note e = and_left (note.place == place) (same caller note.caller) (ne_eqb note.place place (λ at. nothing_said k (sym e ∙ (ap q at ∙ is))))

    any_in : (notes : List Note) → list_any (is_note_of caller k) (notes_in notes) ≡ list_any (is_note_of caller place) notes
    any_in [] = refl
    any_in (note ∷ later) = by_place (q note.place) refl (any_in later) where
      by_place : (o : Option ℕ) → q note.place ≡ o → list_any (is_note_of caller k) (notes_in later) ≡ list_any (is_note_of caller place) later
          → list_any (is_note_of caller k) (cons_option (option_map (note_at note) o) (notes_in later)) ≡ (is_note_of caller place note || list_any (is_note_of caller place) later)
      by_place None e rest = rest ∙ ap (λ b. b || list_any (is_note_of caller place) later) (sym (other_note note e))
      by_place (Some j) e rest = λ i. same_note note j e i || rest i

    pub part-has_note : (s t : State) → map plain t.notes ≡ notes_in s.notes → has_note s caller place ≡ true → has_note t caller k ≡ true
    part-has_note s t notes has =
        sym (plain_any (is_note_of caller k) (λ note. refl) t.notes) ∙ (ap (list_any (is_note_of caller k)) notes ∙ (any_in s.notes ∙ has))

    filter_in : (notes : List Note) → filter (λ note. not (is_note_of caller k note)) (notes_in notes) ≡ notes_in (filter (λ note. not (is_note_of caller place note)) notes)
    filter_in [] = refl
    filter_in (note ∷ later) = by_place (q note.place) refl (filter_in later) where
      by_test : (j : ℕ) → q note.place ≡ Some j → (b : Bool) → filter (λ n. not (is_note_of caller k n)) (notes_in later) ≡ notes_in (filter (λ n. not (is_note_of caller place n)) later)
          → (if not b then note_at note j ∷ filter (λ n. not (is_note_of caller k n)) (notes_in later) else filter (λ n. not (is_note_of caller k n)) (notes_in later))
          ≡ notes_in (if not b then note ∷ filter (λ n. not (is_note_of caller place n)) later else filter (λ n. not (is_note_of caller place n)) later)
      by_test j e true rest = rest
      by_test j e false rest = ap (λ l. note_at note j ∷ l) rest ∙ ap (λ o. cons_option (option_map (note_at note) o) (notes_in (filter (λ n. not (is_note_of caller place n)) later))) (sym e)

      by_place : (o : Option ℕ) → q note.place ≡ o → filter (λ n. not (is_note_of caller k n)) (notes_in later) ≡ notes_in (filter (λ n. not (is_note_of caller place n)) later)
          → filter (λ n. not (is_note_of caller k n)) (cons_option (option_map (note_at note) o) (notes_in later))
          ≡ notes_in (if not (is_note_of caller place note) then note ∷ filter (λ n. not (is_note_of caller place n)) later else filter (λ n. not (is_note_of caller place n)) later)
      by_place None e rest =
          rest
          ∙ (ap (λ o. cons_option (option_map (note_at note) o) (notes_in (filter (λ n. not (is_note_of caller place n)) later))) (sym e)
          ∙ ap (λ b. notes_in (if not b then note ∷ filter (λ n. not (is_note_of caller place n)) later else filter (λ n. not (is_note_of caller place n)) later)) (sym (other_note note e)))
      by_place (Some j) e rest =
          ap (λ b. if not b then note_at note j ∷ filter (λ n. not (is_note_of caller k n)) (notes_in later) else filter (λ n. not (is_note_of caller k n)) (notes_in later)) (same_note note j e)
          ∙ by_test j e (is_note_of caller place note) rest

    pub part-without_note : (s t : State) → map plain t.notes ≡ notes_in s.notes → map plain (without_note t caller k).notes ≡ notes_in (without_note s caller place).notes
    part-without_note s t notes =
        plain_filter (λ note. not (is_note_of caller k note)) (λ note. refl) t.notes ∙ (ap (filter (λ note. not (is_note_of caller k note))) notes ∙ filter_in s.notes)
