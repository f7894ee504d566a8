-- What a text settles, by its phase.
use Rattle.std.proofs.Common.{◌≡◌, ◌≢◌, ℕ, ◌+◌, ◌-◌, ◌<◌, ◌≤◌, inl, inr, List, [], ◌∷◌, ◌++◌, length, refl, sym, ◌∙◌, ap, subst, arith, length-append, true, false, cond, Option, Some, None}
use Rattle.std.specs.Prelude.{replicate, filter, nat_le}
use Rattle.std.proofs.lemmas.List.{append-nil, length-replicate}
use Rattle.std.proofs.lemmas.List.Elements.{filter-append}
use Rattle.std.proofs.lemmas.Bool.{cases_eq, le-leb, lt-leb, cond-true}
use Rattle.nal_units.specs.Units.{Units, Part, Ending, stream, place, places, end_of, fewest}
use Rattle.nal_units.specs.Settled.{CanBeWhole, HaveEnded, ended, Settles}
use Rattle.nal_units.specs.Finder.{IsOutside, IsInside, IsPhase, broken_of}
use Rattle.nal_units.specs.declared.finder.Phase.{Phase}
use Rattle.nal_units.specs.declared.finder.Phase.TheVariants as phase
use Rattle.nal_units.proofs.Streams.{end_of-above, length-stream}
use Rattle.nal_units.proofs.Unique.{units_unique, ends_zeros}
use Rattle.nal_units.proofs.Steps.{outside_len, inside_len, inside_byte, inside_parts, inside_empty}

-- the units of a text that ends here

pub whole_outside : (t : List ℕ) (s : List (ℕ × ℕ)) (z : ℕ) → IsOutside t s z → Units t s None
whole_outside t s z o = record {
  parts = o.parts;
  run = o.run;
  tail = [];
  each = o.each;
  spelled = o.spelled ∙ ap (λ x. stream o.parts x) (sym (append-nil (replicate o.run 0)));
  placed = o.placed;
  ending = refl;
}

pub whole_inside : (t : List ℕ) (s : List (ℕ × ℕ)) (start z end : ℕ) → IsInside t s start z → end + z ≡ length t → start ≢ end → Units t (s ++ (start, end) ∷ []) None
whole_inside t s start z end i ends some =
    let p = inside_parts t s start z end i ends some in
    record {
      parts = p.0;
      run = z;
      tail = [];
      each = p.1;
      spelled = p.2 ∙ ap (λ x. stream p.0 x) (sym (append-nil (replicate z 0)));
      placed = p.3;
      ending = refl;
    }

pub broken_inside : (t : List ℕ) (s : List (ℕ × ℕ)) (start z : ℕ) → IsInside t s start z → start + z ≡ length t → Units t s (Some start)
broken_inside t s start z i ends =
    let P : List ℕ → Type 0 = λ x. Units x s (Some start) in
    subst P (append-nil t) (inside_empty t s start z [] i ends (ends_zeros z))

pub broken_here : (t : List ℕ) (s : List (ℕ × ℕ)) (at : ℕ) → ((more : List ℕ) → Units (t ++ more) s (Some at)) → Units t s (Some at)
broken_here t s at all =
    let P : List ℕ → Type 0 = λ x. Units x s (Some at) in subst P (append-nil t) (all [])

-- it can be whole

whole_can : (t : List ℕ) (s : List (ℕ × ℕ)) → Units t s None → CanBeWhole t
whole_can t s whole =
    let P : List ℕ → Type 0 = λ x. Units x s None in ([], s, subst P (sym (append-nil t)) whole)

inside_can : (t : List ℕ) (s : List (ℕ × ℕ)) (start z : ℕ) → IsInside t s start z → CanBeWhole t
inside_can t s start z i =
    let len = inside_len t s start z i in
    let grown = inside_byte t s start z 2 i (λ e. omega arith) (λ e. omega arith) in
    let longer = length-append t (2 ∷ []) in
    (2 ∷ [], _, whole_inside (t ++ 2 ∷ []) s start 0 (length t + 1) grown (omega arith) (λ e. omega arith))

-- the units that have ended

ended_all : (from n : ℕ) (parts : List Part) → end_of from parts + 3 ≤ n → filter (λ (u : ℕ × ℕ). nat_le (u.1 + 3) n) (places from parts) ≡ places from parts
ended_all from n [] fits = refl
ended_all from n (part ∷ parts) fits =
    let above = end_of-above parts (place from part).1 in
    let inner = ended_all (place from part).1 n parts fits in
    let here : nat_le ((place from part).1 + 3) n ≡ true = le-leb _ _ (omega arith) in
    cond-true _ _ _ here ∙ ap (λ x. place from part ∷ x) inner

ended_parts : (n run : ℕ) (parts : List Part) → fewest parts ≤ run → n ≡ end_of 0 parts + run → filter (λ (u : ℕ × ℕ). nat_le (u.1 + 3) n) (places 0 parts) ≡ places 0 parts
ended_parts n run [] closed len = refl
ended_parts n run (part ∷ parts) closed len = ended_all 0 n (part ∷ parts) (omega arith)

ended_outside : (t : List ℕ) (s : List (ℕ × ℕ)) (z : ℕ) → IsOutside t s z → s ≡ ended t s
ended_outside t s z o =
    sym (ap (λ x. ended t x) o.placed ∙ ended_parts (length t) o.run o.parts o.closed (outside_len t s z o) ∙ sym o.placed)

ended_inside : (t : List ℕ) (s : List (ℕ × ℕ)) (start z : ℕ) → IsInside t s start z → s ≡ ended t s
ended_inside t s start z i =
    let len = inside_len t s start z i in
    let begun = i.begun in
    let enough = i.enough in
    sym (ap (λ x. ended t x) i.placed ∙ ended_all 0 (length t) i.parts (omega arith) ∙ sym i.placed)

ended_tail : (run : ℕ) (tail : List ℕ) (n from at : ℕ) (parts : List Part) → n ≡ end_of 0 parts + run + length tail → Ending (fewest parts) from run tail (Some at)
    → filter (λ (u : ℕ × ℕ). nat_le (u.1 + 3) n) (places 0 parts) ≡ places 0 parts
ended_tail run tail n from at [] len ending = refl
ended_tail run [] n from at (part ∷ parts) len ending = absurd (cc)
ended_tail run (byte ∷ more) n from at (part ∷ parts) len (inl stray) = ended_all 0 n (part ∷ parts) (let three = stray.2 in omega arith)
ended_tail run (byte ∷ more) n from at (part ∷ parts) len (inr empty) = ended_all 0 n (part ∷ parts) (let two = empty.0.0 in omega arith)

ended_broken : (t : List ℕ) (s : List (ℕ × ℕ)) (at : ℕ) → Units t s (Some at) → s ≡ ended t s
ended_broken t s at u =
    let len = length-stream u.parts (replicate u.run 0 ++ u.tail) 0 in
    let same = ap length u.spelled in
    let both = length-append (replicate u.run 0) u.tail in
    let zeros = length-replicate {A = ℕ} u.run 0 in
    sym (ap (λ x. ended t x) u.placed ∙ ended_tail u.run u.tail (length t) _ at u.parts (omega arith) u.ending ∙ sym u.placed)

-- a unit that ends in so many bytes hasn't ended
ended_last : (t : List ℕ) (s : List (ℕ × ℕ)) (start end : ℕ) → s ≡ ended t s → length t < end + 3 → s ≡ ended t (s ++ (start, end) ∷ [])
ended_last t s start end all late =
    let none : nat_le (end + 3) (length t) ≡ false = lt-leb _ _ late in
    let last : ended t ((start, end) ∷ []) ≡ [] = ap (λ b. cond b ((start, end) ∷ []) []) none in
    all ∙ sym (append-nil (ended t s)) ∙ ap (λ x. ended t s ++ x) (sym last) ∙ sym (filter-append (λ (u : ℕ × ℕ). nat_le (u.1 + 3) (length t)) s ((start, end) ∷ []))

-- the text's units, of which these have ended

pub phase_units : (ph : Phase) (t : List ℕ) (s : List (ℕ × ℕ)) → IsPhase ph t s → HaveEnded t s
phase_units (phase.Outside z) t s o = (s, None, whole_outside t s z o, ended_outside t s z o)
phase_units (phase.Broken at) t s all = let here = broken_here t s at all in (s, Some at, here, ended_broken t s at here)
phase_units (phase.Inside start z) t s i =
    let len = inside_len t s start z i in
    let few = i.few in
    elim (cases_eq start (length t - z)) as (λ _. HaveEnded t s) [
      | inl e ↦ (s, Some start, broken_inside t s start z i (omega arith), ended_inside t s start z i)
      | inr some ↦ (
        s ++ (start, length t - z) ∷ [],
        None,
        whole_inside t s start z (length t - z) i (omega arith) some,
        ended_last t s start (length t - z) (ended_inside t s start z i) (omega arith),
      )
    ]

pub phase_settles : (ph : Phase) (t : List ℕ) (s : List (ℕ × ℕ)) → IsPhase ph t s → Settles t s (broken_of ph)
phase_settles (phase.Outside z) t s o = (whole_can t s (whole_outside t s z o), phase_units (phase.Outside z) t s o)
phase_settles (phase.Inside start z) t s i = (inside_can t s start z i, phase_units (phase.Inside start z) t s i)
phase_settles (phase.Broken at) t s all = all

pub settles_unique : (t : List ℕ) (l m : List (ℕ × ℕ)) (b c : Option ℕ) → Settles t l b → Settles t m c → (l ≡ m) × (b ≡ c)
settles_unique t l m None None x y =
    let same = units_unique t _ _ _ _ x.1.2 y.1.2 in (x.1.3 ∙ ap (λ u. ended t u) same.0 ∙ sym y.1.3, refl)
settles_unique t l m None (Some at) x y = let same = units_unique _ _ _ _ _ x.0.2 (y x.0.0) in absurd (cc)
settles_unique t l m (Some at) None x y = let same = units_unique _ _ _ _ _ y.0.2 (x y.0.0) in absurd (cc)
settles_unique t l m (Some at) (Some at') x y = units_unique _ _ _ _ _ (x []) (y [])
