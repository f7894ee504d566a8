-- A reference that is put at a place of a list.
use Rattle.std.proofs.Common.{◌≡◌, ℕ, ◌+◌, ◌-◌, ◌<◌, ◌≤◌, ◌++◌, true, false, List, [], ◌∷◌, length, take, drop, filter, replicate, get_or, Option, Some, None, inl, inr, append-nil, length-append, length-drop, refl, sym, ap, ◌∙◌, arith, append_assoc}
use Rattle.std.proofs.lemmas.Bool.Decides.{leb_tells}
use Rattle.std.proofs.lemmas.List.{ext_get_or, get_or-append_right, get_or-drop, get_or-replicate, get_or-take, get_or_append_left, length-replicate, length-take-le, take_more}
use Rattle.std.proofs.lemmas.List.Elements.{filter-append}
use Rattle.std.proofs.Math.Seq.{take-length}
use Rattle.ref_lists.specs.ReferenceList.{fitted, is_other}

-- what is kept of the entries before the one with this number
abbrev pub kept : List (Option ℕ) → ℕ → ℕ → ℕ → List (Option ℕ)
kept entries settled place i = take settled entries ++ Some place ∷ filter (is_other place) (take (i - settled) (drop settled entries))

-- one more entry looked at
front_more : (entries : List (Option ℕ)) (settled i : ℕ) → settled ≤ i → i < length entries
    → take (i + 1 - settled) (drop settled entries) ≡ take (i - settled) (drop settled entries) ++ get_or entries i None ∷ []
front_more entries settled i from inside =
    let step : i + 1 - settled ≡ (i - settled) + 1 = omega arith in
    let back : settled + (i - settled) ≡ i = omega arith in
    let room : i - settled < length (drop settled entries) = omega (arith, length-drop settled entries) in
    ap (λ (n : ℕ). take n (drop settled entries)) step
    ∙ take_more (drop settled entries) (i - settled) None room
    ∙ ap (λ (x : Option ℕ). take (i - settled) (drop settled entries) ++ x ∷ []) (get_or-drop settled entries (i - settled) None ∙ ap (λ (n : ℕ). get_or entries n None) back)

pub kept_more : (entries : List (Option ℕ)) (settled place i : ℕ) → settled ≤ i → i < length entries → is_other place (get_or entries i None) ≡ true
    → kept entries settled place (i + 1) ≡ kept entries settled place i ++ get_or entries i None ∷ []
kept_more entries settled place i from inside other =
    let so_far = take (i - settled) (drop settled entries) in
    let one : filter (is_other place) (get_or entries i None ∷ []) ≡ get_or entries i None ∷ [] = rw other refl in
    ap (λ (xs : List (Option ℕ)). take settled entries ++ Some place ∷ xs)
    (ap (filter (is_other place)) (front_more entries settled i from inside) ∙ filter-append (is_other place) so_far (get_or entries i None ∷ []) ∙ ap (λ (xs : List (Option ℕ)). filter (is_other place) so_far ++ xs) one)
    ∙ sym (append_assoc (take settled entries) (Some place ∷ filter (is_other place) so_far) (get_or entries i None ∷ []))

pub kept_same : (entries : List (Option ℕ)) (settled place i : ℕ) → settled ≤ i → i < length entries → is_other place (get_or entries i None) ≡ false
    → kept entries settled place (i + 1) ≡ kept entries settled place i
kept_same entries settled place i from inside same =
    let so_far = take (i - settled) (drop settled entries) in
    let none : filter (is_other place) (get_or entries i None ∷ []) ≡ [] = rw same refl in
    ap (λ (xs : List (Option ℕ)). take settled entries ++ Some place ∷ xs)
    (ap (filter (is_other place)) (front_more entries settled i from inside) ∙ filter-append (is_other place) so_far (get_or entries i None ∷ [])
    ∙ ap (λ (xs : List (Option ℕ)). filter (is_other place) so_far ++ xs) none ∙ append-nil (filter (is_other place) so_far))

pub kept_all : (entries : List (Option ℕ)) (settled place : ℕ) → kept entries settled place (length entries) ≡ take settled entries ++ Some place ∷ filter (is_other place) (drop settled entries)
kept_all entries settled place =
    let n = length-drop settled entries in
    ap (λ (xs : List (Option ℕ)). take settled entries ++ Some place ∷ filter (is_other place) xs) (ap (λ (k : ℕ). take k (drop settled entries)) (sym n) ∙ take-length (drop settled entries))

-- What is kept stands at the front, and nothing behind it.
pub fitted_front : (length_wanted next : ℕ) (moved entries : List (Option ℕ)) → length moved ≡ 17 → length_wanted ≤ 16 → next ≤ 17 → take next moved ≡ entries
    → ((k : ℕ) → next ≤ k → k < 17 → get_or moved k None ≡ None) → take length_wanted moved ≡ fitted length_wanted entries
fitted_front wanted next moved entries size few within front back =
    let many : length entries ≡ next = ap length (sym front) ∙ length-take-le next moved (omega (arith, size)) in
    let all : length (entries ++ replicate wanted None) ≡ next + wanted = length-append entries (replicate wanted None) ∙ omega (arith, many, length-replicate {A = Option ℕ}) in
    let left : length (take wanted moved) ≡ wanted = length-take-le wanted moved (omega (arith, size)) in
    let right : length (take wanted (entries ++ replicate wanted None)) ≡ wanted = length-take-le wanted (entries ++ replicate wanted None) (omega (arith, all)) in
    ext_get_or None (take wanted moved) (take wanted (entries ++ replicate wanted None)) (left ∙ sym right)
    (λ i h. let inside : i < wanted = omega (arith, left, h) in
    get_or-take wanted moved i None inside
    ∙ elim (leb_tells (i + 1) next) [
      | inl below ↦ (let low : i < next = omega (arith, below.1) in
          sym (get_or-take next moved i None low) ∙ ap (λ (xs : List (Option ℕ)). get_or xs i None) front ∙ sym (get_or_append_left entries (replicate wanted None) None i (omega (arith, many))))
      | inr above ↦ (let high : next ≤ i = omega (arith, above.1) in
          back i high (omega arith) ∙ sym (get_or-append_right entries (replicate wanted None) next i None many high ∙ get_or-replicate wanted (i - next) None None (omega arith)))
    ]
    ∙ sym (get_or-take wanted (entries ++ replicate wanted None) i None inside))
