-- The access units that a text settles, in two ways, are the last of one list.
use Rattle.std.proofs.Common.{◌≡◌, ℕ, ◌≤◌, inl, inr, ◌⊎◌, true, List, [], ◌∷◌, ◌++◌, length, Option, None, sym, ap, subst, ◌∙◌, append_assoc, arith}
use Rattle.std.proofs.lemmas.Bool.{cases_lt}
use Rattle.std.proofs.lemmas.List.{length-append}
use Rattle.nal_units.proofs.Advancing.{text_has_units}
use Rattle.nal_units.proofs.Unique.{units_unique}
use Rattle.access_units.specs.AccessUnits.{AccessUnit, access_units, grouped}
use Rattle.access_units.specs.Acceptors.{AreAll, IsSettled, IsTail}
use Rattle.access_units.specs.Contents.{AreTold, Told, places_of}
use Rattle.access_units.proofs.OneGrouping.{Settle, all_first, all_units, broken_place, ends_in, fewer_first, length_places, same_units, settled}

-- Both are the last of one list.
pub record Share (xs ys : List AccessUnit) : Type 0 where
  pub all : List AccessUnit
  pub left : List AccessUnit
  pub right : List AccessUnit
  pub of_left : all ≡ left ++ xs
  pub of_right : all ≡ right ++ ys

swapped : (xs ys : List AccessUnit) → Share xs ys → Share ys xs
swapped xs ys s = record { all = s.all; left = s.right; right = s.left; of_left = s.of_right; of_right = s.of_left }

-- They are also the last of those of more units.
ends_later : (text : List ℕ) (xs : List AccessUnit) (a : Settle text xs) (another : AccessUnit) → grouped a.told ≡ another ∷ xs → (told : List Told) (broken : Option ℕ) → ((later : List Told) × (told ≡ later ++ a.told))
    → (more : List AccessUnit) × (access_units told broken ≡ more ++ xs)
ends_later text xs a another is told broken more =
    let end = ends_in more.0 a.told broken xs another is in
    let there : access_units told broken ≡ access_units (more.0 ++ a.told) broken = ap (λ (t : List Told). access_units t broken) more.1 in
    (end.0 ++ end.1 ∷ [], there ∙ end.2 ∙ sym (append_assoc end.0 (end.1 ∷ []) xs))

shared : (text : List ℕ) (xs ys : List AccessUnit) (a : Settle text xs) (another : AccessUnit) → grouped a.told ≡ another ∷ xs → (b : Settle text ys) (broken : Option ℕ) (later : List AccessUnit) → access_units b.told broken ≡ later ++ ys
    → length a.told ≤ length b.told → Share xs ys
shared text xs ys a another is b broken later ends few =
    let end = ends_later text xs a another is b.told broken (fewer_first text (all_units text) a.told b.told a.each b.each a.first b.first few) in
    record { all = access_units b.told broken; left = end.0; right = later; of_left = end.1; of_right = ends }

-- all units are no fewer
few_told : (text : List ℕ) (xs : List AccessUnit) (a : Settle text xs) (told : List Told) → places_of told ≡ all_units text → length a.told ≤ length told
few_told text xs a told all =
    let whole : length (places_of told) ≡ length (places_of a.told ++ a.first.0) = ap length (all ∙ a.first.1) in
    omega (arith, whole, length-append (places_of a.told) a.first.0, length_places told, length_places a.told)

same_told : (text : List ℕ) (a b : List Told) → AreTold text a → AreTold text b → places_of a ≡ all_units text → places_of b ≡ all_units text → a ≡ b
same_told text a b is also all other = same_units text a b is also (all ∙ sym other)

pub share : (text : List ℕ) (xs ys : List AccessUnit) → Settle text xs → Settle text ys → Share xs ys
share text xs ys a b = elim a.by [
  | inl first ↦ elim b.by [
    | inl other ↦ elim (cases_lt (length a.told) (length b.told)) [
      | inl less ↦ shared text xs ys a first.0 first.1 b None (other.0 ∷ []) other.1 (omega arith)
      | inr le ↦ swapped ys xs (shared text ys xs b other.0 other.1 a None (first.0 ∷ []) first.1 le)
    ]
    | inr all ↦ shared text xs ys a first.0 first.1 b (broken_place text) all.1.0 all.1.1 (few_told text xs a b.told all.0)
  ]
  | inr all ↦ elim b.by [
    | inl other ↦ swapped ys xs (shared text ys xs b other.0 other.1 a (broken_place text) all.1.0 all.1.1 (few_told text ys b a.told all.0))
    | inr rest ↦
        let same : a.told ≡ b.told = same_told text a.told b.told a.each b.each all.0 rest.0 in
        record {
          all = access_units b.told (broken_place text);
          left = all.1.0;
          right = rest.1.0;
          of_left = ap (λ (t : List Told). access_units t (broken_place text)) (sym same) ∙ all.1.1;
          of_right = rest.1.1;
        }
  ]
]

-- What is settled is the last of all access units of the text.
pub share_whole : (text : List ℕ) (front xs : List AccessUnit) (w : AreAll text front) → Settle text xs → (more : List AccessUnit) × (w.tail ++ front ≡ more ++ xs)
share_whole text front xs w a =
    let same = units_unique text (places_of w.told) (all_units text) w.broken (broken_place text) w.units (text_has_units text).2 in
    let whole : access_units w.told (broken_place text) ≡ w.tail ++ front = ap (access_units w.told) (sym same.1) ∙ w.split in
    elim a.by [
      | inl first ↦
          let few = few_told text xs a w.told same.0 in
          let begins : (later : List (ℕ × ℕ)) × (all_units text ≡ places_of w.told ++ later) = all_first (all_units text) w.told same.0 in
          let end = ends_later text xs a first.0 first.1 w.told (broken_place text) (fewer_first text (all_units text) a.told w.told a.each w.each a.first begins few) in
          (end.0, sym whole ∙ end.1)
      | inr all ↦
          let one : a.told ≡ w.told = same_told text a.told w.told a.each w.each all.0 same.0 in
          (all.1.0, sym whole ∙ ap (λ (t : List Told). access_units t (broken_place text)) (sym one) ∙ all.1.1)
    ]

-- ---- what stands before the tail of a text

behind_tail : (t au : AccessUnit) (k front xs : List AccessUnit) → t.refused ≡ None → t.slices ≡ [] → (au.refused ≡ None → au.slices ≡ [] → ⊥) → t ∷ front ≡ k ++ au ∷ xs → (later : List AccessUnit) × (front ≡ later ++ au ∷ xs)
behind_tail t au [] front xs fine empty some e =
    let same : t ≡ au = cc in
    absurd (some (subst (λ (x : AccessUnit). x.refused ≡ None) same fine) (subst (λ (x : AccessUnit). x.slices ≡ []) same empty))
behind_tail t au (x ∷ k) front xs fine empty some e = (k, cc)

behind_any : (tail k front xs : List AccessUnit) (au : AccessUnit) → IsTail tail → (au.refused ≡ None → au.slices ≡ [] → ⊥) → tail ++ front ≡ k ++ au ∷ xs → (later : List AccessUnit) × (front ≡ later ++ au ∷ xs)
behind_any tail k front xs au (inl none) some e = (k, ap (λ (t : List AccessUnit). t ++ front) (sym none) ∙ e)
behind_any tail k front xs au (inr one) some e = behind_tail one.0 au k front xs one.2 one.3 some (ap (λ (t : List AccessUnit). t ++ front) (sym one.1) ∙ e)

-- An access unit that is settled, and isn't the tail of the text, is one of those before the tail.
pub whole_within : (text : List ℕ) (front xs : List AccessUnit) (au : AccessUnit) → AreAll text front → IsSettled text true xs au → (au.refused ≡ None → au.slices ≡ [] → ⊥) → (later : List AccessUnit) × (front ≡ later ++ au ∷ xs)
whole_within text front xs au w is some =
    let all = share_whole text front (au ∷ xs) w (settled text xs au is) in
    behind_any w.tail all.0 front xs au w.is_tail some all.1

-- ---- lists with one end

-- Of two lists that are the last of one list, one is the last of the other.
pub last_of : {A : Type 0} (l m xs ys : List A) → l ++ xs ≡ m ++ ys → ((k : List A) × (xs ≡ k ++ ys)) ⊎ ((k : List A) × (ys ≡ k ++ xs))
last_of [] m xs ys e = inl (m, e)
last_of (x ∷ l) [] xs ys e = inr (x ∷ l, sym e)
last_of (x ∷ l) (y ∷ m) xs ys e = last_of l m xs ys (cc)

pub cases_of : (xs ys : List AccessUnit) → Share xs ys → ((k : List AccessUnit) × (xs ≡ k ++ ys)) ⊎ ((k : List AccessUnit) × (ys ≡ k ++ xs))
cases_of xs ys s = last_of s.left s.right xs ys (sym s.of_left ∙ s.of_right)

-- Where they are as long, they are one.
same_list : (k xs ys : List AccessUnit) → xs ≡ k ++ ys → length xs ≡ length ys → xs ≡ ys
same_list [] xs ys e long = e
same_list (au ∷ k) xs ys e long = absurd (omega (arith, ap length e, long, length-append (au ∷ k) ys))

pub one_list : (xs ys : List AccessUnit) → Share xs ys → length xs ≡ length ys → xs ≡ ys
one_list xs ys s long = elim (cases_of xs ys s) [
  | inl first ↦ same_list first.0 xs ys first.1 long
  | inr other ↦ sym (same_list other.0 ys xs other.1 (sym long))
]
