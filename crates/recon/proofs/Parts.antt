-- Elements of parts of lists, and of lists of which a part was replaced.
use Rattle.std.proofs.Common.{◌≡◌, ℕ, ◌++◌, ◌+◌, ◌<◌, ◌≤◌, List, length, take, drop, get_or, sym, ap, ◌∙◌, arith}
use Rattle.std.specs.Prelude.{ℤ, pos}
use borrow.Rule.Slice.PartMut.{mid_of}
use Rattle.int_transform.specs.Scan.{value_at}
use borrow.Rule.Slice.PartMut.{put_mid}
use Rattle.std.proofs.lemmas.List.{places, get_or-take, get_or-drop}

-- an element of a part of a list
pub part_at : (s t : List ℕ) (j k i m : ℕ) → t ≡ take j (drop k s) → i < j → m ≡ k + i → get_or t i 0 ≡ get_or s m 0
part_at s t j k i m is lt place =
    ap (λ l. get_or l i 0) is ∙ (get_or-take j (drop k s) i 0 lt ∙ (get_or-drop k s i 0 ∙ ap (λ n. get_or s n 0) (sym place)))

-- an element before, in and after the part that was replaced
pub before_part : (a k i : ℕ) (s t : List ℕ) → i < a → a ≤ length s → get_or (put_mid a k s t) i 0 ≡ get_or s i 0
before_part a k i s t lt within = grind (arith, places)

pub in_part : (a k i : ℕ) (s t : List ℕ) → a ≤ length s → i < length t → get_or (put_mid a k s t) (a + i) 0 ≡ get_or t i 0
in_part a k i s t within lt = grind (arith, places)

pub after_part : (a k i : ℕ) (s t : List ℕ) → a + k ≤ length s → length t ≡ k → a + k ≤ i → get_or (put_mid a k s t) i 0 ≡ get_or s i 0
after_part a k i s t within length_t le = grind (arith, places)

-- an element of a part, by its place in the whole
pub value_in_part : (s : List ℤ) (a k i : ℕ) → i < k → value_at (mid_of a k s) i ≡ value_at s (a + i)
value_in_part s a k i lt = get_or-take k (drop a s) i (pos 0) lt ∙ get_or-drop a s i (pos 0)

pub number_in_part : (s : List ℕ) (a k i : ℕ) → i < k → get_or (take k (drop a s)) i 0 ≡ get_or s (a + i) 0
number_in_part s a k i lt = get_or-take k (drop a s) i 0 lt ∙ get_or-drop a s i 0

-- an element of the front of a list that begins with another
pub front_of : (n k : ℕ) (a b : List ℕ) → k < n → k < length a → get_or (take n (a ++ b)) k 0 ≡ get_or a k 0
front_of n k a b lt within = grind (arith, places)
