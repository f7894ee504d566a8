-- Elements put behind the first ones of a list.
use Rattle.std.proofs.Common.{◌≡◌, ℕ, ◌+◌, ◌-◌, ◌<◌, ◌≤◌, List, [], ◌∷◌, ◌++◌, drop, length, set, take, sym, ap, ◌∙◌, arith, append-nil, append_assoc}
use Rattle.std.proofs.Math.Seq.{drop-append_seam, take-append_seam}
use Rattle.std.proofs.lemmas.List.{drop-drop, drop_all, length-append, length-drop, length-take-le, take-append-drop, take-append-le, take_all, take_more_set}

module _ {X : Type 0} where
  front_is : (xs ys : List X) (n : ℕ) → length xs ≡ n → take n (xs ++ ys) ≡ xs
  front_is xs ys n e = ap (λ (k : ℕ). take k (xs ++ ys)) (sym e) ∙ take-append_seam xs ys

  back_is : (xs ys : List X) (n : ℕ) → length xs ≡ n → drop n (xs ++ ys) ≡ ys
  back_is xs ys n e = ap (λ (k : ℕ). drop k (xs ++ ys)) (sym e) ∙ drop-append_seam xs ys

  -- so many are kept
  pub kept : (xs ys more : List X) (count next : ℕ) → count ≤ next → count ≤ length ys → take next xs ≡ take count ys ++ more → take count xs ≡ take count ys
  kept xs ys more count next order few e =
      let long = length-take-le count ys few in
      ap (take count) (sym (take-append-drop next xs))
      ∙ take-append-le count (take next xs) (drop next xs) (omega (arith, ap length e, length-append (take count ys) more, long))
      ∙ ap (take count) e ∙ front_is (take count ys) more count long

  pub put : (xs ys more : List X) (count next : ℕ) → count ≤ length ys → take next xs ≡ take count ys ++ more → drop count (take next xs) ≡ more
  put xs ys more count next few e = ap (drop count) e ∙ back_is (take count ys) more count (length-take-le count ys few)

  pub one_put : (xs ys more : List X) (count next : ℕ) (x : X) → count ≤ length ys → next < length xs → take next xs ≡ take count ys ++ more → drop count (take (next + 1) (set xs next x)) ≡ more ++ x ∷ []
  one_put xs ys more count next x few below e =
      put (set xs next x) ys (more ++ x ∷ []) count (next + 1) few
      (take_more_set xs next x below ∙ ap (λ (l : List X). l ++ x ∷ []) e ∙ append_assoc (take count ys) more (x ∷ []))

  pub in_two : (xs ys : List X) (count next : ℕ) → count ≤ next → next ≤ length xs → take count xs ≡ take count ys → take next xs ≡ take count ys ++ drop count (take next xs)
  in_two xs ys count next order few e =
      let front : take count (take next xs) ≡ take count ys =
      sym (ap (take count) (sym (take-append-drop next xs)) ∙ take-append-le count (take next xs) (drop next xs) (omega (arith, length-take-le next xs few, order))) ∙ e in
      sym (take-append-drop count (take next xs)) ∙ ap (λ (x : List X). x ++ drop count (take next xs)) front

  pub further : (xs ys : List X) (count next : ℕ) → count ≤ next → drop count xs ≡ drop count ys → drop next xs ≡ drop next ys
  further xs ys count next order e =
      let at : next ≡ count + (next - count) = omega (arith, order) in
      ap (λ (n : ℕ). drop n xs) at ∙ sym (drop-drop (next - count) count xs) ∙ ap (drop (next - count)) e ∙ drop-drop (next - count) count ys ∙ ap (λ (n : ℕ). drop n ys) (sym at)

  -- a list of which the elements from one place on were changed

  pub taken_part : (ys part post : List X) (a n : ℕ) → a ≤ length ys → n ≤ length part → take n (drop a (take a ys ++ (part ++ post))) ≡ take n part
  taken_part ys part post a n few order =
      ap (take n) (back_is (take a ys) (part ++ post) a (length-take-le a ys few)) ∙ take-append-le n part post order

  pub behind_part : (ys part old : List X) (a n k : ℕ) → a ≤ length ys → length ys ≤ a + k → old ≡ take k (drop a ys) → drop n part ≡ drop n old
      → drop (a + n) (take a ys ++ (part ++ drop k (drop a ys))) ≡ drop (a + n) ys
  behind_part ys part old a n k few all is e =
      let long : length (drop a ys) ≤ k = omega (arith, length-drop a ys, all) in
      let post : drop k (drop a ys) ≡ [] = drop_all k (drop a ys) long in
      sym (drop-drop n a (take a ys ++ (part ++ drop k (drop a ys))))
      ∙ ap (drop n) (back_is (take a ys) (part ++ drop k (drop a ys)) a (length-take-le a ys few) ∙ ap (λ (x : List X). part ++ x) post ∙ append-nil part)
      ∙ e ∙ ap (drop n) (is ∙ take_all k (drop a ys) long) ∙ drop-drop n a ys
