-- What two lists give, where they differ at one place.
use Rattle.std.proofs.Common.{◌≡◌, ◌≢◌, ℕ, zero, suc, length-append, ◌+◌, ◌<◌, List, [], ◌∷◌, length, get_or, map, Option, Some, None, option_map, filter_map, refl, ap, ◌∙◌, arith}
use Rattle.std.specs.List.{cons_option}
use Rattle.handle_table.specs.Handles.{Handle, Adds}

map-cons_option : {Y Z : Type 0} (h : Y → Z) (o : Option Y) (rest : List Y) → map h (cons_option o rest) ≡ cons_option (option_map h o) (map h rest)
map-cons_option h None rest = refl
map-cons_option h (Some y) rest = refl

module _ {X Y : Type 0} where
  pub filter_map-pointwise : (f g : X → Option Y) (xs ys : List X) (d : X) → length xs ≡ length ys → ((j : ℕ) → j < length xs → f (get_or xs j d) ≡ g (get_or ys j d)) → filter_map f xs ≡ filter_map g ys
  filter_map-pointwise f g [] [] d same each = refl
  filter_map-pointwise f g [] (y ∷ ys) d same each = absurd (omega arith)
  filter_map-pointwise f g (x ∷ xs) [] d same each = absurd (omega arith)
  filter_map-pointwise f g (x ∷ xs) (y ∷ ys) d same each =
      let first : f x ≡ g y = each 0 (omega arith) in
      let rest : filter_map f xs ≡ filter_map g ys = filter_map-pointwise f g xs ys d (omega arith) (λ j within. each (suc j) (omega arith)) in
      rw (first, rest)

  pub map-filter_map : {Z : Type 0} (h : Y → Z) (f : X → Option Y) (xs : List X) → map h (filter_map f xs) ≡ filter_map (λ x. option_map h (f x)) xs
  map-filter_map h f [] = refl
  map-filter_map h f (x ∷ xs) = map-cons_option h (f x) (filter_map f xs) ∙ ap (cons_option (option_map h (f x))) (map-filter_map h f xs)

Adds-more : {T : Type 0} (o : Option (Handle T)) (old new : List (Handle T)) (h : Handle T) → Adds old new h → Adds (cons_option o old) (cons_option o new) h
Adds-more None old new h adds = adds
Adds-more (Some first) old new h adds = record {
  before = first ∷ adds.before;
  after = adds.after;
  was = ap (λ rest. first ∷ rest) adds.was;
  is = ap (λ rest. first ∷ rest) adds.is;
}

module _ {X T : Type 0} where
  -- The second list gives h where the first gives nothing, and elsewhere they give the same.
  pub Adds-filter_map : (f g : X → Option (Handle T)) (xs ys : List X) (i : ℕ) (d : X) (h : Handle T) → length xs ≡ length ys → i < length xs → f (get_or xs i d) ≡ None → g (get_or ys i d) ≡ Some h → ((j : ℕ) → j < length xs → j ≢ i → f (get_or xs j d) ≡ g (get_or ys j d)) → Adds (filter_map f xs) (filter_map g ys) h
  Adds-filter_map f g [] ys i d h same within none some others = absurd (omega arith)
  Adds-filter_map f g (x ∷ xs) [] i d h same within none some others = absurd (omega arith)
  Adds-filter_map f g (x ∷ xs) (y ∷ ys) zero d h same within none some others =
      let rest : filter_map f xs ≡ filter_map g ys = filter_map-pointwise f g xs ys d (omega arith) (λ j below. others (suc j) (omega arith) (omega arith)) in
      rw (none, some, rest) (record { before = []; after = filter_map g ys; was = refl; is = refl })
  Adds-filter_map f g (x ∷ xs) (y ∷ ys) (suc i) d h same within none some others =
      let first : f x ≡ g y = others 0 (omega arith) (omega arith) in
      let rest : Adds (filter_map f xs) (filter_map g ys) h = Adds-filter_map f g xs ys i d h (omega arith) (omega arith) none some (λ j below differs. others (suc j) (omega arith) (omega arith)) in
      rw first (Adds-more (g y) _ _ h rest)

-- One more is one more.
pub length-Adds : (T : Type 0) (old new : List (Handle T)) (h : Handle T) → Adds old new h → length new ≡ length old + 1
length-Adds T old new h adds =
    let e1 = ap length adds.was in
    let e2 = ap length adds.is in
    omega (arith, e1, e2, length-append adds.before adds.after, length-append adds.before (h ∷ adds.after))
