-- How many of a caller's items count, with one item more.
use Rattle.std.proofs.Common.{◌≡◌, ℕ, ◌+◌, Bool, true, false, cond, List, [], ◌∷◌, ◌++◌, count_by, filter_map, length, Option, Some, None, refl, ap, ◌∙◌, arith}
use Rattle.std.specs.List.{cons_option}
use Rattle.std.proofs.lemmas.List.{append-nil, length-append}
use Rattle.std.proofs.lemmas.List.Elements.{filter_map-append}
use Rattle.std.proofs.lemmas.List.Sums.{sum_by-append, sum_by-cons}
use Rattle.driver_model.specs.Parts.{given_by}
use Rattle.driver_model.specs.declared.items.Item.{Item}
use Rattle.player_laws.specs.Room.{given_in}
use Rattle.stream_calls.specs.Counted.{first_of, has_done, is_queue_create}
use Rattle.stream_task.specs.Calls.{queue_made, queue_of}
use Rattle.stream_task.specs.Keeping.{one_if}

pub count_more : {X : Type 0} (p : X → Bool) (xs : List X) (x : X) → count_by p (xs ++ x ∷ []) ≡ count_by p xs + cond (p x) 1 0
count_more p xs x =
    let whole : count_by p (xs ++ x ∷ []) ≡ count_by p xs + count_by p (x ∷ []) = sum_by-append (λ y. cond (p y) 1 0) xs (x ∷ []) in
    let one : count_by p (x ∷ []) ≡ cond (p x) 1 0 + count_by p [] = sum_by-cons (λ y. cond (p y) 1 0) x [] in
    let none : count_by p [] ≡ 0 = refl in
    omega (arith, whole, one, none)

listed : (o : Option ℕ) → length (cons_option o []) ≡ one_if o
listed None = refl
listed (Some name) = refl

pub given_more : (own : List Item) (item : Item) → given_in (own ++ item ∷ []) ≡ given_in own + one_if (given_by item)
given_more own item =
    ap length (filter_map-append given_by own (item ∷ [])) ∙ (length-append (filter_map given_by own) (filter_map given_by (item ∷ [])) ∙ ap (λ n. given_in own + n) (listed (given_by item)))

-- ---- the first device, and the first queue

pub first_more_none : {A : Type 0} (f : A → Option ℕ) (xs : List A) (x : A) → f x ≡ None → filter_map f (xs ++ x ∷ []) ≡ filter_map f xs
first_more_none f xs x e =
    filter_map-append f xs (x ∷ []) ∙ (ap (λ o. filter_map f xs ++ cons_option o []) e ∙ append-nil (filter_map f xs))

pub queue_same : (own : List Item) (item : Item) → queue_made item ≡ None → queue_of (own ++ item ∷ []) ≡ queue_of own
queue_same own item none = ap first_of (first_more_none queue_made own item none)

pub queues_same : (own more : List Item) (item : Item) → more ≡ own ++ item ∷ [] → has_done is_queue_create item ≡ false
    → count_by (has_done is_queue_create) more ≡ count_by (has_done is_queue_create) own
queues_same own more item e other =
    let whole : count_by (has_done is_queue_create) more ≡ count_by (has_done is_queue_create) (own ++ item ∷ []) = ap (λ l. count_by (has_done is_queue_create) l) e in
    let one = count_more (has_done is_queue_create) own item in
    let none : (let n : ℕ = cond (has_done is_queue_create item) 1 0 in n ≡ 0) = ap (λ b. cond b 1 0) other in
    omega (arith, whole, one, none)

pub queues_more : (own more : List Item) (item : Item) → more ≡ own ++ item ∷ [] → has_done is_queue_create item ≡ true
    → count_by (has_done is_queue_create) more ≡ count_by (has_done is_queue_create) own + 1
queues_more own more item e is =
    let whole : count_by (has_done is_queue_create) more ≡ count_by (has_done is_queue_create) (own ++ item ∷ []) = ap (λ l. count_by (has_done is_queue_create) l) e in
    let one = count_more (has_done is_queue_create) own item in
    let here : (let n : ℕ = cond (has_done is_queue_create item) 1 0 in n ≡ 1) = ap (λ b. cond b 1 0) is in
    omega (arith, whole, one, here)

none_first : (names : List ℕ) (o : Option ℕ) → first_of names ≡ None → first_of (names ++ cons_option o []) ≡ o
none_first [] None e = refl
none_first [] (Some name) e = refl
none_first (one ∷ names) o e = absurd (let k : (let p : Option ℕ = Some one in p ≡ None) = e in cc)

pub queue_new : (own : List Item) (item : Item) → queue_of own ≡ None → queue_of (own ++ item ∷ []) ≡ queue_made item
queue_new own item none = ap first_of (filter_map-append queue_made own (item ∷ [])) ∙ none_first (filter_map queue_made own) (queue_made item) none
