-- What linking and unlinking make of the rings.
use Rattle.std.proofs.Common.{◌≡◌, ◌≢◌, ◌⊎◌, ℕ, zero, suc, ◌+◌, ◌<◌, ◌≤◌, List, [], ◌∷◌, ◌++◌, length, get_or, set, drop, replicate, Some, Contains, slice_get, refl, sym, ap, subst, ◌∙◌, inl, inr, arith, append-nil, append_assoc, length-append, length-set, length-drop}
use Rattle.std.proofs.lemmas.Bool.{cases_eq}
use Rattle.std.proofs.lemmas.List.{ext_get_or, get_or-drop, get_or-map, get_or-set_same, get_or-set_other, length-map, length-replicate, length_push}
use Rattle.std.proofs.lemmas.List.Elements.{Contains-append_cases, Contains-append_left, Contains-append_right, Contains-push_cases}
use Rattle.std.proofs.lemmas.Option.{slice_get-get_or, slice_get_within}
use Rattle.index_lists.specs.Lists.{StandOnce, list_at}
use Rattle.index_lists.specs.Rings.{AreBelow, AreRings, IsInSome, IsPath, lists_in, walk}
use Rattle.index_lists.proofs.Maps.{list_at-replicate_nil}
use Rattle.index_lists.proofs.Places.{Contains-here, Contains-later, place-Contains, IsOnceIn, list_within, once_in, one_list, parts_apart}
use Rattle.index_lists.proofs.Paths.{path_first, path_joined, path_kept, path_last, path_previous, path_redirected, path_split, walk-path}

-- the number stands in this list, or is the list's own
abbrev pub IsInRing : ℕ → List (List ℕ) → ℕ → ℕ → Type 0
IsInRing nodes lists i n = (n ≡ nodes + i) ⊎ Contains (list_at lists i) n

-- The number is that of a node in no list, and this list has room for it.
pub record CanAppend (nodes : ℕ) (lists : List (List ℕ)) (i n : ℕ) : Type 0 where
  pub within : i < length lists
  pub is_node : n < nodes
  pub unlinked : ¬ IsInSome lists n
  pub short : length (list_at lists i) < nodes

module _ (nodes : ℕ) (next previous : List ℕ) (lists : List (List ℕ)) (rings : AreRings nodes next previous lists) where
  pub lists_in-rings : lists_in nodes next ≡ lists
  lists_in-rings =
      let long : length (lists_in nodes next) ≡ length lists = omega (arith, length-map (drop nodes next) (walk nodes next nodes), length-drop nodes next, rings.nexts) in
      ext_get_or [] (lists_in nodes next) lists long (λ i within. at i (omega arith))
    where
      at : (i : ℕ) → i < length lists → get_or (lists_in nodes next) i [] ≡ get_or lists i []
      at i within =
          let inside : i < length (drop nodes next) = omega (arith, length-drop nodes next, rings.nexts) in
          get_or-map (walk nodes next nodes) (drop nodes next) i 0 [] inside
          ∙ ap (walk nodes next nodes) (get_or-drop nodes next i 0)
          ∙ walk-path next previous nodes nodes (nodes + i) (list_at lists i) (nodes + i) (omega arith) (rings.below i) (rings.short i) (rings.ring i within)

  before : (p k n : ℕ) → slice_get (list_at lists p) k ≡ Some n → get_or previous n 0 ≡ get_or ((nodes + p) ∷ list_at lists p) k 0
  before p k n at =
      let within : p < length lists = list_within lists p n (place-Contains (list_at lists p) k n at) in
      path_previous next previous (nodes + p) (list_at lists p) (nodes + p) k n (rings.ring p within) at

  -- the one before the k-th is a node, and stands there
  earlier : (p k n : ℕ) → slice_get (list_at lists p) (suc k) ≡ Some n → (slice_get (list_at lists p) k ≡ Some (get_or previous n 0)) × (get_or previous n 0 < nodes)
  earlier p k n at =
      let within : k < length (list_at lists p) = omega (arith, slice_get_within (list_at lists p) (suc k) n at) in
      let there : slice_get (list_at lists p) k ≡ Some (get_or previous n 0) = slice_get-get_or (list_at lists p) k 0 within ∙ ap Some (sym (before p (suc k) n at)) in
      (there, rings.below p (get_or previous n 0) (place-Contains (list_at lists p) k (get_or previous n 0) there))

  pub StandOnce-rings : StandOnce lists
  StandOnce-rings p q zero zero n at_p at_q = (omega (arith, before p zero n at_p, before q zero n at_q), refl)
  StandOnce-rings p q zero (suc j) n at_p at_q = absurd (omega (arith, before p zero n at_p, (earlier q j n at_q).1))
  StandOnce-rings p q (suc i) zero n at_p at_q = absurd (omega (arith, before q zero n at_q, (earlier p i n at_p).1))
  StandOnce-rings p q (suc i) (suc j) n at_p at_q =
      let same = StandOnce-rings p q i j (get_or previous n 0) (earlier p i n at_p).0 (earlier q j n at_q).0 in
      (same.0, ap suc same.1)

  -- what is in one ring is not in another
  other_ring : (i j n : ℕ) → j ≢ i → IsInRing nodes lists i n → ((nodes + j) ≢ n) × (Contains (list_at lists j) n → ⊥)
  other_ring i j n differs (inl own) = (λ same. differs (omega arith), λ stands. let below : n < nodes = rings.below j n stands in omega arith)
  other_ring i j n differs (inr there) = (λ same. let below : n < nodes = rings.below i n there in omega arith, λ stands. differs (one_list lists StandOnce-rings j i n stands there))

  in_ring-inside : (i n : ℕ) → i < length lists → IsInRing nodes lists i n → n < nodes + length lists
  in_ring-inside i n within (inl own) = omega arith
  in_ring-inside i n within (inr there) = let below : n < nodes = rings.below i n there in omega arith

  -- Two of a ring become neighbours, and the other rings stay.
  other_kept : (i j p q : ℕ) → j < length lists → j ≢ i → IsInRing nodes lists i p → IsInRing nodes lists i q → IsPath (set next p q) (set previous q p) (nodes + j) (list_at lists j) (nodes + j)
  other_kept i j p q within differs in_p in_q =
      let apart_p = other_ring i j p differs in_p in
      let apart_q = other_ring i j q differs in_q in
      path_kept next previous p q q p (nodes + j) (list_at lists j) (nodes + j) apart_p.0 apart_p.1 apart_q.1 apart_q.0 (rings.ring j within)

  -- One ring becomes that of another list, and the others stay.
  rings-set : (now_next now_previous : List ℕ) (i : ℕ) (ys : List ℕ) → i < length lists → length now_next ≡ length next → length now_previous ≡ length previous → IsPath now_next now_previous (nodes + i) ys (nodes + i) → ((j : ℕ) → j < length lists → j ≢ i → IsPath now_next now_previous (nodes + j) (list_at lists j) (nodes + j)) → AreBelow nodes ys → length ys ≤ nodes → AreRings nodes now_next now_previous (set lists i ys)
  rings-set now_next now_previous i ys within nexts previouses ring others below short =
      record {
        nexts = omega (arith, rings.nexts, length-set lists i ys);
        previouses = omega (arith, rings.previouses, length-set lists i ys);
        ring = λ j inside.
            elim (cases_eq j i) [
              | inl same ↦ subst (λ t. IsPath now_next now_previous (nodes + t) (list_at (set lists i ys) t) (nodes + t)) (sym same) (subst (λ xs. IsPath now_next now_previous (nodes + i) xs (nodes + i)) (sym here) ring)
              | inr differs ↦ subst (λ xs. IsPath now_next now_previous (nodes + j) xs (nodes + j)) (sym (there j differs)) (others j (omega (arith, inside, length-set lists i ys)) differs)
            ];
        below = λ j. elim (cases_eq j i) [ inl same ↦ subst (λ t. AreBelow nodes (list_at (set lists i ys) t)) (sym same) (subst (AreBelow nodes) (sym here) below) | inr differs ↦ subst (AreBelow nodes) (sym (there j differs)) (rings.below j) ];
        short = λ j. elim (cases_eq j i) [ inl same ↦ subst (λ t. length (list_at (set lists i ys) t) ≤ nodes) (sym same) (subst (λ xs. length xs ≤ nodes) (sym here) short) | inr differs ↦ subst (λ xs. length xs ≤ nodes) (sym (there j differs)) (rings.short j) ];
      }
    where
      here : list_at (set lists i ys) i ≡ ys
      here = get_or-set_same lists i ys [] within

      there : (j : ℕ) → j ≢ i → list_at (set lists i ys) j ≡ list_at lists j
      there j differs = get_or-set_other lists i j ys [] differs

  -- An unlinked node comes to the end of a list.
  module _ (i n : ℕ) (can : CanAppend nodes lists i n) where
    abbrev last : ℕ
    last = get_or previous (nodes + i) 0

    last_there : ((last ≡ nodes + i) ⊎ Contains (list_at lists i) last) × (get_or next last 0 ≡ nodes + i)
    last_there = path_last next previous (nodes + i) (list_at lists i) (nodes + i) (rings.ring i can.within)

    pub last_inside : last < nodes + length lists
    last_inside = in_ring-inside i last can.within last_there.0

    no_node : (j : ℕ) → Contains (list_at lists j) n → ⊥
    no_node j stands = can.unlinked (j, stands)

    no_end : (j : ℕ) → Contains (list_at lists j) (nodes + i) → ⊥
    no_end j stands = let below : nodes + i < nodes = rings.below j (nodes + i) stands in omega arith

    pub rings-appended : AreRings nodes (set (set next last n) n (nodes + i)) (set (set previous n last) (nodes + i) n) (set lists i (list_at lists i ++ n ∷ []))
    rings-appended =
        let end = nodes + i in
        let xs = list_at lists i in
        let apart : n ≢ end = λ same. omega (arith, can.is_node) in
        let from_end : end ≢ n = λ same. omega (arith, can.is_node) in
        let to_node = path_redirected next previous end xs end last n last_there.1 refl (no_end i) (no_node i) (omega (arith, rings.nexts, last_inside)) (omega (arith, rings.previouses, can.is_node)) (rings.ring i can.within) in
        let front = path_kept (set next last n) (set previous n last) n end end n end xs n from_end (no_node i) (no_end i) apart to_node in
        let after : get_or (set (set next last n) n end) n 0 ≡ end = get_or-set_same (set next last n) n end 0 (omega (arith, length-set next last n, rings.nexts, can.is_node)) in
        let back : get_or (set (set previous n last) end n) end 0 ≡ n = get_or-set_same (set previous n last) end n 0 (omega (arith, length-set previous n last, rings.previouses, can.within)) in
        rings-set
        (set (set next last n) n end)
        (set (set previous n last) end n)
        i
        (xs ++ n ∷ [])
        can.within
        (omega (arith, length-set (set next last n) n end, length-set next last n))
        (omega (arith, length-set (set previous n last) end n, length-set previous n last))
        (path_joined (set (set next last n) n end) (set (set previous n last) end n) end xs n [] end front (after, back))
        (
        λ j inside differs.
        let apart_last = other_ring i j last differs last_there.0 in
        let not_node : nodes + j ≢ n = λ same. omega (arith, can.is_node) in
        let not_end : nodes + j ≢ end = λ same. differs (omega arith) in
        path_kept (set next last n) (set previous n last) n end end n (nodes + j) (list_at lists j) (nodes + j) not_node (no_node j) (no_end j) not_end (path_kept next previous last n n last (nodes + j) (list_at lists j) (nodes + j) apart_last.0 apart_last.1 (no_node j) not_node (rings.ring j inside))
        )
        (λ m stands. elim (Contains-push_cases xs n m stands) [ inl before ↦ rings.below i m before | inr same ↦ omega (arith, can.is_node) ])
        (omega (arith, length_push xs n, can.short))

  -- A node leaves the list in which it stands.
  module _ (i x : ℕ) (us vs : List ℕ) (split : list_at lists i ≡ us ++ x ∷ vs) where
    abbrev before_it : ℕ
    before_it = get_or previous x 0

    abbrev after_it : ℕ
    after_it = get_or next x 0

    stands : Contains (list_at lists i) x
    stands = subst (λ xs. Contains xs x) (sym split) (Contains-append_right us (x ∷ vs) x (Contains-here x vs))

    within : i < length lists
    within = list_within lists i x stands

    parts : IsPath next previous (nodes + i) us x × IsPath next previous x vs (nodes + i)
    parts = path_split next previous (nodes + i) us x vs (nodes + i) (subst (λ xs. IsPath next previous (nodes + i) xs (nodes + i)) split (rings.ring i within))

    once : IsOnceIn (us ++ x ∷ vs)
    once = subst IsOnceIn split (once_in lists StandOnce-rings i)

    in_front : (n : ℕ) → Contains us n → Contains (list_at lists i) n
    in_front n there = subst (λ xs. Contains xs n) (sym split) (Contains-append_left us (x ∷ vs) n there)

    in_back : (n : ℕ) → Contains vs n → Contains (list_at lists i) n
    in_back n there = subst (λ xs. Contains xs n) (sym split) (Contains-append_right us (x ∷ vs) n (Contains-later x n vs there))

    before_there : ((before_it ≡ nodes + i) ⊎ Contains us before_it) × (get_or next before_it 0 ≡ x)
    before_there = path_last next previous (nodes + i) us x parts.0

    before_in_ring : IsInRing nodes lists i before_it
    before_in_ring = elim before_there.0 as (λ _. IsInRing nodes lists i before_it) [ inl own ↦ inl own | inr there ↦ inr (in_front before_it there) ]

    after_in_ring : IsInRing nodes lists i after_it
    after_in_ring = elim (path_first next previous x vs (nodes + i) parts.1) as (λ _. IsInRing nodes lists i after_it) [ inl own ↦ inl own | inr there ↦ inr (in_back after_it there) ]

    pub before_inside : before_it < nodes + length lists
    before_inside = in_ring-inside i before_it within before_in_ring

    pub after_inside : after_it < nodes + length lists
    after_inside = in_ring-inside i after_it within after_in_ring

    abbrev now_next : List ℕ
    now_next = set next before_it after_it

    abbrev now_previous : List ℕ
    now_previous = set previous after_it before_it

    front_redirected : ¬ Contains us after_it → IsPath now_next now_previous (nodes + i) us after_it
    front_redirected no_after =
        let no_x : ¬ Contains us x = λ there. parts_apart us (x ∷ vs) x once there (Contains-here x vs) in
        path_redirected next previous (nodes + i) us x before_it after_it before_there.1 refl no_x no_after (omega (arith, rings.nexts, before_inside)) (omega (arith, rings.previouses, after_inside)) parts.0

    closed : (ws : List ℕ) → vs ≡ ws → IsPath next previous x ws (nodes + i) → IsPath now_next now_previous (nodes + i) (us ++ ws) (nodes + i)
    closed [] is back =
        let no_after : ¬ Contains us after_it = λ there. let below : after_it < nodes = rings.below i after_it (in_front after_it there) in omega (arith, back.0) in
        let front = front_redirected no_after in
        subst (λ ys. IsPath now_next now_previous (nodes + i) ys (nodes + i)) (sym (append-nil us)) (subst (λ t. IsPath now_next now_previous (nodes + i) us t) back.0 front)
    closed (y ∷ ws) is back =
        let whole : IsOnceIn (us ++ x ∷ y ∷ ws) = subst (λ zs. IsOnceIn (us ++ x ∷ zs)) is once in
        let no_after : ¬ Contains us after_it = λ there. parts_apart us (x ∷ y ∷ ws) after_it whole there (1, omega arith, sym back.0) in
        let front = subst (λ t. IsPath now_next now_previous (nodes + i) us t) back.0 (front_redirected no_after) in
        let regrouped : us ++ x ∷ y ∷ ws ≡ (us ++ x ∷ y ∷ []) ++ ws = sym (append_assoc us (x ∷ y ∷ []) ws) in
        let no_more : ¬ Contains ws after_it = λ there. parts_apart (us ++ x ∷ y ∷ []) ws after_it (subst IsOnceIn regrouped whole) (Contains-append_right us (x ∷ y ∷ []) after_it (1, omega arith, sym back.0)) there in
        let below_y : y < nodes = rings.below i y (in_back y (subst (λ zs. Contains zs y) (sym is) (Contains-here y ws))) in
        let not_before : (n : ℕ) → n < nodes → Contains (x ∷ y ∷ ws) n → n ≢ before_it = λ n below there same.
        elim before_there.0 [
          | inl own ↦ omega arith
          | inr earlier ↦ parts_apart us (x ∷ y ∷ ws) n whole (subst (Contains us) (sym same) earlier) there
        ] in
        let no_before : ¬ Contains ws before_it = λ there.
        let below : before_it < nodes = rings.below i before_it (in_back before_it (subst (λ zs. Contains zs before_it) (sym is) (Contains-later y before_it ws there))) in
        not_before before_it below (Contains-later x before_it (y ∷ ws) (Contains-later y before_it ws there)) refl in
        let from_y : y ≢ before_it = not_before y below_y (Contains-later x y (y ∷ ws) (Contains-here y ws)) in
        let to_own : nodes + i ≢ after_it = λ same. omega (arith, back.0) in
        path_joined now_next now_previous (nodes + i) us y ws (nodes + i) front (path_kept next previous before_it after_it after_it before_it y ws (nodes + i) from_y no_before no_more to_own back.2)

    pub rings-unlinked : AreRings nodes now_next now_previous (set lists i (us ++ vs))
    rings-unlinked =
        rings-set
        now_next
        now_previous
        i
        (us ++ vs)
        within
        (length-set next before_it after_it)
        (length-set previous after_it before_it)
        (closed vs refl parts.1)
        (λ j inside differs. other_kept i j before_it after_it inside differs before_in_ring after_in_ring)
        (λ n there. elim (Contains-append_cases us vs n there) [ inl front ↦ rings.below i n (in_front n front) | inr back ↦ rings.below i n (in_back n back) ])
        (let whole : length (list_at lists i) ≡ length (us ++ x ∷ vs) = ap length split in omega (arith, rings.short i, length-append us (x ∷ vs), length-append us vs))

-- lists of nothing, where each number is its own neighbour
pub rings-empty : (nodes count : ℕ) (next previous : List ℕ) → length next ≡ nodes + count → length previous ≡ nodes + count → ((n : ℕ) → n < nodes + count → get_or next n 0 ≡ n) → ((n : ℕ) → n < nodes + count → get_or previous n 0 ≡ n) → AreRings nodes next previous (replicate count [])
rings-empty nodes count next previous nexts previouses own_next own_previous =
    let none : (i : ℕ) → list_at {X = ℕ} (replicate count []) i ≡ [] = list_at-replicate_nil count in
    let long : length (replicate {A = List ℕ} count []) ≡ count = length-replicate count [] in
    record {
      nexts = omega (arith, long);
      previouses = omega (arith, long);
      ring = λ i within.
          let inside : nodes + i < nodes + count = omega (arith, long) in
          subst (λ xs. IsPath next previous (nodes + i) xs (nodes + i)) (sym (none i)) (own_next (nodes + i) inside, own_previous (nodes + i) inside);
      below = λ i. subst (AreBelow nodes) (sym (none i)) (λ x there. absurd (omega (arith, there.1)));
      short = λ i. subst (λ xs. length xs ≤ nodes) (sym (none i)) (omega arith);
    }
