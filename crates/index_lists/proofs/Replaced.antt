-- What stands in lists of which one was replaced.
use Rattle.std.proofs.Common.{◌≡◌, ◌≢◌, ◌⊎◌, ℕ, ◌+◌, ◌<◌, List, [], ◌∷◌, ◌++◌, length, get_or, set, Contains, sum_by, sym, ap, subst, ◌∙◌, inl, inr, arith, append_assoc, length-append}
use Rattle.std.proofs.lemmas.Bool.{cases_eq}
use Rattle.std.proofs.lemmas.List.{get_or-set_other, get_or-set_same, length_push}
use Rattle.std.proofs.lemmas.List.Elements.{Contains-append_cases, Contains-append_left, Contains-append_right, Contains-push, Contains-push_cases}
use Rattle.std.proofs.lemmas.List.Sums.{sum_by-set}
use Rattle.index_lists.specs.Lists.{StandOnce, list_at}
use Rattle.index_lists.proofs.Places.{Contains-here, Contains-later, IsOnceIn, list_within, once_in, one_list, parts_apart}

module _ (lists : List (List ℕ)) (q : ℕ) (ys : List ℕ) (within : q < length lists) where
  replaced-there : (i x : ℕ) → Contains (list_at (set lists q ys) i) x → ((i ≡ q) × Contains ys x) ⊎ ((i ≢ q) × Contains (list_at lists i) x)
  replaced-there i x stands =
      elim (cases_eq i q) [
        | inl same ↦
            let here : list_at (set lists q ys) i ≡ ys = ap (list_at (set lists q ys)) same ∙ get_or-set_same lists q ys [] within in
            inl (same, subst (λ xs. Contains xs x) here stands)
        | inr differs ↦ inr (differs, subst (λ xs. Contains xs x) (get_or-set_other lists q i ys [] differs) stands)
      ]

  replaced-here : (x : ℕ) → Contains ys x → Contains (list_at (set lists q ys) q) x
  replaced-here x stands = subst (λ xs. Contains xs x) (sym (get_or-set_same lists q ys [] within)) stands

  -- what stood in the old list there still stands in the new one, so all that stood still stands
  replaced-still : (i x : ℕ) → (i ≡ q → Contains ys x) → Contains (list_at lists i) x → Contains (list_at (set lists q ys) i) x
  replaced-still i x kept stands =
      elim (cases_eq i q) [
        | inl same ↦ subst (λ t. Contains (list_at (set lists q ys) t) x) (sym same) (replaced-here x (kept same))
        | inr differs ↦ subst (λ xs. Contains xs x) (sym (get_or-set_other lists q i ys [] differs)) stands
      ]

-- A number comes to the end of a list.
module _ (lists : List (List ℕ)) (q n : ℕ) (within : q < length lists) where
  abbrev pub pushed : List (List ℕ)
  pushed = set lists q (list_at lists q ++ n ∷ [])

  pub pushed-there : (i x : ℕ) → Contains (list_at pushed i) x → Contains (list_at lists i) x ⊎ ((i ≡ q) × (n ≡ x))
  pushed-there i x stands =
      elim (replaced-there lists q (list_at lists q ++ n ∷ []) within i x stands) [
        | inl here ↦
            elim (Contains-push_cases (list_at lists q) n x here.1) [
              | inl old ↦ inl (subst (λ t. Contains (list_at lists t) x) (sym here.0) old)
              | inr own ↦ inr (here.0, own)
            ]
        | inr elsewhere ↦ inl elsewhere.1
      ]

  pub pushed-still : (i x : ℕ) → Contains (list_at lists i) x → Contains (list_at pushed i) x
  pushed-still i x stands =
      replaced-still lists q (list_at lists q ++ n ∷ []) within i x (λ same. Contains-append_left (list_at lists q) (n ∷ []) x (subst (λ t. Contains (list_at lists t) x) same stands)) stands

  pub pushed-own : Contains (list_at pushed q) n
  pushed-own = replaced-here lists q (list_at lists q ++ n ∷ []) within n (Contains-push (list_at lists q) n)

  pub pushed-count : sum_by length pushed ≡ sum_by length lists + 1
  pushed-count = omega (arith, sum_by-set length lists q (list_at lists q ++ n ∷ []) [] within, length_push (list_at lists q) n)

-- A number leaves the list in which it stands.
module _ (lists : List (List ℕ)) (once : StandOnce lists) (q n : ℕ) (us vs : List ℕ) (split : list_at lists q ≡ us ++ n ∷ vs) where
  stood : Contains (list_at lists q) n
  stood = subst (λ xs. Contains xs n) (sym split) (Contains-append_right us (n ∷ vs) n (Contains-here n vs))

  within : q < length lists
  within = list_within lists q n stood

  whole_once : IsOnceIn (us ++ n ∷ vs)
  whole_once = subst IsOnceIn split (once_in lists once q)

  gone : ¬ Contains (us ++ vs) n
  gone rest =
      elim (Contains-append_cases us vs n rest) [
        | inl front ↦ parts_apart us (n ∷ vs) n whole_once front (Contains-here n vs)
        | inr behind ↦ parts_apart (us ++ n ∷ []) vs n (subst IsOnceIn (sym (append_assoc us (n ∷ []) vs)) whole_once) (Contains-push us n) behind
      ]

  widened : (x : ℕ) → Contains (us ++ vs) x → Contains (us ++ n ∷ vs) x
  widened x rest =
      elim (Contains-append_cases us vs x rest) [
        | inl front ↦ Contains-append_left us (n ∷ vs) x front
        | inr behind ↦ Contains-append_right us (n ∷ vs) x (Contains-later n x vs behind)
      ]

  only : (x : ℕ) → Contains (n ∷ []) x → n ≡ x
  only x own = let first : own.0 ≡ 0 = omega (arith, own.1) in sym (ap (λ k. get_or (n ∷ []) k x) first) ∙ own.2

  narrowed : (x : ℕ) → x ≢ n → Contains (us ++ n ∷ vs) x → Contains (us ++ vs) x
  narrowed x differs all =
      elim (Contains-append_cases us (n ∷ vs) x all) [
        | inl front ↦ Contains-append_left us vs x front
        | inr behind ↦
            elim (Contains-append_cases (n ∷ []) vs x behind) [
              | inl own ↦ absurd (differs (sym (only x own)))
              | inr later ↦ Contains-append_right us vs x later
            ]
      ]

  abbrev pub removed : List (List ℕ)
  removed = set lists q (us ++ vs)

  pub removed-there : (i x : ℕ) → Contains (list_at removed i) x → Contains (list_at lists i) x × (x ≢ n)
  removed-there i x stands =
      elim (replaced-there lists q (us ++ vs) within i x stands) [
        | inl here ↦ (
          subst (λ t. Contains (list_at lists t) x) (sym here.0) (subst (λ xs. Contains xs x) (sym split) (widened x here.1)),
          λ same. gone (subst (Contains (us ++ vs)) same here.1),
        )
        | inr elsewhere ↦ (elsewhere.1, λ same. elsewhere.0 (one_list lists once i q n (subst (Contains (list_at lists i)) same elsewhere.1) stood))
      ]

  pub removed-still : (i x : ℕ) → x ≢ n → Contains (list_at lists i) x → Contains (list_at removed i) x
  removed-still i x differs stands =
      replaced-still lists q (us ++ vs) within i x (λ same. narrowed x differs (subst (λ xs. Contains xs x) split (subst (λ t. Contains (list_at lists t) x) same stands))) stands

  pub removed-count : sum_by length removed + 1 ≡ sum_by length lists
  removed-count =
      let whole : length (list_at lists q) ≡ length (us ++ n ∷ vs) = ap length split in
      omega (arith, sum_by-set length lists q (us ++ vs) [] within, whole, length-append us (n ∷ vs), length-append us vs)
