-- Which pictures are named behind one more picture.
use Rattle.std.proofs.Common.{◌≡◌, ◌≢◌, ℕ, false, ◌||◌, List, [], ◌∷◌, ◌++◌, Some, refl, sym, ap, ◌∙◌, ◌⊎◌, subst, inl, inr, append_assoc}
use Rattle.std.specs.List.{list_any}
use Rattle.std.proofs.lemmas.Bool.{or_from, or_parts}
use Rattle.std.proofs.lemmas.List.Folds.{list_any-append}
use Rattle.cb_types.specs.Slices.{is_idr}
use Rattle.marking.specs.History.{IsNamed, NamedBehind, Picture, is_of_idr, own_number}
use Rattle.marking.proofs.SomeLemmas.{same_some}

head_same : (x y : Picture) (xs ys : List Picture) → x ∷ xs ≡ y ∷ ys → x ≡ y
head_same x y xs ys e = cc

tail_same : (x y : Picture) (xs ys : List Picture) → x ∷ xs ≡ y ∷ ys → xs ≡ ys
tail_same x y xs ys e = cc

nil_cons : (y : Picture) (ys : List Picture) → [] ≡ y ∷ ys → ⊥
nil_cons y ys e = cc

nil_middle : (ys zs : List Picture) (y : Picture) → [] ≡ ys ++ y ∷ zs → ⊥
nil_middle [] zs y e = nil_cons y zs e
nil_middle (b ∷ ys) zs y e = nil_cons b (ys ++ y ∷ zs) e

-- where a list with one more at its end is split: there, or before it
record IsLast (xs : List Picture) (x : Picture) (ys : List Picture) (y : Picture) (zs : List Picture) : Type 0 where
  front : xs ≡ ys
  here : x ≡ y
  nothing : zs ≡ []

record IsBefore (xs : List Picture) (x : Picture) (ys : List Picture) (y : Picture) (zs : List Picture) : Type 0 where
  between : List Picture
  front : xs ≡ ys ++ y ∷ between
  behind : zs ≡ between ++ x ∷ []

split_last : (xs : List Picture) (x : Picture) (ys : List Picture) (y : Picture) (zs : List Picture) → xs ++ x ∷ [] ≡ ys ++ y ∷ zs → IsLast xs x ys y zs ⊎ IsBefore xs x ys y zs
split_last [] x [] y zs e = inl (record { front = refl; here = head_same x y [] zs e; nothing = sym (tail_same x y [] zs e) })
split_last (a ∷ xs) x [] y zs e =
    let same : a ∷ xs ≡ y ∷ xs = ap (λ (b : Picture). b ∷ xs) (head_same a y (xs ++ x ∷ []) zs e) in
    inr (record { between = xs; front = same; behind = sym (tail_same a y (xs ++ x ∷ []) zs e) })
split_last [] x (b ∷ ys) y zs e = absurd (nil_middle ys zs y (tail_same x b [] (ys ++ y ∷ zs) e))
split_last (a ∷ xs) x (b ∷ ys) y zs e =
    let first = head_same a b (xs ++ x ∷ []) (ys ++ y ∷ zs) e in
    elim (split_last xs x ys y zs (tail_same a b (xs ++ x ∷ []) (ys ++ y ∷ zs) e)) [
      | inl l ↦ inl (record { front = ap (λ (c : Picture). c ∷ xs) first ∙ ap (λ (us : List Picture). b ∷ us) l.front; here = l.here; nothing = l.nothing })
      | inr r ↦ inr (record { between = r.between; front = ap (λ (c : Picture). c ∷ xs) first ∙ ap (λ (us : List Picture). b ∷ us) r.front; behind = r.behind })
    ]

-- the last picture, by its own number
pub named_own : (pictures : List Picture) (picture : Picture) (surface : ℕ) → own_number pictures picture ≡ Some surface → IsNamed (pictures ++ picture ∷ []) surface
named_own pictures picture surface e = record {
  earlier = pictures;
  picture = picture;
  later = [];
  are_all = refl;
  own = e;
  one_sequence = refl;
  last = λ between other behind s. absurd (nil_middle between behind other s);
}

-- an earlier one, where the last is no IDR picture and has another number
pub named_more : (pictures : List Picture) (picture : Picture) (surface : ℕ) → IsNamed pictures surface → is_idr picture.header ≡ false → own_number pictures picture ≢ Some surface
    → IsNamed (pictures ++ picture ∷ []) surface
named_more pictures picture surface h idr other =
    let all = h.are_all in
    record {
      earlier = h.earlier;
      picture = h.picture;
      later = h.later ++ picture ∷ [];
      are_all = ap (λ (xs : List Picture). xs ++ picture ∷ []) all ∙ append_assoc h.earlier (h.picture ∷ h.later) (picture ∷ []);
      own = h.own;
      one_sequence = rw (list_any-append is_of_idr h.later (picture ∷ [])) (or_from (list_any is_of_idr h.later) (is_idr picture.header || false) h.one_sequence (or_from (is_idr picture.header) false idr refl));
      last = λ between another behind s. elim (split_last h.later picture between another behind s) [
        | inl l ↦ λ own. other (ap (λ (xs : List Picture). own_number xs picture) (all ∙ ap (λ (xs : List Picture). h.earlier ++ h.picture ∷ xs) l.front)
            ∙ ap (λ (p : Picture). own_number (h.earlier ++ h.picture ∷ between) p) l.here ∙ own)
        | inr r ↦ h.last between another r.between r.front
      ];
    }

pub named_behind : NamedBehind
named_behind pictures picture surface h =
    elim (split_last pictures picture h.earlier h.picture h.later h.are_all) [
      | inl l ↦ inl (ap (λ (xs : List Picture). own_number xs picture) l.front ∙ ap (λ (p : Picture). own_number h.earlier p) l.here ∙ h.own)
      | inr r ↦ inr (
          let none : list_any is_of_idr (r.between ++ picture ∷ []) ≡ false = subst (λ (xs : List Picture). list_any is_of_idr xs ≡ false) r.behind h.one_sequence in
          let parts = or_parts (list_any is_of_idr r.between) (is_idr picture.header || false) (sym (list_any-append is_of_idr r.between (picture ∷ [])) ∙ none) in
          record {
            before = record {
              earlier = h.earlier;
              picture = h.picture;
              later = r.between;
              are_all = r.front;
              own = h.own;
              one_sequence = parts.0;
              last = λ between other behind s. h.last between other (behind ++ picture ∷ [])
                  (r.behind ∙ ap (λ (xs : List Picture). xs ++ picture ∷ []) s ∙ append_assoc between (other ∷ behind) (picture ∷ []));
            };
            not_idr = (or_parts (is_idr picture.header) false parts.1).0;
            other = λ own. h.last r.between picture [] r.behind (ap (λ (xs : List Picture). own_number xs picture) (sym r.front) ∙ own);
          }
          )
    ]

-- What a crate above keeps for each named surface, it keeps behind one more picture: it holds for the picture's own number, and
-- stays for each other number where the picture isn't IDR.
pub each_named : (P R : ℕ → Type 0) (pictures : List Picture) (picture : Picture) (number : ℕ) → own_number pictures picture ≡ Some number → R number
    → ((surface : ℕ) → surface ≢ number → is_of_idr picture ≡ false → P surface → R surface) → ((surface : ℕ) → IsNamed pictures surface → P surface)
    → (surface : ℕ) → IsNamed (pictures ++ picture ∷ []) surface → R surface
each_named P R pictures picture number own here stays before surface h =
    elim (named_behind pictures picture surface h) [
      | inl same ↦ subst R (same_some number surface (sym own ∙ same)) here
      | inr kept ↦ stays surface (λ same. kept.other (own ∙ ap (λ (n : ℕ). Some n) (sym same))) kept.not_idr (before surface kept.before)
    ]
