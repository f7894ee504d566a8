-- So many elements of one kind, one behind the other.
use Rattle.std.proofs.Common.{◌≡◌, ℕ, ◌+◌, ◌<◌, ◌≤◌, Bool, List, [], ◌∷◌, ◌++◌, length, set, take, refl, sym, ap, ap₂, ◌∙◌, subst, arith, append_assoc}
use Rattle.std.proofs.lemmas.List.{length-set, length-take-le, take_all, take_more_set}
use Rattle.std.proofs.lemmas.List.Concat.{flat_map-append}
use Rattle.std.proofs.lemmas.List.Elements.{All-cons, All-head, All-nil, All-push, All-tail}
use Rattle.std.proofs.lemmas.List.{append-nil}
use Rattle.std.specs.List.{All, flat_map}
use Rattle.mb_syntax.specs.KindSteps.{AreSo}
use Rattle.bit_io.specs.Reads.{BeginsNone, IsPrefixFree}

-- The first elements of these have been read.
pub record ReadSo {V : Type 0} (IsV : V → Type 0) (code : V → List Bool) (n i : ℕ) (vs : List V) (old mid : List Bool) : Type 0 where
  pub size : length vs ≡ n
  pub each : All IsV (take i vs)
  pub bits : old ≡ flat_map code (take i vs) ++ mid

module _ {V : Type 0} (IsV : V → Type 0) (code : V → List Bool) where
  pub none_read : (n : ℕ) (vs : List V) (old : List Bool) → length vs ≡ n → ReadSo IsV code n 0 vs old old
  none_read n vs old l = record { size = l; each = All-nil IsV; bits = refl }

  pub more_read : (n i : ℕ) (vs : List V) (v : V) (old mid new : List Bool) → i < n → ReadSo IsV code n i vs old mid → IsV v → mid ≡ code v ++ new
      → ReadSo IsV code n (i + 1) (set vs i v) old new
  more_read n i vs v old mid new below h is e =
      let l : i < length vs = omega (arith, h.size) in
      let front = take_more_set vs i v l in
      record {
        size = length-set vs i v ∙ h.size;
        each = subst (λ (x : List V). All IsV x) (sym front) (All-push IsV (take i vs) v h.each is);
        bits = h.bits ∙ ap (λ (x : List Bool). flat_map code (take i vs) ++ x) e ∙ sym (append_assoc (flat_map code (take i vs)) (code v) new)
            ∙ ap (λ (x : List Bool). (flat_map code (take i vs) ++ x) ++ new) (sym (append-nil (code v)))
            ∙ ap (λ (x : List Bool). x ++ new) (sym (flat_map-append code (take i vs) (v ∷ [])))
            ∙ ap (λ (x : List V). flat_map code x ++ new) (sym front);
      }

  pub all_read : (n i : ℕ) (vs : List V) (old new : List Bool) → i ≡ n → ReadSo IsV code n i vs old new → AreSo IsV n vs × (old ≡ flat_map code vs ++ new)
  all_read n i vs old new end h =
      let all : take i vs ≡ vs = take_all i vs (omega (arith, h.size, end)) in
      ((h.size, subst (λ (x : List V). All IsV x) all h.each), h.bits ∙ ap (λ (x : List V). flat_map code x ++ new) all)

  module _ (free : IsPrefixFree IsV code) where
    pub elements_free : (vs ws : List V) (after_v after_w : List Bool) → length vs ≡ length ws → All IsV vs → All IsV ws
        → flat_map code vs ++ after_v ≡ flat_map code ws ++ after_w → (vs ≡ ws) × (after_v ≡ after_w)
    elements_free [] [] after_v after_w l h k e = (refl, e)
    elements_free [] (w ∷ ws) after_v after_w l h k e = absurd (omega (arith, l))
    elements_free (v ∷ vs) [] after_v after_w l h k e = absurd (omega (arith, l))
    elements_free (v ∷ vs) (w ∷ ws) after_v after_w l h k e =
        let first = free v w (flat_map code vs ++ after_v) (flat_map code ws ++ after_w) (All-head IsV v vs h) (All-head IsV w ws k)
        (sym (append_assoc (code v) (flat_map code vs) after_v) ∙ e ∙ append_assoc (code w) (flat_map code ws) after_w) in
        let tail = elements_free vs ws after_v after_w (omega (arith, l)) (All-tail IsV v vs h) (All-tail IsV w ws k) first.1 in
        (ap₂ (λ (x : V) (xs : List V). x ∷ xs) first.0 tail.0, tail.1)

    pub list_free : (n : ℕ) → IsPrefixFree (AreSo IsV n) (flat_map code)
    list_free n vs ws after_v after_w h k e = elements_free vs ws after_v after_w (h.0 ∙ sym k.0) h.1 k.1 e

    -- Fewer elements have been read, and none can be read behind them.
    pub none_longer : (vs ws : List V) (old mid rest : List Bool) → length vs < length ws → All IsV vs → old ≡ flat_map code vs ++ mid → BeginsNone IsV code mid
        → All IsV ws → old ≡ flat_map code ws ++ rest → ⊥
    none_longer [] [] old mid rest l h e none k f = omega (arith, l)
    none_longer (v ∷ vs) [] old mid rest l h e none k f = omega (arith, l)
    none_longer [] (w ∷ ws) old mid rest l h e none k f =
        none w (flat_map code ws ++ rest) (All-head IsV w ws k) (sym e ∙ f ∙ append_assoc (code w) (flat_map code ws) rest)
    none_longer (v ∷ vs) (w ∷ ws) old mid rest l h e none k f =
        let first = free v w (flat_map code vs ++ mid) (flat_map code ws ++ rest) (All-head IsV v vs h) (All-head IsV w ws k)
        (sym (append_assoc (code v) (flat_map code vs) mid) ∙ sym e ∙ f ∙ append_assoc (code w) (flat_map code ws) rest) in
        none_longer vs ws (flat_map code vs ++ mid) mid rest (omega (arith, l)) (All-tail IsV v vs h) refl none (All-tail IsV w ws k) first.1

    pub no_list : (n i : ℕ) (vs : List V) (old mid : List Bool) → i < n → ReadSo IsV code n i vs old mid → BeginsNone IsV code mid
        → BeginsNone (AreSo IsV n) (flat_map code) old
    no_list n i vs old mid below h none = λ ws rest is f.
        none_longer (take i vs) ws old mid rest (omega (arith, length-take-le i vs (omega (arith, h.size)), is.0, h.size)) h.each h.bits none is.1 f

    pub no_first : (n : ℕ) (old : List Bool) → 1 ≤ n → BeginsNone IsV code old → BeginsNone (AreSo IsV n) (flat_map code) old
    no_first n old some none = λ ws rest is f. none_longer [] ws old old rest (omega (arith, some, is.0)) (All-nil IsV) refl none is.1 f

    pub no_further : (n : ℕ) (v : V) (old mid : List Bool) → 2 ≤ n → IsV v → old ≡ code v ++ mid → BeginsNone IsV code mid → BeginsNone (AreSo IsV n) (flat_map code) old
    no_further n v old mid some is_v e none = λ ws rest is f.
        none_longer (v ∷ []) ws old mid rest (omega (arith, some, is.0)) (All-cons IsV v [] is_v (All-nil IsV)) (e ∙ ap (λ (x : List Bool). x ++ mid) (sym (append-nil (code v)))) none is.1 f

  pub two_read : (v w : V) (old mid new : List Bool) → IsV v → old ≡ code v ++ mid → IsV w → mid ≡ code w ++ new → AreSo IsV 2 (v ∷ w ∷ []) × (old ≡ flat_map code (v ∷ w ∷ []) ++ new)
  two_read v w old mid new is_v e is_w f = (
    (refl, All-cons IsV v (w ∷ []) is_v (All-cons IsV w [] is_w (All-nil IsV))),
    e ∙ ap (λ (x : List Bool). code v ++ x) f ∙ sym (append_assoc (code v) (code w) new) ∙ ap (λ (x : List Bool). (code v ++ x) ++ new) (sym (append-nil (code w))),
  )
