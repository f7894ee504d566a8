-- Elements of one kind, of which the first have been written.
use Rattle.std.proofs.Common.{◌≡◌, ℕ, ◌+◌, ◌<◌, ◌≤◌, Bool, List, [], ◌∷◌, ◌++◌, length, get_or, take, sym, ap, ◌∙◌, append_assoc}
use Rattle.std.proofs.lemmas.List.{append-nil, take_all, take_more}
use Rattle.std.proofs.lemmas.List.Concat.{flat_map-append}
use Rattle.std.specs.List.{flat_map}

pub record WrittenSo {V : Type 0} (code : V → List Bool) (i : ℕ) (vs : List V) (start out : List Bool) : Type 0 where
  pub bits : out ≡ start ++ flat_map code (take i vs)

module _ {V : Type 0} (code : V → List Bool) where
  pub none_written : (vs : List V) (start : List Bool) → WrittenSo code 0 vs start start
  none_written vs start = record { bits = sym (append-nil start) }

  pub more_written : (i : ℕ) (vs : List V) (d : V) (start out new : List Bool) → i < length vs → WrittenSo code i vs start out → new ≡ out ++ code (get_or vs i d) → WrittenSo code (i + 1) vs start new
  more_written i vs d start out new below h e =
      let v = get_or vs i d in
      let front : flat_map code (take (i + 1) vs) ≡ flat_map code (take i vs) ++ code v =
      ap (flat_map code) (take_more vs i d below) ∙ flat_map-append code (take i vs) (v ∷ []) ∙ ap (λ (x : List Bool). flat_map code (take i vs) ++ x) (append-nil (code v)) in
      record { bits = e ∙ ap (λ (x : List Bool). x ++ code v) h.bits ∙ append_assoc start (flat_map code (take i vs)) (code v) ∙ ap (λ (x : List Bool). start ++ x) (sym front) }

  pub all_written : (i : ℕ) (vs : List V) (start out : List Bool) → length vs ≤ i → WrittenSo code i vs start out → out ≡ start ++ flat_map code vs
  all_written i vs start out all h = h.bits ∙ ap (λ (x : List V). start ++ flat_map code x) (take_all i vs all)
