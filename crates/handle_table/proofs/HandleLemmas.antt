-- For callers: what a table finds after a write through `get_mut`.
use Rattle.std.proofs.Common.{◌≡◌, ℕ, ◌&&◌, Bool, true, false, List, [], ◌∷◌, length, map, Option, Some, None, option_map, refl, sym, ap, ◌∙◌, cond, eqb, arith}
use Rattle.std.proofs.lemmas.Bool.Decides.{nat_tests}
use Rattle.std.proofs.lemmas.List.{length-map}
use Rattle.handle_table.specs.Handles.{Handle, Handles, Updates, is_named, lookup, with_value}

same_test : (a b kind name k n : ℕ) → a ≡ n → b ≡ k → (eqb a name && eqb b kind) ≡ (eqb name n && eqb kind k)
same_test a b kind name k n name_is kind_is = grind (arith, nat_tests)

module _ {T : Type 0} (value : T) where
  abbrev written_if : Bool → Handle T → Handle T
  written_if test h = cond test (record h { value = value }) h

  same_name : (test : Bool) (h : Handle T) → (written_if test h).name ≡ h.name
  same_name true h = refl
  same_name false h = refl

  same_kind : (test : Bool) (h : Handle T) → (written_if test h).kind ≡ h.kind
  same_kind true h = refl
  same_kind false h = refl

  step : (named found asked : Bool) → (found ≡ true → named ≡ asked) → (h : Handle T) (old new : Option T) → new ≡ option_map (λ v. cond asked value v) old
      → cond found (Some (written_if named h).value) new ≡ option_map (λ v. cond asked value v) (cond found (Some h.value) old)
  step named false asked same h old new rest = rest
  step true true true same h old new rest = refl
  step true true false same h old new rest = let wrong : true ≡ false = same refl in absurd (cc)
  step false true true same h old new rest = let wrong : false ≡ true = same refl in absurd (cc)
  step false true false same h old new rest = refl

  -- A lookup after the write finds what it found before, or what was written where it asks for this kind and name.
  lookup-written : (kind name k n : ℕ) (live : List (Handle T)) → lookup (map (λ h. written_if (is_named kind name h) h) live) k n ≡ option_map (λ v. cond (eqb name n && eqb kind k) value v) (lookup live k n)
  lookup-written kind name k n [] = refl
  lookup-written kind name k n (h ∷ rest) =
      ap (λ m. cond (eqb m n && eqb (written_if (is_named kind name h) h).kind k) (Some (written_if (is_named kind name h) h).value) (lookup (map (λ h. written_if (is_named kind name h) h) rest) k n)) (same_name (is_named kind name h) h)
      ∙ ap (λ m. cond (eqb h.name n && eqb m k) (Some (written_if (is_named kind name h) h).value) (lookup (map (λ h. written_if (is_named kind name h) h) rest) k n)) (same_kind (is_named kind name h) h)
      ∙ step (is_named kind name h) (is_named k n h) (eqb name n && eqb kind k) same h (lookup rest k n) _ (lookup-written kind name k n rest)
    where
      same : is_named k n h ≡ true → is_named kind name h ≡ (eqb name n && eqb kind k)
      same found =
          let name_is : h.name ≡ n = grind (arith, nat_tests) in
          let kind_is : h.kind ≡ k = grind (arith, nat_tests) in
          same_test h.name h.kind kind name k n name_is kind_is

  option_map-same : (o : Option T) → option_map (λ v. v) o ≡ o
  option_map-same None = refl
  option_map-same (Some v) = refl

  -- The write changes what this kind and name finds, and nothing else. `HasGiven` says the same of both tables, by computation.
  pub Updates-with_value : (t : Handles T) (kind name : ℕ) (old : T) → lookup t.live kind name ≡ Some old → Updates t.live (with_value t kind name value).live kind name (Some value)
  Updates-with_value t kind name old found k n = lookup-written kind name k n t.live ∙ by_test (eqb name n) (eqb kind k) refl refl
    where
      by_test : (same_name same_kind : Bool) → eqb name n ≡ same_name → eqb kind k ≡ same_kind → option_map (λ v. cond (same_name && same_kind) value v) (lookup t.live k n) ≡ cond (same_name && same_kind) (Some value) (lookup t.live k n)
      by_test true true is_name is_kind =
          let name_is : name ≡ n = grind (arith, nat_tests) in
          let kind_is : kind ≡ k = grind (arith, nat_tests) in
          ap (option_map (λ v. value)) (sym (ap (λ m. lookup t.live k m) name_is) ∙ sym (ap (λ m. lookup t.live m name) kind_is) ∙ found)
      by_test true false is_name is_kind = option_map-same (lookup t.live k n)
      by_test false same_kind is_name is_kind = option_map-same (lookup t.live k n)

  pub length-with_value : (t : Handles T) (kind name : ℕ) → length (with_value t kind name value).live ≡ length t.live
  length-with_value t kind name = length-map t.live (λ h. written_if (is_named kind name h) h)
