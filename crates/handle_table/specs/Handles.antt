-- What a contract sees of a `HandleTable`.
use Rattle.std.specs.Prelude.{◌≡◌, ℕ, ◌==◌, ◌&&◌, Bool, if◌then◌else◌, List, [], ◌∷◌, ◌++◌, map, Option, Some, None, refl}
use Rattle.std.specs.Coded.{Coded, code_by, coded×, coded_ℕ, coded_list}

-- a value that is in the table, with its kind and its name
pub record Handle (T : Type 0) : Type 0 where
  pub kind : ℕ
  pub name : ℕ
  pub value : T

-- those that are live, by rising index, and for each index how many generations were given
pub record Handles (T : Type 0) : Type 0 where
  pub live : List (Handle T)
  pub generations : List ℕ

abbrev pub handle_code : {T : Type 0} → Coded T → Coded (Handle T)
handle_code {T} code =
    code_by
    (ℕ × (ℕ × T))
    (coded× coded_ℕ (coded× coded_ℕ code))
    (λ h. (h.kind, (h.name, h.value)))
    (λ p. record { kind = p.0; name = p.1.0; value = p.1.1 })
    (λ _. refl)

abbrev pub handles_code : {T : Type 0} → Coded T → Coded (Handles T)
handles_code {T} code =
    code_by
    (List (Handle T) × List ℕ)
    (coded× (coded_list (handle_code code)) (coded_list coded_ℕ))
    (λ t. (t.live, t.generations))
    (λ p. record { live = p.0; generations = p.1 })
    (λ _. refl)

module _ {T : Type 0} where
  abbrev pub is_named : ℕ → ℕ → Handle T → Bool
  is_named kind name h = (h.name == name) && (h.kind == kind)

  -- the value of the live one with this kind and name
  abbrev pub lookup : List (Handle T) → ℕ → ℕ → Option T
  lookup [] kind name = None
  lookup (h ∷ rest) kind name = if is_named kind name h then Some h.value else lookup rest kind name

  -- The new list has one more, at some place.
  pub record Adds (old new : List (Handle T)) (h : Handle T) : Type 0 where
    pub before : List (Handle T)
    pub after : List (Handle T)
    pub was : old ≡ before ++ after
    pub is : new ≡ before ++ h ∷ after

  -- This kind and name finds this now, and every other finds what it found.
  abbrev pub Updates : List (Handle T) → List (Handle T) → ℕ → ℕ → Option T → Type 0
  Updates old new kind name found =
      (k n : ℕ) → lookup new k n ≡ (if (name == n) && (kind == k) then found else lookup old k n)

  -- the table after a write through `get_mut`: the live one with this kind and name has this value
  abbrev pub with_value : Handles T → ℕ → ℕ → T → Handles T
  with_value t kind name value =
      record t { live = map (λ h. if is_named kind name h then record h { value = value } else h) t.live }
