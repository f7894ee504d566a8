-- How many entries are active.
use Rattle.std.proofs.Common.{◌≡◌, ℕ, ◌≤◌, Bool, true, false, List, ◌++◌, ◌⊎◌, inl, inr, Option, None, Some, sym, ap, subst, ◌∙◌, arith}
use Rattle.std.specs.Prelude.{IfSome}
use Rattle.cb_types.specs.declared.picture_info.PictureInfo.{PictureInfo}
use Rattle.element_tables.specs.Syntax.{Syntax, Takes, up_to, present, ue}
use Rattle.element_tables.proofs.OneElement.{ue_range}
use Rattle.element_tables.proofs.Rules.{up_to_most}
use Rattle.element_tables.proofs.Tables.{made_is, takes_parts, takes_present}
use Rattle.slice_header.specs.Conditions.{HasRanges, active_of}
use Rattle.slice_header.specs.Lists.{flagged, optional}
use Rattle.slice_header.specs.Spelling.{active_override, no_references, references}
use Rattle.slice_header.specs.declared.parts.References.{References}

pub record Chosen {A : Type 0} (table : Syntax A) (whole : List Bool) (o : Option A) (rest : List Bool) : Type 0 where
  pub value : A
  pub is : o ≡ Some value
  pub takes : Takes table whole value rest

pub takes_optional : {A : Type 0} (t : Syntax A) (condition : Bool) (whole : List Bool) (o : Option A) (rest : List Bool) → Takes (optional condition t) whole o rest
    → ((condition ≡ true) × Chosen t whole o rest) ⊎ ((condition ≡ false) × (o ≡ None))
unfolding optional
takes_optional {A} t condition whole o rest h =
    elim (takes_present _ None condition whole o rest h) [
      | inl there ↦
          let p = takes_parts _ there.1 in
          let empty : p.1 ≡ rest = p.3.parts ∙ ap (λ (x : List Bool). x ++ rest) p.3.spelled.0 in
          inl (there.0, record { value = p.0; is = sym (made_is p.3); takes = subst (λ (x : List Bool). Takes t whole p.0 x) empty p.2 })
      | inr absent ↦ inr (absent.0, sym absent.1)
    ]

pub takes_flagged : {A : Type 0} (t : Syntax A) (whole : List Bool) (o : Option A) (rest : List Bool) → Takes (flagged t) whole o rest
    → ((mid : List Bool) × Chosen t mid o rest) ⊎ (o ≡ None)
unfolding flagged
takes_flagged t whole o rest h =
    let p = takes_parts _ h in
    elim (takes_optional t p.0 p.1 o rest p.3) [ inl there ↦ inl (p.1, there.1) | inr absent ↦ inr absent.1 ]

-- an override is at most 15
abbrev pub IsOverride : Option ℕ → Type 0
IsOverride o = IfSome o (λ v. v ≤ 15)

pub override_range : (whole : List Bool) (o : Option ℕ) (rest : List Bool) → Takes active_override whole o rest → IsOverride o
unfolding active_override
override_range whole o rest h =
    elim (takes_flagged (ue (up_to 15)) whole o rest h) [
      | inl there ↦
          let v = there.1.value in
          subst IsOverride (sym there.1.is) (up_to_most v 15 (ue_range (up_to 15) there.1.takes.front v there.1.takes.spelled).1)
      | inr absent ↦ subst IsOverride (sym absent) tt
    ]

pub present_override : (info : PictureInfo) (condition : Bool) (whole : List Bool) (r : References) (rest : List Bool) → Takes (present condition (references info) no_references) whole r rest → IsOverride r.active_override
unfolding references
present_override info condition whole r rest h =
    elim (takes_present (references info) no_references condition whole r rest h) [
      | inl there ↦
          let p = takes_parts _ there.1 in
          let q = takes_parts _ p.3 in
          let s = takes_parts _ q.3 in
          subst (λ (x : References). IsOverride x.active_override) (made_is s.3) (override_range whole p.0 p.1 p.2)
      | inr absent ↦ subst (λ (x : References). IsOverride x.active_override) absent.1 tt
    ]

pub active_most : (info : PictureInfo) (o : Option ℕ) → HasRanges info → IsOverride o → active_of info o ≤ 16
active_most info None ranges h = omega (arith, ranges.active)
active_most info (Some v) ranges h = omega (arith, h)
