-- What the front of a file settled stays so, whatever follows.
use Rattle.std.proofs.Common.{◌≡◌, ℕ, inl, inr, Bool, true, false, List, ◌++◌, length, take, Option, None, refl, sym, subst, append_assoc, arith, length-append}
use Rattle.std.proofs.lemmas.List.{take-append-le}
use Rattle.nal_units.specs.Settled.{Settles}
use Rattle.nal_units.specs.Units.{Units}
use Rattle.access_units.specs.AccessUnits.{AccessUnit}
use Rattle.access_units.specs.Acceptors.{AreFirst, IsAtAnEnd, IsSettled}
use Rattle.access_units.specs.Contents.{AreTold, Told, places_of}
use Rattle.access_units.proofs.UnitFound.{looked_order}
use Rattle.access_units.proofs.UnitLemmas.{AreInOrder, before_from_order, before_within, told-append}

-- units within a text tell the same in a longer one
told_on : (text more : List ℕ) (told : List Told) → AreInOrder 0 (length text) (places_of told) → AreTold text told → AreTold (text ++ more) told
told_on text more told order each = told-append text more told (before_within (length text) told (before_from_order 0 (length text) told order)) each

first_on : (text more : List ℕ) (spots : List (ℕ × ℕ)) → AreFirst text spots → AreFirst (text ++ more) spots
first_on text more spots first =
    let same : take first.0 text ≡ take first.0 (text ++ more) = sym (take-append-le first.0 text more first.1) in
    let le = first.1 in
    (first.0, omega (arith, le, length-append text more), subst (λ (t : List ℕ). Settles t spots None) same first.2)

end_on : (text more : List ℕ) (is_ended : Bool) (spots : List (ℕ × ℕ)) (broken : Option ℕ) → IsAtAnEnd text false spots broken → IsAtAnEnd (text ++ more) is_ended spots broken
end_on text more is_ended spots broken (inl all) = let bad = all.0 in absurd (cc)
end_on text more is_ended spots broken (inr all) = inr (all.0, (λ further. subst (λ (t : List ℕ). Units t spots broken) (sym (append_assoc text more further)) (all.1 (more ++ further))))

pub settled_on : (text more : List ℕ) (is_ended : Bool) (front : List AccessUnit) (au : AccessUnit) → IsSettled text false front au → IsSettled (text ++ more) is_ended front au
settled_on text more is_ended front au settled =
    let told = settled.told in
    elim settled.by [
      | inl first ↦ record {
        told = told;
        each = told_on text more told (looked_order false text first.0.0 false (places_of told) None (refl, first.0.2)) settled.each;
        by = inl (first_on text more (places_of told) first.0, first.1);
      }
      | inr all ↦ record {
        told = told;
        each = told_on text more told (looked_order true text 0 false (places_of told) all.0 all.1) settled.each;
        by = inr (all.0, end_on text more is_ended (places_of told) all.0 all.1, all.2);
      }
    ]

-- and so at the end of the text
end_too : (text : List ℕ) (is_ended : Bool) (spots : List (ℕ × ℕ)) (broken : Option ℕ) → IsAtAnEnd text is_ended spots broken → IsAtAnEnd text true spots broken
end_too text is_ended spots broken (inl all) = inl (refl, all.1)
end_too text is_ended spots broken (inr all) = inr all

pub settled_at_end : (text : List ℕ) (is_ended : Bool) (front : List AccessUnit) (au : AccessUnit) → IsSettled text is_ended front au → IsSettled text true front au
settled_at_end text is_ended front au settled =
    let told = settled.told in
    elim settled.by [
      | inl first ↦ record { told = told; each = settled.each; by = inl first }
      | inr all ↦ record { told = told; each = settled.each; by = inr (all.0, end_too text is_ended (places_of told) all.0 all.1, all.2) }
    ]
