-- The payloads of a submission's units, one after the other.
use Rattle.std.proofs.Common.{◌≡◌, ◌≢◌, ℕ, ◌+◌, ◌<◌, Bool, true, false, List, [], ◌∷◌, ◌++◌, length, Option, Some, None, Result, Ok, Err, Vec, inl, inr, refl, ◌∙◌, ap, subst, below_more, arith}
use Rattle.std.specs.Prelude.{IfOk, is_some, nat_lt, IsTrue, IsFalse, MatchOption}
use Rattle.std.specs.declared.alloc.Global.{Global}
use Rattle.std.proofs.lemmas.List.{get_or_append_left, length-map, map-append}
use Rattle.std.proofs.Math.Seq.{get_or-append_seam}
use Rattle.bit_io.specs.Payload.{IsAllowedBefore, IsFirstForbidden, is_forbidden, payload}
use Rattle.decoder_render.specs.Submission.{IsPayload, bytes_at, bytes_of, items_of, payload_at, place_at}

-- A unit has a forbidden byte, or none of its bytes is forbidden.
not_both : (unit : List ℕ) (at : ℕ) → IsFirstForbidden unit at → IsAllowedBefore unit (length unit) → ⊥
not_both unit at forbidden allowed =
    let is : is_forbidden unit at ≡ true = forbidden.forbidden in
    let not : is_forbidden unit at ≡ false = allowed at forbidden.within in
    grind arith

-- the unit is the last one before a broken place
abbrev pub IsCut : List (ℕ × ℕ) → Option ℕ → ℕ → Type 0
IsCut places broken number = (broken ≢ None) × (number + 1 ≡ length places)

pub uncut : (places : List (ℕ × ℕ)) (broken : Option ℕ) (number : ℕ) (whole : Bool) → is_some broken ≡ false → whole ≡ true
    → (whole ≡ false → IsCut places broken number) × (whole ≡ true → IsCut places broken number → ⊥)
uncut places None number whole none is_whole = ((λ not_whole. absurd (grind arith)), (λ here cut. cut.0 refl))
uncut places (Some at) number whole none is_whole = absurd (grind arith)

pub cut_last : (places : List (ℕ × ℕ)) (broken : Option ℕ) (number count : ℕ) (whole : Bool) → is_some broken ≡ true
    → number < length places → count ≡ length places → whole ≡ nat_lt (number + 1) count
    → (whole ≡ false → IsCut places broken number) × (whole ≡ true → IsCut places broken number → ⊥)
cut_last places None number count whole some inside all less = absurd (grind arith)
cut_last places (Some at) number count whole some inside all less = ((λ not_whole. ((λ same. grind arith), grind arith)), (λ here cut. let last = cut.1 in grind arith))

-- what a unit's bytes give is its payload
pub payload_is : {E : Type 0} (r : Result (Option (Vec ℕ Global)) E) (text : List ℕ) (places : List (ℕ × ℕ)) (broken : Option ℕ) (number : ℕ) (place : ℕ × ℕ) (whole : Bool)
    → place ≡ place_at places number → (whole ≡ false → IsCut places broken number) → (whole ≡ true → IsCut places broken number → ⊥)
    → (IsFalse whole → IfOk r (λ kept. kept ≡ None))
    → (IsTrue whole → IfOk r (λ kept. MatchOption kept ((at : ℕ) × IsFirstForbidden (bytes_at text place) at)
    (λ bytes. (bytes.items ≡ payload (bytes_at text place)) × IsAllowedBefore (bytes_at text place) (length (bytes_at text place)))))
    → IfOk r (λ kept. IsPayload text places broken number (items_of kept))
payload_is (Err e) text places broken number place whole is cut uncut spoiled kept = tt
payload_is (Ok None) text places broken number place false is cut uncut spoiled kept = inr (cut refl)
payload_is (Ok None) text places broken number place true is cut uncut spoiled kept =
    let P : ℕ × ℕ → Type 0 = λ p. (at : ℕ) × IsFirstForbidden (bytes_at text p) at in
    inl (subst P is (kept refl))
payload_is (Ok (Some bytes)) text places broken number place false is cut uncut spoiled kept = let no = spoiled refl in grind arith
payload_is (Ok (Some bytes)) text places broken number place true is cut uncut spoiled kept =
    let P : ℕ × ℕ → Type 0 = λ p. (bytes.items ≡ payload (bytes_at text p)) × IsAllowedBefore (bytes_at text p) (length (bytes_at text p)) in
    let here = subst P is (kept refl) in
    ((λ either. elim either [ inl some ↦ not_both _ some.0 some.1 here.1 | inr last ↦ uncut refl last ]), here.0)

-- one more payload
pub payloads_more : (text : List ℕ) (places : List (ℕ × ℕ)) (broken : Option ℕ) (kept more : List (Option (Vec ℕ Global))) (next : Option (Vec ℕ Global)) (number : ℕ)
    → more ≡ kept ++ next ∷ [] → length kept ≡ number
    → ((k : ℕ) → k < number → IsPayload text places broken k (payload_at (bytes_of kept) k)) → IsPayload text places broken number (items_of next)
    → (k : ℕ) → k < number + 1 → IsPayload text places broken k (payload_at (bytes_of more) k)
payloads_more text places broken kept more next number is count each here =
    let same = ap bytes_of is ∙ map-append items_of kept (next ∷ []) in
    let count = length-map kept items_of ∙ count in
    below_more _ _
    (λ k lt.
    let read : payload_at (bytes_of more) k ≡ payload_at (bytes_of kept) k = rw same (get_or_append_left (bytes_of kept) _ None k (rw count lt)) in
    rw read (each k lt))
    (let read : payload_at (bytes_of more) number ≡ items_of next = rw (same, ← count) (get_or-append_seam (bytes_of kept) (items_of next) [] None) in
    rw read here)
