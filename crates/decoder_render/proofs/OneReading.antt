-- A text has one list of payloads at most.
use Rattle.std.proofs.Common.{◌≡◌, ℕ, ◌<◌, List, length, Option, Some, None, refl, sym, ap, ◌∙◌, subst}
use Rattle.std.proofs.lemmas.List.{ext_get_or}
use Rattle.nal_units.proofs.Unique.{units_unique}
use Rattle.decoder_render.specs.Submission.{ArePayloads, IsPayload, payload_at}

payload_one : (text : List ℕ) (places : List (ℕ × ℕ)) (broken : Option ℕ) (number : ℕ) (a b : Option (List ℕ)) → IsPayload text places broken number a → IsPayload text places broken number b → a ≡ b
payload_one text places broken number None None is also = refl
payload_one text places broken number None (Some bytes) is also = absurd (also.0 is)
payload_one text places broken number (Some bytes) None is also = absurd (is.0 also)
payload_one text places broken number (Some bytes) (Some others) is also = ap Some (is.1 ∙ sym also.1)

-- in the same units
payloads_agree : (text : List ℕ) (places others : List (ℕ × ℕ)) (broken also_broken : Option ℕ) (a b : List (Option (List ℕ))) → places ≡ others → broken ≡ also_broken → length a ≡ length b
    → ((number : ℕ) → number < length a → IsPayload text places broken number (payload_at a number))
    → ((number : ℕ) → number < length b → IsPayload text others also_broken number (payload_at b number))
    → a ≡ b
payloads_agree text places others broken also_broken a b same same_broken count is also =
    ext_get_or None a b count
    (λ number lt.
    let moved = also number (subst (λ (k : ℕ). number < k) count lt) in
    let in_places = subst (λ (p : List (ℕ × ℕ)). IsPayload text p also_broken number (payload_at b number)) (sym same) moved in
    let here = subst (λ (o : Option ℕ). IsPayload text places o number (payload_at b number)) (sym same_broken) in_places in
    payload_one text places broken number (payload_at a number) (payload_at b number) (is number lt) here)

pub payloads_one : (text : List ℕ) (a b : List (Option (List ℕ))) → ArePayloads text a → ArePayloads text b → a ≡ b
payloads_one text a b is also =
    let same = units_unique text is.places also.places is.broken also.broken is.units also.units in
    payloads_agree text is.places also.places is.broken also.broken a b same.0 same.1 (is.count ∙ (ap length same.0 ∙ sym also.count)) is.each also.each
