-- The submission of an access unit's slices, which stand at places of the text.
use Rattle.std.proofs.Common.{◌≡◌, ℕ, ◌+◌, ◌≤◌, ◌<◌, List, [], ◌∷◌, ◌++◌, length, get_or, take, sym, ap, ◌∙◌, arith}
use Rattle.std.specs.Prelude.{slice_range}
use Rattle.std.specs.List.{flat_map}
use Rattle.std.proofs.lemmas.Grind.{flat_map-append}
use Rattle.std.proofs.lemmas.List.{append-nil, take_more}
use Rattle.std.proofs.lemmas.List.Folds.{flat_map-map, length-flat_map-take}
use Rattle.access_units.specs.Giving.{bytes_at}
use Rattle.access_units.specs.Pictures.{submission_of}

-- a slice of the text behind its start code
abbrev piece : List ℕ → ℕ × ℕ → List ℕ
piece text place = 0 ∷ 0 ∷ 1 ∷ slice_range text place.0 place.1

by_pieces : (text : List ℕ) (places : List (ℕ × ℕ)) → submission_of (bytes_at text places) ≡ flat_map (piece text) places
by_pieces text places = flat_map-map (λ (slice : List ℕ). 0 ∷ 0 ∷ 1 ∷ slice) (λ (place : ℕ × ℕ). slice_range text place.0 place.1) places

-- one slice more
pub submission_more : (text : List ℕ) (places : List (ℕ × ℕ)) (i : ℕ) (d : ℕ × ℕ) (bytes slice : List ℕ) → i < length places
    → bytes ≡ submission_of (bytes_at text (take i places)) → slice ≡ slice_range text (get_or places i d).0 (get_or places i d).1
    → bytes ++ (0 ∷ 0 ∷ 1 ∷ slice) ≡ submission_of (bytes_at text (take (i + 1) places))
submission_more text places i d bytes slice lt is same =
    let place : ℕ × ℕ = get_or places i d in
    ap (λ (b : List ℕ). b ++ (0 ∷ 0 ∷ 1 ∷ slice)) (is ∙ by_pieces text (take i places))
    ∙ ap (λ (s : List ℕ). flat_map (piece text) (take i places) ++ (0 ∷ 0 ∷ 1 ∷ s)) same
    ∙ ap (λ (s : List ℕ). flat_map (piece text) (take i places) ++ s) (sym (append-nil (piece text place)))
    ∙ sym (flat_map-append (piece text) (take i places) (place ∷ []))
    ∙ ap (λ (ps : List (ℕ × ℕ)). flat_map (piece text) ps) (sym (take_more places i d lt))
    ∙ sym (by_pieces text (take (i + 1) places))

-- with all that come behind, the bytes are as many at least
pub submission_least : (text : List ℕ) (places : List (ℕ × ℕ)) (i : ℕ) (d : ℕ × ℕ) (bytes slice : List ℕ) → i < length places
    → bytes ≡ submission_of (bytes_at text (take i places)) → slice ≡ slice_range text (get_or places i d).0 (get_or places i d).1
    → length bytes + 3 + length slice ≤ length (submission_of (bytes_at text places))
submission_least text places i d bytes slice lt is same =
    let place : ℕ × ℕ = get_or places i d in
    let all = length-flat_map-take (piece text) places i d lt in
    let front : length bytes ≡ length (flat_map (piece text) (take i places)) = ap length (is ∙ by_pieces text (take i places)) in
    let here : length slice ≡ length (slice_range text place.0 place.1) = ap length same in
    let whole : length (submission_of (bytes_at text places)) ≡ length (flat_map (piece text) places) = ap length (by_pieces text places) in
    omega (arith, all, front, here, whole)
