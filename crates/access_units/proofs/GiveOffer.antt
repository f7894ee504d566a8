-- Whether the access unit in hand is a picture.
use Rattle.std.proofs.Common.{◌≡◌, ℕ, ◌+◌, ◌≤◌, ◌<◌, false, List, length, Option, Some, None, refl, sym, ap, subst, ◌∙◌, arith}
use Rattle.std.specs.Prelude.{IfSome, slice_range, vec_len}
use Rattle.std.specs.Option.{is_some}
use Rattle.std.proofs.lemmas.List.{length-map}
use Rattle.marking.specs.declared.begun.Begun.{Begun}
use Rattle.access_units.specs.AccessUnits.{AccessUnit}
use Rattle.access_units.specs.Acceptors.{Past}
use Rattle.access_units.specs.Giving.{IsOfferOf, bytes_at}
use Rattle.access_units.specs.Hands.{Holds}
use Rattle.access_units.specs.Pictures.{AreOwn, BeginsBehind, IsPicture, Picture, submission_of}
use Rattle.access_units.specs.Sequences.{AreOfSequence}
use Rattle.access_units.specs.Standing.{AreWithin, StandsFor}
use Rattle.access_units.specs.declared.acceptor.Acceptor.{Acceptor}
use Rattle.access_units.specs.declared.content.Named.{Named}
use Rattle.access_units.specs.declared.hand.InHand.{InHand}
use Rattle.access_units.proofs.UnitFound.{if_some, looked_kept}

pub none_of : {A : Type 0} (o : Option A) → is_some o ≡ false → o ≡ None
none_of None none = refl
none_of (Some x) none = absurd (cc)

pub some_at : {A : Type 0} (o : Option A) (x : A) (P : A → Type 0) → o ≡ Some x → IfSome o P → P x
some_at {A = A} o x P is holds = subst (λ (found : Option A). IfSome found P) is holds

same_named : (a b : Named) (first : Option Named) → first ≡ Some a → first ≡ Some b → a ≡ b
same_named a b first is same = let e : Some a ≡ Some b = sym is ∙ same in cc

-- The slices in hand lie within the bytes that are kept.
pub slices_within : (a : Acceptor) (held : InHand) (past : Past) → a.hand ≡ Some held → StandsFor a past → AreWithin a.from (a.from + vec_len a.bytes) held.slices.items
slices_within a held past was s =
    let From = λ (h : InHand). (a.from ≤ h.offset) × (h.offset ≤ a.looked) × AreWithin h.offset a.looked h.slices.items in
    let lies = if_some a.hand held From was s.reads.hand_within in
    let room = looked_kept a past.text past.ended s.told s.broken s.opened s.hand s.front s.reads in
    λ k d lt. let p = lies.2 k d lt in (omega (arith, lies.0, p.0), p.1, omega (arith, p.2, room))

-- No picture begins with the header of its first slice.
pub no_begin : (held : InHand) (named : Named) (text : List ℕ) (before : List Picture) (au : AccessUnit) (picture : Picture) → held.first ≡ Some named → Holds held text au
    → ((begun : Begun) → ¬ BeginsBehind before named begun) → ¬ IsPicture before au picture
no_begin held named text before au picture was h none is =
    let same : is.named ≡ named = same_named is.named named au.first is.first (sym h.first ∙ was) in
    none is.begun (subst (λ (n : Named). BeginsBehind before n is.begun) same is.begins)

-- Its slices are too long.
pub too_long : (held : InHand) (text : List ℕ) (before : List Picture) (au : AccessUnit) (picture : Picture) → Holds held text au
    → 67108864 < length (submission_of (bytes_at text held.slices.items)) → ¬ IsPicture before au picture
too_long held text before au picture h long is =
    let same : length (submission_of (bytes_at text held.slices.items)) ≡ length (submission_of au.slices) = ap (λ (slices : List (List ℕ)). length (submission_of slices)) h.slices in
    omega (arith, same, is.fits, long)

-- It is a picture.
pub offer_of : (held : InHand) (past : Past) (au : AccessUnit) (named : Named) (begun : Begun) (slices : ℕ) (submission : List ℕ) → Holds held past.text au
    → held.refused ≡ None → held.first ≡ Some named → BeginsBehind past.given named begun → AreOwn past.given begun.info.references → AreOfSequence past.given begun.info.references → slices ≡ vec_len held.slices
    → submission ≡ submission_of (bytes_at past.text held.slices.items) → length submission ≤ 67108864
    → IsOfferOf past au (record { named = named; begun = begun; slices = slices; submission = submission })
offer_of held past au named begun slices submission h allowed was begins own sequence many is fits =
    let all : submission ≡ submission_of au.slices = is ∙ ap submission_of h.slices in
    let count : length (bytes_at past.text held.slices.items) ≡ length held.slices.items = length-map held.slices.items (λ (place : ℕ × ℕ). slice_range past.text place.0 place.1) in
    let same : length (bytes_at past.text held.slices.items) ≡ length au.slices = ap length h.slices in
    record {
      allowed = sym h.refused ∙ allowed;
      first = sym h.first ∙ was;
      begins = begins;
      own = own;
      sequence = sequence;
      slices = omega (arith, many, held.slices.ok.0, count, same);
      submission = all;
      fits = subst (λ (bytes : List ℕ). length bytes ≤ 67108864) all fits;
    }
