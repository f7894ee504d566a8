-- What a render finds.
use Rattle.std.proofs.Common.{◌≡◌, ℕ, suc, ◌+◌, ◌<◌, ◌≤◌, nat_lt, Bool, true, false, not, ◌||◌, if◌then◌else◌, List, [], ◌∷◌, ◌++◌, length, map, take, drop, get_or, Option, Some, None, Ok, Err, refl, ap, sym, ◌∙◌, subst, arith, append_assoc}
use Rattle.std.specs.List.{list_any, position, position_or_len}
use Rattle.std.specs.Option.{option_map_or}
use Rattle.std.proofs.Math.ListN.{set, drop_of_length-le}
use Rattle.std.proofs.Math.Seq.{drop-cons}
use Rattle.std.proofs.lemmas.Bool.Decides.{nat_tests}
use Rattle.std.proofs.lemmas.List.{append-nil, take_more_set}
use Rattle.std.proofs.lemmas.List.Sums.{position_or_len_is}
use Rattle.cb_types.specs.AcceptedInfo.{IsAccepted, IsFirstRefused, accepted_fields}
use Rattle.cb_types.specs.References.{is_absent, is_unused}
use Rattle.cb_types.specs.declared.picture_info.PictureInfo.{PictureInfo}
use Rattle.cb_types.specs.declared.picture_info.Reference.{Reference}
use Rattle.vd_status.specs.declared.refusal.Refusal.{Refusal}
use Rattle.vd_status.specs.declared.refusal.Refusal.TheVariants.{BadInfo}
use Rattle.driver_model.specs.Objects.{Decoder, VideoSurface, as_video}
use Rattle.driver_model.specs.Refusals.{Looked, ◌>>=◌, further_handle}
use Rattle.driver_model.specs.Renders.{info_taken, reference, references}
use Rattle.driver_model.specs.States.{State, Found, content_at, named}
use Rattle.driver_model.proofs.Looks.{err_not_ok, ok_is, then_ok}
use Rattle.plain_driver.specs.Rendering.{all_placed, one_placed, place_of_found, some_place}
use Rattle.plain_driver.proofs.Goes.{content_at-named}
use Rattle.plain_driver.proofs.MixLooks.{further-Ok}

-- ---- the fields of the info

info_by : Option ℕ → Looked (Unit {0})
info_by field = elim field as (λ f. Looked (Unit {0})) [ None ↦ Ok tt | Some n ↦ Err (BadInfo n) ]

first_at : (tests : List Bool) (n : ℕ) → position_or_len not tests ≡ n → n < length tests → position not tests ≡ Some n
first_at tests n is below =
    let test : nat_lt n (length tests) ≡ true = grind (arith, nat_tests) in
    ap (λ k. if nat_lt k (length tests) then Some k else None) is ∙ ap (λ b. if b then Some n else None) test

first_none : (tests : List Bool) (n : ℕ) → position_or_len not tests ≡ n → n ≡ length tests → position not tests ≡ None
first_none tests n is all =
    let test : nat_lt n (length tests) ≡ false = grind (arith, nat_tests) in
    ap (λ k. if nat_lt k (length tests) then Some k else None) is ∙ ap (λ b. if b then Some n else None) test

pub info_accepted : (decoder : Decoder) (info : PictureInfo) → IsAccepted decoder.profile decoder.max_references info → Ok tt ≡ info_taken decoder info
unfolding info_by
info_accepted decoder info accepted =
    let tests = accepted_fields decoder.profile decoder.max_references info in
    let none = first_none tests 20 (position_or_len_is not tests 20 false (omega arith) (λ k h. ap not (accepted k h)) (λ h. absurd (let k : 20 < 20 = h in omega arith))) refl in
    sym (ap info_by none)

pub info_refused : (decoder : Decoder) (info : PictureInfo) (field : ℕ) → IsFirstRefused decoder.profile decoder.max_references info field → Err (BadInfo field) ≡ info_taken decoder info
unfolding info_by
info_refused decoder info field is =
    let tests = accepted_fields decoder.profile decoder.max_references info in
    let within : field < 20 = is.within in
    let found = first_at tests field (position_or_len_is not tests field false (omega arith) (λ k h. ap not (is.first k h)) (λ h. ap not is.refused)) within in
    sym (ap info_by found)

-- ---- the references

abbrev pub prepend : List (Option ℕ) → Looked (List (Option ℕ)) → Looked (List (Option ℕ))
prepend front (Ok later) = Ok (front ++ later)
prepend front (Err refusal) = Err refusal

prepend-append : (xs : List (Option ℕ)) (p : Option ℕ) (r : Looked (List (Option ℕ))) → prepend (xs ++ p ∷ []) r ≡ prepend xs (prepend (p ∷ []) r)
prepend-append xs p (Ok later) = ap Ok (append_assoc xs (p ∷ []) later)
prepend-append xs p (Err refusal) = refl

abbrev both : Looked (Option (Found VideoSurface)) → Looked (List (Option (Found VideoSurface))) → Looked (List (Option (Found VideoSurface)))
both one others = one >>= (λ found. others >>= (λ more. Ok (found ∷ more)))

option_is : (a b : Option ℕ) → (let m : Looked (Option ℕ) = Ok a in m ≡ Ok b) → a ≡ b
option_is a b e = cc

refusal_is : (a b : Refusal) → (let m : Looked (Option ℕ) = Err a in m ≡ Err b) → a ≡ b
refusal_is a b e = cc

both-ok : (one : Looked (Option (Found VideoSurface))) (others : Looked (List (Option (Found VideoSurface)))) (p : Option ℕ) → Ok p ≡ one_placed one → all_placed (both one others) ≡ prepend (p ∷ []) (all_placed others)
both-ok (Ok found) (Ok more) p e = ap (λ q. Ok (q ∷ map place_of_found more)) (sym (option_is p (place_of_found found) e))
both-ok (Ok found) (Err refusal) p e = refl
both-ok (Err refusal) others p e = absurd (err_not_ok refusal p (sym e))

both-err : (one : Looked (Option (Found VideoSurface))) (others : Looked (List (Option (Found VideoSurface)))) (refusal : Refusal) → Err refusal ≡ one_placed one → all_placed (both one others) ≡ Err refusal
both-err (Ok found) others refusal e = absurd (err_not_ok refusal (place_of_found found) e)
both-err (Err other) others refusal e = ap Err (refusal_is other refusal (sym e))

module _ (s : State) (device : ℕ) (entries : List Reference) where
  -- the look at all entries, of which so many were looked at
  abbrev pub AreLookedAt : ℕ → List (Option ℕ) → Type 0
  AreLookedAt i found = prepend (take i found) (all_placed (references s device (2 + i) (drop i entries))) ≡ all_placed (references s device 2 entries)

  module _ (i : ℕ) (d : Reference) (below : i < length entries) (found : List (Option ℕ)) (so_far : AreLookedAt i found) where
    here : all_placed (references s device (2 + i) (drop i entries)) ≡ all_placed (both (reference s device (2 + i) (get_or entries i d)) (references s device (2 + (i + 1)) (drop (i + 1) entries)))
    unfolding references
    here =
        ap (λ es. all_placed (references s device (2 + i) es)) (drop-cons entries i d below)
        ∙ (ap (λ n. all_placed (both (reference s device (2 + i) (get_or entries i d)) (references s device n (drop (suc i) entries)))) (let e : 2 + i + 1 ≡ 2 + (i + 1) = omega arith in e)
        ∙ ap (λ n. all_placed (both (reference s device (2 + i) (get_or entries i d)) (references s device (2 + (i + 1)) (drop n entries)))) (let e : suc i ≡ i + 1 = omega arith in e))

    pub looked_more : (p : Option ℕ) → i < length found → Ok p ≡ one_placed (reference s device (2 + i) (get_or entries i d)) → AreLookedAt (i + 1) (set found i p)
    looked_more p within e =
        let later = all_placed (references s device (2 + (i + 1)) (drop (i + 1) entries)) in
        ap (λ xs. prepend xs later) (take_more_set found i p within)
        ∙ (prepend-append (take i found) p later
        ∙ (ap (prepend (take i found)) (sym (here ∙ both-ok (reference s device (2 + i) (get_or entries i d)) (references s device (2 + (i + 1)) (drop (i + 1) entries)) p e)) ∙ so_far))

    pub looked_err : (refusal : Refusal) → Err refusal ≡ one_placed (reference s device (2 + i) (get_or entries i d)) → Err refusal ≡ all_placed (references s device 2 entries)
    looked_err refusal e =
        sym (ap (prepend (take i found)) (here ∙ both-err (reference s device (2 + i) (get_or entries i d)) (references s device (2 + (i + 1)) (drop (i + 1) entries)) refusal e)) ∙ so_far

  pub looked_all : (i : ℕ) (found : List (Option ℕ)) → length entries ≤ i → AreLookedAt i found → take i found ≡ found → Ok found ≡ all_placed (references s device 2 entries)
  unfolding references
  looked_all i found past so_far whole =
      sym (ap (λ es. prepend (take i found) (all_placed (references s device (2 + i) es))) (drop_of_length-le entries past) ∙ ap Ok (append-nil (take i found) ∙ whole)) ∙ so_far

-- each surface that was found stands at its place
unfoldable pub AreHeld : State → List (Option (Found VideoSurface)) → Type 0
AreHeld s [] = Unit {0}
AreHeld s (None ∷ later) = AreHeld s later
AreHeld s (Some found ∷ later) = (content_at s as_video found.place ≡ Some found.value) × AreHeld s later

module _ (s : State) (device : ℕ) where
  found_by : ℕ → Reference → Found VideoSurface → Looked (Option (Found VideoSurface))
  found_by arg entry on = Ok (Some on)

  held_more : (arg : ℕ) (entry : Reference) (found : Option (Found VideoSurface)) (later : List (Option (Found VideoSurface))) → reference s device arg entry ≡ Ok found → AreHeld s later → AreHeld s (found ∷ later)
  unfolding AreHeld found_by
  held_more arg entry found later e held = by (is_unused entry || is_absent entry) e where
    by : (skips : Bool) → (if skips then Ok None else (further_handle arg device (named s as_video entry.surface) >>= found_by arg entry)) ≡ Ok found → AreHeld s (found ∷ later)
    by true k = subst (λ f. AreHeld s (f ∷ later)) (ok_is None found k) held
    by false k =
        let on = then_ok (further_handle arg device (named s as_video entry.surface)) (found_by arg entry) found k in
        subst (λ f. AreHeld s (f ∷ later)) (ok_is (Some on.0) found on.2) (content_at-named as_video entry.surface s on.0 (further-Ok arg device (named s as_video entry.surface) on.0 on.1), held)

  pub references_held : (arg : ℕ) (entries : List Reference) (found : List (Option (Found VideoSurface))) → references s device arg entries ≡ Ok found → AreHeld s found
  unfolding references AreHeld
  references_held arg [] found e = subst (AreHeld s) (ok_is [] found e) tt
  references_held arg (entry ∷ later) found e =
      let with_rest : Option (Found VideoSurface) → List (Option (Found VideoSurface)) → Looked (List (Option (Found VideoSurface))) = λ one more. Ok (one ∷ more) in
      let one = then_ok (reference s device arg entry) (λ o. references s device (arg + 1) later >>= with_rest o) found e in
      let rest = then_ok (references s device (arg + 1) later) (with_rest one.0) found one.2 in
      subst (AreHeld s) (ok_is (one.0 ∷ rest.0) found rest.2) (held_more arg entry one.0 rest.0 one.1 (references_held (arg + 1) later rest.0 rest.1))

-- a test of surfaces that were found is one of their places
pub some_place-is : (s : State) (test : Found VideoSurface → Bool) (by : ℕ → Bool) → ((found : Found VideoSurface) → content_at s as_video found.place ≡ Some found.value → test found ≡ by found.place)
    → (found : List (Option (Found VideoSurface))) → AreHeld s found → list_any (λ f. option_map_or test f false) found ≡ some_place by (map place_of_found found)
unfolding AreHeld
some_place-is s test by same [] held = refl
some_place-is s test by same (None ∷ later) held = some_place-is s test by same later held
some_place-is s test by same (Some found ∷ later) held =
    ap (λ b. b || list_any (λ f. option_map_or test f false) later) (same found held.0) ∙ ap (λ b. by found.place || b) (some_place-is s test by same later held.1)
