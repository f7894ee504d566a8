-- Flips that are each stream's shown ones have the text of what the script shows.
use Rattle.std.proofs.Common.{◌≡◌, ℕ, zero, suc, ◌+◌, ◌<◌, ◌==◌, Bool, true, false, if◌then◌else◌, List, [], ◌∷◌, ◌++◌, slice_get, Option, Some, None, refl, ap, sym, ◌∙◌, subst, arith}
use Rattle.std.proofs.lemmas.Bool.{eqb-true, ne_eqb}
use Rattle.std.proofs.lemmas.List.{append-nil}
use Rattle.clock_script.specs.declared.script.ScriptLine.{ScriptLine}
use Rattle.vd_plane.specs.declared.picture.Picture.{Picture}
use Rattle.driver_model.specs.FlipLaws.{StreamsShowTheScript}
use Rattle.driver_model.specs.FlipText.{StreamFlip}
use Rattle.driver_model.specs.ScriptFlips.{AreAllFlips, AreFlipsOf, flips_of_stream, is_of_stream}
use Rattle.driver_model.specs.ShownPictures.{shown_pictures}
use Rattle.driver_model.proofs.FlipOrder.{streams_settle_the_text}

some_pictures : {A : Type 0} (pictures : List Picture) → (let o : Option (List Picture) = None in o ≡ Some pictures) → A
some_pictures pictures e = absurd (let k : (let o : Option (List Picture) = None in o ≡ Some pictures) = e in cc)

not_none : {A : Type 0} (pictures : List Picture) → (let o : Option (List Picture) = Some pictures in o ≡ None) → A
not_none pictures e = absurd (let k : (let o : Option (List Picture) = Some pictures in o ≡ None) = e in cc)

own_append : (stream : ℕ) (xs ys : List StreamFlip) → flips_of_stream stream (xs ++ ys) ≡ flips_of_stream stream xs ++ flips_of_stream stream ys
own_append stream [] ys = refl
own_append stream (a ∷ xs) ys = by_test (is_of_stream stream a) (own_append stream xs ys) where
  by_test : (test : Bool) → flips_of_stream stream (xs ++ ys) ≡ flips_of_stream stream xs ++ flips_of_stream stream ys
      → (if test then a ∷ flips_of_stream stream (xs ++ ys) else flips_of_stream stream (xs ++ ys)) ≡ (if test then a ∷ flips_of_stream stream xs else flips_of_stream stream xs) ++ flips_of_stream stream ys
  by_test true rest = ap (λ l. a ∷ l) rest
  by_test false rest = rest

-- of one stream's flips, those of another are none, and those of the same are all
other_own : (stream k : ℕ) (flips : List StreamFlip) → (k ≡ stream → ⊥) → flips_of_stream stream (flips_of_stream k flips) ≡ []
other_own stream k [] differs = refl
other_own stream k (a ∷ flips) differs = by_test (a.stream == k) refl (other_own stream k flips differs) where
  by_test : (test : Bool) → (a.stream == k) ≡ test → flips_of_stream stream (flips_of_stream k flips) ≡ [] → flips_of_stream stream (if test then a ∷ flips_of_stream k flips else flips_of_stream k flips) ≡ []
  by_test true e rest = ap (λ test. if test then a ∷ flips_of_stream stream (flips_of_stream k flips) else flips_of_stream stream (flips_of_stream k flips)) (ne_eqb a.stream stream (λ at. differs (sym (eqb-true a.stream k e) ∙ at))) ∙ rest
  by_test false e rest = rest

same_own : (stream : ℕ) (flips : List StreamFlip) → flips_of_stream stream (flips_of_stream stream flips) ≡ flips_of_stream stream flips
same_own stream [] = refl
same_own stream (a ∷ flips) = by_test (a.stream == stream) refl (same_own stream flips) where
  by_test : (test : Bool) → (a.stream == stream) ≡ test → flips_of_stream stream (flips_of_stream stream flips) ≡ flips_of_stream stream flips
      → flips_of_stream stream (if test then a ∷ flips_of_stream stream flips else flips_of_stream stream flips) ≡ (if test then a ∷ flips_of_stream stream flips else flips_of_stream stream flips)
  by_test true e rest = ap (λ test. if test then a ∷ flips_of_stream stream (flips_of_stream stream flips) else flips_of_stream stream (flips_of_stream stream flips)) e ∙ ap (λ l. a ∷ l) rest
  by_test false e rest = rest

module _ (flips : List StreamFlip) where
  -- each stream's flips, one stream behind the other
  in_turn : ℕ → List (List Picture) → List StreamFlip
  in_turn k [] = []
  in_turn k (pictures ∷ later) = flips_of_stream k flips ++ in_turn (k + 1) later

  before_all : (stream k : ℕ) (streams : List (List Picture)) → stream < k → flips_of_stream stream (in_turn k streams) ≡ []
  unfolding in_turn
  before_all stream k [] less = refl
  before_all stream k (pictures ∷ later) less =
      own_append stream (flips_of_stream k flips) (in_turn (k + 1) later)
      ∙ (λ i. other_own stream k flips (λ same. omega arith) i ++ before_all stream (k + 1) later (omega arith) i)

  of_one : (n k : ℕ) (streams : List (List Picture)) (pictures : List Picture) → slice_get streams n ≡ Some pictures → flips_of_stream (k + n) (in_turn k streams) ≡ flips_of_stream (k + n) flips
  unfolding in_turn
  of_one n k [] pictures e = some_pictures pictures e
  of_one zero k (first ∷ later) pictures e =
      let here : k + 0 ≡ k = omega arith in
      subst (λ s. flips_of_stream s (flips_of_stream k flips ++ in_turn (k + 1) later) ≡ flips_of_stream s flips) (sym here)
      (own_append k (flips_of_stream k flips) (in_turn (k + 1) later)
      ∙ ((λ i. same_own k flips i ++ before_all k (k + 1) later (omega arith) i) ∙ append-nil (flips_of_stream k flips)))
  of_one (suc n) k (first ∷ later) pictures e =
      let there : k + 1 + n ≡ k + suc n = omega arith in
      subst (λ s. flips_of_stream s (flips_of_stream k flips ++ in_turn (k + 1) later) ≡ flips_of_stream s flips) there
      (own_append (k + 1 + n) (flips_of_stream k flips) (in_turn (k + 1) later)
      ∙ ap (λ l. l ++ flips_of_stream (k + 1 + n) (in_turn (k + 1) later)) (other_own (k + 1 + n) k flips (λ same. omega arith))
      ∙ of_one n (k + 1) later pictures e)

  of_none : (n k : ℕ) (streams : List (List Picture)) → slice_get streams n ≡ None → flips_of_stream (k + n) (in_turn k streams) ≡ []
  unfolding in_turn
  of_none n k [] e = refl
  of_none zero k (first ∷ later) e = not_none first e
  of_none (suc n) k (first ∷ later) e =
      let there : k + 1 + n ≡ k + suc n = omega arith in
      subst (λ s. flips_of_stream s (flips_of_stream k flips ++ in_turn (k + 1) later) ≡ []) there
      (own_append (k + 1 + n) (flips_of_stream k flips) (in_turn (k + 1) later)
      ∙ ap (λ l. l ++ flips_of_stream (k + 1 + n) (in_turn (k + 1) later)) (other_own (k + 1 + n) k flips (λ same. omega arith))
      ∙ of_none n (k + 1) later e)

  module _ (script : List ScriptLine) (period : ℕ) where
    all_shown : (k : ℕ) (streams : List (List Picture)) → ((n : ℕ) (pictures : List Picture) → slice_get streams n ≡ Some pictures → AreFlipsOf (k + n) (shown_pictures script (k + n) period pictures) (flips_of_stream (k + n) flips))
        → AreAllFlips script period k streams (in_turn k streams)
    unfolding AreAllFlips in_turn
    all_shown k [] are = refl
    all_shown k (pictures ∷ later) are =
        let here : k + 0 ≡ k = omega arith in
        let next : (n : ℕ) (others : List Picture) → slice_get later n ≡ Some others → AreFlipsOf (k + 1 + n) (shown_pictures script (k + 1 + n) period others) (flips_of_stream (k + 1 + n) flips) = λ n others e.
        let there : k + suc n ≡ k + 1 + n = omega arith in
        subst (λ s. AreFlipsOf s (shown_pictures script s period others) (flips_of_stream s flips)) there (are (suc n) others e) in (
          flips_of_stream k flips,
          in_turn (k + 1) later,
          subst (λ s. AreFlipsOf s (shown_pictures script s period pictures) (flips_of_stream s flips)) here (are 0 pictures refl),
          all_shown (k + 1) later next,
          refl,
        )

from_zero : (n : ℕ) → 0 + n ≡ n
from_zero n = omega arith

pub streams_show_the_script : StreamsShowTheScript
streams_show_the_script script period streams flips are none = record {
  flips = in_turn flips 0 streams;
  shown = all_shown flips script period 0 streams (λ n pictures e. subst (λ s. AreFlipsOf s (shown_pictures script s period pictures) (flips_of_stream s flips)) (sym (from_zero n)) (are n pictures e));
  tells = streams_settle_the_text flips (in_turn flips 0 streams) (λ stream. by_stream stream (slice_get streams stream) refl);
}
  where
    by_stream : (stream : ℕ) (pictures : Option (List Picture)) → slice_get streams stream ≡ pictures → flips_of_stream stream flips ≡ flips_of_stream stream (in_turn flips 0 streams)
    by_stream stream None e = none stream e ∙ sym (subst (λ s. flips_of_stream s (in_turn flips 0 streams) ≡ []) (from_zero stream) (of_none flips stream 0 streams e))
    by_stream stream (Some pictures) e = sym (subst (λ s. flips_of_stream s (in_turn flips 0 streams) ≡ flips_of_stream s flips) (from_zero stream) (of_one flips stream 0 streams pictures e))
