-- The flips of shown pictures are one list at most.
use Rattle.std.proofs.Common.{◌≡◌, ℕ, ◌+◌, List, [], ◌∷◌, ◌++◌, refl, ap, sym, ◌∙◌}
use Rattle.clock_script.specs.declared.script.ScriptLine.{ScriptLine}
use Rattle.mixer.specs.declared.TheConstants.{B8G8R8A8, DEFAULT_MATRIX}
use Rattle.mixer.proofs.Pixels.{pixels_are_all}
use Rattle.vd_plane.specs.declared.picture.Picture.{Picture}
use Rattle.driver_model.specs.FlipLaws.{FlipsAreOne, ScriptsHaveOneText}
use Rattle.driver_model.specs.FlipText.{StreamFlip, text_of}
use Rattle.driver_model.specs.ScriptFlips.{AreAllFlips, IsFlipOf}
use Rattle.driver_model.specs.ShownPictures.{ShownPicture, shown_pictures}

flip_one : (stream : ℕ) (shown : ShownPicture Picture) (a b : StreamFlip) → IsFlipOf stream shown a → IsFlipOf stream shown b → a ≡ b
flip_one stream shown a b is_a is_b =
    let streams : a.stream ≡ b.stream = is_a.of_stream ∙ sym is_b.of_stream in
    let times : a.time ≡ b.time = is_a.at_time ∙ sym is_b.at_time in
    let across : a.width ≡ b.width = is_a.across ∙ sym is_b.across in
    let down : a.height ≡ b.height = is_a.down ∙ sym is_b.down in
    let bytes : a.bytes ≡ b.bytes = pixels_are_all shown.picture DEFAULT_MATRIX B8G8R8A8 a.bytes b.bytes is_a.pixels is_b.pixels in
    λ i. record { stream = streams i; time = times i; width = across i; height = down i; bytes = bytes i }

pub flips_are_one : FlipsAreOne
flips_are_one stream [] [] [] p q = refl
flips_are_one stream [] [] (b ∷ others) p q = absurd q
flips_are_one stream [] (a ∷ flips) other p q = absurd p
flips_are_one stream (one ∷ shown) [] other p q = absurd p
flips_are_one stream (one ∷ shown) (a ∷ flips) [] p q = absurd q
flips_are_one stream (one ∷ shown) (a ∷ flips) (b ∷ others) p q = λ i. flip_one stream one a b p.0 q.0 i ∷ flips_are_one stream shown flips others p.1 q.1 i

module _ (script : List ScriptLine) (period : ℕ) where
  all_flips_one : (stream : ℕ) (streams : List (List Picture)) (one other : List StreamFlip) → AreAllFlips script period stream streams one → AreAllFlips script period stream streams other → one ≡ other
  unfolding AreAllFlips
  all_flips_one stream [] one other p q = p ∙ sym q
  all_flips_one stream (pictures ∷ later) one other p q =
      let own = flips_are_one stream (shown_pictures script stream period pictures) p.0 q.0 p.2 q.2 in
      let rest = all_flips_one (stream + 1) later p.1 q.1 p.3 q.3 in
      p.4 ∙ ((λ i. own i ++ rest i) ∙ sym q.4)

pub scripts_have_one_text : ScriptsHaveOneText
scripts_have_one_text script period streams one other p q =
    p.tells ∙ (ap text_of (all_flips_one script period 0 streams p.flips q.flips p.shown q.shown) ∙ sym q.tells)
