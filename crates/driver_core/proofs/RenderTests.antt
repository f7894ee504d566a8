-- What is asked of the surfaces that a render finds.
use Rattle.std.proofs.Common.{◌≡◌, ℕ, ◌==◌, Bool, false, not, ◌||◌, List, [], ◌∷◌, slice_get, Option, Some, None, refl, sym, ap, ◌∙◌, subst, arith}
use Rattle.std.specs.List.{list_any}
use Rattle.std.specs.Option.{option_map_or}
use Rattle.std.proofs.lemmas.Bool.Decides.{nat_tests}
use Rattle.cb_types.specs.declared.size.SizeMbs.{SizeMbs}
use Rattle.driver_model.specs.Objects as model
use Rattle.driver_model.specs.Renders as renders
use Rattle.driver_model.specs.Renders.{is_of_other_size, is_own_reference, is_render_held}
use Rattle.driver_model.specs.Sizes.{is_same_size}
use Rattle.driver_model.specs.States.{Found, State, is_out}
use Rattle.driver_objects.specs.Kept.{kept_of, made_of}
use Rattle.driver_objects.specs.References.{is_other_size_at, is_other_size_in, is_written_at, some_other_size, some_slot, some_written}
use Rattle.driver_objects.specs.declared.object.Object.{Object}
use Rattle.driver_objects.specs.declared.jobs.OutJob.{OutJob}
use Rattle.driver_objects.specs.declared.references.Rendering.{Rendering}
use Rattle.driver_objects.proofs.Lists.{one_kept}
use Rattle.driver_objects.proofs.Searched.{place_is_one}
use Rattle.driver_core.specs.Rendered.{AreSeen, IsRendering, IsSeen}
use Rattle.driver_core.specs.Stands.{Stands}
use Rattle.driver_core.specs.declared.driver.Core.{Core}
use Rattle.driver_core.proofs.Out.{out_by_jobs}

module _ (core : Core) (d : State) where
  -- a test of surfaces that were found is one of the kept objects
  module _ (test : Found model.VideoSurface → Bool) (by : ℕ → Bool) (same : (index : ℕ) (found : Found model.VideoSurface) → IsSeen core d index found → test found ≡ by index) where
    pub some_seen : (slots : List (Option ℕ)) (found : List (Option (Found model.VideoSurface))) → AreSeen core d slots found → list_any (λ f. option_map_or test f false) found ≡ some_slot by slots
    unfolding AreSeen
    some_seen [] [] seen = refl
    some_seen [] (found ∷ later) seen = absurd seen
    some_seen (slot ∷ slots) [] seen = absurd seen
    some_seen (None ∷ slots) (None ∷ later) seen = some_seen slots later seen.1
    some_seen (None ∷ slots) (Some found ∷ later) seen = absurd seen.0
    some_seen (Some index ∷ slots) (None ∷ later) seen = absurd seen.0
    some_seen (Some index ∷ slots) (Some found ∷ later) seen =
        ap (λ b. b || list_any (λ f. option_map_or test f false) later) (same index found seen.0) ∙ ap (λ b. by index || b) (some_seen slots later seen.1)

  -- two kept objects stand at one place of the list where they have one place among all objects
  one_place : (i j : ℕ) (a b : Found model.VideoSurface) → IsSeen core d i a → IsSeen core d j b → (a.place == b.place) ≡ (i == j)
  one_place i j a b here there =
      let kept = kept_of core.objects in
      let apart : a.place ≡ b.place → j ≡ i = λ e. place_is_one core.objects.names kept (made_of core.objects) core.objects.sound i j here.object there.object here.there there.there (here.at_place ∙ (e ∙ sym there.at_place)) in
      let together : i ≡ j → a.place ≡ b.place = λ e.
      sym here.at_place ∙ (ap (λ (o : Object). o.place) (one_kept kept j here.object there.object (subst (λ k. slice_get kept k ≡ Some here.object) e here.there) there.there) ∙ there.at_place) in
      grind (arith, nat_tests, apart, together)

  of_other_size : (size : SizeMbs) (index : ℕ) (found : Found model.VideoSurface) → IsSeen core d index found → not (is_same_size found.value.size size) ≡ is_other_size_at (kept_of core.objects) size index
  of_other_size size index found seen =
      sym (ap (λ o. option_map_or (λ (x : Object). is_other_size_in size x.content) o false) seen.there
      ∙ (ap (is_other_size_in size) seen.has ∙ ap (λ own. not (is_same_size own size)) seen.is.0))

  written : Stands core d → (index : ℕ) (found : Found model.VideoSurface) → IsSeen core d index found → is_out d found.place ≡ is_written_at (kept_of core.objects) core.jobs.items index
  written stands index found seen =
      sym (ap (λ o. option_map_or (λ (x : Object). list_any (λ (job : OutJob). job.target == x.place) core.jobs.items) o false) seen.there
      ∙ (out_by_jobs core d stands seen.object.place ∙ ap (is_out d) seen.at_place))

  module _ (on : Rendering) (found : renders.Rendering) (is : IsRendering core d on found) where
    pub own_is : is_own_reference found ≡ some_slot (λ index. index == on.target) on.references
    own_is = some_seen (λ f. f.place == found.target.place) (λ index. index == on.target) (λ index f seen. one_place index on.target f found.target seen is.target) on.references found.references is.references

    pub other_is : is_of_other_size found ≡ some_other_size (kept_of core.objects) on.decoder.size on
    other_is =
        let size : found.decoder.value.size ≡ on.decoder.size = ap (λ (x : model.Decoder). x.size) is.decoder in
        ap (λ s. not (is_same_size found.target.value.size s) || list_any (λ f. option_map_or (λ (x : Found model.VideoSurface). not (is_same_size x.value.size s)) f false) found.references) size
        ∙ (ap (λ b. not (is_same_size found.target.value.size on.decoder.size) || b)
        (some_seen (λ x. not (is_same_size x.value.size on.decoder.size)) (is_other_size_at (kept_of core.objects) on.decoder.size) (of_other_size on.decoder.size) on.references found.references is.references)
        ∙ ap (λ b. b || some_slot (is_other_size_at (kept_of core.objects) on.decoder.size) on.references) (of_other_size on.decoder.size on.target found.target is.target))

    pub held_is : Stands core d → is_render_held d found ≡ some_written (kept_of core.objects) core.jobs.items on
    held_is stands =
        let by = is_written_at (kept_of core.objects) core.jobs.items in
        ap (λ b. is_out d found.target.place || b) (some_seen (λ x. is_out d x.place) by (written stands) on.references found.references is.references)
        ∙ ap (λ b. b || some_slot by on.references) (written stands on.target found.target is.target)
