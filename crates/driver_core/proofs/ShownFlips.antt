-- The flips of a tick are those that the state tells.
use Rattle.std.proofs.Common.{◌≡◌, ℕ, zero, suc, Bool, false, List, [], ◌∷◌, length, map, slice_get, Some, Ok, Err, Result, IfOk, unwrap_or, refl, sym, ap, ◌∙◌, subst, arith}
use Rattle.std.specs.List.{list_any}
use Rattle.std.specs.Option.{option_and_then, option_map_or}
use Rattle.std.proofs.lemmas.Option.{none-some}
use Rattle.present_queue.specs.Queue.{Queue}
use Rattle.present_queue.specs.Queues.{Surface}
use Rattle.cb_types.specs.SizeMbs.{luma_height, luma_width}
use Rattle.driver_model.specs.Clock as clock
use Rattle.driver_model.specs.Objects as model
use Rattle.driver_model.specs.States.{State, content_at, is_out}
use Rattle.driver_objects.specs.Flips.{AreFlips, IsFlip, told}
use Rattle.driver_objects.specs.Kept.{kept_of}
use Rattle.driver_objects.specs.Stored.{value_of}
use Rattle.driver_objects.specs.Ticks.{placed}
use Rattle.driver_objects.specs.declared.content.Content.TheVariants as content
use Rattle.driver_objects.specs.declared.content.OutputSurface.{OutputSurface}
use Rattle.driver_objects.specs.declared.flips.Flip.{Flip}
use Rattle.driver_objects.specs.declared.flips.Flips.{Flips}
use Rattle.driver_objects.specs.declared.ticks.Due.{Due}
use Rattle.driver_core.specs.Clocked.{ShowsAll}
use Rattle.driver_core.specs.Stands.{IsContent, Stands, is_owed}
use Rattle.driver_core.specs.declared.driver.Core.{Core}
use Rattle.driver_core.proofs.DueQueues.{dues_of, of_queue}
use Rattle.driver_core.proofs.Out.{not_out_not_owed}
use Rattle.driver_core.proofs.StillContent.{queue_of}

maps_same : {X Y Z : Type 0} (f : X → Z) (g : Y → Z) (xs : List X) (ys : List Y) → length xs ≡ length ys → ((i : ℕ) (x : X) (y : Y) → slice_get xs i ≡ Some x → slice_get ys i ≡ Some y → f x ≡ g y) → map f xs ≡ map g ys
maps_same f g [] [] same each = refl
maps_same f g [] (y ∷ ys) same each = absurd (omega (arith, same))
maps_same f g (x ∷ xs) [] same each = absurd (omega (arith, same))
maps_same f g (x ∷ xs) (y ∷ ys) same each =
    let first : f x ≡ g y = each 0 x y refl refl in
    let rest : map f xs ≡ map g ys = maps_same f g xs ys (omega (arith, same)) (λ i. each (suc i)) in
    λ k. first k ∷ rest k

none_passes : {X : Type 0} (test : X → Bool) (xs : List X) (i : ℕ) (x : X) → list_any test xs ≡ false → slice_get xs i ≡ Some x → test x ≡ false
none_passes test [] i x none at = absurd (none-some x at)
none_passes test (y ∷ xs) zero x none at = let fails : test y ≡ false = grind (arith, none) in ap (λ o. test (unwrap_or o y)) (sym at) ∙ fails
none_passes test (y ∷ xs) (suc i) x none at = none_passes test xs i x (grind (arith, none)) at

-- what is kept of an output surface says what it has
output_of : (queues : List (Queue Surface)) (what : model.Content) (kept : OutputSurface) → IsContent queues false what (content.Output kept)
    → (of : model.OutputSurface) × (what ≡ model.OutputObject of) × (kept.format ≡ of.format) × (kept.size ≡ of.size) × ((value_of kept.pixels).items ≡ of.bytes)
output_of queues (model.DeviceObject of) kept is = elim is [ ]
output_of queues (model.VideoObject of) kept is = elim is [ ]
output_of queues (model.OutputObject of) kept is = (of, refl, is.0, is.1, is.3 refl)
output_of queues (model.DecoderObject of) kept is = elim is [ ]
output_of queues (model.MixerObject of) kept is = elim is [ ]
output_of queues (model.QueueObject of) kept is = elim is [ ]

module _ (core : Core) (on time : ℕ) (d : State) (stands : Stands core d) where
  flip_told : (i : ℕ) (due : Due) (flip : Flip) → slice_get (dues_of core on time) i ≡ Some due → is_out d due.surface ≡ false → IsFlip (kept_of core.objects) time due flip → told flip ≡ clock.flip_of d time (placed due)
  flip_told i due flip at not_out is =
      let q = of_queue core on time i due at in
      let k = stands.kept q.index q.object q.there in
      let kept = queue_of core.queues (is_owed d q.object.place) k.0.content q.is.of (subst (IsContent core.queues (is_owed d q.object.place) k.0.content) q.is.has k.3.content) in
      let queue_there : slice_get d.objects due.queue ≡ Some k.0 = ap (λ (x : Due). slice_get d.objects x.queue) q.is.is ∙ k.1 in
      let name : due.name ≡ k.0.name = ap (λ (x : Due). x.name) q.is.is ∙ k.3.name in
      let window : due.window ≡ kept.0.window = ap (λ (x : Due). x.window) q.is.is ∙ kept.2 in
      let s = is.surface in
      let ks = stands.kept s.index s.object s.there in
      let owed : is_owed d s.object.place ≡ false = ap (is_owed d) s.at_place ∙ not_out_not_owed d due.surface not_out in
      let o = output_of core.queues ks.0.content s.surface (subst (λ b. IsContent core.queues b ks.0.content (content.Output s.surface)) owed (subst (IsContent core.queues (is_owed d s.object.place) ks.0.content) s.has ks.3.content)) in
      let surface_there : slice_get d.objects due.surface ≡ Some ks.0 = ap (slice_get d.objects) (sym s.at_place) ∙ ks.1 in
      let queue_at : content_at d model.as_queue due.queue ≡ Some kept.0 = ap (option_and_then (λ (x : model.Object). model.as_queue x.content)) queue_there ∙ ap model.as_queue kept.1 in
      let surface_at : content_at d model.as_output due.surface ≡ Some o.0 = ap (option_and_then (λ (x : model.Object). model.as_output x.content)) surface_there ∙ ap model.as_output o.1 in
      is.tells
      ∙ ((λ j. record {
        queue = name j;
        window = window j;
        surface = ks.3.name j;
        time = time;
        width = luma_width (o.3 j);
        height = luma_height (o.3 j);
        format = o.2 j;
        bytes = o.4 j;
      })
      ∙ sym ((λ j. clock.flip_with d time (placed due) (unwrap_or (surface_at j) clock.no_output))
      ∙ λ j. record {
        queue = option_map_or (λ (x : model.Object). x.name) (queue_there j) 0;
        window = option_map_or (λ (x : model.PresentationQueue). x.window) (queue_at j) 0;
        surface = option_map_or (λ (x : model.Object). x.name) (surface_there j) 0;
        time = time;
        width = luma_width o.0.size;
        height = luma_height o.0.size;
        format = o.0.format;
        bytes = o.0.bytes;
      }))

pub shows_all : (core : Core) (on time : ℕ) (dues : List Due) → dues ≡ dues_of core on time → (flips : Flips) → AreFlips (kept_of core.objects) time dues flips.list.items → ShowsAll core time dues flips
shows_all core on time dues are flips is d stands not_out =
    maps_same told (λ (due : Due). clock.flip_of d time (placed due)) flips.list.items dues is.count (λ i flip due at there.
    flip_told core on time d stands i due flip (ap (λ k. slice_get k i) (sym are) ∙ there) (none_passes (λ (due : Due). is_out d due.surface) dues i due not_out there) (is.each i due flip there at))

pub if_ok : {A E : Type 0} (P Q : A → Type 0) (result : Result A E) → ((a : A) → P a → Q a) → IfOk result P → IfOk result Q
if_ok P Q (Ok a) then is = then a is
if_ok P Q (Err e) then is = is
