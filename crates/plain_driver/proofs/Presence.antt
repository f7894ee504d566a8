-- Which surfaces the queues show or have in line.
use Rattle.std.proofs.Common.{◌≡◌, ℕ, ◌==◌, ◌||◌, List, [], ◌∷◌, refl, ap, ◌∙◌}
use Rattle.std.specs.List.{filter_map, list_any}
use Rattle.present_queue.specs.Queue.{Queue, holds, shows}
use Rattle.driver_model.specs.Presented.{queue_in}
use Rattle.plain_driver.specs.Presenting.{holds_in, shows_in, some_holds, some_shows}
use Rattle.plain_driver.specs.States.{objects_of}
use Rattle.plain_driver.specs.declared.objects.PlainContent.TheVariants as plain
use Rattle.plain_driver.specs.declared.objects.PlainContent.{PlainContent}
use Rattle.plain_driver.specs.declared.objects.PlainObject.{PlainObject}

module _ (surface : ℕ) where
  abbrev queues : List PlainObject → List (Queue ℕ)
  queues objects = filter_map queue_in (objects_of objects)

  abbrev with_content : PlainObject → PlainContent → PlainObject
  with_content object content = record object { content = content }

  shows_first : (object : PlainObject) (content : PlainContent) (later : List PlainObject) → (shows_in surface content || list_any (shows (λ place. place == surface)) (queues later)) ≡ list_any (shows (λ place. place == surface)) (queues (with_content object content ∷ later))
  shows_first object (plain.Device of) later = refl
  shows_first object (plain.Video of) later = refl
  shows_first object (plain.Output of) later = refl
  shows_first object (plain.Decoder of) later = refl
  shows_first object (plain.Mixer of) later = refl
  shows_first object (plain.Queue of) later = refl

  pub some_shows-is : (objects : List PlainObject) → some_shows surface objects ≡ list_any (shows (λ place. place == surface)) (queues objects)
  some_shows-is [] = refl
  some_shows-is (object ∷ later) = ap (λ b. shows_in surface object.content || b) (some_shows-is later) ∙ shows_first object object.content later

  holds_first : (object : PlainObject) (content : PlainContent) (later : List PlainObject) → (holds_in surface content || list_any (holds (λ place. place == surface)) (queues later)) ≡ list_any (holds (λ place. place == surface)) (queues (with_content object content ∷ later))
  holds_first object (plain.Device of) later = refl
  holds_first object (plain.Video of) later = refl
  holds_first object (plain.Output of) later = refl
  holds_first object (plain.Decoder of) later = refl
  holds_first object (plain.Mixer of) later = refl
  holds_first object (plain.Queue of) later = refl

  pub some_holds-is : (objects : List PlainObject) → some_holds surface objects ≡ list_any (holds (λ place. place == surface)) (queues objects)
  some_holds-is [] = refl
  some_holds-is (object ∷ later) = ap (λ b. holds_in surface object.content || b) (some_holds-is later) ∙ holds_first object object.content later
