use Rattle.std.proofs.Common.{◌≡◌, ◌∙◌, ap, refl, Some, slice_get}
use Rattle.std.proofs.lemmas.Option.{slice_get-map, slice_get_read}
use Rattle.std.specs.Option.{option_map}
use Rattle.driver_model.specs.Objects.{Object}
use Rattle.plain_driver.specs.Presenting.{lined_up}
use Rattle.plain_driver.specs.States.{object_of, queued_of}
use Rattle.plain_driver.proofs.Changed.{state_changed}
use Rattle.plain_driver.proofs.Numbering.{IsNumbered-set}
use Rattle.plain_driver.proofs.driver.Plain.line_up.Goals as goal

pub line_up-requires : goal.line_up-requires
line_up-requires c =
    let items = c.args.self.now.objects.items in
    let old = c.index_mut-object.result.now in
    let stands : slice_get items c.args.place ≡ Some old = slice_get_read items _ c.args.place old refl c.requires.place c.index_mut-object.ensures.value in
    c.requires.room (object_of old) (slice_get-map object_of items c.args.place ∙ ap (option_map object_of) stands)

pub invariant_of-self : goal.invariant_of-self
invariant_of-self c =
    let items = c.args.self.now.objects.items in
    let old = c.index_mut-object.result.now in
    record {
      numbered = IsNumbered-set items c.args.place old (record old { content = c.line_up.new.content }) c.args.self.now.numbered (slice_get_read items _ c.args.place old refl c.requires.place c.index_mut-object.ensures.value) refl;
    }

pub returns : goal.returns
returns c =
    let old = c.index_mut-object.result.now in
    state_changed c.args.self.now c.args.place old (record old { content = c.line_up.new.content }) (λ (object : Object). record object { content = lined_up (queued_of c.args.entry) object.content }) c.requires.place c.index_mut-object.ensures.value
    (ap (λ x. let o : Object = record { name = old.name; device = old.device; is_live = old.is_live; content = x } in o) c.line_up.ensures)
