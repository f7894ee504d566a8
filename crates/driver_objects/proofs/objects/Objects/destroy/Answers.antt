use Rattle.std.proofs.Common.{refl, ap, ◌≡◌, true, ◌∙◌}
use Rattle.std.proofs.lemmas.Option.{slice_get_read, slice_get_within}
use Rattle.handle_table.specs.Handles.{lookup}
use Rattle.driver_objects.specs.declared.object.Object.{Object}
use Rattle.driver_objects.proofs.Changed.{destroyed_sound}
use Rattle.driver_objects.proofs.Lists.{one_kept}
use Rattle.driver_objects.proofs.objects.Objects.destroy.Goals as goal

pub invariant_of-self : goal.invariant_of-self
invariant_of-self c =
    let o = c.args.self.now in
    let kept = o.kept.items in
    let was = c.index.result.now in
    let within = slice_get_within kept c.args.index c.requires.object c.requires.stands in
    let stands = slice_get_read kept _ c.args.index was refl within c.index.ensures in
    let writes = slice_get_read kept _ c.args.index c.index_mut.result.now refl within c.index_mut.ensures.value in
    let same : c.index_mut.result.now ≡ was = one_kept kept c.args.index c.index_mut.result.now was writes stands in
    let live : was.is_live ≡ true = ap (λ (x : Object). x.is_live) (one_kept kept c.args.index was c.requires.object stands c.requires.stands) ∙ c.requires.passes in
    rw same (record {
      sound = destroyed_sound o.names c.remove.new.self kept o.made o.sound c.args.index was stands live
          (rw (← c.kind.ensures) c.remove.ensures.updates)
          (λ value found. rw (← c.kind.ensures) (rw (c.remove.ensures.value ∙ (ap (λ k. lookup o.names.live k was.name) c.kind.ensures ∙ found)) at c.remove.ensures.removed))
          c.remove.ensures.given;
    })

pub returns-clause-now : goal.returns-clause-now
returns-clause-now c object at =
    let kept = c.args.self.now.kept.items in
    let stands = slice_get_read kept _ c.args.index c.index_mut.result.now refl (slice_get_within kept c.args.index object at) c.index_mut.ensures.value in
    let same = one_kept kept c.args.index c.index_mut.result.now object stands at in
    rw same refl
