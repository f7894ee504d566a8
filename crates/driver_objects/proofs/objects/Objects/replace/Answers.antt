use Rattle.std.proofs.Common.{refl, ap, ◌∙◌}
use Rattle.std.proofs.lemmas.Option.{slice_get_read}
use Rattle.driver_objects.specs.declared.object.Object.{Object}
use Rattle.driver_objects.proofs.Changed.{replaced}
use Rattle.driver_objects.proofs.Lists.{one_kept}
use Rattle.driver_objects.proofs.objects.Objects.replace.Goals as goal

pub invariant_of-self : goal.invariant_of-self
invariant_of-self c =
    let o = c.args.self.now in
    let was = c.index_mut.result.now in
    let stands = slice_get_read o.kept.items _ c.args.index was refl c.requires c.index_mut.ensures.value in
    rw c.replace.ensures.after (record { sound = replaced o.names o.kept.items o.made o.sound c.args.index was c.args.content stands })

pub returns-clause-was : goal.returns-clause-was
returns-clause-was c object at =
    let stands = slice_get_read c.args.self.now.kept.items _ c.args.index c.index_mut.result.now refl c.requires c.index_mut.ensures.value in
    c.replace.ensures.value ∙ ap (λ (o : Object). o.content) (one_kept c.args.self.now.kept.items c.args.index c.index_mut.result.now object stands at)

pub returns-clause-now : goal.returns-clause-now
returns-clause-now c object at =
    let stands = slice_get_read c.args.self.now.kept.items _ c.args.index c.index_mut.result.now refl c.requires c.index_mut.ensures.value in
    let same = one_kept c.args.self.now.kept.items c.args.index c.index_mut.result.now object stands at in
    rw (c.replace.ensures.after, same) refl
