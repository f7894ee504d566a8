use Rattle.std.proofs.Common.{◌≡◌, length, sym, ap, ◌∙◌, arith}
use Rattle.std.proofs.lemmas.List.{length-set}
use Rattle.std.proofs.lemmas.Option.{slice_get_within}
use Rattle.driver_objects.specs.Kept.{kept_of}
use Rattle.driver_objects.specs.Listed.{with_content}
use Rattle.driver_objects.specs.declared.content.Content.TheVariants as content
use Rattle.driver_objects.proofs.PlaceChanges.{replaced_twice}
use Rattle.driver_objects.proofs.lends.lend_samples.Goals as goal

pub replace-requires-in-Video : goal.replace-requires-in-Video
replace-requires-in-Video c =
    let kept = kept_of c.args.objects.now in
    let has = c.requires.1 in
    let same = ap length (c.replace.ensures.now has.object has.there) ∙ length-set kept c.args.index (with_content has.object c.nothing.result) in
    let within = slice_get_within kept c.args.index has.object has.there in
    omega (arith, same, within)

pub returns-clause-shares : goal.returns-clause-shares
returns-clause-shares c =
    let kept = kept_of c.args.objects.now in
    let has = c.requires.1 in
    let was : has.object.content ≡ content.Video c.in-Video.of = sym (c.replace.ensures.was has.object has.there) ∙ c.in-Video.is in
    record {
      object = has.object;
      there = has.there;
      surface = c.in-Video.of;
      has = was;
      samples = c.share-samples.result.0;
      same = c.share-samples.ensures.same;
      now = replaced_twice kept (kept_of c.replace.new.self) (kept_of c.replace-in-Video.new.self) c.args.index has.object c.nothing.result _ has.there c.replace.ensures.now c.replace-in-Video.ensures.now;
    }
