use Rattle.std.proofs.Common.{◌∙◌, ap, length, refl, subst, sym}
use Rattle.mixer.specs.Mixed.{IsMixed}
use Rattle.plain_driver.specs.States.{mixer_of, output_of, video_of}
use Rattle.plain_driver.proofs.Loops.{items_are}
use Rattle.plain_driver.proofs.driver.Plain.mixed.Goals as goal

pub returns : goal.returns
returns c = record {
  mixer = mixer_of c.mixer_in-mixer.result;
  video = video_of c.video_in-video.result.now;
  output = output_of c.output_in-output.result.now;
  of_mixer = c.mixer_in-mixer.ensures;
  of_video = c.video_in-video.ensures;
  of_output = c.output_in-output.ensures;
  pixels = subst (IsMixed c.video_in-video.result.now.picture c.mixer_in-mixer.result.matrix c.output_in-output.result.now.format) (sym (items_are c.in_ok-bytes.bytes c.mix.new.out (c.mix.auto.out ∙ ap length c.deref_mut.ensures.value))) c.mix.ensures;
  rest = refl;
}
