use Rattle.std.proofs.Common.{◌∙◌}
use Rattle.picture_buffer.proofs.ReadBack.{read_back}
use Rattle.picture_buffer.proofs.buffer.PictureBuffer.samples.Goals as goal

pub returns-clause-samples : goal.returns-clause-samples
returns-clause-samples c = λ pictures s.
    let sized = (s.rests.each c.args.number c.requires.number).sized in
    c.in_ok-new.ensures.ok
    ∙ read_back (pictures c.args.number) c.in_ok-picture.picture c.put.new.picture c.args.self.now.size c.read.new.self.size c.as_slice.result.now c.read.new.self.bytes.items
    sized c.read.ensures.size c.in_ok-picture.ensures.size c.put.ensures.size c.put.ensures.bytes c.as_slice.ensures.value (c.read.ensures.bytes pictures s)
