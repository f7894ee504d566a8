use Rattle.picture_buffer.proofs.MakingAnswers.{decoder_wants, device_wants}
use Rattle.picture_buffer.proofs.MakingSteps.{decoder_made, device_made}
use Rattle.picture_buffer.proofs.making.make_decoder.Goals as goal

pub made-requires : goal.made-requires
made-requires c = device_wants c.args.core.now c.device_create.new.self c.requires.new c.device_create.result c.device_create.ensures

pub made-requires-2 : goal.made-requires-2
made-requires-2 c =
    let between = c.device_create.new.self in
    decoder_wants between c.decoder_create-answer.new.self c.in_ok-device.device c.args.size c.requires.limits c.luma_width-width.result c.luma_height-height.result c.luma_width-width.ensures c.luma_height-height.ensures
    c.decoder_create-answer.result (device_made c.args.core.now between c.requires.new c.in_ok-device.device c.device_create.result c.in_ok-device.ensures c.device_create.ensures)
    c.decoder_create-answer.ensures

pub returns : goal.returns
returns c =
    let between = c.device_create.new.self in
    decoder_made between c.decoder_create-answer.new.self c.args.size c.luma_width-width.result c.luma_height-height.result c.luma_width-width.ensures c.luma_height-height.ensures
    c.in_ok-device.device c.in_ok-decoder.decoder c.decoder_create-answer.result c.in_ok-decoder.ensures c.decoder_create-answer.ensures
    (device_made c.args.core.now between c.requires.new c.in_ok-device.device c.device_create.result c.in_ok-device.ensures c.device_create.ensures)
