use Rattle.std.proofs.Common.{◌≡◌, ◌++◌, flat_map}
use Rattle.std.proofs.lemmas.Result.{IfOk-weaker}
use Rattle.nal_units.specs.ByteStream.{start_code}
use Rattle.cb_maker.specs.Stream.{IsMade}
use Rattle.cb_maker.proofs.Added.{made}
use Rattle.cb_maker.proofs.stream.make.Goals as goal

pub returns : goal.returns
returns c =
    let units = c.put_slices.new.units.items in
    IfOk-weaker c.join.result (λ text. text.items ≡ flat_map (λ unit. start_code ++ unit.items) units) (λ text. IsMade c.args.number text.items)
    (λ text e. made c.args.number c.in_ok-information.information c.in_ok-sequence_set.sequence_set c.in_ok-picture_set.picture_set c.new-units.result.items c.push.new.self.items c.push-2.new.self.items c.push-3.new.self.items
    units text.items c.new-units.ensures.items c.in_ok-push.ensures.items c.in_ok-push-2.ensures.items c.in_ok-push-3.ensures.items c.in_ok-information.ensures.items c.in_ok-sequence_set.ensures.items
    c.in_ok-picture_set.ensures.items c.in_ok-put_slices.ensures e) c.join.ensures.text
