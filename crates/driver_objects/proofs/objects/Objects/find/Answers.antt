use Rattle.std.proofs.Common.{ap, sym, ◌∙◌}
use Rattle.std.specs.Option.{option_copied}
use Rattle.driver_objects.proofs.Named.{named_none, named_some}
use Rattle.driver_objects.proofs.objects.Objects.find.Goals as goal

pub returns-in_err-place : goal.returns-in_err-place
returns-in_err-place c =
    let o = c.args.self.now in
    rw c.from_residual.ensures (named_none o.names o.kept.items o.made o.sound c.args.kind c.args.name (sym c.get.ensures ∙ ap option_copied c.in_err-place.was))

pub returns : goal.returns
returns c =
    let o = c.args.self.now in
    named_some o.names o.kept.items o.made o.sound c.args.kind c.args.name c.in_ok-place.field-0.now (sym c.get.ensures ∙ ap option_copied c.in_ok-place.was) c.at.result c.at.ensures
