use Rattle.std.proofs.Common.{◌∙◌, inl, sym, arith}
use Rattle.plain_driver.proofs.Adding.{IsNumbered-added, makes_it}
use Rattle.plain_driver.proofs.driver.Plain.add.Goals as goal

pub invariant_of-self : goal.invariant_of-self
invariant_of-self c = record {
  numbered = IsNumbered-added c.args.self.now.objects.items c.kind.result c.len-place.result c.args.device c.args.content
      (omega (arith, c.len-place.ensures, c.args.self.now.objects.ok.0)) c.if-place-ge-MANY_NAMES.false c.kind.ensures c.args.self.now.numbered c.push.result c.push.new.self.items c.push.ensures.items;
}

pub returns : goal.returns
returns c = inl (makes_it c.args.self.now c.kind.result c.len-place.result c.args.device c.args.content c.push.result c.push.new.self.items
    (omega (arith, c.len-place.ensures, c.args.self.now.objects.ok.0)) c.if-place-ge-MANY_NAMES.false c.kind.ensures (sym c.is_err.ensures.value ∙ c.if-is_err.false) c.push.ensures.items)
