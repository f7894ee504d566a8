use Rattle.std.proofs.Common.{rules}
use Rattle.deblock.proofs.Sums.{second_is}
use Rattle.deblock.proofs.filters.second.Goals as goal

pub returns : goal.returns
returns c =
    second_is c.args.filter c.args.own c.args.other c.from.result c.from-2.result c.from-3.result c.from-4.result c.from-5.result c.clamp.result c.clamp-2.result c.requires (search rules) (search rules) (search rules) (search rules) c.from.ensures c.from-2.ensures c.from-3.ensures c.from-4.ensures c.from-5.ensures c.clamp.ensures.value c.clamp-2.ensures.value
