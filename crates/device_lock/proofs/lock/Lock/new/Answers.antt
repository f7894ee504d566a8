use Rattle.std.proofs.Common.{rules, List, [], ◌∷◌, Option, Some, sym, subst, ◌≡◌}
use Rattle.atomic_table.specs.Table.{opening}
use Rattle.device_lock.specs.Rule.{Rule}
use Rattle.device_lock.specs.Views.{first_view}
use Rattle.device_lock.proofs.Keeps.{opens}
use Rattle.device_lock.proofs.lock.Lock.new.Goals as goal

pub new-requires : goal.new-requires
new-requires g c = let one : c.push.new.self.items ≡ Some c.args.value ∷ [] = search rules in
    subst (λ (xs : List (Option g.row.T.Denot)). Rule g.T.Kept.caller g.T.Kept.stands g.T.Kept.at_rest (opening (0 ∷ 0 ∷ 0 ∷ []) xs first_view)) (sym one) (opens g.T.Kept.caller g.T.Kept.stands g.T.Kept.at_rest c.args.value c.requires)
