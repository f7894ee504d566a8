use Rattle.std.proofs.Common.{arith}
use Rattle.std.proofs.lemmas.Map.Text.{text_keys}
use Rattle.vd_outside.proofs.mem_shelf.MemShelf.put.Goals as goal

-- an insertion changes what is found under its own key alone
pub returns-clause-others : goal.returns-clause-others
returns-clause-others c = λ other differs. grind (arith, text_keys)

-- what a name counts stays where its file comes in or is replaced
pub returns-clause-no_fault : goal.returns-clause-no_fault
returns-clause-no_fault c = λ other. grind (arith, text_keys, c.earlier_at-earlier.ensures)
