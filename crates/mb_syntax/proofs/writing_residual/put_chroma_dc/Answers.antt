use Rattle.std.proofs.Common.{◌≡◌, ◌++◌, ◌∙◌, OnOk, ap, append-nil, append_assoc, arith, get_or, map, subst, sym, [], List, ℤ, Bool, negsuc}
use Rattle.cavlc.specs.Blocks.{block_bits}
use Rattle.cb_types.specs.declared.macroblock.DcLevels.{DcLevels}
use Rattle.mb_syntax.proofs.BlockLemmas.{dc_bits_are, dc_first_spelling, dc_second_spelling, dc_unwritten, two_dcs}
use Rattle.mb_syntax.specs.Counts.{dc_block}
use Rattle.mb_syntax.specs.Stretches.{AreNext, bits_behind}
use Rattle.mb_syntax.proofs.writing_residual.put_chroma_dc.Goals as goal

pub returns-then-pattern-lt16-clause-ok : goal.returns-then-pattern-lt16-clause-ok
returns-then-pattern-lt16-clause-ok c slice before kind behind dcs =
    let missing : DcLevels = record { 0 = [] } in
    let levels = c.args.levels.now in
    let two = two_dcs levels missing c.told-levels in
    let v = dc_block (get_or levels 0 missing) in
    let w = dc_block (get_or levels 1 missing) in
    let are = subst (λ (x : List (List ℤ)). AreNext slice before kind behind 2 x) two dcs.are in
    sym (append-nil c.args.out.now)
    ∙ ap (λ (x : List Bool). c.args.out.now ++ x) (dc_unwritten slice before kind behind dcs.place v w are (omega (arith, dcs.same_pattern)) ∙ ap (λ (x : List (List ℤ)). bits_behind slice before kind behind x) (sym two))

pub put_dc_block-requires : goal.put_dc_block-requires
put_dc_block-requires c =
    let missing : DcLevels = record { 0 = [] } in
    let levels = c.args.levels.now in
    let slice = c.requires.0 in
    let before = c.requires.1 in
    let kind = c.requires.2 in
    let behind = c.requires.3 in
    let dcs = c.requires.4 in
    let are = subst (λ (x : List (List ℤ)). AreNext slice before kind behind 2 x) (two_dcs levels missing c.told-levels) dcs.are in
    dc_first_spelling slice before kind behind dcs.place (dc_block (get_or levels 0 missing)) (dc_block (get_or levels 1 missing)) are (omega (arith, dcs.same_pattern))

pub put_dc_block-requires-2 : goal.put_dc_block-requires-2
put_dc_block-requires-2 c =
    let missing : DcLevels = record { 0 = [] } in
    let levels = c.args.levels.now in
    let slice = c.requires.0 in
    let before = c.requires.1 in
    let kind = c.requires.2 in
    let behind = c.requires.3 in
    let dcs = c.requires.4 in
    let are = subst (λ (x : List (List ℤ)). AreNext slice before kind behind 2 x) (two_dcs levels missing c.told-levels) dcs.are in
    dc_second_spelling slice before kind behind dcs.place (dc_block (get_or levels 0 missing)) (dc_block (get_or levels 1 missing)) are (omega (arith, dcs.same_pattern))

pub returns-clause-ok : goal.returns-clause-ok
returns-clause-ok c slice before kind behind dcs =
    let missing : DcLevels = record { 0 = [] } in
    let levels = c.args.levels.now in
    let two = two_dcs levels missing c.told-levels in
    let v = dc_block (get_or levels 0 missing) in
    let w = dc_block (get_or levels 1 missing) in
    let are = subst (λ (x : List (List ℤ)). AreNext slice before kind behind 2 x) two dcs.are in
    let out = c.args.out.now in
    let both : c.put_dc_block.new.out ++ block_bits (negsuc 0) 4 w ≡ out ++ bits_behind slice before kind behind (map dc_block levels) =
    ap (λ (x : List Bool). x ++ block_bits (negsuc 0) 4 w) c.in_ok-put_dc_block.ensures.ok ∙ append_assoc out (block_bits (negsuc 0) 4 v) (block_bits (negsuc 0) 4 w)
    ∙ ap (λ (x : List Bool). out ++ x) (dc_bits_are slice before kind behind dcs.place v w are (omega (arith, dcs.same_pattern)) ∙ ap (λ (x : List (List ℤ)). bits_behind slice before kind behind x) (sym two)) in
    subst (λ (x : List Bool). OnOk c.put_dc_block-2.result (c.put_dc_block-2.new.out ≡ x)) both c.put_dc_block-2.ensures.ok
