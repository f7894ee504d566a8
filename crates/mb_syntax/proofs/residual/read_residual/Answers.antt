use Rattle.std.proofs.Common.{◌≡◌, ◌++◌, ◌∷◌, ◌∙◌, [], List, Bool, length, rules, set, arith, ap, if◌then◌else◌, map, refl, subst, sym}
use Rattle.std.specs.List.{All, flat_map}
use Rattle.std.proofs.lemmas.List.{length-map}
use Rattle.cb_types.specs.declared.macroblock.ChromaLevels.{ChromaLevels}
use Rattle.cb_types.specs.declared.macroblock.Macroblock.{Macroblock}
use Rattle.mb_syntax.specs.declared.counts.Counts.{Counts}
use Rattle.mb_syntax.proofs.ResidualLemmas.{all_read, blocks_are, both_fours, first_part, its_counts, two_planes, next_part, no_first, no_part}
use Rattle.mb_syntax.specs.Counts.{block_of, chroma_blocks, dc_block}
use Rattle.mb_syntax.specs.Stretches.{Stands, most_luma}
use Rattle.mb_syntax.proofs.residual.read_residual.Goals as goal

pub returns-in_err-read_luma_dc-clause-reads : goal.returns-in_err-read_luma_dc-clause-reads
returns-in_err-read_luma_dc-clause-reads c = rw c.from_residual.ensures (λ slice before beside.
    let kind = c.args.mb.now.kind in
    let old = c.args.reader.now in
    let around = c.args.around.now in
    let pattern = c.pattern_of-pattern.result in
    let same = sym c.pattern_of-pattern.ensures in
    let intra = sym c.is_intra16-is_intra16.ensures in
    no_first slice before kind old (c.in_err-read_luma_dc.ensures slice before kind beside intra))

pub returns-in_err-luma-clause-reads : goal.returns-in_err-luma-clause-reads
returns-in_err-luma-clause-reads c = rw c.from_residual-in_err-luma.ensures (λ slice before beside.
    let kind = c.args.mb.now.kind in
    let old = c.args.reader.now in
    let around = c.args.around.now in
    let pattern = c.pattern_of-pattern.result in
    let same = sym c.pattern_of-pattern.ensures in
    let intra = sym c.is_intra16-is_intra16.ensures in
    let dc = c.read_luma_dc.new.block in
    let left_1 = c.read_luma_dc.new.reader in
    let first = dc ∷ [] in
    let read_1 = first_part slice before kind old dc left_1 (c.in_ok-read_luma_dc.ensures slice before kind beside intra) in
    let most : most_luma kind ≡ c.most_luma-most.result = ap (λ (b : Bool). if b then 15 else 16) intra ∙ sym c.most_luma-most.ensures.most in
    let stands_1 : Stands slice before kind around pattern first 1 = record { beside = beside; same_pattern = same; size = refl } in
    no_part slice before kind old 1 first left_1 read_1 16 (omega arith) (c.in_err-luma.ensures.reads slice before kind first stands_1 most))

pub returns-in_err-mb-clause-reads : goal.returns-in_err-mb-clause-reads
returns-in_err-mb-clause-reads c = rw c.from_residual-in_err-mb.ensures (λ slice before beside.
    let kind = c.args.mb.now.kind in
    let old = c.args.reader.now in
    let around = c.args.around.now in
    let pattern = c.pattern_of-pattern.result in
    let same = sym c.pattern_of-pattern.ensures in
    let intra = sym c.is_intra16-is_intra16.ensures in
    let dc = c.read_luma_dc.new.block in
    let left_1 = c.read_luma_dc.new.reader in
    let first = dc ∷ [] in
    let read_1 = first_part slice before kind old dc left_1 (c.in_ok-read_luma_dc.ensures slice before kind beside intra) in
    let most : most_luma kind ≡ c.most_luma-most.result = ap (λ (b : Bool). if b then 15 else 16) intra ∙ sym c.most_luma-most.ensures.most in
    let stands_1 : Stands slice before kind around pattern first 1 = record { beside = beside; same_pattern = same; size = refl } in
    let luma = map block_of c.read_luma.new.luma in
    let left_2 = c.read_luma.new.reader in
    let second = first ++ luma in
    let read_2 = next_part slice before kind old 1 first left_1 read_1 16 luma left_2 (c.in_ok-luma.ensures.reads slice before kind first stands_1 most) in
    no_part slice before kind old 17 second left_2 read_2 2 (omega arith) (c.in_err-mb.ensures.reads slice before kind second same read_2.are.size))

pub returns-in_err-cb-clause-reads : goal.returns-in_err-cb-clause-reads
returns-in_err-cb-clause-reads c = rw c.from_residual-in_err-cb.ensures (λ slice before beside.
    let kind = c.args.mb.now.kind in
    let old = c.args.reader.now in
    let around = c.args.around.now in
    let pattern = c.pattern_of-pattern.result in
    let same = sym c.pattern_of-pattern.ensures in
    let intra = sym c.is_intra16-is_intra16.ensures in
    let dc = c.read_luma_dc.new.block in
    let left_1 = c.read_luma_dc.new.reader in
    let first = dc ∷ [] in
    let read_1 = first_part slice before kind old dc left_1 (c.in_ok-read_luma_dc.ensures slice before kind beside intra) in
    let most : most_luma kind ≡ c.most_luma-most.result = ap (λ (b : Bool). if b then 15 else 16) intra ∙ sym c.most_luma-most.ensures.most in
    let stands_1 : Stands slice before kind around pattern first 1 = record { beside = beside; same_pattern = same; size = refl } in
    let luma = map block_of c.read_luma.new.luma in
    let left_2 = c.read_luma.new.reader in
    let second = first ++ luma in
    let read_2 = next_part slice before kind old 1 first left_1 read_1 16 luma left_2 (c.in_ok-luma.ensures.reads slice before kind first stands_1 most) in
    let dcs = map dc_block c.in_ok-mb.field-0 in
    let left_3 = c.read_chroma_dc.new.reader in
    let third = second ++ dcs in
    let read_3 = next_part slice before kind old 17 second left_2 read_2 2 dcs left_3 (c.in_ok-mb.ensures.reads slice before kind second same read_2.are.size) in
    let stands_3 : Stands slice before kind around pattern third 19 = record { beside = beside; same_pattern = same; size = read_3.are.size } in
    no_part slice before kind old 19 third left_3 read_3 4 (omega arith) (c.in_err-cb.ensures.reads slice before kind third stands_3))

pub returns-in_err-cr-clause-reads : goal.returns-in_err-cr-clause-reads
returns-in_err-cr-clause-reads c = rw c.from_residual-in_err-cr.ensures (λ slice before beside.
    let kind = c.args.mb.now.kind in
    let old = c.args.reader.now in
    let around = c.args.around.now in
    let pattern = c.pattern_of-pattern.result in
    let same = sym c.pattern_of-pattern.ensures in
    let intra = sym c.is_intra16-is_intra16.ensures in
    let dc = c.read_luma_dc.new.block in
    let left_1 = c.read_luma_dc.new.reader in
    let first = dc ∷ [] in
    let read_1 = first_part slice before kind old dc left_1 (c.in_ok-read_luma_dc.ensures slice before kind beside intra) in
    let most : most_luma kind ≡ c.most_luma-most.result = ap (λ (b : Bool). if b then 15 else 16) intra ∙ sym c.most_luma-most.ensures.most in
    let stands_1 : Stands slice before kind around pattern first 1 = record { beside = beside; same_pattern = same; size = refl } in
    let luma = map block_of c.read_luma.new.luma in
    let left_2 = c.read_luma.new.reader in
    let second = first ++ luma in
    let read_2 = next_part slice before kind old 1 first left_1 read_1 16 luma left_2 (c.in_ok-luma.ensures.reads slice before kind first stands_1 most) in
    let dcs = map dc_block c.in_ok-mb.field-0 in
    let left_3 = c.read_chroma_dc.new.reader in
    let third = second ++ dcs in
    let read_3 = next_part slice before kind old 17 second left_2 read_2 2 dcs left_3 (c.in_ok-mb.ensures.reads slice before kind second same read_2.are.size) in
    let stands_3 : Stands slice before kind around pattern third 19 = record { beside = beside; same_pattern = same; size = read_3.are.size } in
    let cb = map block_of c.read_chroma.new.ac in
    let left_4 = c.read_chroma.new.reader in
    let fourth = third ++ cb in
    let read_4 = next_part slice before kind old 19 third left_3 read_3 4 cb left_4 (c.in_ok-cb.ensures.reads slice before kind third stands_3) in
    let stands_4 : Stands slice before kind around pattern fourth 23 = record { beside = beside; same_pattern = same; size = read_4.are.size } in
    no_part slice before kind old 23 fourth left_4 read_4 4 (omega arith) (c.in_err-cr.ensures.reads slice before kind fourth stands_4))

pub returns-clause-reads : goal.returns-clause-reads
returns-clause-reads c slice before beside =
    let kind = c.args.mb.now.kind in
    let old = c.args.reader.now in
    let around = c.args.around.now in
    let pattern = c.pattern_of-pattern.result in
    let same = sym c.pattern_of-pattern.ensures in
    let intra = sym c.is_intra16-is_intra16.ensures in
    let dc = c.read_luma_dc.new.block in
    let left_1 = c.read_luma_dc.new.reader in
    let first = dc ∷ [] in
    let read_1 = first_part slice before kind old dc left_1 (c.in_ok-read_luma_dc.ensures slice before kind beside intra) in
    let most : most_luma kind ≡ c.most_luma-most.result = ap (λ (b : Bool). if b then 15 else 16) intra ∙ sym c.most_luma-most.ensures.most in
    let stands_1 : Stands slice before kind around pattern first 1 = record { beside = beside; same_pattern = same; size = refl } in
    let luma = map block_of c.read_luma.new.luma in
    let left_2 = c.read_luma.new.reader in
    let second = first ++ luma in
    let read_2 = next_part slice before kind old 1 first left_1 read_1 16 luma left_2 (c.in_ok-luma.ensures.reads slice before kind first stands_1 most) in
    let dcs = map dc_block c.in_ok-mb.field-0 in
    let left_3 = c.read_chroma_dc.new.reader in
    let third = second ++ dcs in
    let read_3 = next_part slice before kind old 17 second left_2 read_2 2 dcs left_3 (c.in_ok-mb.ensures.reads slice before kind second same read_2.are.size) in
    let stands_3 : Stands slice before kind around pattern third 19 = record { beside = beside; same_pattern = same; size = read_3.are.size } in
    let cb = map block_of c.read_chroma.new.ac in
    let left_4 = c.read_chroma.new.reader in
    let fourth = third ++ cb in
    let read_4 = next_part slice before kind old 19 third left_3 read_3 4 cb left_4 (c.in_ok-cb.ensures.reads slice before kind third stands_3) in
    let stands_4 : Stands slice before kind around pattern fourth 23 = record { beside = beside; same_pattern = same; size = read_4.are.size } in
    let cr = map block_of c.read_chroma-2.new.ac in
    let left_5 = c.read_chroma-2.new.reader in
    let read_5 = next_part slice before kind old 23 fourth left_4 read_4 4 cr left_5 (c.in_ok-cr.ensures.reads slice before kind fourth stands_4) in
    let planes = c.args.mb.now.chroma in
    let two : length planes ≡ 2 = search rules in
    let cb_plane : ChromaLevels = record { 0 = c.read_chroma.new.ac } in
    let cr_plane : ChromaLevels = record { 0 = c.read_chroma-2.new.ac } in
    all_read slice before kind old dc luma dcs cb cr left_5 (dc ∷ ((luma ++ dcs) ++ flat_map chroma_blocks (set (set planes 0 cb_plane) 1 cr_plane)))
    (blocks_are dc luma dcs planes cb_plane cr_plane two) read_5

pub returns-clause-counts : goal.returns-clause-counts
returns-clause-counts c other =
    let planes = c.args.mb.now.chroma in
    let two : length planes ≡ 2 = search rules in
    let dc = c.read_luma_dc.new.block in
    let luma = c.read_luma.new.luma in
    let dcs = c.in_ok-mb.field-0 in
    let cb_plane : ChromaLevels = record { 0 = c.read_chroma.new.ac } in
    let cr_plane : ChromaLevels = record { 0 = c.read_chroma-2.new.ac } in
    let mb : Macroblock = record {
      kind = c.args.mb.now.kind;
      qp_delta = c.args.mb.now.qp_delta;
      luma_dc = dc;
      luma = luma;
      chroma_dc = dcs;
      chroma = set (set planes 0 cb_plane) 1 cr_plane;
    } in
    let counts : Counts = record { luma = c.in_ok-luma.luma; cb = c.in_ok-cb.cb; cr = c.in_ok-cr.cr } in
    its_counts dc (map block_of luma) (map dc_block dcs) (chroma_blocks cb_plane) (chroma_blocks cr_plane) c.in_ok-luma.ensures.counts.size (length-map dcs dc_block ∙ search rules)
    c.in_ok-cb.ensures.counts.size c.in_ok-cr.ensures.counts.size
    counts mb other (blocks_are dc (map block_of luma) (map dc_block dcs) planes cb_plane cr_plane two)
    c.in_ok-luma.ensures.counts.totals c.in_ok-cb.ensures.counts.totals c.in_ok-cr.ensures.counts.totals

pub returns-clause-sizes : goal.returns-clause-sizes
returns-clause-sizes c =
    let planes = c.args.mb.now.chroma in
    let two : length planes ≡ 2 = search rules in
    let cb_plane : ChromaLevels = record { 0 = c.read_chroma.new.ac } in
    let cr_plane : ChromaLevels = record { 0 = c.read_chroma-2.new.ac } in
    record {
      luma = sym (length-map c.read_luma.new.luma block_of) ∙ c.in_ok-luma.ensures.counts.size;
      chroma_dc = search rules;
      chroma_dc_levels = c.in_ok-mb.ensures.sizes;
      chroma = ap length (two_planes planes cb_plane cr_plane two);
      chroma_blocks = subst (λ (x : List ChromaLevels). All (λ levels. length levels.0 ≡ 4) x) (sym (two_planes planes cb_plane cr_plane two))
          (both_fours cb_plane cr_plane (sym (length-map c.read_chroma.new.ac block_of) ∙ c.in_ok-cb.ensures.counts.size) (sym (length-map c.read_chroma-2.new.ac block_of) ∙ c.in_ok-cr.ensures.counts.size));
    }
