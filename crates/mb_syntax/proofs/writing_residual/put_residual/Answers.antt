use Rattle.std.proofs.Common.{Err, Ok, OnErr, Result, ◌≡◌, ◌++◌, ◌∷◌, ◌∙◌, [], List, Bool, ℤ, arith, ap, if◌then◌else◌, length, map, refl, sym}
use Rattle.std.proofs.lemmas.List.{length-append, length-map}
use Rattle.cavlc.specs.Parts.{IsLonger}
use Rattle.mb_syntax.proofs.ResidualLemmas.{all_written, further, its_counts, mb_parts, mb_whole, plane_of}
use Rattle.mb_syntax.specs.Blocks.{next_block_bits, residual_bits}
use Rattle.mb_syntax.specs.Counts.{block_of, chroma_blocks, dc_block}
use Rattle.mb_syntax.specs.Stretches.{AreChroma, AreDc, AreLuma, IsFirst, bits_behind, most_luma}
use Rattle.mb_syntax.specs.declared.counts.Counts.{Counts}
use Rattle.mb_syntax.proofs.writing_residual.put_residual.Goals as goal

on_err : {T E : Type 0} (r : Result T E) (P : Type 0) → P → OnErr r P
on_err (Ok v) P p = tt
on_err (Err e) P p = p

pub put_luma_dc-requires : goal.put_luma_dc-requires
put_luma_dc-requires c =
    let slice = c.requires.0 in
    let before = c.requires.1 in
    let is = c.requires.2 in
    let mb = c.args.mb.now in
    let kind = mb.kind in
    let around = c.args.around.now in
    let parts = mb_parts slice before around mb is in
    let dc = mb.luma_dc in
    let luma = map block_of mb.luma in
    let dcs = map dc_block mb.chroma_dc in
    let cb = chroma_blocks (plane_of mb 0) in
    let cr = chroma_blocks (plane_of mb 1) in
    let first = dc ∷ [] in
    let second = first ++ luma in
    let third = second ++ dcs in
    let fourth = third ++ cb in
    let pattern = c.pattern_of-pattern.result in
    let same = sym c.pattern_of-pattern.ensures in
    let intra = sym c.is_intra16-is_intra16.ensures in
    let first_ready : IsFirst slice before kind around c.is_intra16-is_intra16.result dc = record { beside = is.beside; same = intra; is = parts.first_next } in
    (slice, before, kind, first_ready)

pub put_luma-requires-clause-spelling : goal.put_luma-requires-clause-spelling
put_luma-requires-clause-spelling c =
    let slice = c.requires.0 in
    let before = c.requires.1 in
    let is = c.requires.2 in
    let mb = c.args.mb.now in
    let kind = mb.kind in
    let around = c.args.around.now in
    let parts = mb_parts slice before around mb is in
    let dc = mb.luma_dc in
    let luma = map block_of mb.luma in
    let dcs = map dc_block mb.chroma_dc in
    let cb = chroma_blocks (plane_of mb 0) in
    let cr = chroma_blocks (plane_of mb 1) in
    let first = dc ∷ [] in
    let second = first ++ luma in
    let third = second ++ dcs in
    let fourth = third ++ cb in
    let pattern = c.pattern_of-pattern.result in
    let same = sym c.pattern_of-pattern.ensures in
    let intra = sym c.is_intra16-is_intra16.ensures in
    let most : most_luma kind ≡ c.most_luma-most.result = ap (λ (b : Bool). if b then 15 else 16) intra ∙ sym c.most_luma-most.ensures.most in
    let luma_ready : AreLuma slice before kind first around pattern c.most_luma-most.result luma = record { stands = record { beside = is.beside; same_pattern = same; size = refl }; most_is = most; are = parts.luma_next } in
    (slice, before, kind, first, luma_ready)

pub put_chroma_dc-requires : goal.put_chroma_dc-requires
put_chroma_dc-requires c =
    let slice = c.requires.0 in
    let before = c.requires.1 in
    let is = c.requires.2 in
    let mb = c.args.mb.now in
    let kind = mb.kind in
    let around = c.args.around.now in
    let parts = mb_parts slice before around mb is in
    let dc = mb.luma_dc in
    let luma = map block_of mb.luma in
    let dcs = map dc_block mb.chroma_dc in
    let cb = chroma_blocks (plane_of mb 0) in
    let cr = chroma_blocks (plane_of mb 1) in
    let first = dc ∷ [] in
    let second = first ++ luma in
    let third = second ++ dcs in
    let fourth = third ++ cb in
    let pattern = c.pattern_of-pattern.result in
    let same = sym c.pattern_of-pattern.ensures in
    let intra = sym c.is_intra16-is_intra16.ensures in
    let long_2 : length second ≡ 17 = omega (arith, length-append first luma, parts.luma_next.size) in
    let long_3 : length third ≡ 19 = omega (arith, length-append second dcs, long_2, parts.dcs_next.size) in
    let long_4 : length fourth ≡ 23 = omega (arith, length-append third cb, long_3, parts.cb_next.size) in
    let dcs_ready : AreDc slice before kind second pattern dcs = record { same_pattern = same; place = long_2; are = parts.dcs_next } in
    (slice, before, kind, second, dcs_ready)

pub put_chroma-requires-clause-spelling : goal.put_chroma-requires-clause-spelling
put_chroma-requires-clause-spelling c =
    let slice = c.requires.0 in
    let before = c.requires.1 in
    let is = c.requires.2 in
    let mb = c.args.mb.now in
    let kind = mb.kind in
    let around = c.args.around.now in
    let parts = mb_parts slice before around mb is in
    let dc = mb.luma_dc in
    let luma = map block_of mb.luma in
    let dcs = map dc_block mb.chroma_dc in
    let cb = chroma_blocks (plane_of mb 0) in
    let cr = chroma_blocks (plane_of mb 1) in
    let first = dc ∷ [] in
    let second = first ++ luma in
    let third = second ++ dcs in
    let fourth = third ++ cb in
    let pattern = c.pattern_of-pattern.result in
    let same = sym c.pattern_of-pattern.ensures in
    let intra = sym c.is_intra16-is_intra16.ensures in
    let long_2 : length second ≡ 17 = omega (arith, length-append first luma, parts.luma_next.size) in
    let long_3 : length third ≡ 19 = omega (arith, length-append second dcs, long_2, parts.dcs_next.size) in
    let long_4 : length fourth ≡ 23 = omega (arith, length-append third cb, long_3, parts.cb_next.size) in
    let cb_ready : AreChroma slice before kind third around pattern 0 cb = record { stands = record { beside = is.beside; same_pattern = same; size = long_3 }; are = parts.cb_next } in
    (slice, before, kind, third, cb_ready)

pub put_chroma-requires-2-clause-spelling : goal.put_chroma-requires-2-clause-spelling
put_chroma-requires-2-clause-spelling c =
    let slice = c.requires.0 in
    let before = c.requires.1 in
    let is = c.requires.2 in
    let mb = c.args.mb.now in
    let kind = mb.kind in
    let around = c.args.around.now in
    let parts = mb_parts slice before around mb is in
    let dc = mb.luma_dc in
    let luma = map block_of mb.luma in
    let dcs = map dc_block mb.chroma_dc in
    let cb = chroma_blocks (plane_of mb 0) in
    let cr = chroma_blocks (plane_of mb 1) in
    let first = dc ∷ [] in
    let second = first ++ luma in
    let third = second ++ dcs in
    let fourth = third ++ cb in
    let pattern = c.pattern_of-pattern.result in
    let same = sym c.pattern_of-pattern.ensures in
    let intra = sym c.is_intra16-is_intra16.ensures in
    let long_2 : length second ≡ 17 = omega (arith, length-append first luma, parts.luma_next.size) in
    let long_3 : length third ≡ 19 = omega (arith, length-append second dcs, long_2, parts.dcs_next.size) in
    let long_4 : length fourth ≡ 23 = omega (arith, length-append third cb, long_3, parts.cb_next.size) in
    let cr_ready : AreChroma slice before kind fourth around pattern 1 cr = record { stands = record { beside = is.beside; same_pattern = same; size = long_4 }; are = parts.cr_next } in
    (slice, before, kind, fourth, cr_ready)

pub returns-in_err-luma-clause-err : goal.returns-in_err-luma-clause-err
returns-in_err-luma-clause-err c =
    let slice = c.requires.0 in
    let before = c.requires.1 in
    let is = c.requires.2 in
    let mb = c.args.mb.now in
    let kind = mb.kind in
    let around = c.args.around.now in
    let parts = mb_parts slice before around mb is in
    let dc = mb.luma_dc in
    let luma = map block_of mb.luma in
    let dcs = map dc_block mb.chroma_dc in
    let cb = chroma_blocks (plane_of mb 0) in
    let cr = chroma_blocks (plane_of mb 1) in
    let first = dc ∷ [] in
    let second = first ++ luma in
    let third = second ++ dcs in
    let fourth = third ++ cb in
    let pattern = c.pattern_of-pattern.result in
    let same = sym c.pattern_of-pattern.ensures in
    let intra = sym c.is_intra16-is_intra16.ensures in
    let most : most_luma kind ≡ c.most_luma-most.result = ap (λ (b : Bool). if b then 15 else 16) intra ∙ sym c.most_luma-most.ensures.most in
    let first_ready : IsFirst slice before kind around c.is_intra16-is_intra16.result dc = record { beside = is.beside; same = intra; is = parts.first_next } in
    let old = c.args.out.now in
    let longer_1 : IsLonger old c.put_luma_dc.new.out = (next_block_bits slice before kind [] dc, c.in_ok-put_luma_dc.ensures.ok slice before kind first_ready) in
    on_err c.from_residual-in_err-luma.result (IsLonger old c.put_luma.new.out) (further old c.put_luma_dc.new.out c.put_luma.new.out longer_1 c.in_err-luma.ensures.err)

pub returns-in_err-put_chroma_dc-clause-err : goal.returns-in_err-put_chroma_dc-clause-err
returns-in_err-put_chroma_dc-clause-err c =
    let slice = c.requires.0 in
    let before = c.requires.1 in
    let is = c.requires.2 in
    let mb = c.args.mb.now in
    let kind = mb.kind in
    let around = c.args.around.now in
    let parts = mb_parts slice before around mb is in
    let dc = mb.luma_dc in
    let luma = map block_of mb.luma in
    let dcs = map dc_block mb.chroma_dc in
    let cb = chroma_blocks (plane_of mb 0) in
    let cr = chroma_blocks (plane_of mb 1) in
    let first = dc ∷ [] in
    let second = first ++ luma in
    let third = second ++ dcs in
    let fourth = third ++ cb in
    let pattern = c.pattern_of-pattern.result in
    let same = sym c.pattern_of-pattern.ensures in
    let intra = sym c.is_intra16-is_intra16.ensures in
    let most : most_luma kind ≡ c.most_luma-most.result = ap (λ (b : Bool). if b then 15 else 16) intra ∙ sym c.most_luma-most.ensures.most in
    let long_2 : length second ≡ 17 = omega (arith, length-append first luma, parts.luma_next.size) in
    let long_3 : length third ≡ 19 = omega (arith, length-append second dcs, long_2, parts.dcs_next.size) in
    let long_4 : length fourth ≡ 23 = omega (arith, length-append third cb, long_3, parts.cb_next.size) in
    let first_ready : IsFirst slice before kind around c.is_intra16-is_intra16.result dc = record { beside = is.beside; same = intra; is = parts.first_next } in
    let luma_ready : AreLuma slice before kind first around pattern c.most_luma-most.result luma = record { stands = record { beside = is.beside; same_pattern = same; size = refl }; most_is = most; are = parts.luma_next } in
    let old = c.args.out.now in
    let longer_1 : IsLonger old c.put_luma_dc.new.out = (next_block_bits slice before kind [] dc, c.in_ok-put_luma_dc.ensures.ok slice before kind first_ready) in
    let longer_2 : IsLonger old c.put_luma.new.out = further old c.put_luma_dc.new.out c.put_luma.new.out longer_1 (bits_behind slice before kind first luma, c.in_ok-luma.ensures.ok slice before kind first luma_ready) in
    on_err c.from_residual-in_err-put_chroma_dc.result (IsLonger old c.put_chroma_dc.new.out) (further old c.put_luma.new.out c.put_chroma_dc.new.out longer_2 c.in_err-put_chroma_dc.ensures.err)

pub returns-in_err-cb-clause-err : goal.returns-in_err-cb-clause-err
returns-in_err-cb-clause-err c =
    let slice = c.requires.0 in
    let before = c.requires.1 in
    let is = c.requires.2 in
    let mb = c.args.mb.now in
    let kind = mb.kind in
    let around = c.args.around.now in
    let parts = mb_parts slice before around mb is in
    let dc = mb.luma_dc in
    let luma = map block_of mb.luma in
    let dcs = map dc_block mb.chroma_dc in
    let cb = chroma_blocks (plane_of mb 0) in
    let cr = chroma_blocks (plane_of mb 1) in
    let first = dc ∷ [] in
    let second = first ++ luma in
    let third = second ++ dcs in
    let fourth = third ++ cb in
    let pattern = c.pattern_of-pattern.result in
    let same = sym c.pattern_of-pattern.ensures in
    let intra = sym c.is_intra16-is_intra16.ensures in
    let most : most_luma kind ≡ c.most_luma-most.result = ap (λ (b : Bool). if b then 15 else 16) intra ∙ sym c.most_luma-most.ensures.most in
    let long_2 : length second ≡ 17 = omega (arith, length-append first luma, parts.luma_next.size) in
    let long_3 : length third ≡ 19 = omega (arith, length-append second dcs, long_2, parts.dcs_next.size) in
    let long_4 : length fourth ≡ 23 = omega (arith, length-append third cb, long_3, parts.cb_next.size) in
    let first_ready : IsFirst slice before kind around c.is_intra16-is_intra16.result dc = record { beside = is.beside; same = intra; is = parts.first_next } in
    let luma_ready : AreLuma slice before kind first around pattern c.most_luma-most.result luma = record { stands = record { beside = is.beside; same_pattern = same; size = refl }; most_is = most; are = parts.luma_next } in
    let dcs_ready : AreDc slice before kind second pattern dcs = record { same_pattern = same; place = long_2; are = parts.dcs_next } in
    let old = c.args.out.now in
    let longer_1 : IsLonger old c.put_luma_dc.new.out = (next_block_bits slice before kind [] dc, c.in_ok-put_luma_dc.ensures.ok slice before kind first_ready) in
    let longer_2 : IsLonger old c.put_luma.new.out = further old c.put_luma_dc.new.out c.put_luma.new.out longer_1 (bits_behind slice before kind first luma, c.in_ok-luma.ensures.ok slice before kind first luma_ready) in
    let longer_3 : IsLonger old c.put_chroma_dc.new.out = further old c.put_luma.new.out c.put_chroma_dc.new.out longer_2 (bits_behind slice before kind second dcs, c.in_ok-put_chroma_dc.ensures.ok slice before kind second dcs_ready) in
    on_err c.from_residual-in_err-cb.result (IsLonger old c.put_chroma.new.out) (further old c.put_chroma_dc.new.out c.put_chroma.new.out longer_3 c.in_err-cb.ensures.err)

pub returns-in_err-cr-clause-err : goal.returns-in_err-cr-clause-err
returns-in_err-cr-clause-err c =
    let slice = c.requires.0 in
    let before = c.requires.1 in
    let is = c.requires.2 in
    let mb = c.args.mb.now in
    let kind = mb.kind in
    let around = c.args.around.now in
    let parts = mb_parts slice before around mb is in
    let dc = mb.luma_dc in
    let luma = map block_of mb.luma in
    let dcs = map dc_block mb.chroma_dc in
    let cb = chroma_blocks (plane_of mb 0) in
    let cr = chroma_blocks (plane_of mb 1) in
    let first = dc ∷ [] in
    let second = first ++ luma in
    let third = second ++ dcs in
    let fourth = third ++ cb in
    let pattern = c.pattern_of-pattern.result in
    let same = sym c.pattern_of-pattern.ensures in
    let intra = sym c.is_intra16-is_intra16.ensures in
    let most : most_luma kind ≡ c.most_luma-most.result = ap (λ (b : Bool). if b then 15 else 16) intra ∙ sym c.most_luma-most.ensures.most in
    let long_2 : length second ≡ 17 = omega (arith, length-append first luma, parts.luma_next.size) in
    let long_3 : length third ≡ 19 = omega (arith, length-append second dcs, long_2, parts.dcs_next.size) in
    let long_4 : length fourth ≡ 23 = omega (arith, length-append third cb, long_3, parts.cb_next.size) in
    let first_ready : IsFirst slice before kind around c.is_intra16-is_intra16.result dc = record { beside = is.beside; same = intra; is = parts.first_next } in
    let luma_ready : AreLuma slice before kind first around pattern c.most_luma-most.result luma = record { stands = record { beside = is.beside; same_pattern = same; size = refl }; most_is = most; are = parts.luma_next } in
    let dcs_ready : AreDc slice before kind second pattern dcs = record { same_pattern = same; place = long_2; are = parts.dcs_next } in
    let cb_ready : AreChroma slice before kind third around pattern 0 cb = record { stands = record { beside = is.beside; same_pattern = same; size = long_3 }; are = parts.cb_next } in
    let old = c.args.out.now in
    let longer_1 : IsLonger old c.put_luma_dc.new.out = (next_block_bits slice before kind [] dc, c.in_ok-put_luma_dc.ensures.ok slice before kind first_ready) in
    let longer_2 : IsLonger old c.put_luma.new.out = further old c.put_luma_dc.new.out c.put_luma.new.out longer_1 (bits_behind slice before kind first luma, c.in_ok-luma.ensures.ok slice before kind first luma_ready) in
    let longer_3 : IsLonger old c.put_chroma_dc.new.out = further old c.put_luma.new.out c.put_chroma_dc.new.out longer_2 (bits_behind slice before kind second dcs, c.in_ok-put_chroma_dc.ensures.ok slice before kind second dcs_ready) in
    let longer_4 : IsLonger old c.put_chroma.new.out = further old c.put_chroma_dc.new.out c.put_chroma.new.out longer_3 (bits_behind slice before kind third cb, c.in_ok-cb.ensures.ok slice before kind third cb_ready) in
    on_err c.from_residual-in_err-cr.result (IsLonger old c.put_chroma-2.new.out) (further old c.put_chroma.new.out c.put_chroma-2.new.out longer_4 c.in_err-cr.ensures.err)

pub returns-clause-ok : goal.returns-clause-ok
returns-clause-ok c slice before is =
    let mb = c.args.mb.now in
    let kind = mb.kind in
    let around = c.args.around.now in
    let parts = mb_parts slice before around mb is in
    let dc = mb.luma_dc in
    let luma = map block_of mb.luma in
    let dcs = map dc_block mb.chroma_dc in
    let cb = chroma_blocks (plane_of mb 0) in
    let cr = chroma_blocks (plane_of mb 1) in
    let first = dc ∷ [] in
    let second = first ++ luma in
    let third = second ++ dcs in
    let fourth = third ++ cb in
    let pattern = c.pattern_of-pattern.result in
    let same = sym c.pattern_of-pattern.ensures in
    let intra = sym c.is_intra16-is_intra16.ensures in
    let most : most_luma kind ≡ c.most_luma-most.result = ap (λ (b : Bool). if b then 15 else 16) intra ∙ sym c.most_luma-most.ensures.most in
    let long_2 : length second ≡ 17 = omega (arith, length-append first luma, parts.luma_next.size) in
    let long_3 : length third ≡ 19 = omega (arith, length-append second dcs, long_2, parts.dcs_next.size) in
    let long_4 : length fourth ≡ 23 = omega (arith, length-append third cb, long_3, parts.cb_next.size) in
    let first_ready : IsFirst slice before kind around c.is_intra16-is_intra16.result dc = record { beside = is.beside; same = intra; is = parts.first_next } in
    let luma_ready : AreLuma slice before kind first around pattern c.most_luma-most.result luma = record { stands = record { beside = is.beside; same_pattern = same; size = refl }; most_is = most; are = parts.luma_next } in
    let dcs_ready : AreDc slice before kind second pattern dcs = record { same_pattern = same; place = long_2; are = parts.dcs_next } in
    let cb_ready : AreChroma slice before kind third around pattern 0 cb = record { stands = record { beside = is.beside; same_pattern = same; size = long_3 }; are = parts.cb_next } in
    let cr_ready : AreChroma slice before kind fourth around pattern 1 cr = record { stands = record { beside = is.beside; same_pattern = same; size = long_4 }; are = parts.cr_next } in
    all_written slice before kind dc luma dcs cb cr c.args.out.now c.put_luma_dc.new.out c.put_luma.new.out c.put_chroma_dc.new.out c.put_chroma.new.out c.put_chroma-2.new.out
    (c.in_ok-put_luma_dc.ensures.ok slice before kind first_ready) (c.in_ok-luma.ensures.ok slice before kind first luma_ready) (c.in_ok-put_chroma_dc.ensures.ok slice before kind second dcs_ready)
    (c.in_ok-cb.ensures.ok slice before kind third cb_ready) (c.in_ok-cr.ensures.ok slice before kind fourth cr_ready)
    ∙ ap (λ (x : List (List ℤ)). c.args.out.now ++ residual_bits slice before kind x) (sym (mb_whole mb is.sizes.chroma))

pub returns-clause-counts : goal.returns-clause-counts
returns-clause-counts c other =
    let mb = c.args.mb.now in
    let long_dcs : length (map dc_block mb.chroma_dc) ≡ 2 = length-map mb.chroma_dc dc_block ∙ c.requires.2.sizes.chroma_dc in
    let counts : Counts = record { luma = c.in_ok-luma.luma; cb = c.in_ok-cb.cb; cr = c.in_ok-cr.cr } in
    its_counts mb.luma_dc (map block_of mb.luma) (map dc_block mb.chroma_dc) (chroma_blocks (plane_of mb 0)) (chroma_blocks (plane_of mb 1))
    c.in_ok-luma.ensures.counts.size long_dcs c.in_ok-cb.ensures.counts.size c.in_ok-cr.ensures.counts.size counts mb other (mb_whole mb c.requires.2.sizes.chroma)
    c.in_ok-luma.ensures.counts.totals c.in_ok-cb.ensures.counts.totals c.in_ok-cr.ensures.counts.totals
