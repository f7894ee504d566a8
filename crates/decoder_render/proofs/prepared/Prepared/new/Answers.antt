use Rattle.std.proofs.Common.{rules, ℕ, refl, subst}
use Rattle.recon.specs.Laws.{AreWhole}
use Rattle.decoder_render.proofs.MemoryLemmas.{whole_memory}
use Rattle.decoder_render.proofs.prepared.Prepared.new.Goals as goal

pub invariant_of-result : goal.invariant_of-result
invariant_of-result c = record {
  memory = record {
    size_is = c.requires.size;
    few = c.in_ok-units.ensures.few;
    of_slices = search rules;
    of_macroblocks = search rules;
    of_marks = search rules;
    of_tiles = search rules;
    whole = subst (λ (n : ℕ). AreWhole c.in_ok-vec-3.field-0.items c.in_ok-vec-4.field-0.items n) c.macroblocks-count.ensures
        (whole_memory _ _ _ _ _ (record { coded = refl; pictures = refl; vectors = refl }) (record { y = refl; cb = refl; cr = refl })
        (c.in_ok-vec-3.ensures.items_if_clones_equal (λ x y. y)) (c.in_ok-vec-4.ensures.items_if_clones_equal (λ x y. y)));
    of_picture = search rules;
  };
}
