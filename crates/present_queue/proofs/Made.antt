-- What is true of all queues is true of those that are made.
use Rattle.std.proofs.Common.{◌≡◌, ℕ, zero, suc, List, [], length, get_or, replicate, Some, None, refl, ap, ◌∙◌, arith}
use Rattle.std.proofs.lemmas.List.{length-replicate}
use Rattle.index_lists.specs.Lists.{Lists}
use Rattle.present_queue.specs.Kept.{IsSound, nothing_kept}
use Rattle.present_queue.specs.declared.queues.Kept.{Kept}

get_or-replicate_default : {X : Type 0} (x : X) (n i : ℕ) → get_or (replicate n x) i x ≡ x
get_or-replicate_default x zero i = refl
get_or-replicate_default x (suc n) zero = refl
get_or-replicate_default x (suc n) (suc i) = get_or-replicate_default x n i

module _ (links : Lists) (kept : List Kept) (objects : List ℕ) (queues holders : ℕ)
    (no_links : links.queues ≡ replicate queues []) (no_holders : links.holders ≡ replicate holders [])
    (no_kept : kept ≡ replicate queues nothing_kept) (no_objects : objects ≡ replicate holders 0) where
  kept_is : (i : ℕ) → get_or kept i nothing_kept ≡ nothing_kept
  kept_is i = ap (λ ks. get_or ks i nothing_kept) no_kept ∙ get_or-replicate_default nothing_kept queues i

  links_are : (i : ℕ) → get_or links.queues i [] ≡ []
  links_are i = ap (λ lists. get_or lists i []) no_links ∙ get_or-replicate_default [] queues i

  pub IsSound-new : queues ≡ 64 → holders ≡ 5184 → links.nodes ≡ 4096 → IsSound links kept objects
  IsSound-new all_queues all_holders nodes = record {
    queues = ap length no_links ∙ length-replicate queues [] ∙ all_queues;
    each_kept = ap length no_kept ∙ length-replicate queues nothing_kept ∙ all_queues;
    holders = ap length no_holders ∙ length-replicate holders [] ∙ all_holders;
    each_object = ap length no_objects ∙ length-replicate holders 0 ∙ all_holders;
    nodes = nodes;
    counted = λ i. rw (links_are i, kept_is i) refl;
    few = λ i. rw (kept_is i) (omega arith);
    shown = λ i holder is. let none : None ≡ Some holder = rw (kept_is i) at is in absurd (cc);
  }
