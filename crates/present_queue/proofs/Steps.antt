-- What is true of all queues stays true where one queue changes, and what the steps make of a queue.
use Rattle.std.proofs.Common.{◌≡◌, ◌≢◌, ℕ, ◌<◌, ◌≤◌, true, false, cond, leb, List, [], ◌∷◌, ◌++◌, length, set, Some, None, refl, sym, ap, ◌∙◌, inl, inr, arith}
use Rattle.std.proofs.lemmas.Bool.{cases_eq}
use Rattle.std.proofs.lemmas.Bool.Decides.{nat_tests}
use Rattle.std.proofs.lemmas.List.{get_or-set_other, get_or-set_same, length-set, map_push, set-get_or}
use Rattle.index_lists.specs.Lists.{Link, Lists}
use Rattle.present_queue.specs.Queue.{Queue, displayed, due, empty_queue, ticked, ticked_by}
use Rattle.present_queue.specs.Queues.{Surface, queue_at}
use Rattle.present_queue.specs.Kept.{IsSound, kept_at, nothing_kept, queue_with, queued_of}
use Rattle.present_queue.proofs.FirstLinks.{BeginsWith}
use Rattle.present_queue.specs.declared.queues.Kept.{Kept}

module _ (old new : Lists) (kept : List Kept) (objects objects' : List ℕ) (q : ℕ) (list : List Link) (k : Kept)
    (sound : IsSound old kept objects) (within : q < 64)
    (changed : new.queues ≡ set old.queues q list) (holders : length new.holders ≡ length old.holders)
    (nodes : new.nodes ≡ old.nodes) (each_object : length objects' ≡ length objects)
    (counted : length list ≡ k.length) (few : k.length ≤ 64) (shown : (holder : ℕ) → k.visible ≡ Some holder → holder < 5184) where
  within_lists : q < length old.queues
  within_lists = rw sound.queues within

  within_kept : q < length kept
  within_kept = rw sound.each_kept within

  here : kept_at (set kept q k) q ≡ k
  here = get_or-set_same kept q k nothing_kept within_kept

  there : (i : ℕ) → i ≢ q → kept_at (set kept q k) i ≡ kept_at kept i
  there i differs = get_or-set_other kept q i k nothing_kept differs

  pub IsSound-changed : IsSound new (set kept q k) objects'
  IsSound-changed = record {
    queues = ap length changed ∙ length-set old.queues q list ∙ sound.queues;
    each_kept = length-set kept q k ∙ sound.each_kept;
    holders = holders ∙ sound.holders;
    each_object = each_object ∙ sound.each_object;
    nodes = nodes ∙ sound.nodes;
    counted = λ i. elim (cases_eq i q) [
      | inl is ↦ rw (is, changed, here, get_or-set_same old.queues q list [] within_lists) counted
      | inr differs ↦ rw (changed, there i differs, get_or-set_other old.queues q i list [] differs) (sound.counted i)
    ];
    few = λ i. elim (cases_eq i q) [
      | inl is ↦ rw (is, here) few
      | inr differs ↦ rw (there i differs) (sound.few i)
    ];
    shown = λ i holder. elim (cases_eq i q) [
      | inl is ↦ rw (is, here) (shown holder)
      | inr differs ↦ rw (there i differs) (sound.shown i holder)
    ];
  }

-- a tick that takes nothing
pub unticked : (queues : List (Queue Surface)) (q time : ℕ) → due (queue_at queues q) time ≡ None → queues ≡ set queues q (ticked (queue_at queues q) time)
unticked queues q time none =
    sym (set-get_or queues q empty_queue) ∙ ap (λ taken. set queues q (ticked_by taken (queue_at queues q))) (sym none)

module _ (objects : List ℕ) (k : Kept) (time : ℕ) where
  pub nothing_due : (list : List Link) → list ≡ [] → due (queue_with objects list k) time ≡ None
  nothing_due list is = ap (λ links. due (queue_with objects links k) time) is

  pub not_due : (list : List Link) (node : ℕ) (begins : BeginsWith list node) → time < begins.link.value → due (queue_with objects list k) time ≡ None
  not_due list node begins late =
      let before : leb begins.link.value time ≡ false = grind (arith, nat_tests) in
      ap (λ links. due (queue_with objects links k) time) begins.is ∙ ap (λ b. cond b (Some (queued_of objects begins.link)) None) before

  pub is_due : (list : List Link) (node : ℕ) (begins : BeginsWith list node) → begins.link.value ≤ time → due (queue_with objects list k) time ≡ Some (queued_of objects begins.link)
  is_due list node begins come =
      let behind : leb begins.link.value time ≡ true = grind (arith, nat_tests) in
      ap (λ links. due (queue_with objects links k) time) begins.is ∙ ap (λ b. cond b (Some (queued_of objects begins.link)) None) behind

  pub ticked-is_due : (list : List Link) (node : ℕ) (begins : BeginsWith list node) (shown : Kept) → begins.link.value ≤ time → shown.visible ≡ Some begins.link.holder → shown.promise ≡ k.promise → queue_with objects begins.rest shown ≡ ticked (queue_with objects list k) time
  ticked-is_due list node begins shown come visible promise =
      rw (is_due list node begins come, begins.is, visible, promise) refl

-- A node more at the end of a queue's list is an entry more.
pub displayed-push : (objects : List ℕ) (list : List Link) (k after : Kept) (link : Link) → after.visible ≡ k.visible → after.promise ≡ k.promise → queue_with objects (list ++ link ∷ []) after ≡ displayed (queue_with objects list k) (queued_of objects link)
displayed-push objects list k after link visible promise = rw (map_push (queued_of objects) list link, visible, promise) refl
