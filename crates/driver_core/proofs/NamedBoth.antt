-- What the queues of a core name, the live queues of its state name, and the other way round.
use Rattle.std.proofs.Common.{◌≡◌, inl, inr, ℕ, if◌then◌else◌, slice_get, Some, None, option_map, refl, sym, ap, ◌∙◌, subst}
use Rattle.std.specs.List.{list_any}
use Rattle.present_queue.specs.Queue.{Names}
use Rattle.present_queue.specs.Queues.{Surface, queue_at}
use Rattle.present_queue.proofs.NameLemmas.{Names-empty}
use Rattle.driver_model.specs.Objects as model
use Rattle.driver_model.specs.Presented.{queue_in as queue_of_object}
use Rattle.driver_model.specs.States.{State}
use Rattle.driver_objects.specs.Kept.{kept_of}
use Rattle.driver_objects.specs.Kinds.{has_number, number_of}
use Rattle.driver_objects.specs.declared.object.Object.{Object}
use Rattle.driver_objects.proofs.Cases.{true_or_false}
use Rattle.driver_objects.proofs.OwnNumbers.{has_number_is}
use Rattle.driver_objects.proofs.Lists.{some_passes}
use Rattle.driver_core.specs.Stands.{Stands, by_place}
use Rattle.driver_core.specs.declared.driver.Core.{Core}
use Rattle.driver_core.proofs.NamesOfQueues.{InQueue, live_is, named_places, places_named}
use Rattle.driver_core.proofs.Presenting.{queue_from, queue_is}

module _ (core : Core) (d : State) (stands : Stands core d) where
  -- A kept queue of this place names it.
  pub record IsNamedBy (other place : ℕ) : Type 0 where
    pub index : ℕ
    pub object : Object
    pub there : slice_get (kept_of core.objects) index ≡ Some object
    pub at_other : object.place ≡ other
    pub number : ℕ
    pub has : number_of object.content ≡ Some number
    pub surface : Surface
    pub named : Names (queue_at core.queues number) surface
    pub at_place : surface.object ≡ place

  pub state_named : (place : ℕ) (q : InQueue d place) → IsNamedBy q.other place
  state_named place q =
      let f = queue_from core d stands q.other q.one q.value.queue q.at_other q.live (ap (option_map (λ (x : model.PresentationQueue). x.queue)) q.is) in
      let n = places_named (queue_at core.queues f.number) place (subst (λ x. Names x place) f.is q.names) in
      record { index = f.index; object = f.object; there = f.there; at_other = f.at_place; number = f.number; has = f.has; surface = n.0; named = n.1; at_place = n.2 }

  -- A kept queue of this number is a live one of the state that names the surface.
  pub record NamesIn (number : ℕ) (surface : Surface) : Type 0 where
    pub index : ℕ
    pub object : Object
    pub there : slice_get (kept_of core.objects) index ≡ Some object
    pub has : number_of object.content ≡ Some number
    pub in_state : InQueue d surface.object
    pub same : in_state.other ≡ object.place

  pub core_named : (number : ℕ) (surface : Surface) → Names (queue_at core.queues number) surface → NamesIn number surface
  core_named number surface named = elim (true_or_false (list_any (has_number number) (kept_of core.objects))) [
    | inl has ↦
        let s = some_passes (has_number number) (kept_of core.objects) has in
        let number_is = has_number_is number s.1 s.3 in
        let q = queue_is core d stands s.0 s.1 number s.2 number_is in
        let l = live_is q.one (by_place (queue_at core.queues number)) (ap (λ b. if b then queue_of_object q.one else None) q.live ∙ q.queue) in
        record {
          index = s.0;
          object = s.1;
          there = s.2;
          has = number_is;
          in_state = record { other = s.1.place; one = q.one; at_other = q.at_place; live = q.live; value = l.value; is = l.is; names = subst (λ x. Names x surface.object) (sym l.has) (named_places (queue_at core.queues number) surface named) };
          same = refl;
        }
    | inr none ↦ absurd (Names-empty surface (subst (λ q. Names q surface) (core.sound.unused number none) named))
  ]
