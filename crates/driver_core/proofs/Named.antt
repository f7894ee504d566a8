-- What a name finds, in what is kept and in the state for which it stands.
use Rattle.std.proofs.Common.{◌≡◌, ℕ, ◌||◌, Bool, true, List, slice_get, Option, Some, None, unwrap_or, refl, sym, ap, ◌∙◌, subst, arith}
use Rattle.std.proofs.lemmas.Bool.Decides.{nat_tests}
use Rattle.handle_table.specs.Name.{kind_of}
use Rattle.present_queue.specs.Queue.{Queue}
use Rattle.present_queue.specs.Queues.{Surface}
use Rattle.driver_model.specs.Kept.{is_in_queue}
use Rattle.driver_model.specs.Objects as model
use Rattle.driver_model.specs.States.{State, named}
use Rattle.driver_model.proofs.Named.{found_of, named-None, named-is}
use Rattle.driver_objects.specs.Kept.{kept_of}
use Rattle.driver_objects.specs.Kinds.{kind_number}
use Rattle.driver_objects.specs.Listed.{HasObjectAt, IsOnly, called}
use Rattle.driver_objects.specs.declared.content.Content.{Content}
use Rattle.driver_objects.specs.declared.content.Content.TheVariants as content
use Rattle.driver_objects.specs.declared.object.Object.{Object}
use Rattle.driver_objects.proofs.Lists.{one_kept}
use Rattle.driver_core.specs.Stands.{IsContent, IsObject, Stands, is_owed}
use Rattle.driver_core.specs.declared.driver.Core.{Core}

-- what stands at one place of a list is one object
pub one_at : (objects : List model.Object) (place : ℕ) (a b : model.Object) → slice_get objects place ≡ Some a → slice_get objects place ≡ Some b → a ≡ b
one_at objects place a b here there = ap (λ o. unwrap_or o a) (sym here ∙ there)

-- what is kept of an object is of its kind
pub kinds_same : (queues : List (Queue Surface)) (owed : Bool) (content : model.Content) (kept : Content) → IsContent queues owed content kept → model.kind_number content ≡ kind_number kept
kinds_same queues owed (model.DeviceObject of) (content.Device kept) is = refl
kinds_same queues owed (model.DeviceObject of) (content.Video kept) is = elim is [ ]
kinds_same queues owed (model.DeviceObject of) (content.Output kept) is = elim is [ ]
kinds_same queues owed (model.DeviceObject of) (content.Decoder kept) is = elim is [ ]
kinds_same queues owed (model.DeviceObject of) (content.Mixer kept) is = elim is [ ]
kinds_same queues owed (model.DeviceObject of) (content.Queue kept) is = elim is [ ]
kinds_same queues owed (model.VideoObject of) (content.Device kept) is = elim is [ ]
kinds_same queues owed (model.VideoObject of) (content.Video kept) is = refl
kinds_same queues owed (model.VideoObject of) (content.Output kept) is = elim is [ ]
kinds_same queues owed (model.VideoObject of) (content.Decoder kept) is = elim is [ ]
kinds_same queues owed (model.VideoObject of) (content.Mixer kept) is = elim is [ ]
kinds_same queues owed (model.VideoObject of) (content.Queue kept) is = elim is [ ]
kinds_same queues owed (model.OutputObject of) (content.Device kept) is = elim is [ ]
kinds_same queues owed (model.OutputObject of) (content.Video kept) is = elim is [ ]
kinds_same queues owed (model.OutputObject of) (content.Output kept) is = refl
kinds_same queues owed (model.OutputObject of) (content.Decoder kept) is = elim is [ ]
kinds_same queues owed (model.OutputObject of) (content.Mixer kept) is = elim is [ ]
kinds_same queues owed (model.OutputObject of) (content.Queue kept) is = elim is [ ]
kinds_same queues owed (model.DecoderObject of) (content.Device kept) is = elim is [ ]
kinds_same queues owed (model.DecoderObject of) (content.Video kept) is = elim is [ ]
kinds_same queues owed (model.DecoderObject of) (content.Output kept) is = elim is [ ]
kinds_same queues owed (model.DecoderObject of) (content.Decoder kept) is = refl
kinds_same queues owed (model.DecoderObject of) (content.Mixer kept) is = elim is [ ]
kinds_same queues owed (model.DecoderObject of) (content.Queue kept) is = elim is [ ]
kinds_same queues owed (model.MixerObject of) (content.Device kept) is = elim is [ ]
kinds_same queues owed (model.MixerObject of) (content.Video kept) is = elim is [ ]
kinds_same queues owed (model.MixerObject of) (content.Output kept) is = elim is [ ]
kinds_same queues owed (model.MixerObject of) (content.Decoder kept) is = elim is [ ]
kinds_same queues owed (model.MixerObject of) (content.Mixer kept) is = refl
kinds_same queues owed (model.MixerObject of) (content.Queue kept) is = elim is [ ]
kinds_same queues owed (model.QueueObject of) (content.Device kept) is = elim is [ ]
kinds_same queues owed (model.QueueObject of) (content.Video kept) is = elim is [ ]
kinds_same queues owed (model.QueueObject of) (content.Output kept) is = elim is [ ]
kinds_same queues owed (model.QueueObject of) (content.Decoder kept) is = elim is [ ]
kinds_same queues owed (model.QueueObject of) (content.Mixer kept) is = elim is [ ]
kinds_same queues owed (model.QueueObject of) (content.Queue kept) is = refl

module _ {T : Type 0} (as_kind : model.Content → Option T) (kind : ℕ)
    -- it gives what an object of this kind has, and of other kinds nothing
    (of_kind : (content : model.Content) → model.kind_number content ≡ kind → (value : T) × (as_kind content ≡ Some value))
    (of_other : (content : model.Content) → (model.kind_number content ≡ kind → ⊥) → as_kind content ≡ None)
    (core : Core) (d : State) (stands : Stands core d) (name : ℕ) where
  -- what is found in the state
  pub record FindsAs (object : Object) : Type 0 where
    pub one : model.Object
    pub at_place : slice_get d.objects object.place ≡ Some one
    pub is_object : IsObject core d one object
    pub value : T
    pub has : as_kind one.content ≡ Some value
    pub found : named d as_kind name ≡ Some (found_of object.place object.device value)

  -- a live object of the state with this name, and what is kept of it
  record Kept (other : ℕ) (one : model.Object) : Type 0 where
    index : ℕ
    object : Object
    there : slice_get (kept_of core.objects) index ≡ Some object
    at_place : object.place ≡ other
    is_object : IsObject core d one object
    kind_is : kind_of object.name ≡ model.kind_number one.content

  kept_at : (other : ℕ) (one : model.Object) → slice_get d.objects other ≡ Some one → one.is_live ≡ true → Kept other one
  kept_at other one at live =
      let n = stands.needed other one at (ap (λ b. b || is_in_queue d other) live) in
      let k = stands.kept n.0 n.1 n.2 in
      let same : k.0 ≡ one = one_at d.objects other k.0 one (subst (λ p. slice_get d.objects p ≡ Some k.0) n.3 k.1) at in
      record {
        index = n.0;
        object = n.1;
        there = n.2;
        at_place = n.3;
        is_object = subst (λ o. IsObject core d o n.1) same k.3;
        kind_is = core.sound.kinds n.0 n.1 n.2 ∙ (sym (kinds_same core.queues (is_owed d n.1.place) k.0.content n.1.content k.3.content) ∙ ap (λ (o : model.Object). model.kind_number o.content) same);
      }

  -- one that is live, of the kind and of the name, is what the search finds
  has_called : (other : ℕ) (one : model.Object) (k : Kept other one) → one.is_live ≡ true → one.name ≡ name → model.kind_number one.content ≡ kind → HasObjectAt (called kind name) (kept_of core.objects) k.index
  has_called other one k live named_so of = record { object = k.object; stands = k.there; passes = grind (arith, nat_tests, k.is_object.live, k.is_object.name, k.kind_is, live, named_so, of) }

  pub found_some : (index : ℕ) (object : Object) → IsOnly (called kind name) (kept_of core.objects) (Some index) → slice_get (kept_of core.objects) index ≡ Some object → FindsAs object
  found_some index object only at =
      let k = stands.kept index object at in
      let is : called kind name object ≡ true = subst (λ o. called kind name o ≡ true) (one_kept (kept_of core.objects) index only.0.object object only.0.stands at) only.0.passes in
      let of : model.kind_number k.0.content ≡ kind = kinds_same core.queues (is_owed d object.place) k.0.content object.content k.3.content ∙ (sym (core.sound.kinds index object at) ∙ grind (arith, nat_tests, is)) in
      let v = of_kind k.0.content of in
      let live : k.0.is_live ≡ true = sym k.3.live ∙ grind (arith, nat_tests, is) in
      let named_so : k.0.name ≡ name = sym k.3.name ∙ grind (arith, nat_tests, is) in
      let one_only : (other : ℕ) (o : model.Object) → slice_get d.objects other ≡ Some o → o.is_live ≡ true → o.name ≡ name → other ≡ object.place =
      λ other o o_at o_live o_name.
      let ko = kept_at other o o_at o_live in
      let o_kind : model.kind_number o.content ≡ kind = sym ko.kind_is ∙ (ap kind_of (ko.is_object.name ∙ (o_name ∙ sym named_so) ∙ sym k.3.name) ∙ (core.sound.kinds index object at ∙ (sym (kinds_same core.queues (is_owed d object.place) k.0.content object.content k.3.content) ∙ of))) in
      let here = only.1 ko.index (has_called other o ko o_live o_name o_kind) in
      sym ko.at_place ∙ ap (λ (x : Object). x.place) (one_kept (kept_of core.objects) index ko.object object (subst (λ i. slice_get (kept_of core.objects) i ≡ Some ko.object) here ko.there) at) in
      record {
        one = k.0;
        at_place = k.1;
        is_object = k.3;
        value = v.0;
        has = v.1;
        found = named-is as_kind name d object.place k.0 v.0 k.1 live named_so v.1 one_only ∙ ap (λ device. Some (found_of object.place device v.0)) (sym k.3.device);
      }

  pub found_none : IsOnly (called kind name) (kept_of core.objects) None → named d as_kind name ≡ None
  found_none none = named-None as_kind name d (λ other o at live named_so. of_other o.content (λ of. let k = kept_at other o at live in none k.index (has_called other o k live named_so of)))
