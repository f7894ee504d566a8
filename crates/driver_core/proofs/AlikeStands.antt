-- A core whose pixels come to have several owners stands for what it stood for.
use Rattle.std.proofs.Common.{◌≡◌, inl, inr, ℕ, ◌==◌, ◌&&◌, ◌||◌, true, false, if◌then◌else◌, List, [], ◌∷◌, map, slice_get, Some, None, refl, sym, ap, ◌∙◌, subst, arith}
use Rattle.std.specs.List.{cons_option, filter_map}
use Rattle.std.specs.Option.{option_map_or}
use Rattle.std.proofs.Math.Bool.{Bool-set}
use Rattle.std.proofs.Math.Logic.{∥∥₁_elim}
use Rattle.present_queue.specs.Queue.{Queue}
use Rattle.present_queue.specs.Queues.{Surface}
use Rattle.driver_model.specs.Kept.{is_in_queue}
use Rattle.driver_model.specs.States.{State}
use Rattle.driver_objects.specs.Alike.{AreAlike, owned, owned_by}
use Rattle.driver_objects.specs.Kept.{kept_of}
use Rattle.driver_objects.specs.Swept.{is_held, is_wanted}
use Rattle.driver_objects.specs.Ticks.{due_in, due_of}
use Rattle.driver_objects.specs.declared.content.Content.{Content}
use Rattle.driver_objects.specs.declared.content.Content.TheVariants as content
use Rattle.driver_objects.specs.declared.object.Object.{Object}
use Rattle.driver_objects.proofs.Alike.{alike_at}
use Rattle.driver_objects.proofs.Cases.{true_or_false}
use Rattle.driver_objects.proofs.Wanted.{held_wanted}
use Rattle.driver_core.specs.Covers.{Covers, IsAllNeeded}
use Rattle.driver_core.specs.Stands.{IsContent, is_owed}
use Rattle.driver_core.specs.declared.driver.Core.{Core}
use Rattle.driver_core.proofs.ChangedRoles.{alike_content, alike_fits, alike_role}
use Rattle.driver_core.proofs.RolesSound.{IsLike, KeepsRoles, fits_of}

-- what is kept is live, or a queue names it
pub kept_wanted : (core : Core) (i : ℕ) (o : Object) → slice_get (kept_of core.objects) i ≡ Some o → is_wanted core.queues o ≡ true
kept_wanted core i o at = elim (true_or_false o.is_live) [
  | inl live ↦ grind (arith, live)
  | inr dead ↦ ∥∥₁_elim (core.sound.named i o at dead) (Bool-set _ _) (λ n. held_wanted core.queues o n.0 n.2 (record { object = o.place; holder = n.0 }) n.1 n.3 refl)
]

like_of : (a b : Object) → owned_by a ≡ owned_by b → IsLike a b
like_of a b same = record {
  place = ap (λ (o : Object). o.place) (sym same);
  name = ap (λ (o : Object). o.name) (sym same);
  device = ap (λ (o : Object). o.device) (sym same);
  live = ap (λ (o : Object). o.is_live) (sym same);
  role = alike_role a.content b.content (ap (λ (o : Object). o.content) same);
}

like_wanted : (queues : List (Queue Surface)) (a b : Object) → IsLike a b → is_wanted queues a ≡ true → is_wanted queues b ≡ true
like_wanted queues a b like wanted = (λ i. like.live i || option_map_or (is_held queues) (like.role.holder i) false) ∙ wanted

module _ (core : Core) (after : List Object) (alike : AreAlike after (kept_of core.objects)) where
  pub alike_keeps : ((i j : ℕ) (a b : Object) → slice_get after i ≡ Some a → slice_get after j ≡ Some b → a.place ≡ b.place → j ≡ i) → KeepsRoles core after core.queues
  alike_keeps places_apart = record {
    was = λ i o at.
        let b = alike_at after (kept_of core.objects) alike i o at in
        let like = like_of b.0 o (sym b.2) in
        record {
          at = i;
          before = b.0;
          stood = b.1;
          like = like;
          fits = alike_fits b.0.content o.content (ap (λ (x : Object). x.content) (sym b.2)) (fits_of core i b.0 b.1);
          wanted = like_wanted core.queues b.0 o like (kept_wanted core i b.0 b.1);
        };
    stays = λ i o at wanted. let n = alike_at (kept_of core.objects) after (sym alike) i o at in record { index = i; now = n.0; there = n.1; like = like_of o n.0 n.2 };
    places_apart = places_apart;
    fewer = λ number surface named. named;
    limits = core.sound.limits;
    still_empty = λ number empty. empty;
  }

  pub alike_covers : (d : State) → Covers (kept_of core.objects) core.queues d → Covers after core.queues d
  alike_covers d covers = record {
    is = λ i o at.
        let b = alike_at after (kept_of core.objects) alike i o at in
        let like = like_of b.0 o (sym b.2) in
        let k = covers.is i b.0 b.1 in (
          k.0,
          ap (slice_get d.objects) like.place ∙ k.1,
          record {
            name = like.name ∙ k.2.name;
            device = like.device ∙ k.2.device;
            live = like.live ∙ k.2.live;
            content = subst (λ p. IsContent core.queues (is_owed d p) k.0.content o.content) (sym like.place) (alike_content b.0.content o.content (ap (λ (x : Object). x.content) (sym b.2)) core.queues (is_owed d b.0.place) k.0.content k.2.content);
          },
        );
    needed = λ place one at needed.
        let n = covers.needed place one at needed in
        let b = alike_at (kept_of core.objects) after (sym alike) n.0 n.1 n.2 in
        (n.0, b.0, b.1, (like_of n.1 b.0 b.2).place ∙ n.3);
  }

  pub alike_needed : (d : State) → IsAllNeeded (kept_of core.objects) d → IsAllNeeded after d
  alike_needed d needed i o at =
      let b = alike_at after (kept_of core.objects) alike i o at in
      let like = like_of b.0 o (sym b.2) in
      (λ k. like.live k || is_in_queue d (like.place k)) ∙ needed i b.0 b.1

-- ---- the queues that are due

module _ (queues : List (Queue Surface)) (on time : ℕ) where
  due_owned : (o : Object) → due_of queues on time (owned_by o) ≡ due_of queues on time o
  due_owned o = ap (λ due. if o.is_live && o.device == on then due else None) (by_content o.content) where
    by_content : (what : Content) → due_in queues time (owned_by o) (owned what) ≡ due_in queues time o what
    by_content (content.Device of) = refl
    by_content (content.Video of) = refl
    by_content (content.Output of) = refl
    by_content (content.Decoder of) = refl
    by_content (content.Mixer of) = refl
    by_content (content.Queue of) = refl

  dues_owned : (kept : List Object) → filter_map (due_of queues on time) (map owned_by kept) ≡ filter_map (due_of queues on time) kept
  dues_owned [] = refl
  dues_owned (o ∷ later) = λ i. cons_option (due_owned o i) (dues_owned later i)

  pub alike_dues : (these those : List Object) → AreAlike these those → filter_map (due_of queues on time) these ≡ filter_map (due_of queues on time) those
  alike_dues these those alike = sym (dues_owned these) ∙ (ap (filter_map (due_of queues on time)) alike ∙ dues_owned those)
