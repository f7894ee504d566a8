-- A holder and its object pass for one another where the queues name them.
use Rattle.std.proofs.Common.{◌≡◌, ◌≢◌, ℕ, suc, Bool, false, eqb, List, [], ◌∷◌, length, set, map, Option, Some, None, option_map, refl, sym, ap, ◌∙◌, inl, inr, arith}
use Rattle.std.specs.List.{Contains, list_any, slice_index}
use Rattle.std.specs.Option.{option_map_or}
use Rattle.std.proofs.lemmas.Bool.{cases_eq}
use Rattle.std.proofs.lemmas.Bool.Decides.{Decides-eqb, Decides-like, same_from_decides}
use Rattle.std.proofs.lemmas.List.{get_or-set_other, set-get_or}
use Rattle.index_lists.specs.Lists.{Link}
use Rattle.present_queue.specs.Queue.{Names, Queue, Queued, holds, is_queued, is_shown, shows}
use Rattle.present_queue.specs.Queues.{IsHolderOf, Surface, has_holder, is_object, queue_at}
use Rattle.present_queue.specs.Kept.{queued_of, queues_with, surface_of}
use Rattle.present_queue.specs.declared.queues.Kept.{Kept}

Contains-later : {X : Type 0} (x : X) (xs : List X) (y : X) → Contains xs y → Contains (x ∷ xs) y
Contains-later x xs y there = (suc there.0, omega arith, there.2)

-- Two tests that agree on each surface that is named agree on the queues.
module _ (test other : Surface → Bool) where
  same_any : (entries : List (Queued Surface)) → ((surface : Surface) → Contains (map (λ (e : Queued Surface). e.surface) entries) surface → test surface ≡ other surface) → list_any (λ (e : Queued Surface). test e.surface) entries ≡ list_any (λ (e : Queued Surface). other e.surface) entries
  same_any [] agree = refl
  same_any (e ∷ entries) agree =
      let first : test e.surface ≡ other e.surface = agree e.surface (0, omega arith, refl) in
      let rest : list_any (λ (e : Queued Surface). test e.surface) entries ≡ list_any (λ (e : Queued Surface). other e.surface) entries =
      same_any entries (λ surface there. agree surface (Contains-later e.surface (map (λ (e : Queued Surface). e.surface) entries) surface there)) in
      rw (first, rest) refl

  same_visible : (visible : Option Surface) → ((surface : Surface) → visible ≡ Some surface → test surface ≡ other surface) → option_map_or test visible false ≡ option_map_or other visible false
  same_visible None agree = refl
  same_visible (Some surface) agree = agree surface refl

  same_queued : (queues : List (Queue Surface)) → ((number : ℕ) (surface : Surface) → Names (queue_at queues number) surface → test surface ≡ other surface) → is_queued test queues ≡ is_queued other queues
  same_queued [] agree = refl
  same_queued (q ∷ queues) agree =
      let first : holds test q ≡ holds other q = same_any q.entries (λ surface there. agree 0 surface (inl there)) in
      let rest : is_queued test queues ≡ is_queued other queues = same_queued queues (λ number. agree (suc number)) in
      rw (first, rest) refl

  same_shown : (queues : List (Queue Surface)) → ((number : ℕ) (surface : Surface) → Names (queue_at queues number) surface → test surface ≡ other surface) → is_shown test queues ≡ is_shown other queues
  same_shown [] agree = refl
  same_shown (q ∷ queues) agree =
      let first : shows test q ≡ shows other q = same_visible q.visible (λ surface there. agree 0 surface (inr there)) in
      let rest : is_shown test queues ≡ is_shown other queues = same_shown queues (λ number. agree (suc number)) in
      rw (first, rest) refl

same_test : (a b c d : ℕ) → (a ≡ b → c ≡ d) → (c ≡ d → a ≡ b) → eqb a b ≡ eqb c d
same_test a b c d to back = same_from_decides (eqb a b) (eqb c d) (Decides-like (eqb a b) to back (Decides-eqb a b)) (Decides-eqb c d)

module _ (queues : List (Queue Surface)) (holder object : ℕ) (is_holder : IsHolderOf queues holder object) where
  agree : (number : ℕ) (surface : Surface) → Names (queue_at queues number) surface → has_holder holder surface ≡ is_object object surface
  agree number surface named = same_test surface.holder holder surface.object object (is_holder number surface named).0 (is_holder number surface named).1

  pub is_queued-by_object : is_queued (has_holder holder) queues ≡ is_queued (is_object object) queues
  is_queued-by_object = same_queued (has_holder holder) (is_object object) queues agree

  pub is_shown-by_object : is_shown (has_holder holder) queues ≡ is_shown (is_object object) queues
  is_shown-by_object = same_shown (has_holder holder) (is_object object) queues agree

-- Another object for a holder changes nothing where the holder isn't named.
module _ (objects : List ℕ) (holder object : ℕ) where
  other_surface : (h : ℕ) → h ≢ holder → surface_of (set objects holder object) h ≡ surface_of objects h
  other_surface h differs = ap (λ o. record { object = o; holder = h }) (get_or-set_other objects holder h object 0 differs)

  other_entries : (links : List Link) → ((h : ℕ) → Contains (map (λ (e : Queued Surface). e.surface) (map (queued_of objects) links)) (surface_of objects h) → h ≢ holder) → map (queued_of (set objects holder object)) links ≡ map (queued_of objects) links
  other_entries [] unnamed = refl
  other_entries (link ∷ links) unnamed =
      let first : surface_of (set objects holder object) link.holder ≡ surface_of objects link.holder = other_surface link.holder (unnamed link.holder (0, omega arith, refl)) in
      let rest : map (queued_of (set objects holder object)) links ≡ map (queued_of objects) links =
      other_entries links (λ h there. unnamed h (Contains-later (surface_of objects link.holder) (map (λ (e : Queued Surface). e.surface) (map (queued_of objects) links)) (surface_of objects h) there)) in
      rw (first, rest) refl

  other_visible : (visible : Option ℕ) → ((h : ℕ) → option_map (surface_of objects) visible ≡ Some (surface_of objects h) → h ≢ holder) → option_map (surface_of (set objects holder object)) visible ≡ option_map (surface_of objects) visible
  other_visible None unnamed = refl
  other_visible (Some h) unnamed = ap Some (other_surface h (unnamed h refl))

  other_queues : (lists : List (List Link)) (kept : List Kept) → length lists ≡ length kept → ((number h : ℕ) → Names (queue_at (queues_with objects lists kept) number) (surface_of objects h) → h ≢ holder) → queues_with (set objects holder object) lists kept ≡ queues_with objects lists kept
  other_queues [] kept same unnamed = refl
  other_queues (links ∷ lists) [] same unnamed = absurd (omega arith)
  other_queues (links ∷ lists) (k ∷ kept) same unnamed =
      let entries : map (queued_of (set objects holder object)) links ≡ map (queued_of objects) links = other_entries links (λ h there. unnamed 0 h (inl there)) in
      let visible : option_map (surface_of (set objects holder object)) k.visible ≡ option_map (surface_of objects) k.visible = other_visible k.visible (λ h there. unnamed 0 h (inr there)) in
      let rest : queues_with (set objects holder object) lists kept ≡ queues_with objects lists kept = other_queues lists kept (omega arith) (λ number. unnamed (suc number)) in
      rw (entries, visible, rest) refl

  -- The holder's object is told again, or the holder isn't named.
  pub queues_with-set_object : (lists : List (List Link)) (kept : List Kept) → length lists ≡ length kept → IsHolderOf (queues_with objects lists kept) holder object → queues_with (set objects holder object) lists kept ≡ queues_with objects lists kept
  queues_with-set_object lists kept same is_holder =
      elim (cases_eq (slice_index objects holder) object) [
        | inl told ↦ ap (λ os. queues_with os lists kept) (ap (set objects holder) (sym told) ∙ set-get_or objects holder 0)
        | inr differs ↦ other_queues lists kept same (λ number h named is. differs (ap (slice_index objects) (sym is) ∙ (is_holder number (surface_of objects h) named).0 is))
      ]
