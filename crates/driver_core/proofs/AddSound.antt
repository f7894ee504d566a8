-- An object is added.
use Rattle.std.proofs.Common.{◌≡◌, inl, inr, ℕ, ◌+◌, ◌||◌, Bool, true, false, true≢false, List, [], ◌∷◌, ◌++◌, Option, Some, None, Result, Ok, Err, IfOk, OnOk, OnErr, unwrap_or, refl, sym, ap, ◌∙◌, subst, arith}
use Rattle.std.specs.List.{list_any}
use Rattle.std.proofs.lemmas.Bool.Decides.{nat_tests}
use Rattle.handle_table.specs.Name.{IsNameOf, kind_of}
use Rattle.handle_table.proofs.Names.{kind_of-name_of}
use Rattle.present_queue.specs.Queue.{Queue}
use Rattle.present_queue.specs.Queues.{Surface}
use Rattle.driver_objects.specs.Kinds.{has_number, holder_of, is_device, is_device_at, kind_number, number_of}
use Rattle.driver_objects.specs.Listed.{made_object}
use Rattle.driver_objects.specs.declared.content.Content.{Content}
use Rattle.driver_objects.specs.declared.fault.AddFault.{AddFault}
use Rattle.driver_objects.specs.declared.object.Object.{Object}
use Rattle.driver_objects.specs.declared.jobs.OutJob.{OutJob}
use Rattle.driver_objects.proofs.OwnNumbers.{number_has}
use Rattle.driver_objects.proofs.Lists.{any_append, any_at, at_append}
use Rattle.driver_core.specs.Roles.{MayAdd}
use Rattle.driver_core.specs.Sound.{IsSound, is_surface}

module _ (kept : List Object) (made : ℕ) (queues : List (Queue Surface)) (jobs : List OutJob) (sound : IsSound kept made queues jobs)
    (kind name : ℕ) (device : Option ℕ) (what : Content) (may : MayAdd kept kind device what) (name_kind : kind_of name ≡ kind) where
  abbrev one : Object
  one = made_object made name device what

  abbrev now : List Object
  now = kept ++ one ∷ []

  stays : (test : Object → Bool) → list_any test kept ≡ true → list_any test now ≡ true
  stays test any = any_append test kept one ∙ ap (λ b. b || test one) any

  own_device_at : is_device what ≡ true → is_device_at (unwrap_or device made) one ≡ true
  own_device_at is = let none : unwrap_or device made ≡ made = ap (λ p. unwrap_or p made) (may.own_device is) in grind (arith, nat_tests, none, is)

  pub added_sound : IsSound now (made + 1) queues jobs
  added_sound = record {
    kinds = λ i o at. elim (at_append kept one o i at) [
      | inl was ↦ sound.kinds i o was.1
      | inr last ↦ subst (λ (x : Object). kind_of x.name ≡ kind_number x.content) last.1 (name_kind ∙ sym may.of_kind)
    ];
    videos = λ i o surface at is. elim (at_append kept one o i at) [
      | inl was ↦ sound.videos i o surface was.1 is
      | inr last ↦ may.fits.video surface (ap (λ (x : Object). x.content) last.1 ∙ is)
    ];
    outputs = λ i o surface at is. elim (at_append kept one o i at) [
      | inl was ↦ sound.outputs i o surface was.1 is
      | inr last ↦ may.fits.output surface (ap (λ (x : Object). x.content) last.1 ∙ is)
    ];
    decoders = λ i o decoder at is. elim (at_append kept one o i at) [
      | inl was ↦ sound.decoders i o decoder was.1 is
      | inr last ↦ may.fits.decoder decoder (ap (λ (x : Object). x.content) last.1 ∙ is)
    ];
    mixers = λ i o mixer at is. elim (at_append kept one o i at) [
      | inl was ↦ sound.mixers i o mixer was.1 is
      | inr last ↦ may.fits.mixer mixer (ap (λ (x : Object). x.content) last.1 ∙ is)
    ];
    devices = λ i o at live. elim (at_append kept one o i at) [
      | inl was ↦ stays (is_device_at o.device) (sound.devices i o was.1 live)
      | inr last ↦ subst (λ (x : Object). list_any (is_device_at x.device) now ≡ true) last.1 (device_there device refl)
    ];
    own = λ i o at is. elim (at_append kept one o i at) [
      | inl was ↦ sound.own i o was.1 is
      | inr last ↦ subst (λ (x : Object). is_device x.content ≡ true → x.device ≡ x.place) last.1 (λ e. ap (λ p. unwrap_or p made) (may.own_device e)) is
    ];
    named = λ i o at dead. elim (at_append kept one o i at) [
      | inl was ↦ sound.named i o was.1 dead
      | inr last ↦ absurd (true≢false (ap (λ (x : Object). x.is_live) last.1 ∙ dead))
    ];
    limits = sound.limits;
    numbers = λ i o number at is. elim (at_append kept one o i at) [
      | inl was ↦ sound.numbers i o number was.1 is
      | inr last ↦ (may.number number (ap (λ (x : Object). number_of x.content) last.1 ∙ is)).0
    ];
    numbers_apart = λ i j a b number at bt ia ib. elim (at_append kept one a i at) [
      | inl a_was ↦ elim (at_append kept one b j bt) [
        | inl b_was ↦ sound.numbers_apart i j a b number a_was.1 b_was.1 ia ib
        | inr b_last ↦ absurd (true≢false (sym (any_at (has_number number) kept i a a_was.1 (number_has number a ia)) ∙ (may.number number (ap (λ (x : Object). number_of x.content) b_last.1 ∙ ib)).1))
      ]
      | inr a_last ↦ elim (at_append kept one b j bt) [
        | inl b_was ↦ absurd (true≢false (sym (any_at (has_number number) kept j b b_was.1 (number_has number b ib)) ∙ (may.number number (ap (λ (x : Object). number_of x.content) a_last.1 ∙ ia)).1))
        | inr b_last ↦ a_last.0 ∙ sym b_last.0
      ]
    ];
    unused = λ number none. sound.unused number (neither (list_any (has_number number) kept) (has_number number one) (sym (any_append (has_number number) kept one) ∙ none));
    holders = λ i o holder at is. elim (at_append kept one o i at) [
      | inl was ↦ sound.holders i o holder was.1 is
      | inr last ↦ (may.holder holder (ap (λ (x : Object). holder_of x.content) last.1 ∙ is)).0
    ];
    holders_apart = λ i j a b holder at bt ia ib. elim (at_append kept one a i at) [
      | inl a_was ↦ elim (at_append kept one b j bt) [
        | inl b_was ↦ sound.holders_apart i j a b holder a_was.1 b_was.1 ia ib
        | inr b_last ↦ absurd ((may.holder holder (ap (λ (x : Object). holder_of x.content) b_last.1 ∙ ib)).1 i a a_was.1 ia)
      ]
      | inr a_last ↦ elim (at_append kept one b j bt) [
        | inl b_was ↦ absurd ((may.holder holder (ap (λ (x : Object). holder_of x.content) a_last.1 ∙ ia)).1 j b b_was.1 ib)
        | inr b_last ↦ a_last.0 ∙ sym b_last.0
      ]
    ];
    surfaces = λ number surface names. stays (is_surface surface) (sound.surfaces number surface names);
    targets = λ i job at. let below = sound.targets i job at in omega (arith, below);
  }
    where
      neither : (a b : Bool) → (a || b) ≡ false → a ≡ false
      neither true b e = e
      neither false b e = refl

      device_there : (on : Option ℕ) → device ≡ on → list_any (is_device_at (unwrap_or device made)) now ≡ true
      device_there None is =
          let own = may.device_own is in
          any_append (is_device_at (unwrap_or device made)) kept one ∙ grind (arith, own_device_at own)
      device_there (Some place) is = subst (λ on. list_any (is_device_at (unwrap_or on made)) now ≡ true) (sym is) (stays (is_device_at place) (may.device_live place is))

pub kind_of_name : (kind name : ℕ) → IsNameOf kind name → kind_of name ≡ kind
kind_of_name kind name is = ap kind_of is.is ∙ kind_of-name_of kind is.generation is.index is.in_generations is.in_indices

-- whether one was added or not
pub sound_after : (kept new_kept : List Object) (made new_made : ℕ) (queues : List (Queue Surface)) (jobs : List OutJob) → IsSound kept made queues jobs
    → (kind : ℕ) (device : Option ℕ) (what : Content) → MayAdd kept kind device what
    → (result : Result ℕ AddFault)
    → IfOk result (IsNameOf kind) → IfOk result (λ name. new_kept ≡ kept ++ made_object made name device what ∷ []) → OnOk result (new_made ≡ made + 1)
    → OnErr result (new_kept ≡ kept) → OnErr result (new_made ≡ made)
    → IsSound new_kept new_made queues jobs
sound_after kept new_kept made new_made queues jobs sound kind device what may (Ok name) form added more same still =
    rw (added, more) (added_sound kept made queues jobs sound kind name device what may (kind_of_name kind name form))
sound_after kept new_kept made new_made queues jobs sound kind device what may (Err fault) form added more same still = rw (same, still) sound
