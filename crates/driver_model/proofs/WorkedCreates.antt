-- Worked cases: sizes, creates, parts of histories, shown pictures and the text of flips. Each is proved by computing.
use Rattle.std.proofs.Common.{◌≡◌, inl, inr, ℕ, true, false, List, [], ◌∷◌, ◌++◌, codes, Ok, Err, refl}
use Rattle.std.specs.Fmt.{digits}
use Rattle.vd_status.specs.declared.refusal.Refusal.TheVariants.{BadInfo, BadProfile, BadRgba, BadSize, HandlesFull, InvalidHandle, OutOfMemory}
use Rattle.clock_script.specs.declared.script.ScriptLine.TheVariants.{Preempt, Tick}
use Rattle.driver_model.specs.Answers.{Reply}
use Rattle.driver_model.specs.FlipText.{in_order, put_in_order, text_of}
use Rattle.driver_model.specs.Histories.{IsLegal, Leads}
use Rattle.driver_model.specs.Parts.{part, part_from}
use Rattle.driver_model.specs.ShownPictures.{shown_from, shown_pictures}
use Rattle.driver_model.specs.Sizes.{size_for}
use Rattle.driver_model.specs.States.{changed_at, found_from}
use Rattle.driver_model.specs.declared.calls.Call.{Call}
use Rattle.driver_model.specs.declared.calls.Call.TheVariants as call
use Rattle.driver_model.specs.declared.items.Item.{Item}
use Rattle.driver_model.specs.declared.items.Item.TheVariants.{Called, Ended}
use Rattle.driver_model.specs.declared.replies.Answer.TheVariants.{Done, Name, Supports, Time}

-- 4,096 samples a side and 36,864 macroblocks in all are the most, and no side is 0
largest : size_for 4096 2304 ≡ Ok (record { width = 256; height = 144 })
largest = refl

too_many : size_for 4096 2305 ≡ Err BadSize
too_many = refl

too_wide : size_for 4097 16 ≡ Err BadSize
too_wide = refl

no_width : size_for 0 16 ≡ Err BadSize
no_width = refl

rounded_up : size_for 17 1 ≡ Ok (record { width = 2; height = 1 })
rounded_up = refl

abbrev says : List ℕ → Call → Reply → Item
says caller call reply = Called (record { caller = caller; call = call; reply = reply })

-- Two callers with a device each. Names are free but for their kinds, and no name is given twice.
abbrev two_devices : List Item
two_devices =
    says [] call.DeviceCreate (Ok (Name 0))
    ∷ says (0 ∷ []) call.DeviceCreate (Ok (Name 1))
    ∷ says [] (call.DecoderQuery 0 1) (Ok (Supports (record { supported = true; max_macroblocks = 36864; max_width = 4096; max_height = 4096 })))
    ∷ says [] (call.DecoderQuery 0 5) (Ok (Supports (record { supported = false; max_macroblocks = 0; max_width = 0; max_height = 0 })))
    ∷ says [] (call.MixerCreate 0 16 16) (Err OutOfMemory)
    ∷ says [] (call.MixerCreate 0 16 16) (Ok (Name 2147483650))
    ∷ says (0 ∷ []) (call.QueueCreate 1 3) (Ok (Name 2684354563))
    ∷ says [] (call.DecoderCreate 0 5 16 16 1) (Err BadProfile)
    ∷ says [] (call.DecoderCreate 0 0 16 16 17) (Err (BadInfo 0))
    ∷ says [] (call.OutputCreate 0 2 16 16) (Err BadRgba)
    ∷ says [] (call.MixerDestroy 2147483650) (Ok Done)
    ∷ says (0 ∷ []) (call.GetTime 2684354563) (Ok (Time 0))
    ∷ says [] (call.MixerDestroy 2147483650) (Err (InvalidHandle 0))
    ∷ []

two_devices_are_legal : IsLegal two_devices
unfolding Leads found_from changed_at
two_devices_are_legal = (
  _,
  (
    _,
    (_, inr (inl (record { name = 0; content = _; is_content = refl; kind = refl; fresh = refl; tells = refl; after = refl })), refl),
    (
      _,
      (_, inr (inl (record { name = 1; content = _; is_content = refl; kind = refl; fresh = refl; tells = refl; after = refl })), refl),
      (
        _,
        (_, inr (refl, refl), refl),
        (
          _,
          (_, inr (refl, refl), refl),
          (
            _,
            (_, inl (refl, (refl, refl)), refl),
            (
              _,
              (_, inr (inl (record { name = 2147483650; content = _; is_content = refl; kind = refl; fresh = refl; tells = refl; after = refl })), refl),
              (
                _,
                (_, inr (inl (record { name = 2684354563; content = _; is_content = refl; kind = refl; fresh = refl; tells = refl; after = refl })), refl),
                (
                  _,
                  (_, inr (refl, refl), refl),
                  (
                    _,
                    (_, inr (refl, refl), refl),
                    (
                      _,
                      (_, inr (refl, refl), refl),
                      (
                        _,
                        (_, inr (refl, refl), refl),
                        (
                          _,
                          (_, inr (refl, refl), refl),
                          (
                            _,
                            (_, inr (refl, refl), refl),
                            refl,
                          ),
                        ),
                      ),
                    ),
                  ),
                ),
              ),
            ),
          ),
        ),
      ),
    ),
  ),
)

-- The part of the second device, and that of the first with a job: a mark's place is that which its entry has in the part.
second_part : part two_devices 1 ≡ says (0 ∷ []) call.DeviceCreate (Ok (Name 1)) ∷ says (0 ∷ []) (call.QueueCreate 1 3) (Ok (Name 2684354563)) ∷ says (0 ∷ []) (call.GetTime 2684354563) (Ok (Time 0)) ∷ []
unfolding part_from
second_part = refl

abbrev with_job : List Item
with_job =
    says [] call.DeviceCreate (Ok (Name 1))
    ∷ says [] call.DeviceCreate (Ok (Name 0))
    ∷ says [] (call.MixerCreate 1 16 16) (Err (HandlesFull 1024 1024))
    ∷ says [] (call.MixerCreate 1 16 16) (Ok (Name 2147483650))
    ∷ says [] (call.Mix 2147483650 0 5 6) (Ok Done)
    ∷ says [] (call.DeviceDestroy 0) (Ok Done)
    ∷ Ended (record { caller = []; place = 4 })
    ∷ []

first_part :
    part with_job 1
    ≡ says [] call.DeviceCreate (Ok (Name 1)) ∷ says [] (call.MixerCreate 1 16 16) (Ok (Name 2147483650)) ∷ says [] (call.Mix 2147483650 0 5 6) (Ok Done) ∷ Ended (record { caller = []; place = 2 }) ∷ []
unfolding part_from
first_part = refl

other_part : part with_job 0 ≡ says [] call.DeviceCreate (Ok (Name 0)) ∷ says [] (call.DeviceDestroy 0) (Ok Done) ∷ []
unfolding part_from
other_part = refl

-- ---- shown pictures

-- two pictures at 40 and 80, each at its own tick
both_shown : shown_pictures (Tick 40 ∷ Tick 80 ∷ []) 0 40 {P = ℕ} (7 ∷ 8 ∷ []) ≡ record { picture = 7; time = 40 } ∷ record { picture = 8; time = 80 } ∷ []
unfolding shown_from
both_shown = refl

-- both at one tick: the first is passed over
last_shown : shown_pictures (Tick 100 ∷ []) 0 40 {P = ℕ} (7 ∷ 8 ∷ []) ≡ record { picture = 8; time = 100 } ∷ []
unfolding shown_from
last_shown = refl

-- the stream is preempted between its ticks
first_shown : shown_pictures (Tick 40 ∷ Preempt 60 1 ∷ Tick 80 ∷ []) 1 40 {P = ℕ} (7 ∷ 8 ∷ []) ≡ record { picture = 7; time = 40 } ∷ []
unfolding shown_from
first_shown = refl

-- ---- the text of flips

sorted_text :
    text_of (record { stream = 1; time = 40; width = 1; height = 1; bytes = 9 ∷ [] } ∷ record { stream = 0; time = 80; width = 1; height = 1; bytes = 5 ∷ [] } ∷ record { stream = 0; time = 40; width = 16; height = 1; bytes = 6 ∷ [] } ∷ [])
    ≡ codes "FLIP 0 40 16 1" ++ 10 ∷ 6 ∷ codes "FLIP 1 40 1 1" ++ 10 ∷ 9 ∷ codes "FLIP 0 80 1 1" ++ 10 ∷ 5 ∷ []
unfolding in_order put_in_order digits
sorted_text = refl
