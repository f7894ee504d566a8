-- A worked case: what of a history is about each of its two devices. It is proved by computing.
use Rattle.std.proofs.Common.{◌≡◌, ℕ, List, [], ◌∷◌, None, Ok, Err, refl}
use Rattle.vd_status.specs.declared.refusal.Refusal.TheVariants.{HandlesFull, InvalidHandle, OutOfMemory}
use Rattle.driver_model.specs.Answers.{Reply}
use Rattle.driver_model.specs.Parts.{part, part_from}
use Rattle.driver_model.specs.declared.calls.Call.{Call}
use Rattle.driver_model.specs.declared.calls.Call.TheVariants as call
use Rattle.driver_model.specs.declared.calls.Wish.TheVariants as wish
use Rattle.driver_model.specs.declared.items.Item.{Item}
use Rattle.driver_model.specs.declared.items.Item.TheVariants.{Called, Ended}
use Rattle.driver_model.specs.declared.numbers.TheConstants.{CHROMA_420, FRAME}
use Rattle.driver_model.specs.declared.replies.Answer.TheVariants.{Done, Holds, Name}

-- The devices are 0 and 1. The first has the video surface 536870914, and the other the video surface 536870915, the output surface
-- 1073741828 and the mixer 2147483653. Two jobs of the second device run at a time; the first one's name is called before it is given.
abbrev says : Call → Reply → Item
says call reply = Called (record { caller = []; call = call; reply = reply })

abbrev mix : List ℕ → Item
mix caller = Called (record { caller = caller; call = call.Mix 2147483653 FRAME 536870915 1073741828; reply = Ok Done })

abbrev early : Item
early = says (call.VideoParameters 536870914) (Err (InvalidHandle 0))

abbrev whole : List Item
whole =
    says call.DeviceCreate (Ok (Name 0))
    ∷ early
    ∷ says call.DeviceCreate (Ok (Name 1))
    ∷ says (call.VideoCreate 0 CHROMA_420 16 16) (Ok (Name 536870914))
    ∷ says (call.VideoCreate 1 CHROMA_420 16 16) (Ok (Name 536870915))
    ∷ says (call.VideoCreate 1 CHROMA_420 16 16) (Err OutOfMemory)
    ∷ says (call.OutputCreate 1 0 16 16) (Ok (Name 1073741828))
    ∷ says call.Kept (Err OutOfMemory)
    ∷ says (call.VideoCreate 1 CHROMA_420 16 16) (Err (HandlesFull 5 469762048))
    ∷ says (call.MixerCreate 1 16 16) (Ok (Name 2147483653))
    ∷ mix (0 ∷ [])
    ∷ says (call.Poll (wish.VideoHome 536870914 ∷ [])) (Ok (Holds None))
    ∷ Ended (record { caller = 0 ∷ []; place = 10 })
    ∷ says (call.VideoDestroy 536870914) (Ok Done)
    ∷ mix (1 ∷ [])
    ∷ Ended (record { caller = 1 ∷ []; place = 14 })
    ∷ []

first_part : part whole 0
    ≡ says call.DeviceCreate (Ok (Name 0))
    ∷ early
    ∷ says (call.VideoCreate 0 CHROMA_420 16 16) (Ok (Name 536870914))
    ∷ says (call.Poll (wish.VideoHome 536870914 ∷ [])) (Ok (Holds None))
    ∷ says (call.VideoDestroy 536870914) (Ok Done)
    ∷ []
unfolding part_from
first_part = refl

-- The marks name the jobs by their places in the part.
second_part : part whole 1
    ≡ says call.DeviceCreate (Ok (Name 1))
    ∷ says (call.VideoCreate 1 CHROMA_420 16 16) (Ok (Name 536870915))
    ∷ says (call.VideoCreate 1 CHROMA_420 16 16) (Err OutOfMemory)
    ∷ says (call.OutputCreate 1 0 16 16) (Ok (Name 1073741828))
    ∷ says (call.MixerCreate 1 16 16) (Ok (Name 2147483653))
    ∷ mix (0 ∷ [])
    ∷ Ended (record { caller = 0 ∷ []; place = 5 })
    ∷ mix (1 ∷ [])
    ∷ Ended (record { caller = 1 ∷ []; place = 7 })
    ∷ []
unfolding part_from
second_part = refl

-- A name that was never given has what was refused of it.
no_part : part whole 536870917 ≡ []
unfolding part_from
no_part = refl
