-- Worked cases: short histories, and what each call in them answers. Each is proved by computing.
use Rattle.std.proofs.Common.{◌≡◌, inr, ℕ, true, false, List, [], ◌∷◌, Some, None, Ok, Err, refl}
use Rattle.decoder_render.specs.declared.outcome.Outcome.TheVariants as outcome
use Rattle.present_queue.specs.Queue.{empty_queue}
use Rattle.vd_status.specs.declared.refusal.Refusal.TheVariants.{DeviceMismatch, EarlierThanPromise, InvalidHandle, Preempted, TimeNotAfter}
use Rattle.driver_model.specs.Answers.{Reply}
use Rattle.driver_model.specs.Clock.{all_shown}
use Rattle.driver_model.specs.Histories.{Happens, Leads}
use Rattle.driver_model.specs.Objects.{DeviceObject, OutputObject, QueueObject, Object}
use Rattle.driver_model.specs.States.{State, changed_at, found_from, free_number, free_number_from}
use Rattle.driver_model.specs.Waits.{Waits}
use Rattle.driver_model.specs.Wishes.{first_wish_from}
use Rattle.driver_model.specs.declared.calls.Call.{Call}
use Rattle.driver_model.specs.declared.calls.Call.TheVariants as call
use Rattle.driver_model.specs.declared.calls.Wish.TheVariants as wish
use Rattle.driver_model.specs.declared.items.Item.{Item}
use Rattle.driver_model.specs.declared.items.Item.TheVariants.{Called, Ended}
use Rattle.driver_model.specs.declared.replies.Answer.TheVariants.{Counts, Done, Flips, Holds, Status, Time}
use Rattle.driver_model.specs.declared.replies.Flipped.{Flipped}
use Rattle.driver_model.specs.declared.replies.PresentStatus.{PresentStatus}
use Rattle.driver_model.specs.declared.replies.PresentStatus.TheVariants.{Idle, Queued, Visible}

-- The device 0 has the output surfaces 1073741825 and 1073741826, of one byte each, and the queue 2684354563 on window 9; another
-- device, 4, has the surface 1073741829.

abbrev surface_of : ℕ → ℕ → ℕ → Object
surface_of name device byte = record { name = name; device = device; is_live = true; content = OutputObject (record { format = 0; size = record { width = 1; height = 1 }; bytes = byte ∷ []; last_flip = None }) }

abbrev device_of : ℕ → ℕ → Object
device_of name place = record { name = name; device = place; is_live = true; content = DeviceObject (record { time = 0; is_preempted = false }) }

abbrev start : State
start = record {
  objects =
      device_of 0 0
      ∷ surface_of 1073741825 0 7
      ∷ surface_of 1073741826 0 8
      ∷ record { name = 2684354563; device = 0; is_live = true; content = QueueObject (record { window = 9; queue = empty_queue }) }
      ∷ device_of 4 4
      ∷ surface_of 1073741829 4 1
      ∷ [];
  notes = [];
  items = 0;
}

abbrev says : Call → Reply → Item
says call reply = Called (record { caller = []; call = call; reply = reply })

abbrev flip : ℕ → ℕ → ℕ → Flipped
flip surface time byte = record { queue = 2684354563; window = 9; surface = surface; time = time; width = 16; height = 16; format = 0; bytes = byte ∷ [] }

abbrev status : PresentStatus → ℕ → Reply
status is time = Ok (Status (record { status = is; first_time = time }))

abbrev display : ℕ → ℕ → Item
display surface time = says (call.QueueDisplay 2684354563 surface time) (Ok Done)

abbrev query : ℕ → PresentStatus → ℕ → Item
query surface is time = says (call.QueryStatus 2684354563 surface) (status is time)

abbrev tick : ℕ → List Flipped → Item
tick time flips = says (call.Advance 0 time) (Ok (Flips flips))

-- Two surfaces, one behind the other: each tick shows the oldest entry whose time has come, and at most one.
abbrev two_shown : List Item
two_shown =
    display 1073741825 10
    ∷ display 1073741826 20
    ∷ tick 5 []
    ∷ query 1073741825 Queued 0
    ∷ tick 10 (flip 1073741825 10 7 ∷ [])
    ∷ query 1073741825 Visible 10
    ∷ query 1073741826 Queued 0
    ∷ tick 20 (flip 1073741826 20 8 ∷ [])
    ∷ query 1073741825 Idle 10
    ∷ query 1073741826 Visible 20
    ∷ says (call.Advance 0 20) (Err (TimeNotAfter 20))
    ∷ []

two_shown_is_legal : (end : State) × Leads start two_shown end
unfolding Leads found_from changed_at all_shown
two_shown_is_legal = (
  _,
  (
    _,
    (_, inr (refl, refl), refl),
    (
      _,
      (_, inr (refl, refl), refl),
      (
        _,
        (_, inr (refl, refl, refl), refl),
        (
          _,
          (_, inr (refl, refl), refl),
          (
            _,
            (_, inr (refl, refl, refl), refl),
            (
              _,
              (_, inr (refl, refl), refl),
              (
                _,
                (_, inr (refl, refl), refl),
                (
                  _,
                  (_, inr (refl, refl, refl), refl),
                  (
                    _,
                    (_, inr (refl, refl), refl),
                    (
                      _,
                      (_, inr (refl, refl), refl),
                      (
                        _,
                        (_, inr (refl, refl), refl),
                        refl,
                      ),
                    ),
                  ),
                ),
              ),
            ),
          ),
        ),
      ),
    ),
  ),
)

-- One surface twice: it is visible from its first time on, and its second flip gives it a new time.
abbrev one_twice : List Item
one_twice =
    display 1073741825 10
    ∷ display 1073741825 20
    ∷ tick 10 (flip 1073741825 10 7 ∷ [])
    ∷ query 1073741825 Visible 10
    ∷ tick 20 (flip 1073741825 20 7 ∷ [])
    ∷ query 1073741825 Visible 20
    ∷ []

one_twice_is_legal : (end : State) × Leads start one_twice end
unfolding Leads found_from changed_at all_shown
one_twice_is_legal = (
  _,
  (
    _,
    (_, inr (refl, refl), refl),
    (
      _,
      (_, inr (refl, refl), refl),
      (
        _,
        (_, inr (refl, refl, refl), refl),
        (
          _,
          (_, inr (refl, refl), refl),
          (
            _,
            (_, inr (refl, refl, refl), refl),
            (
              _,
              (_, inr (refl, refl), refl),
              refl,
            ),
          ),
        ),
      ),
    ),
  ),
)

-- A destroyed surface that is queued is shown all the same, under its dead name; it is kept until another one is shown.
abbrev destroyed_shown : List Item
destroyed_shown =
    display 1073741825 10
    ∷ says (call.OutputDestroy 1073741825) (Ok Done)
    ∷ tick 10 (flip 1073741825 10 7 ∷ [])
    ∷ says call.Kept (Ok (Counts (record { surfaces = 3; entries = 0 })))
    ∷ display 1073741826 11
    ∷ tick 12 (flip 1073741826 12 8 ∷ [])
    ∷ says call.Kept (Ok (Counts (record { surfaces = 2; entries = 0 })))
    ∷ says (call.QueryStatus 2684354563 1073741825) (Err (InvalidHandle 1))
    ∷ says (call.DeviceDestroy 0) (Ok Done)
    ∷ says call.Kept (Ok (Counts (record { surfaces = 1; entries = 0 })))
    ∷ []

destroyed_shown_is_legal : (end : State) × Leads start destroyed_shown end
unfolding Leads found_from changed_at all_shown
destroyed_shown_is_legal = (
  _,
  (
    _,
    (_, inr (refl, refl), refl),
    (
      _,
      (_, inr (refl, refl), refl),
      (
        _,
        (_, inr (refl, refl, refl), refl),
        (
          _,
          (_, inr (refl, refl), refl),
          (
            _,
            (_, inr (refl, refl), refl),
            (
              _,
              (_, inr (refl, refl, refl), refl),
              (
                _,
                (_, inr (refl, refl), refl),
                (
                  _,
                  (_, inr (refl, refl), refl),
                  (
                    _,
                    (_, inr (refl, refl), refl),
                    (
                      _,
                      (_, inr (refl, refl), refl),
                      refl,
                    ),
                  ),
                ),
              ),
            ),
          ),
        ),
      ),
    ),
  ),
)

-- Promises, wishes, surfaces of another device, and a preempted device.
abbrev refused_calls : List Item
refused_calls =
    says (call.Poll (wish.PromisePast 2684354563 0 ∷ [])) (Ok (Holds None))
    ∷ says (call.Promise 2684354563 50) (Ok Done)
    ∷ says (call.Poll (wish.PromisePast 2684354563 0 ∷ [])) (Ok (Holds (Some 0)))
    ∷ says (call.WaitUntil (wish.PromisePast 2684354563 0 ∷ [])) (Ok (Holds (Some 0)))
    ∷ says (call.QueueDisplay 2684354563 1073741825 49) (Err (EarlierThanPromise 50))
    ∷ says (call.QueueDisplay 2684354563 1073741829 60) (Err (DeviceMismatch 1))
    ∷ says (call.QueueDisplay 2684354563 1073741999 60) (Err (InvalidHandle 1))
    ∷ says (call.BlockUntilIdle 2684354563 1073741825) (Ok (Time 0))
    ∷ says (call.Preempt 0) (Ok Done)
    ∷ says (call.GetTime 2684354563) (Err Preempted)
    ∷ says (call.Poll (wish.OutputIdle 1073741829 ∷ wish.OutputIdle 1073741825 ∷ [])) (Ok (Holds (Some 0)))
    ∷ says (call.Poll (wish.OutputIdle 7 ∷ [])) (Err (InvalidHandle 0))
    ∷ says (call.DeviceDestroy 0) (Ok Done)
    ∷ says (call.DeviceDestroy 0) (Err (InvalidHandle 0))
    ∷ []

refused_calls_are_legal : (end : State) × Leads start refused_calls end
unfolding Leads found_from changed_at all_shown first_wish_from
refused_calls_are_legal = (
  _,
  (
    _,
    (_, inr (refl, refl), refl),
    (
      _,
      (_, inr (refl, refl), refl),
      (
        _,
        (_, inr (refl, refl), refl),
        (
          _,
          (_, inr (refl, refl), refl),
          (
            _,
            (_, inr (refl, refl), refl),
            (
              _,
              (_, inr (refl, refl), refl),
              (
                _,
                (_, inr (refl, refl), refl),
                (
                  _,
                  (_, inr (refl, (refl, refl)), refl),
                  (
                    _,
                    (_, inr (refl, refl), refl),
                    (
                      _,
                      (_, inr (refl, refl), refl),
                      (
                        _,
                        (_, inr (refl, refl), refl),
                        (
                          _,
                          (_, inr (refl, refl), refl),
                          (
                            _,
                            (_, inr (refl, refl), refl),
                            (
                              _,
                              (_, inr (refl, refl), refl),
                              refl,
                            ),
                          ),
                        ),
                      ),
                    ),
                  ),
                ),
              ),
            ),
          ),
        ),
      ),
    ),
  ),
)

-- ---- a job that has the first surface as its target, and was begun by another caller at place 0

abbrev begun : State
begun = record start {
  notes = record { place = 0; caller = 0 ∷ []; target = 1; outcome = outcome.Ok; number = 0 } ∷ [];
  items = 1;
}

-- its bytes can't be had yet, and a tick that would show it waits
bytes_wait : Waits begun (call.OutputGetBits 1073741825 1024)
unfolding found_from
bytes_wait = refl

other_bytes_do_not : Waits begun (call.OutputGetBits 1073741826 1024) → ⊥
unfolding found_from
other_bytes_do_not waits = let e : false ≡ true = waits in absurd cc

-- a display is answered at once, a wish for the surface holds once the job has ended, and only its own caller can end it
abbrev ended : List Item
ended =
    display 1073741825 10
    ∷ says (call.Poll (wish.OutputHome 1073741825 ∷ [])) (Ok (Holds None))
    ∷ says (call.Poll (wish.OutputHome 1073741825 ∷ wish.OutputHome 1073741826 ∷ [])) (Ok (Holds (Some 1)))
    ∷ Ended (record { caller = 0 ∷ []; place = 0 })
    ∷ says (call.Poll (wish.OutputHome 1073741825 ∷ [])) (Ok (Holds (Some 0)))
    ∷ tick 10 (flip 1073741825 10 7 ∷ [])
    ∷ []

ended_is_legal : (end : State) × Leads begun ended end
unfolding Leads found_from changed_at all_shown first_wish_from
ended_is_legal = (
  _,
  (
    _,
    (_, inr (refl, refl), refl),
    (
      _,
      (_, inr (refl, refl), refl),
      (
        _,
        (_, inr (refl, refl), refl),
        (
          _,
          (refl, refl),
          (
            _,
            (_, inr (refl, refl), refl),
            (
              _,
              (_, inr (refl, refl, refl), refl),
              refl,
            ),
          ),
        ),
      ),
    ),
  ),
)

others_cannot_end : (end : State) → Happens begun (Ended (record { caller = []; place = 0 })) end → ⊥
others_cannot_end end happens = let e : false ≡ true = happens.0 in absurd cc

-- the least number that no other has
numbers_are_reused : free_number (0 ∷ 2 ∷ 1 ∷ 4 ∷ []) ≡ 3
unfolding free_number_from
numbers_are_reused = refl
