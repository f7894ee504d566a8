-- What follows from the definitions.
use Rattle.std.specs.Prelude.{◌≡◌, ◌≢◌, ◌↔◌, ℕ, ◌+◌, Bool, true, false, not, List, [], ◌∷◌, ◌++◌, length, count_by, map, filter_map, AllPairs, slice_get, Some, Err, ⊤}
use Rattle.std.specs.List.{AllByRecursion}
use Rattle.cb_types.specs.AcceptedInfo.{takes_weights}
use Rattle.cb_types.specs.SizeMbs.{IsWithinLimits}
use Rattle.cb_types.specs.declared.size.SizeMbs.{SizeMbs}
use Rattle.device_lock.specs.Numbers.{items_of}
use Rattle.handle_table.specs.Name.{kind_of}
use Rattle.present_queue.specs.Queue.{Names, Queue}
use Rattle.vd_status.specs.declared.refusal.Refusal.{Refusal}
use Rattle.vd_status.specs.declared.refusal.Refusal.TheVariants.{Bitstream, Incomplete, OutOfMemory}
use Rattle.driver_model.specs.Answers.{Reply}
use Rattle.driver_model.specs.Ends.{IsReplyOfJob}
use Rattle.driver_model.specs.Histories.{Happens, IsLegal, IsStateOf}
use Rattle.driver_model.specs.Jobs.{reply_of}
use Rattle.driver_model.specs.Kept.{is_in_queue}
use Rattle.driver_model.specs.Objects.{Content, VideoObject, OutputObject, DecoderObject, MixerObject}
use Rattle.driver_model.specs.Notes.{IsOfEntry, is_ended}
use Rattle.driver_model.specs.Parts.{NamesOneDevice, given_by, is_among, is_creation, names_of, part, part_of_front}
use Rattle.driver_model.specs.Passes.{AreAtRest, begins_job, caller_of, ends_job, is_job}
use Rattle.driver_model.specs.Presented.{is_idle_at, queues_of}
use Rattle.driver_model.specs.SameDevice.{IsAlike}
use Rattle.driver_model.specs.Sized.{AreSized, HaveWholeMatrices, SetsWholeMatrices}
use Rattle.driver_model.specs.Sizes.{is_within_limits}
use Rattle.driver_model.specs.Sound.{AreSound}
use Rattle.driver_model.specs.States.{State, has_note}
use Rattle.driver_model.specs.Steps.{Step}
use Rattle.driver_model.specs.Waits.{Waits}
use Rattle.driver_model.specs.declared.calls.Call.{Call}
use Rattle.driver_model.specs.declared.items.Entry.{Entry}
use Rattle.driver_model.specs.declared.items.Item.{Item}
use Rattle.driver_model.specs.declared.items.Item.TheVariants.{Called, Ended}
use Rattle.driver_model.specs.declared.items.Mark.{Mark}
use Rattle.driver_model.specs.declared.numbers.TheConstants.{DEVICE, WEIGHTED_BASELINE}

-- The size of an object that has one is within the limits.
abbrev pub HasSize : Content → Type 0
HasSize (VideoObject surface) = IsWithinLimits surface.size
HasSize (OutputObject surface) = IsWithinLimits surface.size
HasSize (DecoderObject decoder) = IsWithinLimits decoder.size
HasSize (MixerObject mixer) = IsWithinLimits mixer.size
HasSize _ = ⊤

abbrev pub HasSizes : State → Type 0
HasSizes s = AllByRecursion (λ object. HasSize object.content) s.objects

-- The state behind a step is settled by the state before it, the caller, the call and the reply.
abbrev pub StepsLeaveOneState : Type 0
StepsLeaveOneState =
    (old new other : State) (caller : List ℕ) (call : Call) (reply : Reply)
    → HasSizes old → Step old caller call reply new → Step old caller call reply other → new ≡ other

-- A history leads to one state at most, and each object there that has a size has one within the limits.
abbrev pub HistoriesLeadToOneState : Type 0
HistoriesLeadToOneState = (history : List Item) (s t : State) → IsStateOf history s → IsStateOf history t → s ≡ t

abbrev pub HistoriesHaveSizes : Type 0
HistoriesHaveSizes = (history : List Item) (s : State) → IsStateOf history s → HasSizes s

-- The names of all objects are those that the history gave, in the order in which it gave them, and no two are equal.
abbrev pub NamesAreGiven : Type 0
NamesAreGiven =
    (history : List Item) (s : State) → IsStateOf history s → map (λ object. object.name) s.objects ≡ filter_map given_by history

abbrev pub NamesAreGivenOnce : Type 0
NamesAreGivenOnce = (history : List Item) → IsLegal history → AllPairs (λ a b. a ≢ b) (filter_map given_by history)

-- The refusals of a render that was begun: its bitstream is at fault.
abbrev pub is_of_bitstream : Refusal → Bool
is_of_bitstream (Bitstream slice) = true
is_of_bitstream (Incomplete macroblocks) = true
is_of_bitstream _ = false

-- Every other refusal leaves the state as it was.
abbrev pub RefusalsLeaveTheState : Type 0
RefusalsLeaveTheState =
    (old new : State) (caller : List ℕ) (call : Call) (refusal : Refusal)
    → is_of_bitstream refusal ≡ false → Step old caller call (Err refusal) new → new ≡ old

-- A call has one refusal at most in a state, beside want of memory.
abbrev pub RefusalsAreOne : Type 0
RefusalsAreOne =
    (old new other : State) (caller : List ℕ) (call : Call) (a b : Refusal)
    → HasSizes old
    → a ≢ OutOfMemory
    → b ≢ OutOfMemory
    → Step old caller call (Err a) new
    → Step old caller call (Err b) other
    → a ≡ b

-- A call that waits has no reply but want of memory.
abbrev pub WaitingCallsAreNotAnswered : Type 0
WaitingCallsAreNotAnswered =
    (old new : State) (caller : List ℕ) (call : Call) (reply : Reply)
    → Waits old call → Step old caller call reply new → reply ≡ Err OutOfMemory

-- A surface is idle exactly where no queue has an entry of it or shows it.
abbrev pub IdleSurfacesAreNotNamed : Type 0
IdleSurfacesAreNotNamed =
    (s : State) (surface : ℕ)
    → (is_idle_at s surface ≡ true)
    ↔ ((place : ℕ) (queue : Queue ℕ) → slice_get (queues_of s) place ≡ Some queue → Names queue surface → ⊥)

-- In the state of a legal history the live queues alone decide that, since a destroyed one names nothing.
abbrev pub LiveQueuesDecide : Type 0
LiveQueuesDecide =
    (history : List Item) (s : State) → IsStateOf history s → (surface : ℕ) → is_in_queue s surface ≡ not (is_idle_at s surface)

-- In the state of a legal history each queue is sound: it names output surfaces of its own device, and none once it is destroyed.
abbrev pub QueuesAreSound : Type 0
QueuesAreSound = (history : List Item) (s : State) → IsStateOf history s → AreSound s.objects

-- Each front of a legal history is legal.
abbrev pub FrontsAreLegal : Type 0
FrontsAreLegal = (front rest : List Item) → IsLegal (front ++ rest) → IsLegal front

-- A history goes on with any item that can happen in the state to which it leads.
abbrev pub HistoriesGoOn : Type 0
HistoriesGoOn =
    (history : List Item) (s t : State) (item : Item) → IsStateOf history s → Happens s item t → IsStateOf (history ++ item ∷ []) t

-- The limits of sizes, as the creates look at them, are those within which pictures are decoded.
abbrev pub LimitsAreOne : Type 0
LimitsAreOne = (size : SizeMbs) → (is_within_limits size ≡ true) ↔ IsWithinLimits size

-- Of all profiles it is this one whose infos may have weighted_pred_flag (H.264, 7.4.2.2).
abbrev pub OneProfileTakesWeights : Type 0
OneProfileTakesWeights = (profile : ℕ) → (takes_weights profile ≡ true) ↔ (profile ≡ WEIGHTED_BASELINE)

-- Each call of the history that is about the device names objects of that device alone.
abbrev pub CallsNameOneDevice : List Item → ℕ → Type 0
CallsNameOneDevice history device = (place : ℕ) (entry : Entry) → slice_get history place ≡ Some (Called entry) → NamesOneDevice history device entry

-- Where that is so in a legal history, what is about the device, which is a name of this kind, is a legal history by itself.
abbrev pub PartsAreLegal : Type 0
PartsAreLegal =
    (history : List Item) (device : ℕ)
    → IsLegal history
    → kind_of device ≡ DEVICE
    → CallsNameOneDevice history device
    → IsLegal (part history device)

-- What the part has of a front of the history is a front of the part.
abbrev pub PartsBeginAlike : Type 0
PartsBeginAlike =
    (front rest : List Item) (device : ℕ)
    → (others : List Item) × (part (front ++ rest) device ≡ part_of_front (front ++ rest) device front ++ others)

-- At each moment of the history, the state to which the part has led has the device and its objects as the whole's state has them.
abbrev pub PartsHaveTheDevice : Type 0
PartsHaveTheDevice =
    (front rest : List Item) (device : ℕ) (s t : State)
    → IsLegal (front ++ rest)
    → kind_of device ≡ DEVICE
    → CallsNameOneDevice (front ++ rest) device
    → IsStateOf front s
    → IsStateOf (part_of_front (front ++ rest) device front) t
    → (name : ℕ)
    → is_among (names_of (front ++ rest) device) name ≡ true
    → IsAlike s t name

-- The name that a device is given in a legal history is one of this kind.
abbrev pub DevicesHaveTheirKind : Type 0
DevicesHaveTheirKind =
    (history : List Item) (place device : ℕ) (entry : Entry)
    → IsLegal history
    → slice_get history place ≡ Some (Called entry)
    → is_creation device entry.call entry.reply ≡ true
    → kind_of device ≡ DEVICE

-- In the state of a legal history each note is that of an entry there which began a job that hasn't ended.
abbrev pub NotesAreOfEntries : Type 0
NotesAreOfEntries = (history : List Item) (s : State) → IsStateOf history s → AllByRecursion (IsOfEntry history s) s.notes

-- Each entry that began a job which hasn't ended has its note.
abbrev pub RunningJobsAreNoted : Type 0
RunningJobsAreNoted =
    (history : List Item) (s : State) (place : ℕ) (entry : Entry)
    → IsStateOf history s
    → slice_get history place ≡ Some (Called entry)
    → begins_job (Called entry) ≡ true
    → is_ended history entry.caller place ≡ false
    → has_note s entry.caller place ≡ true

-- No two notes are of one entry, nor have two one number.
abbrev pub NotesAreApart : Type 0
NotesAreApart =
    (history : List Item) (s : State)
    → IsStateOf history s
    → AllPairs (λ a b. a ≢ b) (map (λ note. note.place) s.notes) × AllPairs (λ a b. a ≢ b) (map (λ note. note.number) s.notes)

-- Each mark of a legal history ends a job that its caller began before it and that had not ended.
abbrev pub MarksEndJobs : Type 0
MarksEndJobs =
    (front rest : List Item) (mark : Mark)
    → IsLegal (front ++ Ended mark ∷ rest)
    → ((reply : Reply) × IsReplyOfJob front mark.place mark.caller reply) × (is_ended front mark.caller mark.place ≡ false)

-- A note keeps what its job's end will answer.
abbrev pub NotesKeepReplies : Type 0
NotesKeepReplies =
    (history : List Item) (s : State)
    → IsStateOf history s
    → AllByRecursion (λ note. IsReplyOfJob history note.place note.caller (reply_of note.outcome)) s.notes

-- A job's end has one answer, in what its caller has seen and in whatever begins with that.
abbrev pub JobsHaveOneReply : Type 0
JobsHaveOneReply =
    (seen more : List Item) (place : ℕ) (caller other : List ℕ) (a b : Reply)
    → IsReplyOfJob seen place caller a
    → IsReplyOfJob (seen ++ more) place other b
    → (caller ≡ other) × (a ≡ b)

-- A job runs, as its note says, while its caller has no item behind the job's beginning.
abbrev pub LastJobsRun : Type 0
LastJobsRun =
    (front later : List Item) (entry : Entry) (s : State)
    → IsStateOf (front ++ Called entry ∷ later) s
    → begins_job (Called entry) ≡ true
    → items_of caller_of entry.caller (front ++ Called entry ∷ later) ≡ items_of caller_of entry.caller (front ++ Called entry ∷ [])
    → has_note s entry.caller (length front) ≡ true

-- So its caller may end it then.
abbrev pub LastJobsMayEnd : Type 0
LastJobsMayEnd =
    (front later : List Item) (entry : Entry)
    → IsLegal (front ++ Called entry ∷ later)
    → begins_job (Called entry) ≡ true
    → items_of caller_of entry.caller (front ++ Called entry ∷ later) ≡ items_of caller_of entry.caller (front ++ Called entry ∷ [])
    → IsLegal ((front ++ Called entry ∷ later) ++ Ended (record { caller = entry.caller; place = length front }) ∷ [])

-- A call that leaves the state as it was, as a begin does that is refused, leaves the items of its caller at rest.
abbrev pub RefusedBeginsRest : Type 0
RefusedBeginsRest =
    (s : State) (entry : Entry) (own : List Item)
    → Step s entry.caller entry.call entry.reply s
    → AreAtRest own
    → AreAtRest (own ++ Called entry ∷ [])

-- So does a call that is no job.
abbrev pub OtherCallsRest : Type 0
OtherCallsRest =
    (entry : Entry) (own : List Item) → is_job entry.call ≡ false → AreAtRest own → AreAtRest (own ++ Called entry ∷ [])

-- A job that was begun leaves one open, and when it has ended none.
abbrev pub JobsAreOpen : Type 0
JobsAreOpen =
    (entry : Entry) (own : List Item)
    → begins_job (Called entry) ≡ true
    → AreAtRest own
    → count_by begins_job (own ++ Called entry ∷ []) ≡ count_by ends_job (own ++ Called entry ∷ []) + 1

abbrev pub EndedJobsRest : Type 0
EndedJobsRest =
    (mark : Mark) (own : List Item) → count_by begins_job own ≡ count_by ends_job own + 1 → AreAtRest (own ++ Ended mark ∷ [])

-- In the state of a legal history the objects have what their sizes and kinds say.
abbrev pub ObjectsAreSized : Type 0
ObjectsAreSized = (history : List Item) (s : State) → IsStateOf history s → AreSized s.objects

-- Where each call that sets a matrix gives a whole one, each mixer has a whole one.
abbrev pub MatricesAreWhole : Type 0
MatricesAreWhole = (history : List Item) (s : State) → IsStateOf history s → SetsWholeMatrices history → HaveWholeMatrices s.objects
