-- What the laws of this crate say.
use Rattle.std.specs.Prelude.{◌≡◌, ◌<◌, ℕ, suc, false, true, List, [], ◌∷◌, ◌++◌, None}
use Rattle.pes_packet.specs.AccessUnits.{AccessUnit}
use Rattle.slot_contents.specs.Contents.{Content, ContentFits, packet_of, run_bytes}
use Rattle.unit_queue.specs.OwnedStreams.{OwnedStream}
use Rattle.unit_queue.specs.Places.{stream_content}
use Rattle.unit_queue.specs.Causes.{unit_cause}
use Rattle.unit_queue.specs.Queues.{Queue, QueueHolds, ParametersInRange, Kept}
use Rattle.unit_queue.specs.QueueSteps.{empty_queue, queue_content, sent_in, state_cause, accepted}
use Rattle.unit_queue.specs.Payloads.{StreamCarried, StreamIsAlone}

-- a queue without units represents a stream that has accepted no unit
abbrev pub FirstLaw : Type 0
FirstLaw = (l : OwnedStream) (capacity : ℕ) → QueueHolds l 0 capacity [] (empty_queue l.parameters capacity)

-- in an own slot a queue gives the packet of the stream, and then represents one more slot
pub record StreamSlot (l : OwnedStream) (slots capacity : ℕ) (us : List AccessUnit) (q : Queue) : Type 0 where
  pub packet : packet_of (queue_content slots q) ≡ packet_of (stream_content l us slots)
  pub holds : QueueHolds l (suc slots) capacity us (sent_in slots q)

abbrev pub StreamSlotLaw : Type 0
StreamSlotLaw = (l : OwnedStream) (slots capacity : ℕ) (us : List AccessUnit) (q : Queue) → l.own slots ≡ true →
    QueueHolds l slots capacity us q → StreamSlot l slots capacity us q

-- a slot that is not the stream's own changes nothing that a queue represents
abbrev pub OtherStreamSlotLaw : Type 0
OtherStreamSlotLaw = (l : OwnedStream) (slots capacity : ℕ) (us : List AccessUnit) (q : Queue) → l.own slots ≡ false →
    QueueHolds l slots capacity us q → QueueHolds l (suc slots) capacity us q

-- a queue refuses a unit for the cause that its history gives
abbrev pub CauseLaw : Type 0
CauseLaw = (l : OwnedStream) (slots capacity : ℕ) (us : List AccessUnit) (q : Queue) (u : AccessUnit) → QueueHolds l slots capacity us q →
    state_cause slots q u ≡ unit_cause l slots capacity us u

-- with an accepted unit the queue represents one more unit
abbrev pub FedLaw : Type 0
FedLaw = (l : OwnedStream) (slots capacity : ℕ) (us : List AccessUnit) (q : Queue) (u : AccessUnit) → ParametersInRange l.parameters →
    unit_cause l slots capacity us u ≡ None →
    QueueHolds l slots capacity us q → QueueHolds l slots capacity (us ++ u ∷ []) (accepted q u)

-- a unit that is accepted changes nothing in the slots before
abbrev pub LaterUnitLaw : Type 0
LaterUnitLaw = (l : OwnedStream) (slots capacity : ℕ) (us : List AccessUnit) (u : AccessUnit) (t : ℕ) → unit_cause l slots capacity us u ≡ None →
    l.own t ≡ true → t < slots → stream_content l (us ++ u ∷ []) t ≡ stream_content l us t

-- accepted units stay within the declaration
abbrev pub KeptLaw : Type 0
KeptLaw = (l : OwnedStream) (slots capacity : ℕ) (us : List AccessUnit) (u : AccessUnit) → ParametersInRange l.parameters →
    unit_cause l slots capacity us u ≡ None →
    Kept l us → Kept l (us ++ u ∷ [])

-- the content of an own slot can be a packet
abbrev pub ContentLaw : Type 0
ContentLaw = (l : OwnedStream) (us : List AccessUnit) (t : ℕ) → ParametersInRange l.parameters → ContentFits (stream_content l us t)

-- what the finished bytes carry of a stream that is alone on its PID
abbrev pub CarriedLaw : Type 0
CarriedLaw = (l : OwnedStream) (us : List AccessUnit) (content : ℕ → Content) (n : ℕ) → StreamIsAlone l us content →
    StreamCarried l us n (run_bytes content 0 n)
