-- What the slots of an output carry, and what of it is on one PID. Slot s is packet number s of the bytes.
use Rattle.std.specs.Prelude.{◌≡◌, ℕ, zero, suc, ◌+◌, ◌%◌, ◌^◌, ◌<◌, ◌≤◌, ◌==◌, true, false, cond, List, [], ◌∷◌, ◌++◌, length, Option, Some, None, ⊤}
use Rattle.clock27.specs.Reference.{Reference}
use Rattle.ts_packet.specs.declared.start.Start.{Start}
use Rattle.ts_packet.specs.Views.{PacketView}
use Rattle.ts_packet.specs.Beginnings.{room_of, start_in}
use Rattle.ts_packet.specs.Syntax.{ReferenceFits}
use Rattle.ts_packet.specs.Packets.{payload_view, payload_packet, pcr_view, pcr_packet, null_view, null_packet}
use Rattle.ts_packet.specs.PidList.{Entry, is_of_pid, payload_of}

-- what a slot carries: a payload (its PID, its number there from 0, what begins at its first byte, and its bytes), a program clock
-- reference on a PID, or nothing
pub data Content : Type 0 where
  PayloadContent : ℕ → ℕ → Start → List ℕ → Content
  PcrContent : ℕ → Reference → Content
  NullContent : Content

-- its packet: the continuity_counter is the payload's number modulo 16 (ISO/IEC 13818-1, 2.4.3.3)
unfoldable pub packet_of : Content → List ℕ
packet_of (PayloadContent pid number start payload) = payload_packet pid start (number % 16) payload
packet_of (PcrContent pid pcr) = pcr_packet pid pcr
packet_of NullContent = null_packet

-- the content of the packet
unfoldable pub view_of : Content → PacketView
view_of (PayloadContent pid number start payload) = payload_view pid start (number % 16) payload
view_of (PcrContent pid pcr) = pcr_view pid pcr
view_of NullContent = null_view

-- it can be a packet
abbrev pub ContentFits : Content → Type 0
ContentFits (PayloadContent pid number start payload) = (pid < 2 ^ 13) × (0 < length payload) × (length payload ≤ room_of start)
ContentFits (PcrContent pid pcr) = (pid < 2 ^ 13) × ReferenceFits pcr
ContentFits NullContent = ⊤

-- the bytes of the next n slots from slot s on
unfoldable pub run_bytes : (ℕ → Content) → ℕ → ℕ → List ℕ
run_bytes content s zero = []
run_bytes content s (suc n) = packet_of (content s) ++ run_bytes content (suc s) n

-- the packet of a slot, as it is found in the bytes
abbrev pub entry_at : ℕ → Content → Entry
entry_at s c = record { index = s; bytes = packet_of c; packet = view_of c }

-- the packets of a PID in the next n slots from slot s on
unfoldable pub entries_in : ℕ → (ℕ → Content) → ℕ → ℕ → List Entry
entries_in pid content s zero = []
entries_in pid content s (suc n) =
    cond (is_of_pid pid (view_of (content s))) (entry_at s (content s) ∷ entries_in pid content (suc s) n) (entries_in pid content (suc s) n)

-- a payload in a packet: the packet's index, what begins at its first byte, and its bytes
pub record Payload : Type 0 where
  pub index : ℕ
  pub start : Start
  pub bytes : List ℕ

-- the payload on this PID in slot s, if there is one
abbrev pub payload_in : ℕ → ℕ → Content → List Payload
payload_in pid s (PayloadContent other number start payload) = cond (other == pid) (record { index = s; start = start; bytes = payload } ∷ []) []
payload_in pid s (PcrContent other pcr) = []
payload_in pid s NullContent = []

-- the payloads on a PID in the next n slots from slot s on
unfoldable pub payloads_in : ℕ → (ℕ → Content) → ℕ → ℕ → List Payload
payloads_in pid content s zero = []
payloads_in pid content s (suc n) = payload_in pid s (content s) ++ payloads_in pid content (suc s) n

-- payloads on a PID are numbered on from this number, and nothing else is on the PID
abbrev pub NumberedBy : ℕ → Content → ℕ → (ℕ → Type 0) → Type 0
NumberedBy pid (PayloadContent other n start payload) number rest =
    ((other == pid) ≡ true → (n ≡ number) × rest (number + 1)) × ((other == pid) ≡ false → rest number)
NumberedBy pid (PcrContent other pcr) number rest = ((other == pid) ≡ false) × rest number
NumberedBy pid NullContent number rest = rest number

unfoldable pub Numbered : ℕ → (ℕ → Content) → ℕ → ℕ → ℕ → Type 0
Numbered pid content s zero number = ⊤
Numbered pid content s (suc n) number = NumberedBy pid (content s) number (Numbered pid content (suc s) n)

-- a count of the payloads on a PID before each of the first n slots
pub record PayloadCount (pid n : ℕ) (content : ℕ → Content) (count : ℕ → ℕ) : Type 0 where
  pub none : count 0 ≡ 0
  pub more : (s : ℕ) → s < n → count (suc s) ≡ count s + length (payload_in pid s (content s))

-- a payload on this PID has this number, and no program clock reference is on it
abbrev pub HasNumber : ℕ → Content → ℕ → Type 0
HasNumber pid (PayloadContent other n start payload) number = (other == pid) ≡ true → n ≡ number
HasNumber pid (PcrContent other pcr) number = (other == pid) ≡ false
HasNumber pid NullContent number = ⊤

-- the packets of payloads on a PID, in order: the first has this number on the PID, and each next packet the next number
abbrev pub payload_entry : ℕ → ℕ → Payload → Entry
payload_entry pid number p = entry_at p.index (PayloadContent pid number p.start p.bytes)

unfoldable pub payload_entries : ℕ → ℕ → List Payload → List Entry
payload_entries pid number [] = []
payload_entries pid number (p ∷ ps) = payload_entry pid number p ∷ payload_entries pid (number + 1) ps

-- a packet as a payload: its index, what begins with it and its payload's bytes
abbrev pub payload_at : Entry → Payload
payload_at entry = record { index = entry.index; start = start_in entry.packet; bytes = payload_of entry.packet }

-- a payload before it is put into a packet: what begins at its first byte, and its bytes
pub record Piece : Type 0 where
  pub start : Start
  pub bytes : List ℕ

-- put into the packet of slot s, if there is one
abbrev pub put : ℕ → Option Piece → List Payload
put s None = []
put s (Some piece) = record { index = s; start = piece.start; bytes = piece.bytes } ∷ []
