-- What is sent on one PID: PES packets, or sections with their pointer_field, in order, each cut into payloads of 184 bytes (182 for the first
-- payload if a decoder may begin with it), and the packets that carry these payloads.
use Rattle.std.specs.Prelude.{ℕ, zero, suc, Bool, true, false, List, [], ◌∷◌, ◌++◌, take, drop}
use Rattle.std.specs.Simd.{first_chunks}
use Rattle.ts_packet.specs.declared.start.Start.{Start}
use Rattle.ts_packet.specs.declared.start.Start.TheVariants.{Continues, Begins, Access}
use Rattle.ts_packet.specs.Beginnings.{room_of}
use Rattle.slot_contents.specs.Contents.{Payload, Piece}
use Rattle.unit_queue.specs.Payloads.{marked}
use Rattle.pid_findings.specs.Views.{PidFinding}

-- the bytes of the first payloads of a PES packet or section: 184 each, or 182 the first, the last one the rest
unfoldable pub access_chunks : ℕ → List ℕ → List (List ℕ)
access_chunks zero bytes = []
access_chunks (suc count) bytes = take 182 bytes ∷ first_chunks 184 count (drop 182 bytes)

abbrev pub start_chunks : Start → ℕ → List ℕ → List (List ℕ)
start_chunks Continues count bytes = first_chunks 184 count bytes
start_chunks Begins count bytes = first_chunks 184 count bytes
start_chunks Access count bytes = access_chunks count bytes

-- the first payloads; it begins in the first
abbrev pub first_pieces : Start → ℕ → List ℕ → List Piece
first_pieces start count bytes = marked start (start_chunks start count bytes)

-- a PES packet or section in these packets, until there are no more packets: 184 bytes each, or 182 the first, the last one the rest; it begins in
-- the first
unfoldable pub cut : Start → List ℕ → List ℕ → List Payload
cut start bytes [] = []
cut start bytes (i ∷ is) = record { index = i; start = start; bytes = take (room_of start) bytes } ∷ cut Continues (drop (room_of start) bytes) is

-- something that is sent, and the indices of the packets that carry it, as far as it is sent
pub record Sending (X : Type 0) : Type 0 where
  pub item : X
  pub packets : List ℕ

-- each item has the packets that it needs, in order, until there are no more packets: only the last item with packets can have fewer
unfoldable pub sendings : {X : Type 0} → (X → ℕ) → List X → List ℕ → List (Sending X)
sendings count [] packets = []
sendings count (x ∷ xs) packets = record { item = x; packets = take (count x) packets } ∷ sendings count xs (drop (count x) packets)

-- where an open unit ends: at the packet in which the next begins, or with the stream, after its last packet
pub record Ending : Type 0 where
  pub packet : ℕ
  pub open_ended : Bool

unfoldable pub begin_or : Ending → List ℕ → Ending
begin_or e [] = e
begin_or e (i ∷ is) = record { packet = i; open_ended = false }

-- where the first of these items begins, in a stream of `count` packets
unfoldable pub next_of : {X : Type 0} → ℕ → List (Sending X) → Ending
next_of count [] = record { packet = count; open_ended = true }
next_of count (x ∷ xs) = begin_or (next_of count xs) x.packets

-- the finding of one item that is sent in these packets; nothing if there are none
unfoldable pub if_sent : (ℕ → List ℕ → PidFinding) → List ℕ → List PidFinding
if_sent found [] = []
if_sent found (i ∷ is) = found i is ∷ []

-- one finding each, in order, in a stream of `count` packets
unfoldable pub each_found : {X : Type 0} → (Ending → X → ℕ → List ℕ → PidFinding) → ℕ → List (Sending X) → List PidFinding
each_found found count [] = []
each_found found count (x ∷ xs) = if_sent (found (next_of count xs) x.item) x.packets ++ each_found found count xs

-- the last of these packets
abbrev pub last_of : ℕ → List ℕ → ℕ
last_of i [] = i
last_of i (j ∷ is) = last_of j is

-- there are no further ones
abbrev pub is_none : List ℕ → Bool
is_none [] = true
is_none (i ∷ is) = false
