-- What a capture holds: packets, and bytes between them that are in no packet (packet_sync/specs/Slips and OtherPackets).
use Rattle.std.specs.Prelude.{ℕ, zero, suc, ◌+◌, ◌*◌, ◌/◌, nat_lt, if◌then◌else◌, List, [], ◌∷◌, ◌++◌, length, take, drop, slice_index, slice_range, Option}
use Rattle.std.specs.Prelude.{None, Some}
use Rattle.packet_sync.specs.declared.file_form.FileForm.{FileForm}
use Rattle.packet_sync.specs.OtherPackets.{front_of, other_packets, size_of}
use Rattle.packet_sync.specs.Slips.{slip_size}
use Rattle.packet_sync.specs.declared.packet_sizes.OtherPackets.{OtherPackets}
use Rattle.packet_sync.specs.declared.packet_sizes.OtherPackets.TheVariants.{Timed, Corrected}
use Rattle.packet_sync.specs.declared.slip.Slip.{Slip}
use Rattle.packet_sync.specs.FrontForms.{form_of}
use Rattle.capture.specs.declared.place.Place.{Place}

-- 1. A part

-- a packet, without or with a number before it; bytes that are in none; or that the packets are not of 188 bytes
pub data Part : Type 0 where
  IsPacket : List ℕ → Part
  IsStamped : ℕ → List ℕ → Part
  IsSlip : Slip → Part
  IsSize : OtherPackets → Part

-- before the first byte
abbrev pub first_place : Place
first_place = record { packet = 0; start = 0 }

-- after bytes that are packets of 188 bytes, and after bytes that are in none
abbrev pub after_packets : ℕ → Place → Place
after_packets size p = record { packet = p.packet + size / 188; start = p.start + size }

abbrev pub after_slip : ℕ → Place → Place
after_slip size p = record { packet = p.packet; start = p.start + size }

abbrev pub slip_at : ℕ → Place → Part
slip_at size p = IsSlip (record { packet = p.packet; start = p.start; size = size })

-- 2. The next part of the bytes from a place on

-- the part, the place after it, and the number of its bytes
pub record NextPart : Type 0 where
  pub part : Part
  pub place : Place
  pub size : ℕ

-- the next part among packets of 188 bytes: a packet, or bytes that are left out before the next step
unfoldable pub plain_next : Option ℕ → Place → List ℕ → NextPart
plain_next None p bs = record { part = IsPacket (take 188 bs); place = after_packets 188 p; size = 188 }
plain_next (Some size) p bs = record { part = slip_at size p; place = after_slip size p; size = size }

-- the 188 bytes of a packet among them
abbrev pub packet_in : OtherPackets → List ℕ → List ℕ
packet_in other bs = slice_range bs (front_of other) (front_of other + 188)

-- the four bytes before a packet, as a number
abbrev pub number_of : List ℕ → ℕ
number_of bs = slice_index bs 0 * 16777216 + slice_index bs 1 * 65536 + slice_index bs 2 * 256 + slice_index bs 3

abbrev pub head_in : List ℕ → ℕ
head_in bs = number_of (take 4 bs)

unfoldable pub packet_with : OtherPackets → ℕ → List ℕ → Part
packet_with Timed head bytes = IsStamped head bytes
packet_with Corrected head bytes = IsPacket bytes

abbrev pub part_in : OtherPackets → List ℕ → Part
part_in other bs = packet_with other (head_in bs) (packet_in other bs)

unfoldable pub next_of : Option OtherPackets → Place → List ℕ → NextPart
next_of None p bs = plain_next (slip_size bs 0) p bs
next_of (Some other) p bs = record { part = part_in other bs; place = p; size = size_of other }

unfoldable pub least_size : Option OtherPackets → ℕ
least_size None = 188
least_size (Some other) = size_of other

-- none if the bytes are too few for a packet
unfoldable pub next_part : Option OtherPackets → Place → List ℕ → Option NextPart
next_part other p bs = if nat_lt (length bs) (least_size other) then None else Some (next_of other p bs)

-- 3. All parts

-- the form of an input that is no transport stream, its parts, and the bytes after the last part
pub record Capture : Type 0 where
  pub form : FileForm
  pub parts : List Part
  pub rest : List ℕ

abbrev pub no_parts : FileForm → List ℕ → Capture
no_parts form bs = record { form = form; parts = []; rest = bs }

abbrev pub with_parts : List Part → Capture → Capture
with_parts parts c = record { form = c.form; parts = parts ++ c.parts; rest = c.rest }

-- the next part, and the parts after it, in at most n steps
unfoldable pub capture_then : Option NextPart → FileForm → List ℕ → (Place → List ℕ → Capture) → Capture
capture_then None form bs after = no_parts form bs
capture_then (Some next) form bs after = with_parts (next.part ∷ []) (after next.place (drop next.size bs))

unfoldable pub capture_in : ℕ → FileForm → Option OtherPackets → Place → List ℕ → Capture
capture_in zero form other p bs = no_parts form bs
capture_in (suc n) form other p bs = capture_then (next_part other p bs) form bs (capture_in n form other)

-- each part has a byte at least
abbrev pub capture_from : FileForm → Option OtherPackets → Place → List ℕ → Capture
capture_from form other p bs = capture_in (length bs) form other p bs

-- a part for packets of another size comes first
unfoldable pub size_parts : Option OtherPackets → List Part
size_parts None = []
size_parts (Some other) = IsSize other ∷ []

abbrev pub capture_at : Place → List ℕ → Capture
capture_at p bs = with_parts (size_parts (other_packets bs)) (capture_from (form_of bs) (other_packets bs) p bs)

abbrev pub capture_of : List ℕ → Capture
capture_of bs = capture_at first_place bs
