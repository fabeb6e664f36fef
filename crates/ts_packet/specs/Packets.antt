-- The packets that a multiplexer writes.
use Rattle.std.specs.Prelude.{ℕ, zero, suc, ◌+◌, ◌-◌, ◌%◌, List, [], ◌∷◌, ◌++◌, length, replicate, Bool, true, false, Option, Some, None}
use Rattle.clock27.specs.Reference.{Reference}
use Rattle.ts_packet.specs.declared.header.Header.{Header}
use Rattle.ts_packet.specs.Views.{FieldView, AdaptationView, NoFlags, WithFlags, PacketView}
use Rattle.ts_packet.specs.declared.start.Start.{Start}
use Rattle.ts_packet.specs.declared.start.Start.TheVariants.{Continues, Begins, Access}
use Rattle.ts_packet.specs.Beginnings.{is_start}
use Rattle.ts_packet.specs.Writing.{packet_bytes}

-- a header in the clear, of a packet without known faults
abbrev pub plain_header : ℕ → Bool → ℕ → Header
plain_header pid start counter = record {
  transport_error_indicator = false;
  payload_unit_start_indicator = start;
  transport_priority = false;
  pid = pid;
  transport_scrambling_control = 0;
  continuity_counter = counter;
}

-- an adaptation field with stuffing, and a program clock reference or none
abbrev pub plain_parts : Option Reference → ℕ → FieldView
plain_parts pcr stuffing = record {
  discontinuity_indicator = false;
  random_access_indicator = false;
  elementary_stream_priority_indicator = false;
  pcr = pcr;
  opcr = None;
  splice_countdown = None;
  private_data = None;
  extension = None;
  stuffing = replicate stuffing 0xFF;
}

-- an adaptation field of n bytes of stuffing: none, a field of length 0, or a field without optional parts
unfoldable pub stuffing_field : ℕ → Option AdaptationView
stuffing_field zero = None
stuffing_field (suc zero) = Some NoFlags
stuffing_field (suc (suc n)) = Some (WithFlags (plain_parts None n))

-- an adaptation field of n bytes with the random_access_indicator, two bytes or more
abbrev pub access_field : ℕ → AdaptationView
access_field n = WithFlags (record (plain_parts None (n - 2)) { random_access_indicator = true })

-- the adaptation field of n bytes before a payload, by what begins there
unfoldable pub field_of : Start → ℕ → Option AdaptationView
field_of Continues n = stuffing_field n
field_of Begins n = stuffing_field n
field_of Access n = Some (access_field n)

-- a packet of one payload of at most 184 bytes, after an adaptation field of stuffing where it is shorter; of at most 182
-- bytes where a decoder may begin with it, since the field then has flags that say so
abbrev pub payload_view : ℕ → Start → ℕ → List ℕ → PacketView
payload_view pid start counter payload = record {
  header = plain_header pid (is_start start) counter;
  adaptation = field_of start (184 - length payload);
  payload = Some payload;
}

unfoldable pub payload_packet : ℕ → Start → ℕ → List ℕ → List ℕ
payload_packet pid start counter payload = packet_bytes (payload_view pid start counter payload)

-- a packet of a PID that carries program clock references alone: no payload, and counter 15 in each
abbrev pub pcr_view : ℕ → Reference → PacketView
pcr_view pid pcr = record {
  header = plain_header pid false 15;
  adaptation = Some (WithFlags (plain_parts (Some pcr) 176));
  payload = None;
}

unfoldable pub pcr_packet : ℕ → Reference → List ℕ
pcr_packet pid pcr = packet_bytes (pcr_view pid pcr)

-- the null packet: PID 0x1FFF and a payload of 0xFF
abbrev pub null_view : PacketView
null_view = record {
  header = plain_header 0x1FFF false 0;
  adaptation = None;
  payload = Some (replicate 184 0xFF);
}

unfoldable pub null_packet : List ℕ
null_packet = packet_bytes null_view

-- the packets of pieces on one PID, in order: the first has this start and this number, and each next packet has the next number;
-- continuity_counter is the number modulo 16
unfoldable pub packets : ℕ → Start → ℕ → List (List ℕ) → List ℕ
packets pid start number [] = []
packets pid start number (piece ∷ pieces) = payload_packet pid start (number % 16) piece ++ packets pid Continues (number + 1) pieces

-- what these packets say
unfoldable pub payload_views : ℕ → Start → ℕ → List (List ℕ) → List PacketView
payload_views pid start number [] = []
payload_views pid start number (piece ∷ pieces) = payload_view pid start (number % 16) piece ∷ payload_views pid Continues (number + 1) pieces
