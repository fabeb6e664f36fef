-- Reading a transport packet from its first byte on, with the first refusal (ISO/IEC 13818-1, 2.4.3.2 to 2.4.3.5).
use Rattle.std.specs.Prelude.{ℕ, ℤ, ◌+◌, ◌*◌, ◌/◌, ◌%◌, ◌==◌, nat_lt, List, [], ◌∷◌, length, take, drop, slice_index, Bool, true, false, Option, Some, None}
use Rattle.std.specs.Prelude.{Result, Ok, Err, if◌then◌else◌}
use Rattle.std.specs.Int.{cast_signed, w8}
use Rattle.bit_fields.specs.Fields.{flag}
use Rattle.bit_fields.specs.Reading.{◌>>=◌}
use Rattle.clock27.specs.Reference.{Reference}
use Rattle.ts_packet.specs.declared.header.Header.{Header}
use Rattle.ts_packet.specs.declared.packet.PacketError.{PacketError}
use Rattle.ts_packet.specs.declared.packet.PacketError.TheVariants.{Sync, ReservedControl, FieldTooLong, PartTooLong}
use Rattle.ts_packet.specs.Views.{FieldView, AdaptationView, NoFlags, WithFlags, PacketView}

-- a clock reference in six bytes: 33 bits, six that are not looked at, 9 bits
unfoldable pub reference_of : List ℕ → Reference
reference_of bytes = record {
  base = (((slice_index bytes 0 * 256 + slice_index bytes 1) * 256 + slice_index bytes 2) * 256 + slice_index bytes 3) * 2 + slice_index bytes 4 / 128;
  extension = slice_index bytes 4 % 2 * 256 + slice_index bytes 5;
}

-- a clock reference if its flag is set, and the bytes after it
unfoldable pub reference_at : Bool → List ℕ → Result (Option Reference × List ℕ) PacketError
reference_at false bytes = Ok (None, bytes)
reference_at true bytes = if nat_lt (length bytes) 6 then Err PartTooLong else Ok (Some (reference_of (take 6 bytes)), drop 6 bytes)

-- splice_countdown if its flag is set, and the bytes after it
unfoldable pub countdown_at : Bool → List ℕ → Result (Option ℤ × List ℕ) PacketError
countdown_at false bytes = Ok (None, bytes)
countdown_at true [] = Err PartTooLong
countdown_at true (byte ∷ bytes) = Ok (Some (cast_signed w8 byte), bytes)

-- a byte of length and that many bytes if the flag is set, and the bytes after them
unfoldable pub length_prefixed_at : Bool → List ℕ → Result (Option (List ℕ) × List ℕ) PacketError
length_prefixed_at false bytes = Ok (None, bytes)
length_prefixed_at true [] = Err PartTooLong
length_prefixed_at true (n ∷ bytes) = if nat_lt (length bytes) n then Err PartTooLong else Ok (Some (take n bytes), drop n bytes)

-- the parts that the flags announce, in their order; the rest is stuffing
unfoldable pub parts_at : ℕ → List ℕ → Result FieldView PacketError
parts_at flags bytes = do
  pcr ← reference_at (flag flags 16) bytes
  opcr ← reference_at (flag flags 8) pcr.1
  splice ← countdown_at (flag flags 4) opcr.1
  private ← length_prefixed_at (flag flags 2) splice.1
  extension ← length_prefixed_at (flag flags 1) private.1
  Ok (record {
    discontinuity_indicator = flag flags 128;
    random_access_indicator = flag flags 64;
    elementary_stream_priority_indicator = flag flags 32;
    pcr = pcr.0;
    opcr = opcr.0;
    splice_countdown = splice.0;
    private_data = private.0;
    extension = extension.0;
    stuffing = extension.1;
  })

-- an adaptation field after its length
unfoldable pub adaptation_at : List ℕ → Result AdaptationView PacketError
adaptation_at [] = Ok NoFlags
adaptation_at (flags ∷ bytes) = do
  parts ← parts_at flags bytes
  Ok (WithFlags parts)

-- an adaptation field of at most `most` bytes after its length, and the bytes after it
unfoldable pub field_at : ℕ → List ℕ → Result (AdaptationView × List ℕ) PacketError
field_at most [] = Err FieldTooLong
field_at most (n ∷ bytes) = if nat_lt most n then Err FieldTooLong else do
  adaptation ← adaptation_at (take n bytes)
  Ok (adaptation, drop n bytes)

-- what follows the header, by adaptation_field_control
unfoldable pub body_at : Header → ℕ → List ℕ → Result PacketView PacketError
body_at header control bytes =
    if control == 0 then Err ReservedControl
    else (if control == 1 then Ok (record { header = header; adaptation = None; payload = Some bytes })
    else (if control == 2 then (do
      field ← field_at 183 bytes
      Ok (record { header = header; adaptation = Some field.0; payload = None }))
    else (do
      field ← field_at 182 bytes
      Ok (record { header = header; adaptation = Some field.0; payload = Some field.1 }))))

-- the fields of the header but adaptation_field_control
unfoldable pub header_of : List ℕ → Header
header_of bytes = record {
  transport_error_indicator = flag (slice_index bytes 1) 128;
  payload_unit_start_indicator = flag (slice_index bytes 1) 64;
  transport_priority = flag (slice_index bytes 1) 32;
  pid = slice_index bytes 1 % 32 * 256 + slice_index bytes 2;
  transport_scrambling_control = slice_index bytes 3 / 64;
  continuity_counter = slice_index bytes 3 % 16;
}

-- a packet of 188 bytes
unfoldable pub packet_at : List ℕ → Result PacketView PacketError
packet_at bytes = if slice_index bytes 0 == 0x47 then body_at (header_of bytes) (slice_index bytes 3 / 16 % 4) (drop 4 bytes) else Err Sync
