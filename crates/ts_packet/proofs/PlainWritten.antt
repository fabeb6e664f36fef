-- The packets that a multiplexer writes are valid and are read back.
use Rattle.std.proofs.Common.{◌≡◌, ℕ, zero, suc, ◌-◌, ◌^◌, ◌<◌, ◌≤◌, ◌+◌, Bool, false, length, replicate, All, Some, refl, ap, ◌∙◌, arith, lit<}
use Rattle.std.proofs.lemmas.List.{length-replicate}
use Rattle.std.proofs.lemmas.List.Elements.{All-replicate}
use Rattle.clock27.specs.Reference.{Reference}
use Rattle.ts_packet.specs.declared.start.Start.{Start}
use Rattle.ts_packet.specs.declared.start.Start.TheVariants.{Continues, Begins, Access}
use Rattle.ts_packet.specs.Views.{WithFlags}
use Rattle.ts_packet.specs.Beginnings.{is_start, has_access, room_of, start_by}
use Rattle.ts_packet.specs.Syntax.{HeaderFits}
use Rattle.ts_packet.specs.Writing.{optional_bytes, adaptation_bytes, reference_bytes, AdaptationFits}
use Rattle.ts_packet.specs.Packets.{plain_header, plain_parts, stuffing_field, field_of, payload_view, payload_packet, pcr_view, pcr_packet, null_view}
use Rattle.ts_packet.specs.Packets.{null_packet}
use Rattle.ts_packet.specs.Laws.{PayloadsAgain, StartAgain, WithoutAccess, PcrsAgain, NullAgain}
use Rattle.ts_packet.proofs.Filling.{stuffing_none, stuffing_one, stuffing_long, access_bytes, pcr_field_bytes}
use Rattle.ts_packet.proofs.Written.{packets_again}

all_stuffing : (n : ℕ) → All (λ (byte : ℕ). byte ≡ 0xFF) (replicate n 0xFF)
all_stuffing n = All-replicate (λ (byte : ℕ). byte ≡ 0xFF) n 0xFF refl

-- A field that fills n bytes has n bytes.
pub length-stuffing_field : (n : ℕ) → length (optional_bytes adaptation_bytes (stuffing_field n)) ≡ n
length-stuffing_field zero = ap (length {A = ℕ}) (stuffing_none zero refl)
length-stuffing_field (suc zero) = ap (length {A = ℕ}) (stuffing_one (suc zero) refl)
length-stuffing_field (suc (suc n)) =
    let size : length (replicate {A = ℕ} (suc (suc n) - 2) 0xFF) ≡ suc (suc n) - 2 = length-replicate (suc (suc n) - 2) 0xFF in
    ap (length {A = ℕ}) (stuffing_long (suc (suc n)) (omega arith)) ∙ omega arith

header_fits : (pid : ℕ) (start : Bool) (counter : ℕ) → pid < 2 ^ 13 → counter < 2 ^ 4 → HeaderFits (plain_header pid start counter)
header_fits pid start counter p c = record { pid = p; transport_scrambling_control = lit< tt; continuity_counter = c }

stuffing_fits : (n : ℕ) → AdaptationFits (stuffing_field n)
unfolding stuffing_field
stuffing_fits zero = tt
stuffing_fits (suc zero) = tt
stuffing_fits (suc (suc n)) = record { pcr = tt; opcr = tt; splice_countdown = tt; stuffing = all_stuffing n }

-- The field before a payload fills the packet.
pub length-field_of : (start : Start) (n : ℕ) → 184 ≤ n + room_of start → length (optional_bytes adaptation_bytes (field_of start n)) ≡ n
unfolding field_of
length-field_of Continues n room = length-stuffing_field n
length-field_of Begins n room = length-stuffing_field n
length-field_of Access n room =
    let size : length (replicate {A = ℕ} (n - 2) 0xFF) ≡ n - 2 = length-replicate (n - 2) 0xFF in
    ap (length {A = ℕ}) (access_bytes n (omega arith)) ∙ omega arith

field_fits : (start : Start) (n : ℕ) → AdaptationFits (field_of start n)
unfolding field_of
field_fits Continues n = stuffing_fits n
field_fits Begins n = stuffing_fits n
field_fits Access n = record { pcr = tt; opcr = tt; splice_countdown = tt; stuffing = all_stuffing (n - 2) }

pub room_most : (start : Start) → room_of start ≤ 184
room_most Continues = omega arith
room_most Begins = omega arith
room_most Access = omega arith

-- A payload and its field fill all bytes after the header.
all_filled : (start : Start) (n : ℕ) → n ≤ room_of start → 184 ≤ (184 - n) + room_of start
all_filled start n most = omega (arith, room_most start)

pub payloads_again : PayloadsAgain
unfolding payload_packet
payloads_again pid start counter payload p c some most =
    let field : length (optional_bytes adaptation_bytes (field_of start (184 - length payload))) ≡ 184 - length payload =
    length-field_of start (184 - length payload) (all_filled start (length payload) most) in
    packets_again (payload_view pid start counter payload) (record {
      header = header_fits pid (is_start start) counter p c;
      adaptation = field_fits start (184 - length payload);
      payload = some;
      size = omega (arith, room_most start);
    })

pub without_access : WithoutAccess
unfolding field_of
without_access Continues n none = refl
without_access Begins n none = refl
without_access Access n none = absurd (let no : ⊥ = cc in no)

-- A field of stuffing announces no random access.
stuffing_quiet : (n : ℕ) → has_access (stuffing_field n) ≡ false
unfolding stuffing_field
stuffing_quiet zero = refl
stuffing_quiet (suc zero) = refl
stuffing_quiet (suc (suc n)) = refl

starts_again : (start : Start) (n : ℕ) → start_by (is_start start) (has_access (field_of start n)) ≡ start
unfolding field_of
starts_again Continues n = refl
starts_again Begins n = rw (stuffing_quiet n) refl
starts_again Access n = refl

pub start_again : StartAgain
start_again pid start counter payload = starts_again start (184 - length payload)

length-pcr_field : (pcr : Reference) → length (optional_bytes adaptation_bytes (Some (WithFlags (plain_parts (Some pcr) 176)))) ≡ 184
unfolding reference_bytes
length-pcr_field pcr = ap (length {A = ℕ}) (pcr_field_bytes pcr)

pub pcrs_again : PcrsAgain
unfolding pcr_packet
pcrs_again pid pcr p fits =
    let field = length-pcr_field pcr in
    packets_again (pcr_view pid pcr) (record {
      header = header_fits pid _ 15 p (lit< tt);
      adaptation = record { pcr = fits; opcr = tt; splice_countdown = tt; stuffing = all_stuffing 176 };
      payload = tt;
      size = omega arith;
    })

pub null_again : NullAgain
unfolding null_packet
null_again =
    packets_again null_view (record {
      header = header_fits 0x1FFF _ 0 (lit< tt) (lit< tt);
      adaptation = tt;
      payload = lit< tt;
      size = refl;
    })
