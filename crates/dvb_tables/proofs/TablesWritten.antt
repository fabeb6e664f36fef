-- The bytes that are written for a table are the table, and are read back.
use Rattle.std.proofs.Common.{◌≡◌, ℕ, ◌+◌, ◌*◌, ◌/◌, ◌%◌, ◌^◌, ◌<◌, ◌==◌, Bool, true, false, cond, refl, subst, eqb-true, arith, List, [], ◌∷◌, ◌++◌, length}
use Rattle.std.proofs.Common.{lit<, append_assoc}
use Rattle.psi_tables.specs.Loops.{IsEntry, descriptors_length}
use Rattle.psi_tables.proofs.TableForms.{HasHeader, table_header_at-read}
use Rattle.dvb_tables.specs.Laws.{TimesAreDigits, TextsAreDecoded, NitFits, NitIsRead, SdtFits, SdtIsRead, EitFits, EitIsRead, TdtIsRead}
use Rattle.dvb_tables.specs.CharacterCoding.{is_plain, is_plain_character, decoded}
use Rattle.dvb_tables.specs.Services.{services_bytes}
use Rattle.dvb_tables.specs.TransportStreams.{transport_streams_bytes}
use Rattle.dvb_tables.specs.EventEntries.{events_bytes}
use Rattle.dvb_tables.specs.NetworkInformation.{NitView, IsLoopLength, nit_at, nit_body, nit_section, loop_length_bytes}
use Rattle.dvb_tables.specs.ServiceDescription.{SdtView, sdt_at, sdt_body, sdt_section}
use Rattle.dvb_tables.specs.EventInformation.{EitView, eit_at, eit_body, eit_section, two_numbers}
use Rattle.dvb_tables.specs.TimeAndDate.{IsTdt, tdt_section}
use Rattle.dvb_tables.specs.declared.time_and_date.Tdt.{Tdt}
use Rattle.dvb_tables.proofs.BodyLengths.{nit_body_length}
use Rattle.dvb_tables.proofs.ServiceLoops.{services_written, services_again}
use Rattle.dvb_tables.proofs.TransportStreamLoops.{transport_streams_written, transport_streams_again}
use Rattle.dvb_tables.proofs.EventLoops.{events_written, events_again}
use Rattle.dvb_tables.proofs.SdtForms as Sdts
use Rattle.dvb_tables.proofs.EitForms as Eits
use Rattle.dvb_tables.proofs.NitForms as Nits
use Rattle.dvb_tables.proofs.TdtForms.{tdt_again}

pub times_are_digits : TimesAreDigits
times_are_digits moment = omega arith

-- A text of plain characters does not begin with 0x15.
unquoted : (t : Bool) (b : ℕ) (bytes : List ℕ) → (b == 0x15) ≡ t → is_plain (b ∷ bytes) ≡ true → cond t bytes (b ∷ bytes) ≡ b ∷ bytes
unfolding is_plain is_plain_character
unquoted false b bytes t e = refl
unquoted true b bytes t e =
    let no : is_plain (0x15 ∷ bytes) ≡ true = subst (λ (b : ℕ). is_plain (b ∷ bytes) ≡ true) (eqb-true b 0x15 t) e in
    absurd (cc no)

plain_decoded : (text : List ℕ) → is_plain text ≡ true → decoded text ≡ text
unfolding decoded
plain_decoded [] e = refl
plain_decoded (b ∷ bytes) e = unquoted (b == 0x15) b bytes refl e

coded : (b : Bool) (text : List ℕ) → (b ≡ true → decoded text ≡ text) → decoded (cond b text (0x15 ∷ text)) ≡ text
unfolding decoded
coded true text h = h refl
coded false text h = refl

pub texts_are_decoded : TextsAreDecoded
texts_are_decoded text = coded (is_plain text) text (plain_decoded text)

-- A service description table
pub sdt_written : (t : SdtView) → SdtFits t → SdtIsRead t
unfolding sdt_section sdt_body sdt_at
sdt_written t h =
    let header : HasHeader 0x42 1021 (sdt_section t) t.header = record { table_id = refl; long = refl; section_length = h.section_length } in
    let front : List ℕ = (t.original_network_id / 256) ∷ (t.original_network_id % 256) ∷ 0xFF ∷ [] in
    let id : t.original_network_id < 2 ^ 16 = h.original_network_id in
    let number_is : t.original_network_id / 256 * 256 + t.original_network_id % 256 ≡ t.original_network_id = omega arith in
    let read = table_header_at-read 0x42 1021 (sdt_section t) t.header header in
    record {
      writable = record { table_id = lit< tt; numbers = h.header; room = omega (arith, h.section_length) };
      table = record {
        table_id = refl;
        long = refl;
        section_length = h.section_length;
        front = front;
        loop = services_bytes t.services;
        is = refl;
        reserved = 0xFF;
        front_length = refl;
        spelled = omega (arith, id);
        original_network_id = id;
        eight_bits = lit< tt;
        services = services_written t.services h.services;
      };
      read = rw read (Sdts.body_read t (sdt_body t) front (services_bytes t.services) refl refl number_is (services_again t.services h.services));
    }

-- An event information table
pub eit_written : (t : EitView) → EitFits t → EitIsRead t
unfolding eit_section eit_body eit_at two_numbers
eit_written t h =
    let header : HasHeader 0x4E 4093 (eit_section t) t.header = record { table_id = refl; long = refl; section_length = h.section_length } in
    let front : List ℕ = (t.transport_stream_id / 256) ∷ (t.transport_stream_id % 256) ∷ (t.original_network_id / 256) ∷ (t.original_network_id % 256)
    ∷ t.segment_last_section_number ∷ t.last_table_id ∷ [] in
    let id = h.transport_stream_id in
    let network = h.original_network_id in
    let one : t.transport_stream_id / 256 * 256 + t.transport_stream_id % 256 ≡ t.transport_stream_id = omega arith in
    let two : t.original_network_id / 256 * 256 + t.original_network_id % 256 ≡ t.original_network_id = omega arith in
    let read = table_header_at-read 0x4E 4093 (eit_section t) t.header header in
    record {
      writable = record { table_id = lit< tt; numbers = h.header; room = h.section_length };
      table = record {
        table_id = refl;
        long = refl;
        section_length = h.section_length;
        front = front;
        loop = events_bytes t.events;
        is = refl;
        front_length = refl;
        spelled = omega (arith, id, network);
        transport_stream_id = id;
        original_network_id = network;
        segment_last_section_number = h.segment_last_section_number;
        last_table_id = h.last_table_id;
        events = events_written t.events h.events;
      };
      read = rw read (Eits.body_read t (eit_body t) front (events_bytes t.events) refl refl
          (record { transport_stream_id = one; original_network_id = two; segment_last_section_number = refl; last_table_id = refl })
          (events_again t.events h.events));
    }

count_written : (n : ℕ) → n < 2 ^ 12 → IsLoopLength (loop_length_bytes n) n
unfolding loop_length_bytes
count_written n h = record { len = refl; reserved = 15; spelled = omega arith; four_bits = lit< tt; twelve_bits = h }

count_entry : (rest : List ℕ) → length rest < 2 ^ 12 → IsEntry 2 (record { head = loop_length_bytes (length rest); descriptors = rest })
unfolding loop_length_bytes descriptors_length
count_entry rest h = record { head_length = refl; named = omega arith }

-- A network information table
pub nit_written : (t : NitView) → NitFits t → NitIsRead t
unfolding nit_section nit_body nit_at
nit_written t h =
    let header : HasHeader 0x40 1021 (nit_section t) t.header = record { table_id = refl; long = refl; section_length = h.section_length } in
    let loop : List ℕ = transport_streams_bytes t.transport_streams in
    let room = h.section_length in
    let size : length (nit_body t) ≡ 4 + length t.network_descriptors + length loop = nit_body_length t in
    let few : length t.network_descriptors < 2 ^ 12 = omega (arith, size, room) in
    let less : length loop < 2 ^ 12 = omega (arith, size, room) in
    let is : nit_body t ≡ (loop_length_bytes (length t.network_descriptors) ++ t.network_descriptors) ++ (loop_length_bytes (length loop) ++ loop) =
    append_assoc (loop_length_bytes (length t.network_descriptors) ++ t.network_descriptors) (loop_length_bytes (length loop)) loop in
    let read = table_header_at-read 0x40 1021 (nit_section t) t.header header in
    record {
      writable = record { table_id = lit< tt; numbers = h.header; room = omega (arith, room) };
      table = record {
        table_id = refl;
        long = refl;
        section_length = room;
        descriptors_head = loop_length_bytes (length t.network_descriptors);
        loop_head = loop_length_bytes (length loop);
        loop = loop;
        is = is;
        network_descriptors_length = count_written (length t.network_descriptors) few;
        transport_stream_loop_length = count_written (length loop) less;
        transport_streams = transport_streams_written t.transport_streams h.transport_streams;
      };
      read = rw read (Nits.body_read t (nit_body t) (loop_length_bytes (length t.network_descriptors)) (loop_length_bytes (length loop)) loop is
          (count_entry t.network_descriptors few) (count_entry loop less) (transport_streams_again t.transport_streams h.transport_streams));
    }

-- A time and date table
pub tdt_written : (t : Tdt) → length t.utc_time ≡ 5 → TdtIsRead t
unfolding tdt_section
tdt_written t h =
    let table : IsTdt (tdt_section t) t = record { table_id = refl; short = refl; utc_time = refl; section_length = h } in
    record { writable = record { table_id = lit< tt; numbers = tt; room = omega arith }; table = table; read = tdt_again (tdt_section t) t table }
