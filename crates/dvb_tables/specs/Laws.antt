-- What the laws of this crate say.
use Rattle.std.specs.Prelude.{◌≡◌, ◌↔◌, ℕ, ◌+◌, ◌^◌, ◌<◌, ◌≤◌, ◌/◌, ◌%◌, List, [], ◌∷◌, length, All, Ok, IsTrue}
use Rattle.bit_fields.specs.Fields.{number, fields}
use Rattle.psi_tables.specs.Encoding.{LongFits, IsWritable}
use Rattle.dvb_tables.specs.CodedTimes.{utc_time_bytes}
use Rattle.dvb_tables.specs.CharacterCoding.{text_bytes, decoded}
use Rattle.dvb_tables.specs.DescriptorLoops.{AreDescriptors, are_whole_descriptors}
use Rattle.dvb_tables.specs.Fits.{ServiceFits, TransportStreamFits, EventFits}
use Rattle.dvb_tables.specs.NetworkInformation.{NitView, IsNit, nit_at, nit_body, nit_section}
use Rattle.dvb_tables.specs.ServiceDescription.{SdtView, IsSdt, sdt_at, sdt_body, sdt_section}
use Rattle.dvb_tables.specs.EventInformation.{EitView, IsEit, eit_at, eit_body, eit_section}
use Rattle.dvb_tables.specs.TimeAndDate.{IsTdt, tdt_at, tdt_section}
use Rattle.dvb_tables.specs.declared.time_and_date.Tdt.{Tdt}

-- UTC_time of a moment is the Modified Julian Date and the digits hhmmss of the time of the day
abbrev pub TimesAreDigits : Type 0
TimesAreDigits = (moment : ℕ) → let time = moment % 86400 in number (utc_time_bytes moment) ≡ fields (
    (16, (moment / 86400 + 40587) % 65536)
    ∷ (4, time / 36000) ∷ (4, time / 3600 % 10) ∷ (4, time / 600 % 6) ∷ (4, time / 60 % 10) ∷ (4, time / 10 % 6) ∷ (4, time % 10) ∷ [])

-- a text can be recovered from the bytes that it is coded as
abbrev pub TextsAreDecoded : Type 0
TextsAreDecoded = (text : List ℕ) → decoded (text_bytes text) ≡ text

-- the test of descriptors accepts exactly descriptors one after another
abbrev pub WholeDescriptors : Type 0
WholeDescriptors = (bytes : List ℕ) → IsTrue (are_whole_descriptors bytes) ↔ ((ds : List (ℕ × List ℕ)) × AreDescriptors bytes ds)

-- a network information table that can be written
pub record NitFits (t : NitView) : Type 0 where
  pub header : LongFits t.header
  pub transport_streams : All TransportStreamFits t.transport_streams
  pub section_length : 9 + length (nit_body t) ≤ 1021

-- its section can be written, has the same content, and is read again as it
pub record NitIsRead (t : NitView) : Type 0 where
  pub writable : IsWritable (nit_section t)
  pub table : IsNit (nit_section t) t
  pub read : nit_at (nit_section t) ≡ Ok t

abbrev pub NitsAreReadAgain : Type 0
NitsAreReadAgain = (t : NitView) → NitFits t → NitIsRead t

-- a service description table that can be written
pub record SdtFits (t : SdtView) : Type 0 where
  pub header : LongFits t.header
  pub original_network_id : t.original_network_id < 2 ^ 16
  pub services : All ServiceFits t.services
  pub section_length : 9 + length (sdt_body t) ≤ 1021

-- its section can be written, has the same content, and is read again as it
pub record SdtIsRead (t : SdtView) : Type 0 where
  pub writable : IsWritable (sdt_section t)
  pub table : IsSdt (sdt_section t) t
  pub read : sdt_at (sdt_section t) ≡ Ok t

abbrev pub SdtsAreReadAgain : Type 0
SdtsAreReadAgain = (t : SdtView) → SdtFits t → SdtIsRead t

-- an event information table that can be written
pub record EitFits (t : EitView) : Type 0 where
  pub header : LongFits t.header
  pub transport_stream_id : t.transport_stream_id < 2 ^ 16
  pub original_network_id : t.original_network_id < 2 ^ 16
  pub segment_last_section_number : t.segment_last_section_number < 2 ^ 8
  pub last_table_id : t.last_table_id < 2 ^ 8
  pub events : All EventFits t.events
  pub section_length : 9 + length (eit_body t) ≤ 4093

-- its section can be written, has the same content, and is read again as it
pub record EitIsRead (t : EitView) : Type 0 where
  pub writable : IsWritable (eit_section t)
  pub table : IsEit (eit_section t) t
  pub read : eit_at (eit_section t) ≡ Ok t

abbrev pub EitsAreReadAgain : Type 0
EitsAreReadAgain = (t : EitView) → EitFits t → EitIsRead t

-- the section of a time and date table can be written, has the same content, and is read again as it
pub record TdtIsRead (t : Tdt) : Type 0 where
  pub writable : IsWritable (tdt_section t)
  pub table : IsTdt (tdt_section t) t
  pub read : tdt_at (tdt_section t) ≡ Ok t

abbrev pub TdtsAreReadAgain : Type 0
TdtsAreReadAgain = (t : Tdt) → length t.utc_time ≡ 5 → TdtIsRead t
