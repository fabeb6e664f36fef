-- How often presentation time stamps come, of audio and video (ETSI TR 101 290, 5.2.2, 2.5; ISO/IEC 13818-1, 2.7.4 and table 2-22).
use Rattle.std.specs.Prelude.{ℕ, ◌-◌, ◌==◌, ◌&&◌, ◌||◌, nat_eq, nat_le, nat_lt, unwrap_or, Bool, true, false, if◌then◌else◌, List, [], Option, Some, None}
use Rattle.std.specs.Prelude.{Result, Ok, Err}
use Rattle.std.specs.Map.{lookup}
use Rattle.indexmap.specs.IndexMap.{insert_entry}
use Rattle.pes_packet.specs.Reading.{header_at}
use Rattle.pes_packet.specs.declared.reading.PesHeader.{PesHeader}
use Rattle.pes_packet.specs.declared.refusal.PesError.{PesError}
use Rattle.pes_packet.specs.declared.time_stamps.Stamps.{Stamps}
use Rattle.pes_packet.specs.declared.time_stamps.Stamps.TheVariants.{Absent, Pts, PtsDts}
use Rattle.ts_packet.specs.Views.{PacketView}
use Rattle.tr101290.specs.Intervals.{time_between}
use Rattle.tr101290.specs.declared.intervals.TableTiming.{TableTiming}
use Rattle.tr101290.specs.declared.stamps.PtsError.{PtsError}
use Rattle.tr101290.specs.declared.stamps.TheConstants.{GREATEST_PTS_INTERVAL}

-- 1. A PES packet of audio or video with a PTS. The tables may say whether the time stamps of a PID have to repeat; if they do not, its stream_id says.

abbrev pub is_timed_id : ℕ → Bool
is_timed_id id = (nat_le 0xC0 id && nat_le id 0xEF) || id == 0xFD

unfoldable pub is_stamped : Stamps → Bool
is_stamped Absent = false
is_stamped (Pts pts) = true
is_stamped (PtsDts pts dts) = true

unfoldable pub by_header : Option Bool → Result (PesHeader × ℕ) PesError → Bool
by_header said (Err error) = false
by_header said (Ok read) = unwrap_or said (is_timed_id read.0.id) && is_stamped read.0.stamps

unfoldable pub by_payload : Option Bool → Option (List ℕ) → Bool
by_payload said None = false
by_payload said (Some payload) = by_header said (header_at payload)

abbrev pub has_pts : Option Bool → PacketView → Bool
has_pts said packet = packet.header.payload_unit_start_indicator && by_payload said packet.payload

-- 2. Packet by packet: the place of the last PTS of each PID

pub record StampState : Type 0 where
  pub timing : TableTiming
  pub lasts : List (ℕ × ℕ)

abbrev pub no_stamp : TableTiming → StampState
no_stamp timing = record { timing = timing; lasts = [] }

abbrev pub taken : StampState → ℕ → Option Bool → PacketView → StampState
taken s place said packet = if has_pts said packet then record { timing = s.timing; lasts = insert_entry nat_eq s.lasts packet.header.pid place } else s

-- the time since the PTS before it, in ticks of 27 MHz, rounded up, if it is beyond 700 ms
abbrev pub apart : TableTiming → ℕ → ℕ → ℕ
apart timing place before = time_between timing (place - before)

unfoldable pub too_late : TableTiming → ℕ → ℕ → ℕ → Option ℕ → Option PtsError
too_late timing pid packet place None = None
too_late timing pid packet place (Some before) =
    if nat_lt GREATEST_PTS_INTERVAL (apart timing place before)
    then Some (record { pid = pid; packet = packet; value = apart timing place before; limit = GREATEST_PTS_INTERVAL }) else None

abbrev pub error_at : StampState → ℕ → ℕ → Option Bool → PacketView → Option PtsError
error_at s index place said packet =
    if has_pts said packet then too_late s.timing packet.header.pid index place (lookup (nat_eq packet.header.pid) s.lasts) else None
