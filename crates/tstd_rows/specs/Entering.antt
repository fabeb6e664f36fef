-- A packet enters the buffers of its stream: first its header and adaptation field, then its payload, where a unit may begin (ISO/IEC 13818-1, 2.4.2.3).
use Rattle.std.specs.Prelude.{ℕ, ◌+◌, ◌-◌, ◌*◌, ◌==◌, ◌&&◌, min, max, nat_le, nat_lt, Bool, true, false, if◌then◌else◌, List, [], ◌++◌, Option, Some, None}
use Rattle.std.specs.Option.{option_to_list}
use Rattle.arrival.specs.declared.arrival.Arrival.{Arrival}
use Rattle.arrival.specs.Arrivals.{has_times, lead_of, times_at}
use Rattle.tstd_rows.specs.declared.excess.Excess.{Excess}
use Rattle.tstd_rows.specs.History.{transport_of}
use Rattle.tstd_rows.specs.Limits.{last_bytes, last_index}
use Rattle.tstd_rows.specs.declared.unit_seen.UnitSeen.{UnitSeen}
use Rattle.tstd_rows.specs.declared.unit_seen.DueTime.{DueTime}
use Rattle.tstd_rows.specs.Held.{Held, begun, carried, main_ended, main_found, main_least_found, passed, transport_ended, transport_found, unit_before}
use Rattle.tstd_rows.specs.HeldVideo.{nothing_of_video}
use Rattle.tstd_rows.specs.declared.arriving.Arriving.{Arriving}
use Rattle.tstd_rows.specs.declared.arriving.UnitPart.{UnitPart}
use Rattle.tstd_rows.specs.declared.entered.Entered.{Entered}

-- the results of a packet: the excesses of the transport buffer and of the main buffer that have ended, and the unit before a unit that begins; the most
-- bytes in each buffer when a byte entered it, and the fewest bytes that a byte found in the main buffer
pub record EnteredView : Type 0 where
  pub transport : List Excess
  pub main : List Excess
  pub unit : Option UnitSeen
  pub transport_most : ℕ
  pub main_most : ℕ
  pub main_least : Option ℕ

abbrev pub entered_view : Entered → EnteredView
entered_view e = record {
  transport = option_to_list e.lead ++ (option_to_list e.header ++ option_to_list e.payload);
  main = option_to_list e.main;
  unit = e.unit;
  transport_most = e.transport_most;
  main_most = e.main_most;
  main_least = e.main_least;
}

abbrev pub nothing_entered : Entered
nothing_entered =
    record {
      lead = None;
      header = None;
      payload = None;
      main = None;
      unit = None;
      transport_most = 0;
      main_most = 0;
      main_least = None;
      video =
          nothing_of_video;
    }

abbrev pub nothing : EnteredView
nothing = record { transport = []; main = []; unit = None; transport_most = 0; main_most = 0; main_least = None }

-- the size of its payload; and how many of the bytes before the payload lie on the first line, if a second line begins within the packet
abbrev pub size_of : Arriving → ℕ
size_of p = min p.size 184

abbrev pub lead_in : Arrival → Arriving → ℕ
lead_in arrival p = min (lead_of arrival (188 * p.index)) (188 - size_of p)

-- a unit that begins ends the unit before it
unfoldable pub after_begin : Held → Option DueTime → Held
after_begin h None = h
after_begin h (Some due) = begun h due

unfoldable pub unit_ended : Held → Option DueTime → Option UnitSeen
unit_ended h None = None
unit_ended h (Some due) = unit_before h

-- a payload of `count` bytes, which enters the main buffer or not
unfoldable pub after_payload : Held → Bool → ℕ → List ℕ → Held
after_payload h enters count times = if count == 0 then h else if enters then carried h times else passed h times

unfoldable pub payload_transport : Held → ℕ → List ℕ → List Excess
payload_transport h count times = if count == 0 then [] else transport_ended h times

unfoldable pub payload_main : Held → Bool → ℕ → List ℕ → List Excess
payload_main h enters count times = if count == 0 then [] else if enters then main_ended h times else []

unfoldable pub payload_transport_most : Held → ℕ → List ℕ → ℕ
payload_transport_most h count times = if count == 0 then 0 else transport_found h times

unfoldable pub payload_main_most : Held → Bool → ℕ → List ℕ → ℕ
payload_main_most h enters count times = if count == 0 then 0 else if enters then main_found h times else 0

unfoldable pub payload_main_least : Held → Bool → ℕ → List ℕ → Option ℕ
payload_main_least h enters count times = if count == 0 then None else if enters then main_least_found h times else None

-- n bytes of the stream from byte i on, where n may be 0: the state after them, the excesses that have ended, the most bytes in each buffer, and the fewest
-- bytes that a byte found in the main buffer
abbrev pub after_bytes : Held → Arrival → Bool → ℕ → ℕ → Held
after_bytes h arrival enters i n = after_payload h enters n (times_at arrival h.rx i n)

abbrev pub bytes_transport : Held → Arrival → ℕ → ℕ → List Excess
bytes_transport h arrival i n = payload_transport h n (times_at arrival h.rx i n)

abbrev pub bytes_main : Held → Arrival → Bool → ℕ → ℕ → List Excess
bytes_main h arrival enters i n = payload_main h enters n (times_at arrival h.rx i n)

abbrev pub bytes_transport_most : Held → Arrival → ℕ → ℕ → ℕ
bytes_transport_most h arrival i n = payload_transport_most h n (times_at arrival h.rx i n)

abbrev pub bytes_main_most : Held → Arrival → Bool → ℕ → ℕ → ℕ
bytes_main_most h arrival enters i n = payload_main_most h enters n (times_at arrival h.rx i n)

abbrev pub bytes_main_least : Held → Arrival → Bool → ℕ → ℕ → Option ℕ
bytes_main_least h arrival enters i n = payload_main_least h enters n (times_at arrival h.rx i n)

-- a packet enters as long as its bytes have times and no more than 2^40 bytes arrive
abbrev pub takes_in : Held → Arrival → Arriving → Bool
takes_in h arrival p = nat_lt p.index last_index && nat_le (transport_of h.rate h.parts).bytes last_bytes && has_times arrival (188 * p.index) 188

-- the parts of a packet in order: its first bytes up to where a second line begins, the rest of the bytes before its payload, the unit that begins, and its
-- payload
abbrev pub after_lead : Held → Arrival → Arriving → ℕ → Held
after_lead h arrival p lead = after_bytes h arrival false (188 * p.index) lead

abbrev pub after_header : Held → Arrival → Arriving → ℕ → ℕ → Held
after_header h arrival p size lead = after_bytes (after_lead h arrival p lead) arrival false (188 * p.index + lead) (188 - size - lead)

abbrev pub after_unit : Held → Arrival → Arriving → ℕ → ℕ → Held
after_unit h arrival p size lead = after_begin (after_header h arrival p size lead) p.begins

-- the same with only the first `count` bytes of its payload
abbrev pub with_first : Held → Arrival → Arriving → ℕ → ℕ → ℕ → Held
with_first h arrival p size lead count = after_bytes (after_unit h arrival p size lead) arrival p.enters (188 * p.index + (188 - size)) count

abbrev pub with_packet : Held → Arrival → Arriving → ℕ → ℕ → Held
with_packet h arrival p size lead = with_first h arrival p size lead size

unfoldable pub after : Held → Arrival → Arriving → Held
after h arrival p = if takes_in h arrival p then with_packet h arrival p (size_of p) (lead_in arrival p) else h

unfoldable pub after_first : Held → Arrival → Arriving → ℕ → Held
after_first h arrival p count = if takes_in h arrival p then with_first h arrival p (size_of p) (lead_in arrival p) count else h

-- the results of the packet with the first `count` bytes of its payload
abbrev pub ended_first : Held → Arrival → Arriving → ℕ → ℕ → ℕ → EnteredView
ended_first h arrival p size lead count = record {
  transport = bytes_transport h arrival (188 * p.index) lead
      ++ (bytes_transport (after_lead h arrival p lead) arrival (188 * p.index + lead) (188 - size - lead)
      ++ bytes_transport (after_unit h arrival p size lead) arrival (188 * p.index + (188 - size)) count);
  main = bytes_main (after_unit h arrival p size lead) arrival p.enters (188 * p.index + (188 - size)) count;
  unit = unit_ended (after_header h arrival p size lead) p.begins;
  transport_most = max
      (max (bytes_transport_most h arrival (188 * p.index) lead)
      (bytes_transport_most (after_lead h arrival p lead) arrival (188 * p.index + lead) (188 - size - lead)))
      (bytes_transport_most (after_unit h arrival p size lead) arrival (188 * p.index + (188 - size)) count);
  main_most = bytes_main_most (after_unit h arrival p size lead) arrival p.enters (188 * p.index + (188 - size)) count;
  main_least = bytes_main_least (after_unit h arrival p size lead) arrival p.enters (188 * p.index + (188 - size)) count;
}

abbrev pub ended_with : Held → Arrival → Arriving → ℕ → ℕ → EnteredView
ended_with h arrival p size lead = ended_first h arrival p size lead size

unfoldable pub entered : Held → Arrival → Arriving → EnteredView
entered h arrival p = if takes_in h arrival p then ended_with h arrival p (size_of p) (lead_in arrival p) else nothing

unfoldable pub entered_first : Held → Arrival → Arriving → ℕ → EnteredView
entered_first h arrival p count = if takes_in h arrival p then ended_first h arrival p (size_of p) (lead_in arrival p) count else nothing

-- An access unit that begins within a payload: its bytes enter as a unit of its own (2.4.2.3), as long as they have times and no more than 2^40 bytes enter

abbrev pub takes_part : Held → Arrival → UnitPart → Bool
takes_part h arrival p =
    nat_le p.byte last_bytes && nat_le (transport_of h.rate h.parts).bytes last_bytes && (nat_le p.size 188 && has_times arrival p.byte p.size)

unfoldable pub after_part : Held → Arrival → UnitPart → Held
after_part h arrival p = if takes_part h arrival p then after_bytes (begun h p.due) arrival true p.byte p.size else h

abbrev pub ended_part : Held → Arrival → UnitPart → EnteredView
ended_part h arrival p = record {
  transport = bytes_transport (begun h p.due) arrival p.byte p.size;
  main = bytes_main (begun h p.due) arrival true p.byte p.size;
  unit = unit_before h;
  transport_most = bytes_transport_most (begun h p.due) arrival p.byte p.size;
  main_most = bytes_main_most (begun h p.due) arrival true p.byte p.size;
  main_least = bytes_main_least (begun h p.due) arrival true p.byte p.size;
}

unfoldable pub entered_part : Held → Arrival → UnitPart → EnteredView
entered_part h arrival p = if takes_part h arrival p then ended_part h arrival p else nothing
