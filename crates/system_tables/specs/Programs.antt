-- The buffers of the tables of programs (ISO/IEC 13818-1, 2.4.2.3): all bytes of the packets of the PIDs 0 to 3 (PAT, CAT, TSDT and IPMP control
-- information) and of a program's PMT enter a transport buffer, which is drained at 1,000,000 bits a second, and from there a system buffer, which
-- is drained at 80,000 bits a second, or at a constant rate R at R / 500, where that is more.
use Rattle.std.specs.Prelude.{ℕ, ◌+◌, ◌-◌, ◌*◌, ◌^◌, ◌==◌, ◌&&◌, ◌||◌, min, nat_le, nat_lt, Bool, if◌then◌else◌, List, [], ◌++◌, length, map, flat_map, Option}
use Rattle.std.specs.Prelude.{Some, None}
use Rattle.std.specs.Option.{option_map}
use Rattle.tstd.specs.Queues.{bytes_within}
use Rattle.tstd_rows.specs.declared.excess.Excess.{Excess}
use Rattle.arrival.specs.Arrivals.{has_times, lead_of, step_of, times_at}
use Rattle.arrival.specs.declared.arrival.Arrival.{Arrival}
use Rattle.arrival.specs.declared.arrival.Arrival.TheVariants.{Unknown, AtRate, OnLines}
use Rattle.tstd_rows.specs.Limits.{bsys_size, last_index, most_bytes, tb_size}
use Rattle.tstd_rows.specs.WatchedQueues.{all_entered, empty_queue, ended_by, left_at}
use Rattle.tstd_rows.specs.declared.watched_queue.WatchedQueue.{WatchedQueue}
use Rattle.stream_programs.specs.Programs.{FoundProgramView}
use Rattle.ts_tables.specs.NamedStreams.{NamedView}
use Rattle.system_tables.specs.declared.table_excess.TableBuffer.{TableBuffer}
use Rattle.system_tables.specs.declared.table_excess.TableBuffer.TheVariants.{Transport, System}
use Rattle.system_tables.specs.declared.table_excess.TableExcess.{TableExcess}

-- a program, the PID of its map, its two buffers, the number of bytes that have come, and the numbers of ended excesses of each buffer
pub record ProgramState : Type 0 where
  pub number : ℕ
  pub map_pid : ℕ
  pub transport : WatchedQueue
  pub system : WatchedQueue
  pub bytes : ℕ
  pub transport_excesses : ℕ
  pub system_excesses : ℕ

-- how long a byte takes to leave the system buffer, on the scale of a buffer that is drained at 2,000,000 bits a second: 25 steps at 80,000. At a
-- constant rate R the unit is 8 / (R * 2,000,000) seconds, so at R / 500 bits a second a byte takes 1,000,000,000 units, whatever R is.
unfoldable pub system_step : Arrival → ℕ
system_step Unknown = 25 * step_of Unknown
system_step (AtRate rate) = min (25 * step_of (AtRate rate)) 1000000000
system_step (OnLines lines) = 25 * step_of (OnLines lines)

-- before its first packet, on that scale
abbrev pub program_of : Arrival → FoundProgramView → ProgramState
program_of arrival found = record {
  number = found.number;
  map_pid = found.map_pid;
  transport = empty_queue (2 * step_of arrival) tb_size;
  system = empty_queue (system_step arrival) bsys_size;
  bytes = 0;
  transport_excesses = 0;
  system_excesses = 0;
}

-- 1. Bytes of the stream

-- n bytes from byte i on enter, if they have times and no more than `most_bytes` come
abbrev pub enters : Arrival → ℕ → ℕ → ProgramState → Bool
enters arrival i n p = nat_le (p.bytes + n) most_bytes && has_times arrival i n

abbrev pub passed_at : ProgramState → ℕ → List ℕ → ProgramState
passed_at p n times = record p {
  transport = all_entered p.transport times;
  system = all_entered p.system (left_at p.transport times);
  bytes = p.bytes + n;
}

abbrev pub passed : Arrival → ℕ → ℕ → ProgramState → ProgramState
passed arrival i n p = if enters arrival i n p then passed_at p n (times_at arrival 2000000 i n) else p

-- the excesses of each buffer that end with them
abbrev pub transport_ended : Arrival → ℕ → ℕ → ProgramState → List Excess
transport_ended arrival i n p = if enters arrival i n p then ended_by p.transport (times_at arrival 2000000 i n) else []

abbrev pub system_ended : Arrival → ℕ → ℕ → ProgramState → List Excess
system_ended arrival i n p = if enters arrival i n p then ended_by p.system (left_at p.transport (times_at arrival 2000000 i n)) else []

-- 2. A packet: its first bytes up to where another line begins, and the remaining bytes

abbrev pub lead_in : Arrival → ℕ → ℕ
lead_in arrival index = min (lead_of arrival (188 * index)) 188

abbrev pub after_lead : Arrival → ℕ → ProgramState → ProgramState
after_lead arrival index p = passed arrival (188 * index) (lead_in arrival index) p

-- the excesses that end with it
abbrev pub transport_in : Arrival → ℕ → ProgramState → List Excess
transport_in arrival index p =
    transport_ended arrival (188 * index) (lead_in arrival index) p
    ++ transport_ended arrival (188 * index + lead_in arrival index) (188 - lead_in arrival index) (after_lead arrival index p)

abbrev pub system_in : Arrival → ℕ → ProgramState → List Excess
system_in arrival index p =
    system_ended arrival (188 * index) (lead_in arrival index) p
    ++ system_ended arrival (188 * index + lead_in arrival index) (188 - lead_in arrival index) (after_lead arrival index p)

-- numbers of further excesses are added; they stop at 2^64 - 1
abbrev pub with_ended : ℕ → ℕ → ProgramState → ProgramState
with_ended transport system p = record p {
  transport_excesses = min (p.transport_excesses + transport) (2 ^ 64 - 1);
  system_excesses = min (p.system_excesses + system) (2 ^ 64 - 1);
}

abbrev pub with_packet : Arrival → ℕ → ProgramState → ProgramState
with_packet arrival index p =
    with_ended (length (transport_in arrival index p)) (length (system_in arrival index p))
    (passed arrival (188 * index + lead_in arrival index) (188 - lead_in arrival index) (after_lead arrival index p))

-- a packet of a PID enters if the PID carries a table of all programs or the program's map
abbrev pub is_of : ℕ → ℕ → ProgramState → Bool
is_of index pid p = nat_lt index last_index && (nat_le pid 3 || pid == p.map_pid)

abbrev pub entered : Arrival → ℕ → ℕ → ProgramState → ProgramState
entered arrival index pid p = if is_of index pid p then with_packet arrival index p else p

-- the excesses that end with a packet, each with its program: first the excesses of the transport buffer, and then the excesses of the system buffer
abbrev pub all_of : ℕ → TableBuffer → List Excess → List TableExcess
all_of program buffer excesses = map (λ e. record { program = program; buffer = buffer; excess = e }) excesses

abbrev pub reported : ℕ → List Excess → List Excess → List TableExcess
reported program transport system = all_of program Transport transport ++ all_of program System system

abbrev pub excesses_in : Arrival → ℕ → ℕ → ProgramState → List TableExcess
excesses_in arrival index pid p = if is_of index pid p then reported p.number (transport_in arrival index p) (system_in arrival index p) else []

-- 3. The programs of the first tables, once these are known

unfoldable pub begun : Arrival → NamedView → Option (List ProgramState) → Option (List ProgramState)
begun arrival named None = option_map (λ found. map (program_of arrival) found.programs) named.streams
begun arrival named (Some programs) = Some programs

abbrev pub taken : Arrival → ℕ → NamedView → ℕ → Option (List ProgramState) → Option (List ProgramState)
taken arrival index named pid programs = option_map (λ ps. map (entered arrival index pid) ps) (begun arrival named programs)

-- the known programs
unfoldable pub known : Option (List ProgramState) → List ProgramState
known None = []
known (Some programs) = programs

-- the excesses of all of them that end with the packet of a PID
abbrev pub excesses_at : Arrival → ℕ → NamedView → ℕ → Option (List ProgramState) → List TableExcess
excesses_at arrival index named pid programs = flat_map (excesses_in arrival index pid) (known (begun arrival named programs))

-- the most bytes that were in each buffer
abbrev pub transport_most : ProgramState → ℕ
transport_most p = bytes_within p.transport.queue.step p.transport.queue.longest_residence

abbrev pub system_most : ProgramState → ℕ
system_most p = bytes_within p.system.queue.step p.system.queue.longest_residence
