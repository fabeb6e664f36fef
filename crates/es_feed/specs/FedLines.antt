-- What goes out of what a stream feeds: the records of its units and of ticks, and a line for each unit that has no moment, each loss of
-- packets, whatever else cuts units, payload in no PES packet, each packet that is not read, each new map, each jump of the clock, each restart without one and each silence.
use Rattle.std.specs.Prelude.{ℕ, Bool, true, false, List, [], ◌∷◌, Ok, Err, codes, slice_get, unwrap_or}
use Rattle.std.specs.List.{flat_map, list_any}
use Rattle.unit_records.specs.Records.{record_bytes}
use Rattle.es_moments.specs.declared.stamps.StampFault.{StampFault}
use Rattle.es_moments.specs.declared.stamps.StampFault.TheVariants.{DtsNotIncreasing, PtsOutOfRange, DtsTooFar}
use Rattle.fed_streams.specs.Feeding.{Fed}
use Rattle.fed_streams.specs.declared.feed_fault.FeedFault.{FeedFault}
use Rattle.fed_streams.specs.declared.feed_fault.ClockJump.{ClockJump}
use Rattle.fed_streams.specs.declared.feed_fault.FeedFault.TheVariants.{Stamp, Ahead, Lost, Cut, Stray, Map, Clock, Other, Packet, Restarted, Silent, Slipped}
use Rattle.fed_streams.specs.declared.feed_fault.CutCause.{CutCause}
use Rattle.fed_streams.specs.declared.feed_fault.CutCause.TheVariants.{Scrambled, Truncated, Section, BadPes, NoPts}
use Rattle.fed_streams.specs.declared.feed_fault.CutUnits.{CutUnits}
use Rattle.fed_streams.specs.declared.feed_fault.Loss.{Loss}
use Rattle.fed_streams.specs.declared.feed_fault.NewMap.{NewMap}
use Rattle.fed_streams.specs.declared.feed_fault.OtherStream.{OtherStream}
use Rattle.fed_streams.specs.declared.feed_fault.PacketFault.{PacketFault}
use Rattle.fed_streams.specs.declared.feed_fault.PacketFault.TheVariants.{Bad, Errored, Rest}
use Rattle.fed_streams.specs.declared.feed_fault.Restart.{Restart}
use Rattle.fed_streams.specs.declared.feed_fault.SlippedBytes.{SlippedBytes}
use Rattle.devices.specs.Lines.{line_text}

-- the record of a unit with the number of its stream
unfoldable pub fed_record : Fed → List ℕ
fed_record (n, Ok u) = record_bytes n u
fed_record (n, Err fault) = []

abbrev pub fed_records : List Fed → List ℕ
fed_records fed = flat_map fed_record fed

-- why a unit of a PID has no moment, and by how much, in units of 90 kHz
unfoldable pub stamp_line : ℕ → StampFault → List ℕ
stamp_line pid (DtsNotIncreasing by) = line_text (codes "dts-falls") (pid ∷ by ∷ [])
stamp_line pid (PtsOutOfRange after limit) = line_text (codes "pts-range") (pid ∷ after ∷ [])
stamp_line pid DtsTooFar = line_text (codes "dts-far") (pid ∷ [])

-- packets of a PID are lost before a packet: its counter differs from the expected one
abbrev pub loss_line : ℕ → Loss → List ℕ
loss_line pid loss = line_text (codes "lost") (pid ∷ loss.packet ∷ loss.expected ∷ loss.found ∷ [])

-- the cause that cuts the units of a PID, with the packet of its first byte
unfoldable pub cut_name : CutCause → List ℕ
cut_name Scrambled = codes "scrambled"
cut_name Truncated = codes "truncated"
cut_name Section = codes "section"
cut_name BadPes = codes "bad-pes"
cut_name NoPts = codes "no-pts"

abbrev pub cut_line : ℕ → CutUnits → List ℕ
cut_line pid cut = line_text (cut_name cut.cause) (pid ∷ cut.packet ∷ [])

-- the payload of a packet of a PID, the first of some, is in no PES packet
abbrev pub stray_line : ℕ → ℕ → List ℕ
stray_line pid packet = line_text (codes "stray") (pid ∷ packet ∷ [])

-- the map of a program that is whole at a packet is of another version than the one before it
abbrev pub map_line : NewMap → List ℕ
map_line map = line_text (codes "map") (map.program ∷ map.packet ∷ map.before ∷ map.version ∷ [])

-- a unit of a PID is due so long after the greatest DTS so far
abbrev pub ahead_line : ℕ → ℕ → List ℕ
ahead_line pid by = line_text (codes "dts-ahead") (pid ∷ by ∷ [])

-- the clock at a packet of a PID does not continue from its value before
abbrev pub clock_line : ClockJump → List ℕ
clock_line jump = line_text (codes "clock") (jump.pid ∷ jump.packet ∷ jump.before ∷ jump.after ∷ [])

-- the first map of a program, which is whole at a packet, does not name a stream that the description has
abbrev pub other_line : OtherStream → List ℕ
other_line other = line_text (codes "other") (other.program ∷ other.packet ∷ other.pid ∷ other.stream_type ∷ [])

-- a packet that is none, one in error, or bytes that are left at the end
unfoldable pub packet_line : PacketFault → List ℕ
packet_line (Bad packet) = line_text (codes "bad-packet") (packet ∷ [])
packet_line (Errored packet) = line_text (codes "errored") (packet ∷ [])
packet_line (Rest size) = line_text (codes "rest") (size ∷ [])

-- bytes that are in no packet, with the number of packets before them
abbrev pub slip_line : SlippedBytes → List ℕ
slip_line bytes = line_text (codes "slip") (bytes.packet ∷ bytes.size ∷ [])

-- without a clock, stamps fall to the stamp of a unit that begins in a packet: that unit is taken to come at a moment
abbrev pub restart_line : Restart → List ℕ
restart_line restart = line_text (codes "restart") (restart.packet ∷ restart.stamp ∷ restart.moment ∷ [])

-- no stream has a unit that is due within 10 s after this DTS, by the clock
abbrev pub silence_line : ℕ → List ℕ
silence_line dts = line_text (codes "silent") (dts ∷ [])

unfoldable pub fault_line : ℕ → FeedFault → List ℕ
fault_line pid (Stamp fault) = stamp_line pid fault
fault_line pid (Ahead by) = ahead_line pid by
fault_line pid (Lost loss) = loss_line pid loss
fault_line pid (Cut cut) = cut_line pid cut
fault_line pid (Stray packet) = stray_line pid packet
fault_line pid (Map map) = map_line map
fault_line pid (Clock jump) = clock_line jump
fault_line pid (Other other) = other_line other
fault_line pid (Packet fault) = packet_line fault
fault_line pid (Restarted restart) = restart_line restart
fault_line pid (Silent dts) = silence_line dts
fault_line pid (Slipped bytes) = slip_line bytes

-- the PID of the stream of a number
abbrev pub pid_at : List ℕ → ℕ → ℕ
pid_at pids n = unwrap_or (slice_get pids n) 0

-- whether a fault shows that the description belongs to another stream
unfoldable pub is_other : FeedFault → Bool
is_other (Stamp fault) = false
is_other (Ahead by) = false
is_other (Lost loss) = false
is_other (Cut cut) = false
is_other (Stray packet) = false
is_other (Map map) = false
is_other (Clock jump) = false
is_other (Other other) = true
is_other (Packet fault) = false
is_other (Restarted restart) = false
is_other (Silent dts) = false
is_other (Slipped bytes) = false

-- the description is of another stream: then nothing more is read
unfoldable pub is_refusal : Fed → Bool
is_refusal (n, Ok u) = false
is_refusal (n, Err fault) = is_other fault

abbrev pub have_refusal : List Fed → Bool
have_refusal fed = list_any is_refusal fed
