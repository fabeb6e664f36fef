-- The lines of warnings: what of a stream is left out or changed.
use Rattle.std.specs.Prelude.{ℕ, ◌==◌, ◌&&◌, ◌||◌, not, Bool, true, false, List, filter, [], ◌∷◌, ◌++◌, Option, Some, None, if◌then◌else◌, codes, decimal}
use Rattle.std.specs.Prelude.{nat_lt, option_map}
use Rattle.stream_programs.specs.declared.omission.TableOmission.{TableOmission}
use Rattle.stream_programs.specs.declared.omission.TableOmission.TheVariants as table
use Rattle.pes_packet.specs.declared.refusal.PesError.{PesError}
use Rattle.pes_packet.specs.declared.refusal.PesError.TheVariants.{Marker}
use Rattle.es_units.specs.declared.unit_warning.UnitWarning.{UnitWarning}
use Rattle.es_units.specs.declared.unit_warning.UnitWarningCause.{UnitWarningCause}
use Rattle.es_units.specs.declared.unit_warning.UnitWarningCause.TheVariants as unit
use Rattle.program_tables.specs.declared.program_map.MapPart.{MapPart}
use Rattle.program_tables.specs.declared.program_map.MapPart.TheVariants.{NamedStreams, Descriptors}
use Rattle.job_programs.specs.Warnings.{is_damage}
use Rattle.job_programs.specs.declared.warning.PacketWarning.{PacketWarning}
use Rattle.job_programs.specs.declared.warning.PacketWarning.TheVariants.{Bad, Errored, AssociationChanges, ProgramLoss, NetworkSurplus}
use Rattle.job_programs.specs.declared.warning.ProgramWarning.{ProgramWarning}
use Rattle.job_programs.specs.declared.warning.ProgramWarning.TheVariants.{Missing, NoStream}
use Rattle.job_programs.specs.declared.warning.Warning.{Warning}
use Rattle.job_programs.specs.declared.warning.Warning.TheVariants as warning
use Rattle.job_programs.specs.declared.refusal.JobRefusal.{JobRefusal}
use Rattle.job_programs.specs.declared.refusal.NamedNumbers.{NamedNumbers}
use Rattle.job_run.specs.declared.reporting.Reporting.{Reporting}
use Rattle.job_run.specs.InformationLines.{information_line}
use Rattle.job_run.specs.RefusalLine.{named_text, refusal_in}

-- 1. A line each

-- the line for an omission of the tables
unfoldable pub table_line : TableOmission → List ℕ
table_line (table.NoMap program) = codes "program " ++ decimal program ++ codes " has no PMT: left out\n"
table_line (table.ConditionalAccess program) = codes "CA descriptors of program " ++ decimal program ++ codes " left out\n"
table_line (table.Multiplex program) = codes "multiplex descriptors of program " ++ decimal program ++ codes " left out\n"
table_line (table.NoPes program pid stream_type) = codes "pid " ++ decimal pid ++ codes " of program " ++ decimal program ++ codes " stream_type "
    ++ decimal stream_type ++ codes " has no PES and no sections to repeat: left out\n"
table_line (table.Reserved program pid) = codes "pid " ++ decimal pid ++ codes " of program " ++ decimal program ++ codes " is reserved: left out\n"
table_line (table.Taken program pid holder) = codes "pid " ++ decimal pid ++ codes " of program " ++ decimal program ++ codes " is in program "
    ++ decimal holder ++ codes " already: left out\n"
table_line (table.SharedOtherwise program pid holder) = codes "pid " ++ decimal pid ++ codes " of program " ++ decimal program
    ++ codes " has the stream_type and descriptors of program " ++ decimal holder ++ codes ": its own left out\n"
table_line (table.NoStream program) = codes "program " ++ decimal program ++ codes " has no stream: left out\n"

-- why a PES packet is not read: a damaged stamp, with a marker bit of 0 or alone out of order, or any other fault of its header
unfoldable pub pes_text : PesError → List ℕ
pes_text Marker = codes "bad-stamp\n"
pes_text error = codes "bad-pes\n"

-- why a finding on a PID is in no unit
unfoldable pub reason_text : UnitWarningCause → List ℕ
reason_text (unit.Counter expected found) = codes "counter " ++ decimal found ++ codes " in place of " ++ decimal expected ++ codes "\n"
reason_text unit.Scrambled = codes "scrambled\n"
reason_text (unit.Truncated size) = codes "truncated " ++ decimal size ++ codes "\n"
reason_text (unit.TruncatedByEnd size) = codes "truncated " ++ decimal size ++ codes " by the end\n"
reason_text unit.Section = codes "section\n"
reason_text (unit.BadSection error) = codes "bad-section\n"
reason_text (unit.BadPes error) = pes_text error
reason_text (unit.NoUnitBefore size) = codes "no stamp and no unit before: " ++ decimal size ++ codes " bytes left out\n"
reason_text (unit.OtherStreamId id size) = codes "stream_id " ++ decimal id ++ codes " inside a unit of another: " ++ decimal size ++ codes " bytes left out\n"
reason_text unit.PartLost = codes "unit left out: a part of it is lost\n"
reason_text unit.EmptyUnit = codes "unit without bytes left out\n"
reason_text unit.Stray = codes "payload in no PES packet\n"
reason_text unit.OpenEnded = codes "last PES packet has neither length nor end: taken, may be cut\n"

-- a stream with a stream_id that can't be written
unfoldable pub id_line : ℕ → ℕ → ℕ → ℕ → List ℕ
id_line program pid packet id = codes "packet " ++ decimal packet ++ codes " pid " ++ decimal pid ++ codes " of program " ++ decimal program
    ++ codes " stream_id " ++ decimal id ++ codes " cannot be written: left out\n"

-- a finding on a PID
abbrev pub unit_line : ℕ → UnitWarning → List ℕ
unit_line pid left_out = codes "packet " ++ decimal left_out.packet ++ codes " pid " ++ decimal pid ++ codes " " ++ reason_text left_out.cause

-- a packet, or the section that ends in it
unfoldable pub packet_text : PacketWarning → List ℕ
packet_text Bad = codes " bad-packet\n"
packet_text Errored = codes " errored\n"
packet_text AssociationChanges = codes " PAT changes: the first is used\n"
packet_text ProgramLoss = codes " PAT names a program or PMT PID that the first does not: left out\n"
packet_text NetworkSurplus = codes " NIT says other or more than one network and its streams: left out\n"

unfoldable pub packet_line : ℕ → PacketWarning → List ℕ
packet_line packet what = codes "packet " ++ decimal packet ++ packet_text what

-- the text for a map that differs from the last map of its program
unfoldable pub map_text : MapPart → List ℕ
map_text NamedStreams = codes " names other streams: the last is used\n"
map_text Descriptors = codes " has descriptors that the last one has not: left out\n"

unfoldable pub map_line : ℕ → ℕ → MapPart → List ℕ
map_line program packet part = codes "packet " ++ decimal packet ++ codes " PMT of program " ++ decimal program ++ map_text part

-- a program that is not there, with the programs that are
unfoldable pub missing_front : ℕ → List ℕ
missing_front program = codes "program " ++ decimal program ++ codes " is not there; the PAT names "

unfoldable pub missing_line : ℕ → NamedNumbers → List ℕ
missing_line program named = missing_front program ++ named_text named

-- a program
unfoldable pub program_line : ℕ → ProgramWarning → List ℕ
program_line program (Missing named) = missing_line program named
program_line program NoStream = codes "program " ++ decimal program ++ codes " has no stream with units: left out\n"

-- the buffer that a stream says
unfoldable pub header_line : ℕ → ℕ → ℕ → ℕ → List ℕ
header_line pid said unit counted = codes "pid " ++ decimal pid ++ codes " says a buffer of " ++ decimal said ++ codes " bytes and has a unit of "
    ++ decimal unit ++ codes ": its level's " ++ decimal counted ++ codes " declared\n"

-- the leak that nothing keeps
unfoldable pub leak_line : ℕ → ℕ → ℕ → List ℕ
leak_line pid rate leak = codes "pid " ++ decimal pid ++ codes " asks for " ++ decimal rate ++ codes " bits/s and its leak gives " ++ decimal leak
    ++ codes ": declared without rbx and mb\n"

-- a main buffer holds whole PES packets; by the standard each frame of sound leaves it at its own time (ISO/IEC 13818-1, 2.4.2.3)
unfoldable pub by_packets : ℕ → List ℕ
by_packets main = codes ": main of " ++ decimal main ++ codes " bytes holds whole packets, but may be over by the standard, which counts frames"

-- the bytes that wait then, if they are more than the main buffer
unfoldable pub waiting_text : ℕ → ℕ → List ℕ
waiting_text main bytes =
    if nat_lt main bytes then codes " (up to " ++ decimal bytes ++ codes " bytes wait); fewer frames a PES packet (--frames) would fit\n" else codes "\n"

-- frames of sound that a main buffer is not known to hold one by one
unfoldable pub frames_line : ℕ → ℕ → ℕ → ℕ → List ℕ
frames_line pid frames main bytes =
    codes "pid " ++ decimal pid ++ codes ": up to " ++ decimal frames ++ codes " frames of sound a PES packet" ++ by_packets main ++ waiting_text main bytes

-- frames of sound that cross PES packets
unfoldable pub crossing_line : ℕ → ℕ → List ℕ
crossing_line pid main = codes "pid " ++ decimal pid ++ codes ": frames of sound cross PES packets" ++ by_packets main ++ codes "\n"

-- the lines for a stream that is left out: the line of the refusal that it would be, in a recording with streams whose clocks go back, and a line that says
-- so
unfoldable pub left_out_line : List ℕ → ℕ → JobRefusal → List ℕ
left_out_line falling pid why = refusal_in falling why ++ codes "pid " ++ decimal pid ++ codes " left out\n"

unfoldable pub warning_line : List ℕ → Warning → List ℕ
warning_line falling (warning.Packet packet what) = packet_line packet what
warning_line falling (warning.TrailingBytes size) = codes "rest of " ++ decimal size ++ codes " bytes\n"
warning_line falling (warning.Map program packet part) = map_line program packet part
warning_line falling (warning.Table left_out) = table_line left_out
warning_line falling (warning.StrayPes pid count) = codes "pid " ++ decimal pid ++ codes " has " ++ decimal count ++ codes " PES packets of no program: left out\n"
warning_line falling (warning.Program program what) = program_line program what
warning_line falling (warning.NoSuchStream pid) = codes "pid " ++ decimal pid ++ codes " is no stream\n"
warning_line falling (warning.Units pid left_out) = unit_line pid left_out
warning_line falling (warning.NoUnit program pid) = codes "pid " ++ decimal pid ++ codes " of program " ++ decimal program ++ codes " has no unit: left out\n"
warning_line falling (warning.StreamId stream packet id) = id_line stream.program stream.pid packet id
warning_line falling (warning.Information about) = information_line about
warning_line falling (warning.MapMoved program from to) = codes "PMT of program " ++ decimal program ++ codes " moved from pid " ++ decimal from ++ codes " to "
    ++ decimal to ++ codes "\n"
warning_line falling (warning.HeaderBuffer pid said unit counted) = header_line pid said unit counted
warning_line falling (warning.Leak pid rate leak) = leak_line pid rate leak
warning_line falling (warning.LeftOut stream why) = left_out_line falling stream.pid why
warning_line falling (warning.Frames pid frames main bytes) = frames_line pid frames main bytes
warning_line falling (warning.CrossingFrames pid main) = crossing_line pid main
warning_line falling (warning.MadeDts pid) = codes "pid " ++ decimal pid ++ codes " has no DTS that rise: made from its PTS\n"

-- 2. All of them

abbrev pub is_unknown_end : UnitWarningCause → Bool
is_unknown_end unit.OpenEnded = true
is_unknown_end _ = false

-- the end of a PES packet is not known
abbrev pub is_open_ended : Warning → Bool
is_open_ended (warning.Units pid left_out) = is_unknown_end left_out.cause
is_open_ended _ = false

-- nothing is lost, but a receiver's buffers may hold more than the job declares: the units do not fit the buffer that the headers declare, or MB leaks too
-- slowly to be declared; or the DTS of a stream are made
abbrev pub is_note : Warning → Bool
is_note (warning.HeaderBuffer pid said unit counted) = true
is_note (warning.Leak pid rate leak) = true
is_note (warning.MadeDts pid) = true
is_note _ = false

-- whether a warning is reported: an open end only if the input is not declared whole; a warning that is neither a loss nor a note only if all
-- lines are asked for
unfoldable pub is_reported : Reporting → Warning → Bool
is_reported r w = not (r.whole && is_open_ended w) && ((r.all || is_note w) || is_damage w)

abbrev pub reported_warnings : Reporting → List Warning → List Warning
reported_warnings r warnings = filter (is_reported r) warnings

-- a run of packets with this cause has one line: whether they are stray and not scrambled
abbrev pub run_cause : UnitWarningCause → Option Bool
run_cause unit.Scrambled = Some false
run_cause unit.Stray = Some true
run_cause _ = None

-- the run of a warning: its PID, and whether its packets are stray
abbrev pub run_of : Warning → Option (ℕ × Bool)
run_of (warning.Units pid left_out) = option_map (λ stray. (pid, stray)) (run_cause left_out.cause)
run_of _ = None

-- a packet of the same run as the one in the warning before
abbrev pub goes_on : Option (ℕ × Bool) → Option (ℕ × Bool) → Bool
goes_on None now = false
goes_on (Some run) None = false
goes_on (Some run) (Some now) = run.0 == now.0 && (if run.1 then now.1 else not now.1)

abbrev pub line_after : List ℕ → Option (ℕ × Bool) → Warning → List ℕ
line_after falling before w = if goes_on before (run_of w) then [] else warning_line falling w

-- a line each, and one for each run of scrambled or of stray packets of a PID
unfoldable pub lines_after : List ℕ → Option (ℕ × Bool) → List Warning → List ℕ
lines_after falling before [] = []
lines_after falling before (w ∷ warnings) = line_after falling before w ++ lines_after falling (run_of w) warnings

abbrev pub warning_lines : List ℕ → List Warning → List ℕ
warning_lines falling warnings = lines_after falling None warnings
