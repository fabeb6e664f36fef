-- Kinds of faults, where a fault is, and which check of ETSI TR 101 290 it fails.
use Rattle.std.specs.Prelude.{ℕ, ◌==◌, ◌&&◌, nat_le, if◌then◌else◌, Bool, true, false, List, codes, Option, Some, None}
use Rattle.events.specs.declared.check.Check.{Check}
use Rattle.events.specs.declared.check.Check.TheVariants as checks
use Rattle.events.specs.declared.fault_kind.FaultKind.{FaultKind}
use Rattle.events.specs.declared.fault_kind.FaultKind.TheVariants as kinds
use Rattle.events.specs.declared.fault_kind.FaultSource.{FaultSource}
use Rattle.events.specs.declared.fault_kind.FaultSource.TheVariants.{Whole, Stream, Program, Table}
use Rattle.events.specs.Checks.{check_of_pid, check_of_table}

-- 1. Words

unfoldable pub word_of : FaultKind → List ℕ
word_of kinds.Slip = codes "slip"
word_of kinds.Empty = codes "empty"
word_of kinds.NoStream = codes "no_stream"
word_of kinds.OtherRate = codes "other_rate"
word_of kinds.Unclocked = codes "unclocked"
word_of kinds.SyncByte = codes "sync_byte"
word_of kinds.Header = codes "header"
word_of kinds.TransportError = codes "transport_error"
word_of kinds.Continuity = codes "continuity"
word_of kinds.CheckWord = codes "check_word"
word_of kinds.Excess = codes "excess"
word_of kinds.MainExcess = codes "main_excess"
word_of kinds.MultiplexingExcess = codes "multiplexing_excess"
word_of kinds.ElementaryExcess = codes "elementary_excess"
word_of kinds.SystemExcess = codes "system_excess"
word_of kinds.SystemMainExcess = codes "system_main_excess"
word_of kinds.Late = codes "late"
word_of kinds.ElementaryLate = codes "elementary_late"
word_of kinds.Ahead = codes "ahead"
word_of kinds.PcrRepetition = codes "pcr_repetition"
word_of kinds.PcrDiscontinuity = codes "pcr_discontinuity"
word_of kinds.PcrAccuracy = codes "pcr_accuracy"
word_of kinds.PtsRepetition = codes "pts_repetition"
word_of kinds.TableRepetition = codes "table_repetition"
word_of kinds.SectionDistance = codes "section_distance"
word_of kinds.OtherTable = codes "other_table"
word_of kinds.ScrambledTable = codes "scrambled_table"
word_of kinds.NoCat = codes "no_cat"
word_of kinds.NotEmpty = codes "not_empty"
word_of kinds.Delayed = codes "delayed"
word_of kinds.Unreferenced = codes "unreferenced"
word_of kinds.Missing = codes "missing"
word_of kinds.Rest = codes "rest"
word_of kinds.NoStamps = codes "no_stamps"
word_of kinds.StampJump = codes "stamp_jump"
word_of kinds.NoTable = codes "no_table"
word_of kinds.PidRepetition = codes "pid_repetition"

-- the place among all kinds
unfoldable pub place_of : FaultKind → ℕ
place_of kinds.Slip = 0
place_of kinds.Empty = 1
place_of kinds.NoStream = 2
place_of kinds.OtherRate = 3
place_of kinds.Unclocked = 4
place_of kinds.SyncByte = 5
place_of kinds.Header = 6
place_of kinds.TransportError = 7
place_of kinds.Continuity = 8
place_of kinds.CheckWord = 9
place_of kinds.Excess = 10
place_of kinds.MainExcess = 11
place_of kinds.MultiplexingExcess = 12
place_of kinds.ElementaryExcess = 13
place_of kinds.SystemExcess = 14
place_of kinds.SystemMainExcess = 15
place_of kinds.Late = 16
place_of kinds.ElementaryLate = 17
place_of kinds.Ahead = 18
place_of kinds.PcrRepetition = 19
place_of kinds.PcrDiscontinuity = 20
place_of kinds.PcrAccuracy = 21
place_of kinds.PtsRepetition = 22
place_of kinds.TableRepetition = 23
place_of kinds.SectionDistance = 24
place_of kinds.OtherTable = 25
place_of kinds.ScrambledTable = 26
place_of kinds.NoCat = 27
place_of kinds.NotEmpty = 28
place_of kinds.Delayed = 29
place_of kinds.Unreferenced = 30
place_of kinds.Missing = 31
place_of kinds.Rest = 32
place_of kinds.NoStamps = 33
place_of kinds.StampJump = 34
place_of kinds.NoTable = 35
place_of kinds.PidRepetition = 36

-- 2. Checks

-- that each fault of a kind fails
unfoldable pub check_of_kind : FaultKind → Option Check
check_of_kind kinds.Slip = Some checks.SyncLoss
check_of_kind kinds.SyncByte = Some checks.SyncByte
check_of_kind kinds.TransportError = Some checks.Transport
check_of_kind kinds.Continuity = Some checks.Continuity
check_of_kind kinds.CheckWord = Some checks.Crc
check_of_kind kinds.Excess = Some checks.Buffer
check_of_kind kinds.MainExcess = Some checks.Buffer
check_of_kind kinds.MultiplexingExcess = Some checks.Buffer
check_of_kind kinds.ElementaryExcess = Some checks.Buffer
check_of_kind kinds.SystemExcess = Some checks.Buffer
check_of_kind kinds.SystemMainExcess = Some checks.Buffer
check_of_kind kinds.Late = Some checks.Buffer
check_of_kind kinds.ElementaryLate = Some checks.Buffer
check_of_kind kinds.PcrRepetition = Some checks.PcrRepetition
check_of_kind kinds.PcrDiscontinuity = Some checks.PcrDiscontinuity
check_of_kind kinds.PcrAccuracy = Some checks.PcrAccuracy
check_of_kind kinds.PtsRepetition = Some checks.Pts
check_of_kind kinds.NoCat = Some checks.Cat
check_of_kind kinds.NotEmpty = Some checks.EmptyBuffer
check_of_kind kinds.Delayed = Some checks.DataDelay
check_of_kind kinds.Unreferenced = Some checks.Unreferenced
check_of_kind kinds.Missing = Some checks.Pid
check_of_kind kinds.PidRepetition = Some checks.Pid
check_of_kind _ = None

-- a table that is scrambled is a PAT or a PMT
unfoldable pub check_of_stream : FaultKind → ℕ → Option Check
check_of_stream kinds.ScrambledTable pid = Some (if pid == 0 then checks.Pat else checks.Pmt)
check_of_stream kind pid = check_of_kind kind

-- a section counts by its table_id, and a section of another table by its PID
unfoldable pub check_of_section : FaultKind → ℕ → ℕ → Option Check
check_of_section kinds.TableRepetition pid table = check_of_table table
check_of_section kinds.SectionDistance pid table = check_of_table table
check_of_section kinds.OtherTable pid table = check_of_pid pid
check_of_section kinds.NoTable pid table = check_of_table table
check_of_section kind pid table = check_of_kind kind

unfoldable pub check_of : FaultKind → FaultSource → Option Check
check_of kind Whole = check_of_kind kind
check_of kind (Stream pid) = check_of_stream kind pid
check_of kind (Program number) = check_of_kind kind
check_of kind (Table pid table) = check_of_section kind pid table

-- a section that comes too late or too soon
unfoldable pub is_repetition : FaultKind → Bool
is_repetition kinds.TableRepetition = true
is_repetition kinds.SectionDistance = true
is_repetition _ = false

-- a repetition fault of service information (EN 300 468, table 2): SI_repetition_error fails in addition to the check of the table
unfoldable pub is_si_repetition : FaultKind → FaultSource → Bool
is_si_repetition kind Whole = false
is_si_repetition kind (Stream pid) = false
is_si_repetition kind (Program number) = false
is_si_repetition kind (Table pid table) = is_repetition kind && nat_le 64 table
