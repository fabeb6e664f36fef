-- The private tables of a job: sections of its programs that do not change.
use Rattle.std.specs.Prelude.{ℕ, ◌-◌, ◌*◌, ◌==◌, ◌&&◌, not, min, max, nat_le, Bool, true, if◌then◌else◌, List, [], ◌∷◌, length, take, filter, find, flat_map}
use Rattle.std.specs.Prelude.{slice_get, unwrap_or, Option, Some, None, option_map}
use Rattle.std.specs.Int.{div_ceil}
use Rattle.std.specs.List.{list_any}
use Rattle.pes_packet.specs.AccessUnits.{AccessUnit}
use Rattle.pid_findings.specs.Views.{FindingView}
use Rattle.job_text.specs.DescriptionParts.{TablePartView}
use Rattle.job_text.specs.Texts.{table_text}
use Rattle.other_tables.specs.SteadySections.{SteadySectionsView, steady_sections}
use Rattle.stream_programs.specs.Streams.{FoundStreamView}
use Rattle.stream_programs.specs.declared.omission.TableOmission.{TableOmission}
use Rattle.stream_programs.specs.declared.omission.TableOmission.TheVariants.{NoPes}
use Rattle.job_programs.specs.declared.warning.Warning.{Warning}
use Rattle.job_programs.specs.declared.warning.Warning.TheVariants as warnings
use Rattle.job_programs.specs.JobOptions.{is_selected_stream}
use Rattle.job_programs.specs.JobPrograms.{JobProgramView}
use Rattle.job_programs.specs.JobStreams.{TimedStreamView, WireStreamView, is_stream_of}
use Rattle.es_moments.specs.WireUnits.{CarriedUnit}

-- what the map of its program says, the sections in the order of their first appearance, the greatest number of packets from one start of a
-- section to the next, and the packets from the first unit of the program's first stream to its last unit
pub record JobTableView : Type 0 where
  pub program : ℕ
  pub pid : ℕ
  pub stream_type : ℕ
  pub descriptors : List ℕ
  pub sections : List (List ℕ)
  pub gap : ℕ
  pub packets : ℕ

-- 1. The time between sections

-- the packet in which the unit at an index begins; 0 if there is no such unit
unfoldable pub packet_at : List CarriedUnit → ℕ → ℕ
packet_at units index = unwrap_or (option_map (λ u. u.packet) (slice_get units index)) 0

-- the packets from the first of some units to the last
unfoldable pub packet_span : List CarriedUnit → ℕ
packet_span units = packet_at units (length units - 1) - packet_at units 0

-- the DTS of the unit at an index; 0 if there is no such unit
unfoldable pub dts_at : List AccessUnit → ℕ → ℕ
dts_at units index = unwrap_or (option_map (λ u. u.dts) (slice_get units index)) 0

-- the time between the DTS of the first and of the last, in units of 90 kHz
unfoldable pub tick_span : List AccessUnit → ℕ
tick_span units = dts_at units (length units - 1) - dts_at units 0

-- the time of `gap` packets, if `packets` packets take `ticks`, in ms, rounded up, from 1 to 30,000; 30,000 if no packets are known
unfoldable pub limit_of : ℕ → ℕ → ℕ → ℕ
limit_of gap packets ticks = if packets == 0 then 30_000 else max 1 (min 30_000 (div_ceil (gap * ticks) (packets * 90)))

-- 2. Which are carried

unfoldable pub span_if : Option WireStreamView → ℕ
span_if None = 0
span_if (Some s) = packet_span s.units

unfoldable pub table_of : List WireStreamView → FoundStreamView → SteadySectionsView → JobTableView
table_of streams e steady = record {
  program = e.program;
  pid = e.pid;
  stream_type = e.stream_type;
  descriptors = e.descriptors;
  sections = steady.sections;
  gap = steady.gap;
  packets = span_if (find (is_stream_of e.program) streams);
}

unfoldable pub table_if : List WireStreamView → FoundStreamView → Option SteadySectionsView → List JobTableView
table_if streams e None = []
table_if streams e (Some steady) = table_of streams e steady ∷ []

-- a description has as many bytes of descriptors of a table at most
abbrev pub most_descriptors : ℕ
most_descriptors = 700

-- whether a table can be taken: it is not left out, its program is taken, and its descriptors have room in a description
unfoldable pub can_take : List ℕ → List JobProgramView → FoundStreamView → Bool
can_take without programs e = is_selected_stream without e && (list_any (λ p. p.number == e.program) programs && nat_le (length e.descriptors) most_descriptors)

-- sections of a program that is carried, if they do not change
unfoldable pub tables_on : List ℕ → ℕ → List FindingView → List JobProgramView → List WireStreamView → FoundStreamView → List JobTableView
tables_on without count findings programs streams e =
    if can_take without programs e then table_if streams e (steady_sections count e.pid findings) else []

-- the first 64 of all, as many as a description has
unfoldable pub job_tables : List ℕ → ℕ → List FindingView → List JobProgramView → List WireStreamView → List FoundStreamView → List JobTableView
job_tables without count findings programs streams entries = take 64 (flat_map (tables_on without count findings programs streams) entries)

-- 3. Warnings that tables make void

-- whether sections of this program and PID are carried
unfoldable pub has_table : List JobTableView → ℕ → ℕ → Bool
has_table tables program pid = list_any (λ t. t.program == program && t.pid == pid) tables

-- whether an omission of the tables still holds
unfoldable pub is_left_out : List JobTableView → TableOmission → Bool
is_left_out tables (NoPes program pid stream_type) = not (has_table tables program pid)
is_left_out tables _ = true

unfoldable pub is_reported : List JobTableView → Warning → Bool
is_reported tables (warnings.Table omission) = is_left_out tables omission
is_reported tables _ = true

abbrev pub reported : List JobTableView → List Warning → List Warning
reported tables all = filter (is_reported tables) all

-- 4. Their lines in a description

unfoldable pub ticks_if : Option TimedStreamView → ℕ
ticks_if None = 0
ticks_if (Some s) = tick_span s.units

unfoldable pub table_part : List TimedStreamView → JobTableView → TablePartView
table_part streams t = record {
  pid = t.pid;
  limit = limit_of t.gap t.packets (ticks_if (find (is_stream_of t.program) streams));
  sections = t.sections;
  program = t.program;
  stream_type = t.stream_type;
  descriptors = t.descriptors;
}

abbrev pub table_lines : List TimedStreamView → JobTableView → List ℕ
table_lines streams t = table_text (table_part streams t)

abbrev pub tables_text : List TimedStreamView → List JobTableView → List ℕ
tables_text streams tables = flat_map (table_lines streams) tables
