-- A transport stream through a demultiplexer, piece by piece.
use Rattle.std.specs.Prelude.{◌≡◌, ◌⊎◌, ◌≤◌, ℕ, ◌+◌, ◌-◌, ◌&&◌, not, nat_le, if◌then◌else◌, Bool, true, false, List, [], ◌++◌, length, filter, is_some, Option, None, Result, Ok, Err}
use Rattle.std.specs.Io.KnownBytes.{Consumes}
use Rattle.devices.specs.Devices.{Device, IsClean}
use Rattle.devices.specs.WholeInput.{IsReadAs, ReadsInput, longest_input}
use Rattle.devices.specs.declared.halt.Halt.{Halt}
use Rattle.devices.specs.declared.halt.Halt.TheVariants.{Read}
use Rattle.pid_findings.specs.Views.{FindingView}
use Rattle.stamp_repair.specs.DataTimes.{TimesView, is_timed, timed, times_of}
use Rattle.stamp_repair.specs.References.{LogView, logged, no_packet, references_in}
use Rattle.packet_pcr.specs.declared.pcr_reading.FoundPcr.{FoundPcr}
use Rattle.joined_parts.specs.FallingClocks.{falling_pids}
use Rattle.joined_parts.specs.ClockGaps.{clock_gaps}
use Rattle.joined_parts.specs.Recodings.{recodings_in}
use Rattle.joined_parts.specs.Recordings.{one_recording, one_references}
use Rattle.joined_parts.specs.declared.gap_search.ClockGap.{ClockGap}
use Rattle.joined_parts.specs.declared.recodings.Recoding.{Recoding}
use Rattle.stamp_repair.specs.LoneStamps.{lone_damaged}
use Rattle.demux.specs.Stream.{StreamState, start, pushed, finished}
use Rattle.packet_sync.specs.FieldsLeftOut.{fields_left_out}
use Rattle.packet_sync.specs.declared.field.Field.{Field}
use Rattle.packet_sync.specs.declared.field.Field.TheVariants.{Alignment, Flags, LongHeader}
use Rattle.packet_sync.specs.Notes.{NotesView, SayAlike, no_notes}
use Rattle.packet_sync.specs.OtherPackets.{other_packets}
use Rattle.packet_sync.specs.PacketBytes.{AreInner, packet_bytes, packets_in}
use Rattle.packet_sync.specs.PacketSearch.{IsSearched, SearchView}
use Rattle.packet_sync.specs.Slips.{carried, slips}
use Rattle.packet_sync.specs.declared.left_out.FieldLeftOut.{FieldLeftOut}
use Rattle.packet_sync.specs.NoStreams.{searched, no_stream}
use Rattle.packet_sync.specs.declared.packet_sizes.OtherPackets.{OtherPackets}
use Rattle.packet_sync.specs.declared.slip.Slip.{Slip}
use Rattle.job_inputs.specs.AskedMarks.{as_asked}
use Rattle.job_programs.specs.JobOptions.{JobOptionsView}
use Rattle.job_run.specs.FramePackets.{framed_by}

-- 1. A whole stream

-- the findings in it
abbrev pub findings_of : List ℕ → List FindingView
findings_of bytes = (finished (pushed start bytes)).found

-- the bytes of its packets outside slips, 188 bytes of each packet
abbrev pub in_step : List ℕ → List ℕ
in_step bytes = carried (packets_in bytes)

-- the findings in these, with the marks that are asked for
abbrev pub asked_findings : JobOptionsView → List ℕ → List FindingView
asked_findings options bytes = as_asked options (findings_of (in_step bytes))

-- the clock references and these findings; if asked for, the references and findings of the parts of a joined recording in order, with the tables
-- and the clock of one recording
unfoldable pub references_by : Bool → List FoundPcr → List FindingView → List FoundPcr
references_by false references findings = references
references_by true references findings = one_references references findings

unfoldable pub parts_by : Bool → List FoundPcr → List FindingView → List FindingView
parts_by false references findings = findings
parts_by true references findings = one_recording references findings

-- the PIDs of streams whose clocks go back, unless parts are joined
unfoldable pub falling_by : Bool → List FoundPcr → List FindingView → List ℕ
falling_by false references findings = falling_pids references findings
falling_by true references findings = []

-- the findings with the moments of teletext that has no stamps; a PES packet whose stamps are alone out of order is a damaged one
abbrev pub mended_by : Bool → List FoundPcr → List FindingView → List FindingView
mended_by joined references findings =
    lone_damaged (falling_by joined references findings) (timed (references_by joined references findings) (parts_by joined references findings))

-- the findings from which a job is made: its PES packets of sound have no more frames than asked for
abbrev pub findings_by : JobOptionsView → List FoundPcr → List FindingView → List FindingView
findings_by options references findings = framed_by options.frames (mended_by options.joined references findings)

abbrev pub findings_for : JobOptionsView → List ℕ → List FindingView
findings_for options bytes = findings_by options (references_in (in_step bytes)) (asked_findings options bytes)

-- notes on the packets of a stream: its slips, the fields that are not written again, the changes of codings in a joined recording, the gaps of its clocks,
-- and if it is no joined recording the PIDs of streams whose clocks go back
pub record PacketNotesView : Type 0 where
  pub slips : List Slip
  pub fields : List FieldLeftOut
  pub recodings : List Recoding
  pub gaps : List ClockGap
  pub falling : List ℕ

-- notes on packets of 188 bytes
abbrev pub notes_of : List ℕ → PacketNotesView
notes_of packets = record { slips = slips packets; fields = fields_left_out packets; recodings = []; gaps = []; falling = [] }

unfoldable pub recodings_by : Bool → List FindingView → List Recoding
recodings_by false findings = []
recodings_by true findings = recodings_in findings

-- a field of PES headers that is written again: of teletext without stamps each PES packet is a unit, with its flags and its long header
unfoldable pub is_of_unit : Field → Bool
is_of_unit Alignment = true
is_of_unit Flags = true
is_of_unit LongHeader = true
is_of_unit _ = false

abbrev pub is_unwritten : TimesView → FieldLeftOut → Bool
is_unwritten t f = not (is_of_unit f.field && is_timed t f.pid)

-- the notes on the packets of a stream from which a job by these options is made
abbrev pub timed_notes : TimesView → List Recoding → List ClockGap → List ℕ → PacketNotesView → PacketNotesView
timed_notes t recodings gaps falling notes =
    record { slips = notes.slips; fields = filter (is_unwritten t) notes.fields; recodings = recodings; gaps = gaps; falling = falling }

abbrev pub notes_by : Bool → List FoundPcr → List FindingView → PacketNotesView → PacketNotesView
notes_by joined references findings notes =
    timed_notes (times_of (references_by joined references findings) (parts_by joined references findings)) (recodings_by joined findings)
    (clock_gaps joined references findings) (falling_by joined references findings) notes

abbrev pub notes_for : JobOptionsView → List ℕ → PacketNotesView
notes_for options bytes = notes_by options.joined (references_in (in_step bytes)) (asked_findings options bytes) (notes_of (packets_in bytes))

-- the notes on packets of 188 bytes, the references and the findings in their bytes outside slips, and the number of these bytes
pub record IsOfPackets (packets : List ℕ) (notes : PacketNotesView) (references : List FoundPcr) (found : List FindingView) (size : ℕ) : Type 0 where
  pub notes_are : notes ≡ notes_of packets
  pub references_are : references ≡ references_in (carried packets)
  pub found_is : found ≡ findings_of (carried packets)
  pub size_is : size ≡ length (carried packets)

-- the same of the packets of a stream
abbrev pub IsOfStream : List ℕ → PacketNotesView → List FoundPcr → List FindingView → ℕ → Type 0
IsOfStream bytes notes references found size = IsOfPackets (packets_in bytes) notes references found size

-- 2. A stream that comes

-- the state after the bytes that are certainly outside slips: notes on their packets, the clock references, the demultiplexer, and their number
pub record PacketsView : Type 0 where
  pub notes : NotesView
  pub log : LogView
  pub demux : StreamState
  pub size : ℕ

abbrev pub no_packets : PacketsView
no_packets = record { notes = no_notes; log = no_packet; demux = start; size = 0 }

-- with bytes through the log and the demultiplexer
abbrev pub with_bytes : List ℕ → PacketsView → PacketsView
with_bytes bytes p = record { notes = p.notes; log = logged p.log bytes; demux = pushed p.demux bytes; size = p.size + length bytes }

-- the bytes that may still be in a slip, and the state after the bytes before them
pub record CarriedView : Type 0 where
  pub held : List ℕ
  pub packets : PacketsView

-- the state after these bytes of a stream; with `ended` no more bytes come
pub record IsCarriedTo (bytes : List ℕ) (ended : Bool) (s : CarriedView) : Type 0 where
  pub gone : List ℕ
  pub carries : (more : List ℕ) → (ended ≡ true → more ≡ []) → carried (bytes ++ more) ≡ gone ++ carried (s.held ++ more)
  pub said : (more : List ℕ) → (ended ≡ true → more ≡ []) → SayAlike no_notes (bytes ++ more) s.packets.notes (s.held ++ more)
  pub log_is : s.packets.log ≡ logged no_packet gone
  pub demux_is : s.packets.demux ≡ pushed start gone
  pub size_is : s.packets.size ≡ length gone

-- which packets a stream has, its last bytes, which do not yet decide where a packet begins, and the state after the packets before them
pub record InnerView : Type 0 where
  pub other : Option OtherPackets
  pub held : List ℕ
  pub stream : CarriedView

-- the state after these bytes of a stream
pub record IsInner (bytes : List ℕ) (s : InnerView) : Type 0 where
  pub other_is : s.other ≡ other_packets bytes
  pub gone : List ℕ
  pub so_far : IsCarriedTo gone false s.stream
  pub none : bytes ≡ [] → gone ++ s.held ≡ []
  pub left_is : (more : List ℕ) → (409 ≤ length bytes) ⊎ (more ≡ []) → packets_in (bytes ++ more) ≡ gone ++ packet_bytes s.other (s.held ++ more)

-- these packets of the bytes at hand went through a stream, whatever bytes follow
pub record TakesPackets (other : Option OtherPackets) (bytes : List ℕ) (ended : Bool) (old new : CarriedView) (used : ℕ) : Type 0 where
  pub found : List ℕ
  pub is : AreInner other bytes ended found used
  pub taken : (gone : List ℕ) → IsCarriedTo gone false old → IsCarriedTo (gone ++ found) false new

-- the search for packets, whether the bytes are known to be no stream, and the state if they are not
pub record ReadingView : Type 0 where
  pub search : SearchView
  pub refused : Bool
  pub stream : InnerView

-- these bytes came
pub record IsRead (bytes : List ℕ) (r : ReadingView) : Type 0 where
  pub searched : IsSearched bytes r.search
  pub settled : r.refused ≡ true → (more : List ℕ) → is_some (no_stream (bytes ++ more)) ≡ true
  pub so_far : r.refused ≡ false → IsInner bytes r.stream

-- 3. A stream that is read

-- the first 4 MiB, if there are so many bytes, do not show that they are no transport stream
abbrev pub HasPackets : List ℕ → Type 0
HasPackets bytes = searched ≤ length bytes → no_stream bytes ≡ None

-- the first 4 MiB of the input were read
pub record HasFront (input : Device) (front : List ℕ) (r : ReadingView) : Type 0 where
  pub size_is : length front ≡ searched
  pub read : Consumes input.before.bytes input.after.bytes front
  pub clean : IsClean input
  pub is : IsRead front r

-- they show that it is no transport stream: no more is read
pub record ReadsFront (input : Device) (r : ReadingView) : Type 0 where
  pub front : List ℕ
  pub has : HasFront input front r
  pub form : is_some (no_stream front) ≡ true

-- otherwise the whole input was read; or a call of the reader failed, or the input is too long; or there was no memory for it
abbrev pub ReadsStream : Device → Result ReadingView Halt → Type 0
ReadsStream input (Ok r) = IsReadAs input (λ bytes. IsRead bytes r × HasPackets bytes) ⊎ ReadsFront input r
ReadsStream input (Err halt) = ReadsInput input (Err halt)

-- whether no more is to be read after the first 4 MiB
abbrev pub TakesFront : Device → ReadingView → Result Bool Halt → Type 0
TakesFront input r (Ok true) = ReadsStream input (Ok r)
TakesFront input r (Ok false) = (front : List ℕ) × (HasFront input front r × (no_stream front ≡ None))
TakesFront input r (Err halt) = ReadsStream input (Err halt)

-- the stream, if as many bytes after its first 4 MiB were read, and it is not too long
unfoldable pub whole_stream : Result ℕ Halt → ReadingView → Result ReadingView Halt
whole_stream (Ok size) r = if nat_le size (longest_input - searched) then Ok r else Err Read
whole_stream (Err halt) r = Err halt
