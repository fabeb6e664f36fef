-- Marks that a user asks for, set on the findings in a stream before its units are taken: the PES packets at which a decoder may begin, and whether PES
-- packets are aligned. A mark that is there stays.
use Rattle.std.specs.Prelude.{ℕ, ◌==◌, Bool, true, false, if◌then◌else◌, Option, Some, None, List, [], ◌∷◌, map}
use Rattle.std.specs.List.{list_any}
use Rattle.pes_packet.specs.declared.marks.PesFlags.{PesFlags}
use Rattle.pes_packet.specs.declared.reading.PesHeader.{PesHeader}
use Rattle.pid_findings.specs.declared.finding.Kind.{Kind}
use Rattle.pid_findings.specs.declared.finding.Kind.TheVariants.{Table, Pes}
use Rattle.pid_findings.specs.Views.{FindingView, WhatView, IsPes}
use Rattle.stream_coding.specs.AccessPoints.{is_access_point}
use Rattle.es_units.specs.declared.marking.TypedPid.{TypedPid}

-- the marks that are asked for: the PIDs whose access points are marked, each with its stream_type, and the PIDs whose PES packets are aligned
pub record MarkingView : Type 0 where
  pub access : List TypedPid
  pub aligned : List ℕ

abbrev pub no_marking : MarkingView
no_marking = record { access = []; aligned = [] }

-- 1. A decoder may begin

-- the stream_type of a PID, by the first of these that has it
unfoldable pub type_of : ℕ → List TypedPid → Option ℕ
type_of pid [] = None
type_of pid (t ∷ types) = if t.pid == pid then Some t.stream_type else type_of pid types

unfoldable pub can_begin : Option ℕ → List ℕ → Bool
can_begin None body = false
can_begin (Some stream_type) body = is_access_point stream_type body

-- an access point begins with a PES packet of a PID, by the bytes after its header
unfoldable pub is_begin : List TypedPid → Option ℕ → WhatView → Bool
is_begin types (Some pid) (IsPes header unended body) = can_begin (type_of pid types) body
is_begin types pid what = false

-- the packet of its first byte has the random_access_indicator (ISO/IEC 13818-1, 2.4.3.5)
unfoldable pub with_access : Option (ℕ × Kind) → Option (ℕ × Kind)
with_access None = None
with_access (Some (packet, Table table_id)) = Some (packet, Table table_id)
with_access (Some (packet, Pes stamped access)) = Some (packet, Pes stamped true)

-- 2. Alignment

unfoldable pub is_aligned : List ℕ → Option ℕ → Bool
is_aligned pids None = false
is_aligned pids (Some pid) = list_any (λ p. p == pid) pids

-- a PES header with data_alignment_indicator (2.4.3.7)
abbrev pub aligned_flags : PesFlags → PesFlags
aligned_flags flags = record { priority = flags.priority; aligned = true; copyright = flags.copyright; original = flags.original }

abbrev pub aligned_header : PesHeader → PesHeader
aligned_header header = record {
  id = header.id;
  len = header.len;
  stamps = header.stamps;
  flags = aligned_flags header.flags;
  data_length = header.data_length;
  private_data = header.private_data;
}

unfoldable pub with_alignment : WhatView → WhatView
with_alignment (IsPes header unended body) = IsPes (aligned_header header) unended body
with_alignment what = what

-- 3. A finding, and all of them

abbrev pub marked : MarkingView → FindingView → FindingView
marked m f = record {
  packet = f.packet;
  pid = f.pid;
  begun = if is_begin m.access f.pid f.what then with_access f.begun else f.begun;
  what = if is_aligned m.aligned f.pid then with_alignment f.what else f.what;
}

abbrev pub all_marked : MarkingView → List FindingView → List FindingView
all_marked m findings = map (marked m) findings
