-- Warnings about a stream that is not taken as it is.
use Rattle.std.specs.Prelude.{ℕ, ◌==◌, Bool, true, false, is_some, if◌then◌else◌, List, [], ◌∷◌, ◌++◌, length, map, flat_map, Option, Some, None}
use Rattle.std.specs.Prelude.{option_to_list}
use Rattle.std.specs.List.{list_any}
use Rattle.psi_tables.specs.declared.pat.programs.Program.{Program}
use Rattle.pid_findings.specs.Views.{WhatView, IsTruncated, IsBadPacket, IsErrored, FindingView}
use Rattle.program_tables.specs.Association.{AssociationView, association_change, is_named}
use Rattle.stream_programs.specs.Omissions.{is_loss}
use Rattle.program_tables.specs.ProgramMaps.{map_change}
use Rattle.program_tables.specs.declared.program_map.MapPart.{MapPart}
use Rattle.stream_programs.specs.Programs.{programs_of}
use Rattle.stream_programs.specs.StrayPids.{mapped_pids, pes_count, stray_pids}
use Rattle.stream_programs.specs.Streams.{FoundStreamView}
use Rattle.es_units.specs.UnitWarnings.{unit_warnings}
use Rattle.es_units.specs.Damage as units
use Rattle.given_values.specs.GivenNames.{NetworkNameView, ServiceNameView}
use Rattle.es_buffers.specs.declared.buffers.PidBuffers.{PidBuffers}
use Rattle.job_programs.specs.JobOptions.{JobOptionsView}
use Rattle.job_programs.specs.LaterPrograms.{program_loss}
use Rattle.job_programs.specs.JobPrograms.{numbers_named}
use Rattle.job_programs.specs.OtherStreams.{network_surplus}
use Rattle.job_programs.specs.declared.warning.Warning.{Warning}
use Rattle.job_programs.specs.declared.warning.Warning.TheVariants as warning
use Rattle.job_programs.specs.declared.warning.PacketWarning.{PacketWarning}
use Rattle.job_programs.specs.declared.warning.PacketWarning.TheVariants.{Bad, Errored, AssociationChanges, ProgramLoss, NetworkSurplus}
use Rattle.job_programs.specs.declared.warning.ProgramWarning.{ProgramWarning}
use Rattle.job_programs.specs.declared.warning.ProgramWarning.TheVariants.{Missing, NoStream}

-- 1. Packets: findings on no PID

unfoldable pub packet_warning_of : ℕ → WhatView → List Warning
packet_warning_of packet (IsBadPacket error) = warning.Packet packet Bad ∷ []
packet_warning_of packet IsErrored = warning.Packet packet Errored ∷ []
packet_warning_of packet (IsTruncated bytes) = warning.TrailingBytes (length bytes) ∷ []
packet_warning_of packet _ = []

unfoldable pub packet_warning : FindingView → List Warning
packet_warning finding = if is_some finding.pid then [] else packet_warning_of finding.packet finding.what

abbrev pub packet_warnings : List FindingView → List Warning
packet_warnings findings = flat_map packet_warning findings

-- 2. Tables that change

-- the first association section that says something else than the association
abbrev pub association_change_warnings : AssociationView → List FindingView → List Warning
association_change_warnings a findings = map (λ packet. warning.Packet packet AssociationChanges) (option_to_list (association_change a findings))

-- the first association section with an entry whose maps are not read
abbrev pub loss_warnings : JobOptionsView → AssociationView → List FindingView → List Warning
loss_warnings options a findings = map (λ packet. warning.Packet packet ProgramLoss) (option_to_list (program_loss options a.programs findings))

abbrev pub association_warnings : JobOptionsView → AssociationView → List FindingView → List Warning
association_warnings options a findings = association_change_warnings a findings ++ loss_warnings options a findings

-- the first map of a program that is other in a part than its last one
unfoldable pub map_warnings : MapPart → List FindingView → Program → List Warning
map_warnings part findings p = map (λ packet. warning.Map p.program_number packet part) (option_to_list (map_change part p findings))

abbrev pub all_map_warnings : MapPart → List FindingView → List Program → List Warning
all_map_warnings part findings named = flat_map (map_warnings part findings) named

-- 3. Units: findings on a PID that are in no unit, in a stream of `count` whole packets

unfoldable pub pid_warnings : ℕ → List FindingView → ℕ → List Warning
pid_warnings count findings pid = map (warning.Units pid) (unit_warnings pid count findings)

-- 4. PES packets of no program: of a PID that no map of the association names, and that is not left out by an option

abbrev pub known_pids : List ℕ → AssociationView → List FindingView → List ℕ
known_pids without a findings = mapped_pids (programs_of a.programs findings) ++ without

unfoldable pub stray_warning : List FindingView → ℕ → Warning
stray_warning findings pid = warning.StrayPes pid (pes_count pid findings)

unfoldable pub stray_warnings : List ℕ → AssociationView → List FindingView → List Warning
stray_warnings without a findings = map (stray_warning findings) (stray_pids (known_pids without a findings) [] findings)

-- 5. What options name and is not there: of a program that is not there, with the programs that are

unfoldable pub selection_warning : AssociationView → ℕ → List Warning
selection_warning a number = if is_named number a.programs then [] else warning.Program number (Missing (numbers_named a.programs)) ∷ []

unfoldable pub pid_option_warning : List FoundStreamView → ℕ → List Warning
pid_option_warning streams pid = if list_any (λ s. s.pid == pid) streams then [] else warning.NoSuchStream pid ∷ []

unfoldable pub buffer_warning : List FoundStreamView → PidBuffers → List Warning
buffer_warning streams b = pid_option_warning streams b.pid

unfoldable pub name_warning : AssociationView → ServiceNameView → List Warning
name_warning a n = selection_warning a n.program

unfoldable pub option_warnings : List ℕ → List ℕ → List PidBuffers → List ServiceNameView → List ℕ → AssociationView → List FoundStreamView → List Warning
option_warnings programs without buffers names aligned a streams =
    (((flat_map (selection_warning a) programs ++ flat_map (pid_option_warning streams) without) ++ flat_map (buffer_warning streams) buffers)
    ++ flat_map (name_warning a) names)
    ++ flat_map (pid_option_warning streams) aligned

-- 6. The network of the stream, if no other is given: what its tables say that is not carried

abbrev pub surplus_warning : ℕ → Warning
surplus_warning packet = warning.Packet packet NetworkSurplus

unfoldable pub network_warnings : Option NetworkNameView → ℕ → List FindingView → List Warning
network_warnings None id findings = map surplus_warning (option_to_list (network_surplus id findings))
network_warnings (Some n) id findings = []

-- 7. Which warnings say that something is lost

abbrev pub is_packet_damage : PacketWarning → Bool
is_packet_damage Bad = true
is_packet_damage Errored = true
is_packet_damage AssociationChanges = false
is_packet_damage ProgramLoss = true
is_packet_damage NetworkSurplus = true

abbrev pub is_program_damage : ProgramWarning → Bool
is_program_damage (Missing named) = true
is_program_damage NoStream = false

unfoldable pub is_damage : Warning → Bool
is_damage (warning.Packet packet what) = is_packet_damage what
is_damage (warning.TrailingBytes size) = true
is_damage (warning.Map program packet part) = true
is_damage (warning.Table left_out) = is_loss left_out
is_damage (warning.StrayPes pid count) = true
is_damage (warning.Program program what) = is_program_damage what
is_damage (warning.NoSuchStream pid) = true
is_damage (warning.Units pid unit) = units.is_damage unit.cause
is_damage (warning.NoUnit program pid) = false
is_damage (warning.StreamId stream packet id) = true
is_damage (warning.Information about) = true
is_damage (warning.MapMoved program from to) = false
is_damage (warning.HeaderBuffer pid said unit counted) = false
is_damage (warning.Leak pid rate leak) = false
is_damage (warning.LeftOut stream why) = true
is_damage (warning.Frames pid frames main bytes) = true
is_damage (warning.CrossingFrames pid main) = true
is_damage (warning.MadeDts pid) = false

abbrev pub are_damaged : List Warning → Bool
are_damaged warnings = list_any is_damage warnings
