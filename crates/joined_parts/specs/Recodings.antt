-- PIDs whose coding changes within a recording that was joined from several: what a PID carries before its coding changes is carried on another PID.
use Rattle.std.specs.Prelude.{ℕ, ◌+◌, ◌*◌, ◌==◌, ◌&&◌, nat_eq, nat_lt, not, Bool, false, if◌then◌else◌, Option, Some, None, List, [], ◌∷◌, ◌++◌, find, length}
use Rattle.std.specs.Prelude.{map}
use Rattle.std.specs.List.{list_any}
use Rattle.std.specs.Map.{lookup}
use Rattle.indexmap.specs.IndexMap.{insert_entry}
use Rattle.psi_tables.specs.ProgramMap.{PmtView, StreamView}
use Rattle.psi_tables.specs.declared.pat.programs.Program.{Program}
use Rattle.pid_findings.specs.Views.{FindingView}
use Rattle.stream_coding.specs.Codings.{coding_of}
use Rattle.stream_coding.specs.declared.coding.Coding.{Coding}
use Rattle.stream_coding.specs.declared.coding.Coding.TheVariants.{Ac3, Pcm, Subtitles, Teletext}
use Rattle.stream_programs.specs.FreePids.{is_taken, least_free}
use Rattle.program_tables.specs.MapPlaces.{program_found}
use Rattle.program_tables.specs.ProgramMaps.{any_map}
use Rattle.joined_parts.specs.MapStreams.{with_stream}
use Rattle.stamp_repair.specs.PesStamps.{begin_of}
use Rattle.joined_parts.specs.WholeMaps.{section_with, with_section}
use Rattle.joined_parts.specs.declared.recodings.Recoding.{Recoding}

-- 1. How a map says that a stream is coded: by stream_type, and private data by descriptors

unfoldable pub kind_of : Coding → ℕ
kind_of Ac3 = 1
kind_of Subtitles = 2
kind_of Teletext = 3
kind_of (Pcm pairs) = 4
kind_of coding = 0

abbrev pub coding_number : StreamView → ℕ
coding_number s = s.stream_type * 8 + kind_of (coding_of s.stream_type s.descriptors [])

-- 2. PIDs that are taken: of findings, of streams and of clock references

unfoldable pub with_pid : List ℕ → ℕ → List ℕ
with_pid pids pid = if is_taken pid pids then pids else pids ++ pid ∷ []

unfoldable pub with_stream_pids : List ℕ → List StreamView → List ℕ
with_stream_pids pids [] = pids
with_stream_pids pids (s ∷ ss) = with_stream_pids (with_pid pids s.elementary_pid) ss

unfoldable pub with_map_pids : List ℕ → Option PmtView → List ℕ
with_map_pids pids None = pids
with_map_pids pids (Some m) = with_stream_pids (with_pid pids m.pcr_pid) m.streams

unfoldable pub with_pid_if : List ℕ → Option ℕ → List ℕ
with_pid_if pids None = pids
with_pid_if pids (Some pid) = with_pid pids pid

abbrev pub with_pids_of : List ℕ → FindingView → List ℕ
with_pids_of pids f = with_map_pids (with_pid_if pids f.pid) (any_map f)

unfoldable pub pids_after : List ℕ → List FindingView → List ℕ
pids_after pids [] = pids
pids_after pids (f ∷ fs) = pids_after (with_pids_of pids f) fs

-- 3. Codings that change

-- by program and PID the coding that the last map names, the PIDs that are taken, and the changes up to here
pub record CodingsView : Type 0 where
  pub codings : List (ℕ × ℕ)
  pub taken : List ℕ
  pub recodings : List Recoding

abbrev pub coding_key : ℕ → ℕ → ℕ
coding_key key pid = key * 65_536 + pid

-- what a PID carries before the packet of a map with another coding gets the next PID that is free; there are 256 at most
unfoldable pub with_recoding : CodingsView → ℕ → ℕ → Option ℕ → CodingsView
with_recoding c pid packet None = c
with_recoding c pid packet (Some to) = record {
  codings = c.codings;
  taken = c.taken ++ to ∷ [];
  recodings = c.recodings ++ record { pid = pid; to = to; packet = packet } ∷ [];
}

unfoldable pub is_other_coding : Option ℕ → ℕ → Bool
is_other_coding None coding = false
is_other_coding (Some before) coding = not (before == coding)

unfoldable pub with_change : CodingsView → ℕ → ℕ → Bool → CodingsView
with_change c pid packet changes = if changes && nat_lt (length c.recodings) 256 then with_recoding c pid packet (least_free pid c.taken) else c

unfoldable pub with_coding : CodingsView → ℕ → ℕ → CodingsView
with_coding c key coding = record { codings = insert_entry nat_eq c.codings key coding; taken = c.taken; recodings = c.recodings }

abbrev pub coded_after : CodingsView → ℕ → ℕ → ℕ → ℕ → CodingsView
coded_after c key pid coding packet = with_coding (with_change c pid packet (is_other_coding (lookup (nat_eq key) c.codings) coding)) key coding

abbrev pub with_stream_coding : CodingsView → ℕ → ℕ → StreamView → CodingsView
with_stream_coding c key packet s = coded_after c (coding_key key s.elementary_pid) s.elementary_pid (coding_number s) packet

unfoldable pub with_codings : CodingsView → ℕ → ℕ → List StreamView → CodingsView
with_codings c key packet [] = c
with_codings c key packet (s ∷ ss) = with_codings (with_stream_coding c key packet s) key packet ss

unfoldable pub with_map_codings : CodingsView → ℕ → Option Program → Option PmtView → CodingsView
with_map_codings c packet None found = c
with_map_codings c packet (Some p) None = c
with_map_codings c packet (Some p) (Some m) = with_codings c p.program_number packet m.streams

abbrev pub with_codings_of : CodingsView → FindingView → CodingsView
with_codings_of c f = with_map_codings c f.packet (program_found f) (any_map f)

unfoldable pub codings_after : CodingsView → List FindingView → CodingsView
codings_after c [] = c
codings_after c (f ∷ fs) = codings_after (with_codings_of c f) fs

abbrev pub codings_before : List FindingView → CodingsView
codings_before findings = record { codings = []; taken = pids_after [] findings; recodings = [] }

abbrev pub recodings_in : List FindingView → List Recoding
recodings_in findings = (codings_after (codings_before findings) findings).recodings

-- 4. PIDs in their place

-- a PID as it is carried of which something begins in a packet: the first change after that packet counts
abbrev pub is_before : ℕ → ℕ → Recoding → Bool
is_before pid packet r = r.pid == pid && nat_lt packet r.packet

unfoldable pub pid_with : ℕ → Option Recoding → ℕ
pid_with pid None = pid
pid_with pid (Some r) = r.to

abbrev pub carried_pid : List Recoding → ℕ → ℕ → ℕ
carried_pid rs packet pid = pid_with pid (find (is_before pid packet) rs)

unfoldable pub carried_pid_if : List Recoding → ℕ → Option ℕ → Option ℕ
carried_pid_if rs packet None = None
carried_pid_if rs packet (Some pid) = Some (carried_pid rs packet pid)

-- the streams that a map in a packet names
abbrev pub carried_stream : List Recoding → ℕ → StreamView → StreamView
carried_stream rs packet s = record {
  stream_type = s.stream_type;
  elementary_pid = carried_pid rs packet s.elementary_pid;
  descriptors = s.descriptors;
}

unfoldable pub with_carried : List Recoding → ℕ → List StreamView → List StreamView → List StreamView
with_carried rs packet streams [] = streams
with_carried rs packet streams (s ∷ ss) = with_carried rs packet (with_stream streams (carried_stream rs packet s)) ss

abbrev pub is_moved : List Recoding → ℕ → StreamView → Bool
is_moved rs packet s = not (carried_pid rs packet s.elementary_pid == s.elementary_pid)

unfoldable pub any_moved : List Recoding → ℕ → List StreamView → Bool
any_moved rs packet streams = list_any (is_moved rs packet) streams

abbrev pub carried_bytes : List Recoding → ℕ → PmtView → Option (List ℕ)
carried_bytes rs packet m = section_with m.header m.pcr_pid m.program_info (with_carried rs packet [] m.streams)

unfoldable pub carried_section : List Recoding → ℕ → Option PmtView → Option (List ℕ)
carried_section rs packet None = None
carried_section rs packet (Some m) = if any_moved rs packet m.streams then carried_bytes rs packet m else None

abbrev pub carried : List Recoding → FindingView → FindingView
carried rs f = record {
  packet = f.packet;
  pid = carried_pid_if rs (begin_of f.begun f.packet) f.pid;
  begun = f.begun;
  what = with_section (carried_section rs f.packet (any_map f)) f.what;
}

abbrev pub recoded : List FindingView → List FindingView
recoded findings = map (carried (recodings_in findings)) findings
