-- The PIDs that the sections of PAT, CAT and PMT name: network_PID, program_map_PID, PCR_PID, elementary_PID (ISO/IEC 13818-1, 2.4.4.3 and 2.4.4.8), and
-- the CA_PID of each CA_descriptor in a CAT or a PMT (2.4.4.6 and 2.6.16).
use Rattle.std.specs.Prelude.{ℕ, ◌+◌, ◌*◌, ◌%◌, ◌==◌, nat_lt, Bool, false, if◌then◌else◌, List, [], ◌∷◌, ◌++◌, map, flat_map, Result, Ok, Err}
use Rattle.descriptor_loops.specs.Descriptors.{DescriptorView, descriptors_in}
use Rattle.psi_tables.specs.ProgramAssociation.{PatView, pat_at}
use Rattle.psi_tables.specs.ProgramMap.{PmtView, StreamView, pmt_at}
use Rattle.psi_tables.specs.Views.{SectionView}
use Rattle.psi_tables.specs.declared.error.SectionError.{SectionError}

-- the body of a CA_descriptor: CA_system_ID, three reserved bits, CA_PID
unfoldable pub access_pid : List ℕ → List ℕ
access_pid [] = []
access_pid (a ∷ []) = []
access_pid (a ∷ b ∷ []) = []
access_pid (a ∷ b ∷ high ∷ []) = []
access_pid (a ∷ b ∷ high ∷ low ∷ rest) = (high % 32 * 256 + low) ∷ []

-- a descriptor of another tag names no PID
unfoldable pub descriptor_pid : DescriptorView → List ℕ
descriptor_pid d = if d.tag == 9 then access_pid d.body else []

abbrev pub access_pids : List ℕ → List ℕ
access_pids bytes = flat_map descriptor_pid (descriptors_in bytes)

abbrev pub stream_pids : StreamView → List ℕ
stream_pids s = s.elementary_pid ∷ access_pids s.descriptors

abbrev pub pmt_pids : PmtView → List ℕ
pmt_pids pmt = pmt.pcr_pid ∷ (access_pids pmt.program_info ++ flat_map stream_pids pmt.streams)

unfoldable pub map_pids : Result PmtView SectionError → List ℕ
map_pids (Err error) = []
map_pids (Ok pmt) = pmt_pids pmt

unfoldable pub association_pids : Result PatView SectionError → List ℕ
association_pids (Err error) = []
association_pids (Ok pat) = map (λ p. p.pid) pat.programs

-- a section by its table_id, in force or not
abbrev pub table_pids : SectionView → List ℕ
table_pids s =
    if s.header.table_id == 0 then association_pids (pat_at s)
    else if s.header.table_id == 1 then access_pids s.body
    else if s.header.table_id == 2 then map_pids (pmt_at s)
    else []

-- whether the bytes begin with the table_id of a PAT, a CAT or a PMT
unfoldable pub may_name : List ℕ → Bool
may_name [] = false
may_name (table_id ∷ rest) = nat_lt table_id 3
