-- The keys of the document itself, but for its arrays.
use Rattle.std.specs.Prelude.{ℕ, pos, ◌&&◌, ◌||◌, not, Bool, false, List, [], ◌∷◌, Option, None, codes, is_none, is_some, unwrap_or}
use Rattle.std.specs.Prelude.{if◌then◌else◌}
use Rattle.std.specs.List.{list_all}
use Rattle.toml.specs.Data.{Data, get}
use Rattle.description_values.specs.Values.{integer_at, integer_or, optional_integer, boolean_or, elements}
use Rattle.description_values.specs.Moments.{moment_at}
use Rattle.description_keys.specs.Rules.{Rule, needs, rule}
use Rattle.description_keys.specs.VersionKeys.{refuses_versions}
use Rattle.description_keys.specs.declared.key_row.KeyPart.TheVariants as part

-- the rate of the transport stream, in bits a second
abbrev pub rate : Data → Option ℕ
rate = integer_at (codes "rate") (pos 100000) (pos 100000000)

-- the moment of the first slot
abbrev pub start : Data → Option ℕ
start = moment_at (codes "start")

-- program_clock_reference_base as the run begins, 33 bits (ISO/IEC 13818-1, 2.4.3.5)
abbrev pub base0 : Data → Option ℕ
base0 = integer_or 0 (codes "base0") (pos 0) (pos 8589934591)

-- transport_stream_id (ISO/IEC 13818-1, 2.4.4.5)
abbrev pub transport_stream_id : Data → Option ℕ
transport_stream_id = integer_at (codes "ts_id") (pos 0) (pos 65535)

-- original_network_id (EN 300 468, 5.2.3)
abbrev pub original_network_id : Data → Option ℕ
original_network_id = integer_at (codes "original_network_id") (pos 0) (pos 65535)

-- whether there is a service description table, and a time and date table
abbrev pub has_sdt : Data → Option Bool
has_sdt = boolean_or false (codes "sdt")

abbrev pub has_tdt : Data → Option Bool
has_tdt = boolean_or false (codes "tdt")

-- whether the description has the greater limits of a whole transponder: not if the key is absent or refused
abbrev pub transponder : Data → Option Bool
transponder = boolean_or false (codes "transponder")

abbrev pub is_transponder : Data → Bool
is_transponder document = unwrap_or (transponder document) false

-- a limit of a description: the first number, with `transponder` the second
abbrev pub limit_in : Data → ℕ → ℕ → ℕ
limit_in document most more = if is_transponder document then more else most

-- the PID of the clock references that the programs without a `pcr_pid` share (ISO/IEC 13818-1, 2.4.4.9), if they share one
abbrev pub clock_pid : Data → Option (Option ℕ)
clock_pid = optional_integer (codes "clock_pid") (pos 32) (pos 8190)

-- none if the key is refused
abbrev pub clock_pid_of : Data → Option ℕ
clock_pid_of document = unwrap_or (clock_pid document) None

-- a program has clock references of its own
abbrev pub has_own_clock : Data → Bool
has_own_clock program = is_some (get (codes "pcr_pid") program)

-- a shared PID is refused if no program uses it
abbrev pub have_own_clocks : Data → Bool
have_own_clocks document = list_all has_own_clock (elements (codes "program") document)

abbrev pub refuses_shared_clock : Data → Bool
refuses_shared_clock document = is_none (clock_pid document) || (is_some (clock_pid_of document) && have_own_clocks document)

-- whether the EIT has two sections for each program, also for a program without an event: not if the key is absent or refused
abbrev pub eit : Data → Option Bool
eit = boolean_or false (codes "eit")

abbrev pub has_eit : Data → Bool
has_eit document = unwrap_or (eit document) false

-- the packets of a section of the EIT: refused without `eit`
abbrev pub eit_packets : Data → Option ℕ
eit_packets = integer_or 2 (codes "eit_packets") (pos 2) (pos 23)

abbrev pub refuses_eit_packets : Data → Bool
refuses_eit_packets document = is_none (eit_packets document) || (is_some (get (codes "eit_packets") document) && not (has_eit document))

-- the least number of packets of a section of the PAT, the SDT and the NIT
abbrev pub pat_packets : Data → Option ℕ
pat_packets = integer_or 1 (codes "pat_packets") (pos 1) (pos 6)

abbrev pub sdt_packets : Data → Option ℕ
sdt_packets = integer_or 1 (codes "sdt_packets") (pos 1) (pos 6)

abbrev pub nit_packets : Data → Option ℕ
nit_packets = integer_or 1 (codes "nit_packets") (pos 1) (pos 6)

-- the rules of the keys, in the order of their refusals
abbrev pub top_rules : List Rule
top_rules = needs part.Document 10 (codes "rate") rate ∷ needs part.Document 11 (codes "start") start
    ∷ needs part.Document 12 (codes "base0") base0 ∷ needs part.Document 13 (codes "ts_id") transport_stream_id
    ∷ needs part.Document 14 (codes "original_network_id") original_network_id
    ∷ needs part.Document 15 (codes "sdt") has_sdt ∷ needs part.Document 16 (codes "tdt") has_tdt
    ∷ needs part.Document 17 (codes "transponder") transponder
    ∷ rule part.Document 18 (codes "clock_pid") (λ document d. refuses_shared_clock d)
    ∷ needs part.Document 95 (codes "eit") eit
    ∷ rule part.Document 105 (codes "eit_packets") (λ document d. refuses_eit_packets d)
    ∷ needs part.Document 97 (codes "pat_packets") pat_packets ∷ needs part.Document 98 (codes "sdt_packets") sdt_packets
    ∷ needs part.Document 99 (codes "nit_packets") nit_packets
    ∷ rule part.Document 103 (codes "versions") (λ document d. refuses_versions d) ∷ []
