-- The worked service is in its ranges.
use Rattle.std.specs.Prelude.{Contains}
use Rattle.std.specs.List.{IsDistinct}
use Rattle.std.proofs.Common.{◌≡◌, ◌≤◌, ◌<◌, ℕ, false, All, [], ◌∷◌, Some, None, refl, inr, arith}
use Rattle.std.proofs.lemmas.List.Elements.{All-nil, All-cons, All-from_recursion}
use Rattle.description_parts.specs.Described.{DescribedNetwork, DescribedProgram, DescribedStream}
use Rattle.description_parts.specs.Tables.{pmt_length, nit_lengths, nit_parts}
use Rattle.description_parts.specs.Ranges.{IsPid, IsBytes, IsLanguage, IsNetwork, IsProgram, IsEvent, IsMultiplexingBuffer, IsFraming, IsStream, IsTable}
use Rattle.description_parts.specs.Ranges.{AreRooms, AreVersions, IsListed, IsSharing, IsInRange, program_numbers, longest_section}
use Rattle.laws_run.specs.WorkedService.{worked_stream, worked_program, worked_service}

pub pid : (n : ℕ) → 32 ≤ n → n ≤ 8190 → IsPid n
pid n low high = record { low = low; high = high }

pub no_bytes : (most : ℕ) → IsBytes most []
no_bytes most = record { fits = omega arith; octets = All-nil (λ (b : ℕ). b < 256) }

stream_is : IsStream worked_stream
stream_is = record {
  pid = pid 256 (omega arith) (omega arith);
  stream_id = inr (omega arith, omega arith);
  stream_type = omega arith;
  some_interval = omega arith;
  most_interval = omega arith;
  some_size = omega arith;
  most_size = omega arith;
  bounded_size = λ below. omega arith;
  some_lead = omega arith;
  most_lead = omega arith;
  some_pts_limit = omega arith;
  most_pts_limit = omega arith;
  least_rx = omega arith;
  most_rx = omega arith;
  some_main = omega arith;
  most_main = omega arith;
  tag = All-nil (λ (t : ℕ). t ≤ 255);
  language = All-nil IsLanguage;
  descriptors = no_bytes 700;
  allowance = record { some_units = omega arith; most_units = omega arith; some_packets = omega arith; most_packets = omega arith };
  few_sharers = omega arith;
  multiplexing = All-nil (IsMultiplexingBuffer 2000000);
  framing = All-nil (IsFraming worked_stream.size);
}

service_loop : IsBytes 1004 (72 ∷ 3 ∷ 2 ∷ 0 ∷ 0 ∷ [])
service_loop = record {
  fits = omega arith;
  octets = All-from_recursion (λ (b : ℕ). b < 256) (72 ∷ 3 ∷ 2 ∷ 0 ∷ 0 ∷ []) (omega arith, (omega arith, (omega arith, (omega arith, (omega arith, tt)))));
}

program_is : IsProgram worked_program
program_is = record {
  some_number = omega arith;
  most_number = omega arith;
  pmt_pid = pid 4096 (omega arith) (omega arith);
  pcr_pid = pid 257 (omega arith) (omega arith);
  some_limit = omega arith;
  most_limit = omega arith;
  some_packets = omega arith;
  most_packets = omega arith;
  pmt_version = omega arith;
  eit_count = omega arith;
  descriptors = no_bytes 700;
  service_descriptors = service_loop;
  running_status = omega arith;
  events = All-nil IsEvent;
}

pub one_packet : AreRooms worked_service.rooms
one_packet = record {
  some_pat = omega arith;
  most_pat = omega arith;
  some_sdt = omega arith;
  most_sdt = omega arith;
  some_nit = omega arith;
  most_nit = omega arith;
  some_eit = omega arith;
  most_eit = omega arith;
}

pub no_versions : AreVersions worked_service.versions
no_versions = record { pat = omega arith; sdt = omega arith; nit = omega arith }

not_shared : IsSharing worked_service worked_stream
unfolding IsDistinct
not_shared = record { declared = All-nil (Contains (program_numbers worked_service)); others = All-nil (λ (n : ℕ). n ≡ 1 → ⊥); once = tt }

pub worked_in_range : IsInRange worked_service
unfolding IsDistinct
worked_in_range = record {
  least_rate = omega arith;
  most_rate = omega arith;
  start = omega arith;
  base0 = omega arith;
  transport_stream_id = omega arith;
  original_network_id = omega arith;
  rooms = one_packet;
  versions = no_versions;
  network = All-nil IsNetwork;
  some_programs = omega arith;
  most_programs = omega arith;
  programs = All-cons IsProgram worked_program [] program_is (All-nil IsProgram);
  clocks = All-cons (λ (p : DescribedProgram). p.has_clock ≡ false → None ≡ Some p.pcr_pid) worked_program [] (λ no. absurd (cc))
      (All-nil (λ (p : DescribedProgram). p.has_clock ≡ false → None ≡ Some p.pcr_pid));
  most_events = omega arith;
  most_streams = omega arith;
  streams = All-cons IsStream worked_stream [] stream_is (All-nil IsStream);
  declared = All-cons (λ (s : DescribedStream). Contains (program_numbers worked_service) s.program) worked_stream [] (0, omega arith, refl)
      (All-nil (λ (s : DescribedStream). Contains (program_numbers worked_service) s.program));
  sharing = All-cons (IsSharing worked_service) worked_stream [] not_shared (All-nil (IsSharing worked_service));
  most_tables = omega arith;
  tables = All-nil IsTable;
  listed = All-nil (IsListed worked_service);
  distinct_pids = ((refl, (refl, tt)), ((refl, tt), (tt, tt)));
  distinct_numbers = (tt, tt);
  pmt_lengths =
      All-cons (λ (p : DescribedProgram). pmt_length worked_service p ≤ longest_section) worked_program [] (omega arith)
      (All-nil (λ (p : DescribedProgram). pmt_length worked_service p ≤ longest_section));
  nit_lengths = All-nil (λ (n : DescribedNetwork). All (λ (l : ℕ). l ≤ longest_section) (nit_lengths n 0 (nit_parts worked_service n)));
  sdt_lengths = λ no. absurd (cc);
}
