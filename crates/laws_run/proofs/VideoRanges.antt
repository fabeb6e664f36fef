-- The worked service with video and sound is in its ranges.
use Rattle.std.specs.Prelude.{Contains}
use Rattle.std.specs.List.{IsDistinct}
use Rattle.std.proofs.Common.{◌≡◌, ◌≤◌, ◌<◌, ℕ, false, All, [], ◌∷◌, Some, None, refl, inr, arith}
use Rattle.std.proofs.lemmas.List.Elements.{All-nil, All-cons, All-from_recursion}
use Rattle.description_parts.specs.Described.{DescribedNetwork, DescribedProgram, DescribedStream}
use Rattle.description_parts.specs.Tables.{pmt_length, nit_lengths, nit_parts}
use Rattle.description_parts.specs.Ranges.{IsBytes, IsLanguage, IsNetwork, IsProgram, IsEvent, IsMultiplexingBuffer, IsFraming, IsStream, IsTable}
use Rattle.description_parts.specs.Ranges.{IsListed, IsSharing, IsInRange, program_numbers, longest_section}
use Rattle.laws_run.specs.WorkedVideo.{video_stream, video_buffer, sound_stream, sound_framing, video_program, video_service}
use Rattle.laws_run.proofs.WorkedRanges.{pid, no_bytes, no_versions, one_packet}

buffer_is : IsMultiplexingBuffer 1200000 video_buffer
buffer_is = record { least_rbx = omega arith; most_rbx = omega arith; some_size = omega arith; most_size = omega arith }

video_is : IsStream video_stream
video_is = record {
  pid = pid 256 (omega arith) (omega arith);
  stream_id = inr (omega arith, omega arith);
  stream_type = omega arith;
  some_interval = omega arith;
  most_interval = omega arith;
  some_size = omega arith;
  most_size = omega arith;
  bounded_size = λ below. omega arith;
  some_lead = omega arith;
  most_lead = omega arith;
  some_pts_limit = omega arith;
  most_pts_limit = omega arith;
  least_rx = omega arith;
  most_rx = omega arith;
  some_main = omega arith;
  most_main = omega arith;
  tag = All-nil (λ (t : ℕ). t ≤ 255);
  language = All-nil IsLanguage;
  descriptors = no_bytes 700;
  allowance = record { some_units = omega arith; most_units = omega arith; some_packets = omega arith; most_packets = omega arith };
  few_sharers = omega arith;
  multiplexing = All-cons (IsMultiplexingBuffer 1200000) video_buffer [] buffer_is (All-nil (IsMultiplexingBuffer 1200000));
  framing = All-nil (IsFraming 100);
}

framing_is : IsFraming 100 sound_framing
framing_is = record {
  some_frames = omega arith;
  most_frames = omega arith;
  most_frame = omega arith;
  most_rest = omega arith;
  left = (omega arith, omega arith);
}

sound_is : IsStream sound_stream
sound_is = record {
  pid = pid 258 (omega arith) (omega arith);
  stream_id = inr (omega arith, omega arith);
  stream_type = omega arith;
  some_interval = omega arith;
  most_interval = omega arith;
  some_size = omega arith;
  most_size = omega arith;
  bounded_size = λ below. omega arith;
  some_lead = omega arith;
  most_lead = omega arith;
  some_pts_limit = omega arith;
  most_pts_limit = omega arith;
  least_rx = omega arith;
  most_rx = omega arith;
  some_main = omega arith;
  most_main = omega arith;
  tag = All-nil (λ (t : ℕ). t ≤ 255);
  language = All-nil IsLanguage;
  descriptors = no_bytes 700;
  allowance = record { some_units = omega arith; most_units = omega arith; some_packets = omega arith; most_packets = omega arith };
  few_sharers = omega arith;
  multiplexing = All-nil (IsMultiplexingBuffer 2000000);
  framing = All-cons (IsFraming 100) sound_framing [] framing_is (All-nil (IsFraming 100));
}

service_loop : IsBytes 1004 (72 ∷ 3 ∷ 1 ∷ 0 ∷ 0 ∷ [])
service_loop = record {
  fits = omega arith;
  octets = All-from_recursion (λ (b : ℕ). b < 256) (72 ∷ 3 ∷ 1 ∷ 0 ∷ 0 ∷ []) (omega arith, (omega arith, (omega arith, (omega arith, (omega arith, tt)))));
}

program_is : IsProgram video_program
program_is = record {
  some_number = omega arith;
  most_number = omega arith;
  pmt_pid = pid 4096 (omega arith) (omega arith);
  pcr_pid = pid 257 (omega arith) (omega arith);
  some_limit = omega arith;
  most_limit = omega arith;
  some_packets = omega arith;
  most_packets = omega arith;
  pmt_version = omega arith;
  eit_count = omega arith;
  descriptors = no_bytes 700;
  service_descriptors = service_loop;
  running_status = omega arith;
  events = All-nil IsEvent;
}

not_shared : (s : DescribedStream) → s.shared_with ≡ [] → IsSharing video_service s
unfolding IsDistinct
not_shared s none = record {
  declared = rw none (All-nil (Contains (program_numbers video_service)));
  others = rw none (All-nil (λ (n : ℕ). n ≡ s.program → ⊥));
  once = rw none tt;
}

abbrev DeclaredIn : DescribedStream → Type 0
DeclaredIn s = Contains (program_numbers video_service) s.program

pub video_in_range : IsInRange video_service
unfolding IsDistinct
video_in_range = record {
  least_rate = omega arith;
  most_rate = omega arith;
  start = omega arith;
  base0 = omega arith;
  transport_stream_id = omega arith;
  original_network_id = omega arith;
  rooms = one_packet;
  versions = no_versions;
  network = All-nil IsNetwork;
  some_programs = omega arith;
  most_programs = omega arith;
  programs = All-cons IsProgram video_program [] program_is (All-nil IsProgram);
  clocks = All-cons (λ (p : DescribedProgram). p.has_clock ≡ false → None ≡ Some p.pcr_pid) video_program [] (λ no. absurd (cc))
      (All-nil (λ (p : DescribedProgram). p.has_clock ≡ false → None ≡ Some p.pcr_pid));
  most_events = omega arith;
  most_streams = omega arith;
  streams = All-cons IsStream video_stream (sound_stream ∷ []) video_is (All-cons IsStream sound_stream [] sound_is (All-nil IsStream));
  declared = All-cons DeclaredIn video_stream (sound_stream ∷ []) (0, omega arith, refl)
      (All-cons DeclaredIn sound_stream [] (0, omega arith, refl) (All-nil DeclaredIn));
  sharing = All-cons (IsSharing video_service) video_stream (sound_stream ∷ []) (not_shared video_stream refl)
      (All-cons (IsSharing video_service) sound_stream [] (not_shared sound_stream refl) (All-nil (IsSharing video_service)));
  most_tables = omega arith;
  tables = All-nil IsTable;
  listed = All-nil (IsListed video_service);
  distinct_pids = ((refl, (refl, (refl, tt))), ((refl, (refl, tt)), ((refl, tt), (tt, tt))));
  distinct_numbers = (tt, tt);
  pmt_lengths =
      All-cons (λ (p : DescribedProgram). pmt_length video_service p ≤ longest_section) video_program [] (omega arith)
      (All-nil (λ (p : DescribedProgram). pmt_length video_service p ≤ longest_section));
  nit_lengths = All-nil (λ (n : DescribedNetwork). All (λ (l : ℕ). l ≤ longest_section) (nit_lengths n 0 (nit_parts video_service n)));
  sdt_lengths = λ no. absurd (cc);
}
