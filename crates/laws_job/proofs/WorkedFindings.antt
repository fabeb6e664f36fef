-- What a demultiplexer finds in a small stream.
use Rattle.std.proofs.Common.{◌≡◌, ◌∙◌, ℕ, true, List, ◌++◌, length, refl, sym, ap}
use Rattle.demux.specs.Stream.{StreamState, finished, is_aligned, pushed, start, ended_found, findings_by, found_in, states_by, taken}
use Rattle.pes_packet.specs.Marks.{first_sixteen}
use Rattle.pes_packet.specs.PrivateData.{private_at, private_in}
use Rattle.pes_packet.specs.Reading.{data_at, five_at, flags_at, header_at, pts_at, pts_dts_at, stamp_at, stamps_at, start_at}
use Rattle.pes_packet.specs.StreamIds.{has_flags}
use Rattle.pid_findings.specs.Findings.{by_break, by_role, ended, found_appended, found_at, found_if, found_or_cut, found_within, last_bytes, last_bytes_by}
use Rattle.pid_findings.specs.Findings.{undecided, unless_decided}
use Rattle.pid_findings.specs.Machine.{next_open, step_marked, unbroken}
use Rattle.pid_findings.specs.Marks.{break_after, break_at, is_repeat, mark, repeats, seen}
use Rattle.pid_findings.specs.OpenUnits.{begun_kind, decided, last_in, of_header, of_pes, of_section, sections_in, taken_by}
use Rattle.pid_findings.specs.Roles.{role, role_by, role_by_pointer, role_of}
use Rattle.psi_tables.specs.CheckWord.{after_bit, after_bits, after_byte, after_bytes, bits_of, check_word}
use Rattle.psi_tables.specs.Reading.{is_bad_length, long_header_of, long_section, section_at, section_start_at, short_section, sized_at, whole_at}
use Rattle.ts_packet.specs.PcrBytes.{without_pcr}
use Rattle.ts_packet.specs.Reading.{adaptation_at, body_at, countdown_at, field_at, header_of, length_prefixed_at, packet_at, parts_at, reference_at}
use Rattle.ts_packet.specs.Reading.{reference_of}
use Rattle.demux.proofs.PushedBytes.{taken_as_pushed}
use Rattle.demux.proofs.WholeStream.{pieces_join}
use Rattle.laws_run.specs.WorkedBytes.{pat_packet, pmt_packet, unit_packet}
use Rattle.laws_job.specs.WorkedJob.{second_packet, stream_bytes, stream_findings}

-- after a packet, with its findings
abbrev after_packet : StreamState → List ℕ → StreamState
after_packet s bytes = record (taken s bytes) { found = s.found ++ found_in s bytes }

one_more : (s : StreamState) (a rest : List ℕ) → is_aligned s ≡ true → length a ≡ 188 → pushed s (a ++ rest) ≡ pushed (after_packet s a) rest
one_more s a rest e h = sym (pieces_join s a rest) ∙ ap (λ (t : StreamState). pushed t rest) (taken_as_pushed s a e h)

aligned : (s : StreamState) (a : List ℕ) → is_aligned s ≡ true → is_aligned (after_packet s a) ≡ true
unfolding taken
aligned s a e = e

four : (s : StreamState) (a b c d : List ℕ) → is_aligned s ≡ true → length a ≡ 188 → length b ≡ 188 → length c ≡ 188 → length d ≡ 188 →
    pushed s (a ++ (b ++ (c ++ d))) ≡ after_packet (after_packet (after_packet (after_packet s a) b) c) d
four s a b c d e h i j k =
    let s1 = aligned s a e in
    let s2 = aligned (after_packet s a) b s1 in
    let s3 = aligned (after_packet (after_packet s a) b) c s2 in
    one_more s a (b ++ (c ++ d)) e h ∙ one_more (after_packet s a) b (c ++ d) s1 i ∙ one_more (after_packet (after_packet s a) b) c d s2 j
    ∙ taken_as_pushed (after_packet (after_packet (after_packet s a) b) c) d s3 k

-- the findings of the four packets
evaluated : (finished (after_packet (after_packet (after_packet (after_packet start (pat_packet 0)) (pmt_packet 0)) unit_packet) second_packet)).found
    ≡ stream_findings
unfolding ended_found findings_by found_in states_by taken first_sixteen private_at private_in data_at five_at flags_at header_at pts_at pts_dts_at stamp_at
    stamps_at start_at has_flags by_break by_role ended found_appended found_at found_if found_or_cut found_within last_bytes last_bytes_by undecided
    unless_decided next_open step_marked unbroken break_after break_at is_repeat mark repeats seen begun_kind decided last_in of_header of_pes of_section
    sections_in taken_by role role_by role_by_pointer role_of after_bit after_bits after_byte after_bytes bits_of check_word is_bad_length long_header_of
    long_section section_at section_start_at short_section sized_at whole_at without_pcr adaptation_at body_at countdown_at field_at header_of
    length_prefixed_at packet_at parts_at reference_at reference_of
evaluated = refl

found_after : (s t : StreamState) → s ≡ t → (finished t).found ≡ stream_findings → (finished s).found ≡ stream_findings
found_after s t e h = ap (λ (x : StreamState). (finished x).found) e ∙ h

pub worked_found : (finished (pushed start stream_bytes)).found ≡ stream_findings
worked_found = found_after (pushed start stream_bytes) _ (four start (pat_packet 0) (pmt_packet 0) unit_packet second_packet refl refl refl refl refl) evaluated
