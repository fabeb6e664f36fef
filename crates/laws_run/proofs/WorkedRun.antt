-- A small run: its premises, and its bytes.
use Rattle.std.proofs.Common.{◌≡◌, ℕ, zero, suc, [], ◌∷◌, Some, None, slice_get, refl, subst, arith}
use Rattle.std.proofs.lemmas.List.Elements.{All-nil, All-cons}
use Rattle.own_slots.specs.Slots.{own_before}
use Rattle.own_slots.specs.Period.{places}
use Rattle.own_slots.specs.Extremes.{greatest}
use Rattle.own_slots.specs.Work.{work_at}
use Rattle.psi_tables.specs.CheckWord.{after_bit, after_bits, bits_of, after_byte, after_bytes, check_word}
use Rattle.psi_tables.specs.Encoding.{check_word_bytes, start_bytes, long_header_bytes, front_bytes, header_bytes, with_crc, section_bytes}
use Rattle.psi_tables.specs.ProgramAssociation.{program_bytes, programs_bytes, pat_header, pat_section}
use Rattle.psi_tables.specs.ProgramMap.{info_length_bytes, pid_bytes, stream_entry, stream_bytes, streams_bytes, pmt_body, pmt_header, pmt_section}
use Rattle.psi_tables.specs.Loops.{entry_bytes}
use Rattle.pes_packet.specs.Encoding.{pes_start_bytes, packet_length, stamp_bytes, header_with, pts_header, pts_dts_header, pes_header_bytes, pes_packet_bytes}
use Rattle.pes_packet.specs.Units.{units_of}
use Rattle.ts_packet.specs.Writing.{header_bytes as packet_header_bytes, reference_bytes, flags_of, parts_bytes, adaptation_bytes, packet_bytes}
use Rattle.ts_packet.specs.Packets.{stuffing_field, field_of, payload_packet, pcr_packet, null_packet}
use Rattle.slot_contents.specs.Contents.{packet_of, run_bytes}
use Rattle.table_rounds.specs.Tables.{place_in, round_before, payloads_before}
use Rattle.table_rounds.specs.Parts.{part_of, part_content}
use Rattle.unit_timing.specs.PesPacket.{Spaced, Sized, GroupsWithin, next_due}
use Rattle.unit_timing.specs.Schedule.{first_slot as first_own_slot}
use Rattle.unit_queue.specs.OwnedStreams.{first_slot}
use Rattle.unit_queue.specs.Places.{place_at, left_at}
use Rattle.unit_queue.specs.Causes.{or_cause as or_feed_cause, own_cause, time_cause, room_cause}
use Rattle.unit_queue.specs.Queues.{IsUnit, Kept}
use Rattle.description_parts.specs.Described.{DescribedStream}
use Rattle.slot_plan.specs.Conditions.{IsServing}
use Rattle.slot_plan.specs.Promised.{PlanLaw}
use Rattle.slot_plan.specs.SlotPids.{slot_pid}
use Rattle.mux_core.specs.Histories.{owned_stream, stream_in, pcr_content, table_in, content_in, content_over, bytes_of}
use Rattle.mux_core.specs.Headline.{Headline, UnitsKept}
use Rattle.mux_core.specs.MuxStates.{feed_cause}
use Rattle.mux_core.specs.WholeJobs.{max_stream_units, job_history, capacity_for, or_cause, unit_refused, first_refused}
use Rattle.laws_run.specs.WorkedService.{worked_stream, worked_service, worked_plan}
use Rattle.laws_run.specs.WorkedBytes.{worked_unit, worked_bytes}
use Rattle.laws_run.specs.WorkedRun.{worked, worked_units, WorkedRun}
use Rattle.mux_core.proofs.KnownRanges.{parameters_known}
use Rattle.mux_core.proofs.MeasurableRuns.{measures_well}
use Rattle.mux_core.proofs.Whole.{headline}
use Rattle.laws_run.proofs.WorkedRanges.{worked_in_range}

serving : IsServing worked_service worked_plan
unfolding places greatest work_at
serving = refl

accepted : first_refused worked (capacity_for worked_units) [] worked_units ≡ None
unfolding max_stream_units or_cause unit_refused first_refused feed_cause or_feed_cause own_cause time_cause room_cause own_before left_at next_due
    pes_start_bytes packet_length stamp_bytes pts_header pts_dts_header header_with pes_header_bytes pes_packet_bytes
accepted = refl

-- The unit, which keeps the declaration of its stream

unit_is : IsUnit (owned_stream worked 0 worked_stream).parameters worked_unit
unit_is = record { some = omega arith; most = omega arith; later = omega arith; soon = omega arith; last = omega arith }

unit_kept : Kept (owned_stream worked 0 worked_stream) (worked_unit ∷ [])
unfolding Spaced Sized GroupsWithin pes_start_bytes packet_length stamp_bytes pts_header pts_dts_header header_with pes_header_bytes pes_packet_bytes
unit_kept = record {
  units = All-cons (IsUnit (owned_stream worked 0 worked_stream).parameters) worked_unit [] unit_is
      (All-nil (IsUnit (owned_stream worked 0 worked_stream).parameters));
  spaced = (omega arith, tt);
  sized = (omega arith, tt);
  allowed = (omega arith, omega arith, tt);
}

kept_at : (k : ℕ) (s : DescribedStream) → slice_get worked_service.streams k ≡ Some s → Kept (owned_stream worked k s) (units_of k worked_units)
kept_at zero s is = let same : worked_stream ≡ s = cc in subst (λ (x : DescribedStream). Kept (owned_stream worked 0 x) (worked_unit ∷ [])) same unit_kept
kept_at (suc k) s is = absurd (let no : ⊥ = cc in no)

kept : UnitsKept worked (λ k. units_of k worked_units)
kept = record { parameters = parameters_known worked worked_in_range; kept = kept_at }

-- The bytes of the run

bytes : bytes_of worked (job_history worked_units 6) ≡ worked_bytes
unfolding run_bytes packet_of content_over content_in slot_pid table_in stream_in pcr_content part_content part_of place_in round_before payloads_before place_at
    first_slot first_own_slot own_before packet_header_bytes reference_bytes flags_of parts_bytes adaptation_bytes packet_bytes stuffing_field field_of
    payload_packet pcr_packet null_packet pes_start_bytes packet_length stamp_bytes pts_header pts_dts_header header_with pes_header_bytes pes_packet_bytes
    after_bit after_bits bits_of after_byte after_bytes check_word check_word_bytes start_bytes long_header_bytes front_bytes header_bytes with_crc
    section_bytes program_bytes programs_bytes pat_header pat_section info_length_bytes pid_bytes stream_entry stream_bytes streams_bytes pmt_body pmt_header
    pmt_section entry_bytes
bytes = refl

-- The conclusion

pub worked_run : PlanLaw → WorkedRun
worked_run law =
    let promised = law worked_service worked_plan worked_in_range serving in
    let kept_all : Headline worked (λ k. units_of k worked_units) 6 worked_bytes =
    subst (Headline worked (λ k. units_of k worked_units) 6) bytes (headline worked (λ k. units_of k worked_units) 6 worked_in_range promised kept) in
    record {
      in_range = worked_in_range;
      serving = serving;
      promised = promised;
      accepted = accepted;
      kept = kept;
      due = omega arith;
      bytes = bytes;
      headline = kept_all;
      measured = measures_well worked worked_units 6 worked_bytes kept_all refl;
    }
