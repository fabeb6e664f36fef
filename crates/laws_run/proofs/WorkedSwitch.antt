-- A small run of two plans with video and sound: its premises, and what it sends.
use Rattle.std.proofs.Common.{◌≡◌, ◌≤◌, ℕ, zero, suc, [], ◌∷◌, ◌++◌, Some, None, All, map, slice_get, refl, subst, arith}
use Rattle.std.proofs.lemmas.List.Elements.{All-nil, All-cons}
use Rattle.own_slots.specs.Slots.{own_before}
use Rattle.own_slots.specs.Period.{places}
use Rattle.own_slots.specs.Extremes.{greatest}
use Rattle.own_slots.specs.Work.{work_at}
use Rattle.pes_packet.specs.Encoding.{pes_start_bytes, packet_length, stamp_bytes, header_with, pts_header, pts_dts_header, pes_header_bytes, pes_packet_bytes}
use Rattle.pes_packet.specs.Units.{units_of}
use Rattle.unit_timing.specs.AccessUnits.{KeepsFraming, Followed}
use Rattle.unit_timing.proofs.AccessUnitLemmas.{frame_size_law}
use Rattle.unit_timing.specs.PesPacket.{Spaced, Sized, GroupsWithin, next_due}
use Rattle.unit_timing.specs.Schedule.{first_slot as first_own_slot}
use Rattle.unit_queue.specs.OwnedStreams.{first_slot}
use Rattle.unit_queue.specs.Places.{place_at, left_at}
use Rattle.unit_queue.specs.Causes.{or_cause as or_feed_cause, own_cause, time_cause, room_cause}
use Rattle.unit_queue.specs.Queues.{IsUnit, Kept}
use Rattle.description_parts.specs.Described.{DescribedStream}
use Rattle.slot_plan.specs.EmptySlots.{empty_slots}
use Rattle.slot_plan.specs.Conditions.{IsServing}
use Rattle.slot_plan.specs.SwitchConditions.{IsSwitchable}
use Rattle.slot_plan.specs.Promised.{SwitchLaw}
use Rattle.mux_core.specs.DecodedRuns.{IsDue}
use Rattle.mux_core.specs.FramesKept.{CutsUnits}
use Rattle.mux_core.specs.Histories.{owned_stream, stream_in, content_in, content_at, content_over}
use Rattle.mux_core.specs.Headline.{Headline, UnitsKept}
use Rattle.mux_core.specs.MuxStates.{feed_cause}
use Rattle.mux_core.specs.WholeJobs.{max_stream_units, capacity_for, or_cause, unit_refused, first_refused}
use Rattle.laws_run.specs.WorkedVideo.{video_stream, video_buffer, sound_stream, sound_framing, video_service, first_plan, second_plan}
use Rattle.laws_run.specs.WorkedSwitch.{first_picture, second_picture, first_sound, second_sound, pictures, sounds, all_units, sound_packet, sound_packets}
use Rattle.laws_run.specs.WorkedSwitch.{worked_switch, switch_bytes, video_contents, sound_contents, WorkedSwitch}
use Rattle.mux_core.proofs.KnownRanges.{parameters_known}
use Rattle.mux_core.proofs.MeasurableRuns.{measures_well}
use Rattle.mux_core.proofs.Whole.{headline}
use Rattle.laws_run.proofs.VideoRanges.{video_in_range}

-- ---- the plans

serving : IsServing video_service first_plan
unfolding places greatest work_at empty_slots
serving = refl

switchable : IsSwitchable video_service first_plan second_plan
unfolding places greatest work_at empty_slots
switchable = refl

-- ---- the units

accepted : first_refused worked_switch (capacity_for all_units) [] all_units ≡ None
unfolding max_stream_units or_cause unit_refused first_refused feed_cause or_feed_cause own_cause time_cause room_cause own_before left_at next_due
    pes_start_bytes packet_length stamp_bytes pts_header pts_dts_header header_with pes_header_bytes pes_packet_bytes
    first_slot first_own_slot
accepted = refl

pictures_kept : Kept (owned_stream worked_switch 0 video_stream) pictures
unfolding Spaced Sized GroupsWithin pes_start_bytes packet_length stamp_bytes pts_header pts_dts_header header_with pes_header_bytes pes_packet_bytes
pictures_kept = record {
  units = All-cons (IsUnit (owned_stream worked_switch 0 video_stream).parameters) first_picture (second_picture ∷ [])
      (record { some = omega arith; most = omega arith; later = omega arith; soon = omega arith; last = omega arith })
      (All-cons (IsUnit (owned_stream worked_switch 0 video_stream).parameters) second_picture []
      (record { some = omega arith; most = omega arith; later = omega arith; soon = omega arith; last = omega arith })
      (All-nil (IsUnit (owned_stream worked_switch 0 video_stream).parameters)));
  spaced = (omega arith, (omega arith, tt));
  sized = (omega arith, (omega arith, tt));
  allowed = (omega arith, omega arith, (omega arith, omega arith, tt));
}

sounds_kept : Kept (owned_stream worked_switch 1 sound_stream) sounds
unfolding Spaced Sized GroupsWithin pes_start_bytes packet_length stamp_bytes pts_header pts_dts_header header_with pes_header_bytes pes_packet_bytes
sounds_kept = record {
  units = All-cons (IsUnit (owned_stream worked_switch 1 sound_stream).parameters) first_sound (second_sound ∷ [])
      (record { some = omega arith; most = omega arith; later = omega arith; soon = omega arith; last = omega arith })
      (All-cons (IsUnit (owned_stream worked_switch 1 sound_stream).parameters) second_sound []
      (record { some = omega arith; most = omega arith; later = omega arith; soon = omega arith; last = omega arith })
      (All-nil (IsUnit (owned_stream worked_switch 1 sound_stream).parameters)));
  spaced = (omega arith, (omega arith, tt));
  sized = (omega arith, (omega arith, tt));
  allowed = (omega arith, omega arith, (omega arith, omega arith, tt));
}

kept_at : (k : ℕ) (s : DescribedStream) → slice_get video_service.streams k ≡ Some s → Kept (owned_stream worked_switch k s) (units_of k all_units)
kept_at zero s is =
    let same : video_stream ≡ s = cc in subst (λ (x : DescribedStream). Kept (owned_stream worked_switch 0 x) pictures) same pictures_kept
kept_at (suc zero) s is =
    let same : sound_stream ≡ s = cc in subst (λ (x : DescribedStream). Kept (owned_stream worked_switch 1 x) sounds) same sounds_kept
kept_at (suc (suc k)) s is = absurd (let no : ⊥ = cc in no)

kept : UnitsKept worked_switch (λ k. units_of k all_units)
kept = record { parameters = parameters_known worked_switch video_in_range; kept = kept_at }

due : All (IsDue video_service 13) (pictures ++ sounds)
due = let D = IsDue video_service 13 in
    All-cons D first_picture (second_picture ∷ sounds) (omega arith) (All-cons D second_picture sounds (omega arith)
    (All-cons D first_sound (second_sound ∷ []) (omega arith) (All-cons D second_sound [] (omega arith) (All-nil D))))

framed : (due : ℕ) → KeepsFraming sound_framing (sound_packet due)
framed due = frame_size_law.kept 7000 (record { frames = 2; frame = 3500; frame_size = 40 }) (sound_packet due) (omega arith)
    (All-cons (λ (size : ℕ). size ≤ 40) 3 [] (omega arith) (All-nil (λ (size : ℕ). size ≤ 40)))

cut : CutsUnits worked_switch sound_stream sound_framing sounds sound_packets
unfolding Followed pes_start_bytes packet_length stamp_bytes pts_header pts_dts_header header_with pes_header_bytes pes_packet_bytes
cut = record { same = refl; declared = all; followed = next }
  where
    all : All (KeepsFraming sound_framing) sound_packets
    all = let K = KeepsFraming sound_framing in
        All-cons K (sound_packet 10000) (sound_packet 17000 ∷ []) (framed 10000) (All-cons K (sound_packet 17000) [] (framed 17000) (All-nil K))

    next : Followed sound_framing 0 sound_packets
    next = (omega arith, (omega arith, tt))

-- ---- what is sent

video_sent : map (content_at worked_switch (λ k. units_of k all_units)) (2 ∷ 8 ∷ []) ≡ video_contents
unfolding content_over content_in stream_in place_at first_slot first_own_slot own_before pes_start_bytes packet_length stamp_bytes pts_header pts_dts_header
    header_with pes_header_bytes pes_packet_bytes
video_sent = refl

sound_sent : map (content_at worked_switch (λ k. units_of k all_units)) (3 ∷ 6 ∷ []) ≡ sound_contents
unfolding content_over content_in stream_in place_at first_slot first_own_slot own_before pes_start_bytes packet_length stamp_bytes pts_header pts_dts_header
    header_with pes_header_bytes pes_packet_bytes
sound_sent = refl

-- ---- the conclusion

pub worked_switch_run : SwitchLaw → WorkedSwitch
worked_switch_run law =
    let promised = law video_service first_plan second_plan 1 video_in_range serving switchable in
    let kept_all : Headline worked_switch (λ k. units_of k all_units) 13 switch_bytes =
    headline worked_switch (λ k. units_of k all_units) 13 video_in_range promised kept in
    let video = (kept_all.streams 0 video_stream refl).video video_buffer refl in
    record {
      in_range = video_in_range;
      serving = serving;
      switchable = switchable;
      promised = promised;
      accepted = accepted;
      kept = kept;
      due = due;
      video_sent = video_sent;
      sound_sent = sound_sent;
      cut = cut;
      headline = kept_all;
      frames = λ x. (kept_all.streams 1 sound_stream refl).frames sound_framing refl sound_packets x cut;
      video = video;
      transport_empties = video.transport_empties;
      multiplexing_empties = video.multiplexing_empties;
      waits = (kept_all.streams 0 video_stream refl).waits;
      measured = measures_well worked_switch all_units 13 switch_bytes kept_all refl;
    }
