-- Two small streams viewed.
use Rattle.std.proofs.Common.{refl}
use Rattle.arrival.specs.Arrivals.{has_times, lead_of, step_of, times_at}
use Rattle.arrival.specs.Clock.{line_in, moment_by as clock_moment_by, step_after, step_from}
use Rattle.arrival.specs.Lines.{arrivals_on}
use Rattle.clock27.specs.Arrival.{bytes_from}
use Rattle.clock27.specs.Departure.{departures, last_left}
use Rattle.clock27.specs.Peak.{greatest_at, most_found}
use Rattle.demux.specs.Stream.{completed, ended_found, findings_by, found_in, states_by, taken as stream_taken}
use Rattle.descriptor_loops.specs.Descriptors.{descriptors_from, descriptors_in, first_descriptor, has_ca, has_of_multiplex, has_tag, is_by_hevc_hrd}
use Rattle.descriptor_loops.specs.Descriptors.{is_by_hrd, is_by_vbv_delay, is_ca, is_of_multiplex, is_tagged, kept_bytes, kept_descriptors}
use Rattle.es_buffers.specs.Buffers.{aac_buffers, buffers_of, given_buffers, j2k_buffers, multiplexing}
use Rattle.es_buffers.specs.Stays.{has_bit, is_later_video, is_mpeg_video, longest_stay, names_stills}
use Rattle.es_buffers.specs.Video.{avc_limits, escaped_limits, hevc_limits, high_profile_limits, high_tier_limits, is_high, main_profile_limits}
use Rattle.es_buffers.specs.Video.{main_tier_limits, mpeg_limits, mpeg_mbs, mpeg_rbx, said_or_greatest, video_buffers}
use Rattle.es_events.specs.Clocks.{by_header as clocks_by_header, by_payload as clocks_by_payload, by_stamps, place_of, sample_at}
use Rattle.es_events.specs.Clocks.{sample_in as clocks_sample_in, with_sample}
use Rattle.es_events.specs.EntryEvents.{ahead_events, late_events}
use Rattle.es_events.specs.EntryStays.{busy_closing, delayed_events, overstay, overstay_if, place_at as entry_stays_place_at}
use Rattle.es_events.specs.MarkTallies.{has_access, has_alignment, is_aligned, time_since, with_beginning}
use Rattle.es_events.specs.Tallies.{with_unit_if}
use Rattle.es_events.specs.TraceEvents.{main_point_if, point_of, video_trace_events}
use Rattle.es_events.specs.VideoEvents.{elementary_late_events, late_events_by, reported_cause, video_closing_events, video_ended_events}
use Rattle.es_events.specs.VideoFigures.{figures_of, is_video_good, limits_of, sizes_if}
use Rattle.es_events.specs.VideoTallies.{with_late_if, with_video_row}
use Rattle.es_view.specs.Entries.{ahead_by, due_by, events_entered, framed_after, held_after, held_in, is_unread, last_buffer, parts_delayed}
use Rattle.es_view.specs.LastPayloads.{is_announced as last_is_announced, same_counter}
use Rattle.es_view.specs.Entries.{tally_in, video_tally_after}
use Rattle.es_view.specs.EntryFrames.{frames_after, frames_events, frames_held, front_count, is_leak_idle, leak_busy_of, leak_ended, leak_under_way}
use Rattle.es_view.specs.EntryFrames.{unit_after, unit_tick, walk_begun}
use Rattle.es_view.specs.HeldEvents.{main_held}
use Rattle.events.specs.BufferKinds.{excess_kind, owner_of}
use Rattle.events.specs.Faults.{buffer_fault, fault_of, input_fault, kind_of_cause, rule_fault}
use Rattle.events.specs.PidNames.{of_coding}
use Rattle.pes_packet.specs.Marks.{first_sixteen}
use Rattle.pes_packet.specs.PrivateData.{private_at, private_in}
use Rattle.pes_packet.specs.Reading.{data_at, five_at, flags_at, header_at, pts_at, pts_dts_at, stamp_at, stamps_at, start_at}
use Rattle.pes_packet.specs.StreamIds.{has_flags}
use Rattle.pid_findings.specs.Bodies.{bodiless, bytes_without_body}
use Rattle.pid_findings.specs.Findings.{by_break, by_role, ended, found_appended, found_at, found_if, found_or_cut, found_within, last_bytes, last_bytes_by}
use Rattle.pid_findings.specs.Findings.{undecided, unless_decided}
use Rattle.pid_findings.specs.Machine.{next_open, step_marked, unbroken}
use Rattle.pid_findings.specs.Marks.{break_after, break_at, is_repeat, mark, repeats, seen}
use Rattle.pid_findings.specs.OpenUnits.{begun_kind, decided, last_in, of_header, of_pes, of_section, sections_in, taken_by}
use Rattle.pid_findings.specs.Roles.{role, role_by, role_by_pointer, role_of}
use Rattle.tr101290.specs.Windows.{counts_in as windows_counts_in, counts_or_zero, with_one}
use Rattle.program_tables.specs.Association.{association, entries, entries_of, first_pat, in_force as association_in_force, is_named, pat_found, pat_in}
use Rattle.program_tables.specs.Association.{pat_of_section, with_program, with_programs as association_with_programs}
use Rattle.program_tables.specs.KnownTables.{known_from, programs_with, version_with}
use Rattle.program_tables.specs.MapPlaces.{numbered_program, places_with, program_on}
use Rattle.program_tables.specs.ProgramMaps.{any_map, in_force as program_maps_in_force, map_in, map_of_section, now_in_force, pmt_found, pmt_in}
use Rattle.program_tables.specs.ProgramMaps.{pmt_of_section, program_map}
use Rattle.program_tables.specs.Sections.{section_bytes, section_on}
use Rattle.psi_tables.specs.CheckWord.{after_bit, after_bits, after_byte, after_bytes, bits_of, check_word}
use Rattle.psi_tables.specs.Loops.{descriptors_length, entry_after, entry_at, loop_at, loop_from}
use Rattle.psi_tables.specs.ProgramAssociation.{pat_at, program_of, programs_in}
use Rattle.psi_tables.specs.ProgramMap.{pmt_after, pmt_at, stream_of, streams_at, streams_in}
use Rattle.psi_tables.specs.Reading.{is_bad_length, long_header_of, long_section, section_at, section_start_at, short_section, sized_at, whole_at}
use Rattle.psi_tables.specs.Tables.{form_at, table_header_at}
use Rattle.sound_frames.specs.FrameHeaders.{aac_frequency, ac3_frame, ac3_frequency, ac3_rate, ac3_size, adts_frame, enhanced_ac3, enhanced_blocks}
use Rattle.sound_frames.specs.FrameHeaders.{enhanced_frequency, first_layer_rate, frame_header, frame_kind, layer_frame, layer_frequency, layer_header}
use Rattle.sound_frames.specs.FrameHeaders.{layer_rate, layer_samples, layer_size, loas_config, loas_frame, low_first_layer_rate, low_layer_rate, plain_ac3}
use Rattle.sound_frames.specs.FrameHeaders.{second_layer_rate, sounding, third_layer_rate}
use Rattle.sound_frames.specs.FrameWalks.{by_header as frame_walks_by_header, count_by, count_passed, headed, header_read, parts_from, passed, passed_by}
use Rattle.sound_frames.specs.FrameWalks.{walked_from}
use Rattle.stream_coding.specs.Codings.{channel_pairs, coding_by_descriptors, coding_of, four_bytes, is_ac3, is_j2k, j2k_limits, registers_ac3}
use Rattle.stream_coding.specs.Codings.{registers_pcm}
use Rattle.stream_programs.specs.FreePids.{is_taken}
use Rattle.stream_programs.specs.Programs.{any_ca, any_of_multiplex, can_place, can_share, has_clock, holder_in, is_multiplexed_map, is_scrambled_map}
use Rattle.stream_programs.specs.Programs.{programs_of, shares, with_access, with_map, with_multiplex, with_program_by, with_program_if}
use Rattle.stream_programs.specs.Programs.{with_programs as programs_with_programs, with_shared, with_stream, with_stream_if, with_streams, with_table}
use Rattle.stream_programs.specs.StrayPids.{omitted_pid}
use Rattle.stream_programs.specs.Streams.{has_no_pes, holder, is_alike, is_reserved, is_shared_with, is_stream_of, omission_of, shared_by}
use Rattle.system_tables.specs.Programs.{begun as programs_begun, known, system_step}
use Rattle.tr101290.specs.Continuity.{after as continuity_after, error_at}
use Rattle.tr101290.specs.Counts.{is_announced, line_bytes, line_ticks, nanoseconds_in}
use Rattle.tr101290.specs.Distances.{time_within, too_soon}
use Rattle.tr101290.specs.Errors.{beyond_if, difference_in, off_beyond}
use Rattle.tr101290.specs.Intervals.{error_if, part_before, parts_after, places_after, time_between}
use Rattle.tr101290.specs.Limits.{milliseconds}
use Rattle.tr101290.specs.Measures.{inaccuracy_by, interval_after, interval_from}
use Rattle.tr101290.specs.Packets.{missing_pids}
use Rattle.tr101290.specs.Parts.{part_of}
use Rattle.tr101290.specs.PidWatches.{report_if, taken_if as pid_watches_taken_if, watch_or_new}
use Rattle.tr101290.specs.RateJudges.{apart_more, error_list, pair_more, rate_after}
use Rattle.tr101290.specs.References.{clock_pid, clock_pids, map_pids as references_map_pids, referenced_by}
use Rattle.tr101290.specs.Samples.{sample_in as samples_sample_in, sample_with}
use Rattle.tr101290.specs.Sections.{begin_of, extension_of, section_by, whole_by}
use Rattle.tr101290.specs.Stamps.{by_header as stamps_by_header, by_payload as stamps_by_payload, is_stamped, too_late}
use Rattle.tr101290.specs.StoppedTables.{last_places}
use Rattle.ts_packet.specs.Packets.{null_packet}
use Rattle.ts_packet.specs.PcrBytes.{without_pcr}
use Rattle.ts_packet.specs.Reading.{adaptation_at, body_at, countdown_at, field_at, header_of, length_prefixed_at, packet_at, parts_at, reference_at}
use Rattle.ts_packet.specs.Reading.{reference_of}
use Rattle.ts_packet.specs.Writing.{adaptation_bytes, flags_of, header_bytes, packet_bytes, parts_bytes, reference_bytes}
use Rattle.ts_report.specs.Moments.{moment_by as moments_moment_by}
use Rattle.ts_report.specs.Seen.{cause_of as seen_cause_of, counter_events, counter_events_by, pid_ends, rule_ends, table_timing, timing_of}
use Rattle.ts_report.specs.Seen.{with_counter_read}
use Rattle.ts_report.specs.StreamTables.{begin_events_if, begun_if, events_if, events_in, new_framed, taken_at, taken_if as stream_tables_taken_if}
use Rattle.ts_report.specs.Views.{after_all, after_read, events_all, events_read, without_stream}
use Rattle.ts_services.specs.ServiceDescriptions.{in_force as service_descriptions_in_force, sdt_found, sdt_in, sdt_of_section}
use Rattle.ts_services.specs.Services.{in_descriptors, in_entries, length_prefixed, of_descriptor, of_entry, service, service_found, service_in}
use Rattle.ts_services.specs.Services.{with_provider}
use Rattle.ts_tables.specs.NamedStreams.{clock_by, clock_in, stream_by, stream_in, streams_by, taken_if as named_streams_taken_if}
use Rattle.ts_tables.specs.ServiceNames.{begun as service_names_begun, known_name, name_among, name_of, some_text}
use Rattle.ts_watch.specs.Choices.{chosen, given_or, is_among, rates_if}
use Rattle.packet_times.specs.ClockDrifts.{ahead_of, behind_of, drift_after, drift_at, on_line}
use Rattle.ts_watch.specs.ClockEvents.{error_events as clock_events_error_events, errors_in, report_events_if}
use Rattle.packet_times.specs.ClockWindows.{counts_in as clock_windows_counts_in, counts_or_none, drift_or_none, taken as clock_windows_taken}
use Rattle.ts_watch.specs.PidLabels.{by_program, in_programs, in_tables, label_by, of_clock, of_map}
use Rattle.ts_report.specs.ReferenceEvents.{events_by, is_long}
use Rattle.ts_watch.specs.RuleEvents.{accuracy_count, accuracy_events, cat_events, first_scrambled, is_map, judge_after, place_at as rule_events_place_at}
use Rattle.ts_watch.specs.RuleEvents.{gap_events, gaps_by, pts_events, stamp_events, stamps_by}
use Rattle.ts_report.specs.StoppedPids.{longest_seconds, stopped_pids_by}
use Rattle.packet_times.specs.GapEvents.{gap_event_if}
use Rattle.packet_times.specs.Gaps.{gap_after, places_in}
use Rattle.packet_times.specs.Watched.{has_type, is_steady, is_typed, is_watched_by}
use Rattle.ts_watch.specs.StampPids.{said_by, said_of}
use Rattle.ts_watch.specs.SectionPids.{access_pid, association_pids, descriptor_pid, map_pids as section_pids_map_pids, may_name}
use Rattle.ts_watch.specs.TableNames.{all_marked, is_version, oldest_of, with_association, with_each, with_found, with_map as with_named_map, with_read}
use Rattle.ts_report.specs.StoppedClocks.{clocks_by, clocks_in, last_place, longest_without, reference_place, with_clocks}
use Rattle.ts_report.specs.StoppedEvents.{is_expected_part, stopped_by}
use Rattle.ts_watch.specs.SystemEvents.{kind_of, size_of}
use Rattle.ts_watch.specs.TableEvents.{begin_events, distance_events, distances_after, error_events as table_events_error_events, findings_events, is_wrong}
use Rattle.ts_watch.specs.TableEvents.{is_wrong_short, more_errors, other_events, placed, placed_if, placed_whole, soon_events, with_begin, with_findings}
use Rattle.ts_watch.specs.WindowEvents.{service_of, window_by}
use Rattle.tstd_rows.specs.Busy.{busy_of, busy_with, leak_busy}
use Rattle.tstd_rows.specs.Entering.{after as entering_after, after_begin, after_first, after_part, after_payload, entered, entered_first, entered_part}
use Rattle.tstd_rows.specs.Entering.{payload_main, payload_main_least, payload_main_most, payload_transport, payload_transport_most, unit_ended}
use Rattle.tstd_rows.specs.EnteringVideo.{payload_video, video_of, video_unit_ended, video_unit_of}
use Rattle.tstd_rows.specs.Excesses.{excess_after, excesses_ended, grown as excesses_grown}
use Rattle.tstd_rows.specs.HeldVideo.{elementary_under_way, video_found, video_unit}
use Rattle.tstd_rows.specs.History.{arrivals_of, main_fullness, payload_left, unit_of, until_of}
use Rattle.tstd_rows.specs.Least.{least_found, lesser}
use Rattle.tstd_rows.specs.Lows.{least_of_both}
use Rattle.tstd_rows.specs.MainExcess.{ended_at, grown as main_excess_grown}
use Rattle.tstd_rows.specs.VideoViewed.{cause_of as video_viewed_cause_of, elementary_held, last_transfer, leaked, removed_of, with_entry}
use Rattle.laws_view.specs.WorkedView.{WorkedView}

pub worked_view : WorkedView
unfolding has_times lead_of step_of times_at line_in clock_moment_by step_after step_from arrivals_on bytes_from departures last_left greatest_at most_found
    completed ended_found findings_by found_in states_by stream_taken descriptors_from descriptors_in first_descriptor has_ca has_of_multiplex has_tag
    is_by_hevc_hrd is_by_hrd is_by_vbv_delay is_ca is_of_multiplex is_tagged kept_bytes kept_descriptors aac_buffers buffers_of given_buffers j2k_buffers
    multiplexing has_bit is_later_video is_mpeg_video longest_stay names_stills avc_limits escaped_limits hevc_limits high_profile_limits high_tier_limits
    is_high main_profile_limits main_tier_limits mpeg_limits mpeg_mbs mpeg_rbx said_or_greatest video_buffers clocks_by_header clocks_by_payload by_stamps
    place_of sample_at clocks_sample_in with_sample ahead_events late_events busy_closing delayed_events overstay overstay_if entry_stays_place_at has_access
    has_alignment is_aligned time_since with_beginning with_unit_if main_point_if point_of video_trace_events elementary_late_events late_events_by
    reported_cause video_closing_events video_ended_events figures_of is_video_good limits_of sizes_if with_late_if with_video_row ahead_by due_by
    events_entered framed_after held_after held_in is_unread last_buffer parts_delayed last_is_announced same_counter tally_in video_tally_after frames_after frames_events
    frames_held front_count is_leak_idle leak_busy_of leak_ended leak_under_way unit_after unit_tick walk_begun main_held buffer_fault fault_of input_fault
    kind_of_cause excess_kind owner_of rule_fault of_coding first_sixteen private_at private_in data_at five_at flags_at header_at pts_at pts_dts_at stamp_at stamps_at
    start_at has_flags bodiless bytes_without_body by_break by_role ended found_appended found_at found_if found_or_cut found_within last_bytes last_bytes_by
    undecided unless_decided next_open step_marked unbroken break_after break_at is_repeat mark repeats seen begun_kind decided last_in of_header of_pes
    of_section sections_in taken_by role role_by role_by_pointer role_of windows_counts_in counts_or_zero with_one association entries entries_of first_pat
    association_in_force is_named pat_found pat_in pat_of_section with_program association_with_programs known_from programs_with version_with
    numbered_program places_with program_on any_map program_maps_in_force map_in map_of_section now_in_force pmt_found pmt_in pmt_of_section program_map
    section_bytes section_on after_bit after_bits after_byte after_bytes bits_of check_word descriptors_length entry_after entry_at loop_at loop_from pat_at
    program_of programs_in pmt_after pmt_at stream_of streams_at streams_in is_bad_length long_header_of long_section section_at section_start_at
    short_section sized_at whole_at form_at table_header_at aac_frequency ac3_frame ac3_frequency ac3_rate ac3_size adts_frame enhanced_ac3 enhanced_blocks
    enhanced_frequency first_layer_rate frame_header frame_kind layer_frame layer_frequency layer_header layer_rate layer_samples layer_size loas_config
    loas_frame low_first_layer_rate low_layer_rate plain_ac3 second_layer_rate sounding third_layer_rate frame_walks_by_header count_by count_passed headed
    header_read parts_from passed passed_by walked_from channel_pairs coding_by_descriptors coding_of four_bytes is_ac3 is_j2k j2k_limits registers_ac3
    registers_pcm is_taken any_ca any_of_multiplex can_place can_share has_clock holder_in is_multiplexed_map is_scrambled_map programs_of shares with_access
    with_map with_multiplex with_program_by with_program_if programs_with_programs with_shared with_stream with_stream_if with_streams with_table omitted_pid
    has_no_pes holder is_alike is_reserved is_shared_with is_stream_of omission_of shared_by programs_begun known system_step continuity_after error_at
    is_announced line_bytes line_ticks nanoseconds_in time_within too_soon beyond_if difference_in off_beyond error_if part_before parts_after places_after
    time_between milliseconds inaccuracy_by interval_after interval_from missing_pids part_of report_if pid_watches_taken_if watch_or_new apart_more
    error_list pair_more rate_after clock_pid clock_pids references_map_pids referenced_by samples_sample_in sample_with begin_of extension_of section_by
    whole_by stamps_by_header stamps_by_payload is_stamped too_late last_places null_packet without_pcr adaptation_at body_at countdown_at field_at header_of
    length_prefixed_at packet_at parts_at reference_at reference_of adaptation_bytes flags_of header_bytes packet_bytes parts_bytes reference_bytes
    moments_moment_by seen_cause_of counter_events counter_events_by pid_ends rule_ends table_timing timing_of with_counter_read begin_events_if begun_if
    events_if events_in new_framed taken_at stream_tables_taken_if after_all after_read events_all events_read without_stream service_descriptions_in_force
    sdt_found sdt_in sdt_of_section in_descriptors in_entries length_prefixed of_descriptor of_entry service service_found service_in with_provider clock_by
    clock_in stream_by stream_in streams_by named_streams_taken_if service_names_begun known_name name_among name_of some_text chosen given_or is_among
    rates_if ahead_of behind_of drift_after drift_at on_line clock_events_error_events errors_in report_events_if clock_windows_counts_in
    counts_or_none drift_or_none clock_windows_taken by_program in_programs in_tables label_by of_clock of_map events_by accuracy_count accuracy_events
    cat_events first_scrambled gap_after gap_event_if gap_events gaps_by has_type is_map is_steady is_typed is_watched_by judge_after longest_seconds
    stopped_pids_by places_in rule_events_place_at pts_events stamp_events stamps_by said_by said_of access_pid association_pids descriptor_pid
    section_pids_map_pids may_name all_marked is_version oldest_of with_association with_each with_found with_named_map with_read is_long
    is_expected_part stopped_by clocks_by clocks_in last_place longest_without reference_place with_clocks kind_of size_of begin_events distance_events distances_after
    table_events_error_events findings_events is_wrong is_wrong_short more_errors other_events placed placed_if placed_whole soon_events with_begin
    with_findings service_of window_by busy_of busy_with leak_busy entering_after after_begin after_first after_part after_payload entered entered_first
    entered_part payload_main payload_main_least payload_main_most payload_transport payload_transport_most unit_ended payload_video video_of video_unit_ended
    video_unit_of excess_after excesses_ended excesses_grown elementary_under_way video_found video_unit arrivals_of main_fullness payload_left unit_of
    until_of least_found lesser least_of_both ended_at main_excess_grown video_viewed_cause_of elementary_held last_transfer leaked removed_of with_entry
worked_view = record { good = refl; none = refl; none_at_end = refl; bad = refl; counter = refl; counter_alone = refl }
