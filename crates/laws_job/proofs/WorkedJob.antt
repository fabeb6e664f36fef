-- The input of a job of a small stream.
use Rattle.std.proofs.Common.{◌≡◌, Ok, refl}
use Rattle.descriptor_loops.specs.Descriptors.{descriptors_from, descriptors_in, first_descriptor, has_ca, has_of_multiplex, has_tag, is_by_hevc_hrd}
use Rattle.descriptor_loops.specs.Descriptors.{is_by_hrd, is_by_vbv_delay, is_ca, is_of_multiplex, is_tagged, kept_bytes, kept_descriptors}
use Rattle.es_buffers.specs.Buffers.{aac_buffers, buffers_of, coding_holding, given_buffers, j2k_buffers, multiplexing, without_size}
use Rattle.es_buffers.specs.Stays.{has_bit, is_later_video, is_mpeg_video, longest_stay, names_stills}
use Rattle.es_buffers.specs.Video.{video_buffers}
use Rattle.es_moments.specs.ApartUnits.{apart_by, apart_dts, is_same_next, next_place}
use Rattle.es_moments.specs.CountedUnits.{counted_units, max_row}
use Rattle.es_moments.specs.Declaration.{counted_packets, interval_after, max_unit_size, min_interval}
use Rattle.es_moments.specs.MadeDts.{fault_of_moments, first_late_pts, first_same_pts, in_order, is_first, max_ahead, moments_after, nearest, placed}
use Rattle.es_moments.specs.MadeDts.{with_dts}
use Rattle.es_moments.specs.RisingDts.{all_later, dts_are_made, is_later}
use Rattle.es_moments.specs.Stamps.{distance, dts_at, dts_not_increasing, fault_or, first_fault, min_distance, moved, or_fault, unit_at}
use Rattle.es_moments.specs.StreamIds.{first_other_at, written_id}
use Rattle.es_moments.specs.UnitRuns.{greatest_over, steps_after, unit_runs}
use Rattle.es_units.specs.CarriedUnits.{continuation, continued_by, end_of, first_id, first_packet as carried_units_first_packet, is_access_point, is_cut}
use Rattle.es_units.specs.CarriedUnits.{is_part, is_split, is_unstamped as carried_units_is_unstamped, more_bytes, pes_role, role_of, role_of_what, start_id}
use Rattle.es_units.specs.CarriedUnits.{units_from, units_in}
use Rattle.es_units.specs.UnitWarnings.{cause_of, cause_of_what, current_after, first_cause, id_of as unit_warnings_id_of, pes_cause, unstamped_cause}
use Rattle.es_units.specs.UnitWarnings.{warning_list, warnings_from}
use Rattle.job_inputs.specs.JobInput.{change_warnings, job_input, job_warnings, stream_warnings}
use Rattle.job_inputs.specs.LackingPrograms.{first_lacking, first_why, nothing_carried, stream_refusal}
use Rattle.job_inputs.specs.JobInput.{table_warnings, tables_of, with_association, with_found, with_moved, with_pids}
use Rattle.job_inputs.specs.JobInput.{with_programs as job_input_with_programs, with_streams as job_input_with_streams, with_unit_counts}
use Rattle.job_programs.specs.Answers.{and_then, each, unless}
use Rattle.job_programs.specs.ClockBases.{base0_of, lasts}
use Rattle.job_programs.specs.Events.{first_start, job_events, start_found, start_of}
use Rattle.job_programs.specs.GivenNames.{name_given, original_given}
use Rattle.job_programs.specs.Information.{has_service, has_services, information_of, named_service, network_of}
use Rattle.job_programs.specs.Information.{network_or, original_of, renamed, service_with}
use Rattle.job_programs.specs.JobOptions.{is_among as job_options_is_among, is_selected_program, is_selected_stream}
use Rattle.job_programs.specs.JobPrograms.{clock_if, clock_in, has_stream as job_programs_has_stream, numbers_named, program_warnings}
use Rattle.job_programs.specs.JobPrograms.{program_with_pids}
use Rattle.job_programs.specs.JobStreams.{is_stream_of as job_streams_is_stream_of}
use Rattle.job_programs.specs.JobTables.{can_take, has_table, is_left_out, is_reported, job_tables, packet_at, packet_span, span_if, table_if, table_of}
use Rattle.job_programs.specs.JobTables.{tables_on}
use Rattle.job_programs.specs.LaterPrograms.{has_lost, is_kept, is_read, loses, program_loss}
use Rattle.job_programs.specs.OtherStreams.{is_said as other_streams_is_said, is_surplus as other_streams_is_surplus, others_of, surplus_from}
use Rattle.job_programs.specs.Packets.{is_bad as packets_is_bad, no_packets}
use Rattle.job_programs.specs.ProgramClocks.{clock_by, is_same_clock}
use Rattle.job_programs.specs.Warnings.{buffer_warning, map_warnings, name_warning, network_warnings, option_warnings, packet_warning, packet_warning_of}
use Rattle.job_programs.specs.Warnings.{pid_option_warning, pid_warnings, selection_warning, stray_warning, stray_warnings}
use Rattle.job_units.specs.BufferWarnings.{asked_rate, crossing_warning, frame_warning, frame_warnings_of, header_warning, leak_warning, leak_warnings_of}
use Rattle.job_units.specs.BufferWarnings.{unkept_frames, unkept_leak, whole_warning}
use Rattle.job_units.specs.CrossingFrames.{begin_later, crosses, crosses_into, do_cross, has_cut, is_cut as crossing_frames_is_cut}
use Rattle.job_units.specs.Declarations.{asked_shares, with_frames}
use Rattle.job_units.specs.Declarations.{buffers_for, buffers_refusal, choices, chosen, coding_for, crossing_for, first_bytes, first_kept, framing_for}
use Rattle.job_units.specs.Declarations.{framing_of, groups_of, header_of, is_countable, is_declared, is_too_long, length_refusal, max_group_packets, measured}
use Rattle.job_units.specs.Declarations.{most_header, multiplexing_for, needs_of, packets_of_group, prompt_lead, share_of, shares_of, size_refusal}
use Rattle.job_units.specs.Declarations.{too_long, too_many, unit_counts, units_refusal, way_out, with_buffers, without_header}
use Rattle.job_units.specs.Moments.{base_for, base_of, base_of_first, earliest, entry_size, first_base, first_dts, first_dts_of, is_long_map, is_mended}
use Rattle.job_units.specs.Moments.{is_on_clock, map_size, moved_by, moved_stream, moved_streams, packet_of, stamps_refusal, table_size, with_moments}
use Rattle.job_units.specs.OddStreams.{alone, first_odd, odd_buffers, odd_bytes, odd_counts, odd_stamps, odd_stream, odd_units, own_base}
use Rattle.job_units.specs.WireStreams.{carried_stream, common_id, dts_refusal, id_of as wire_streams_id_of, is_unstamped as wire_streams_is_unstamped}
use Rattle.job_units.specs.WireStreams.{is_unstamped_cause, is_written, kept_stream, left_out_for, left_out_warnings, other_id_refusal, stream_if_any}
use Rattle.job_units.specs.WireStreams.{stream_of as wire_streams_stream_of, unless_odd, found_stream, made_for, makes_dts, makes_itself, warnings_by}
use Rattle.job_units.specs.WireStreams.{why_not_carried, with_stamps, with_units, why_no_unit, without_unit}
use Rattle.other_tables.specs.SteadySections.{are_steady, begun_by, comes_again, distance_from, distinct_sections, extension_of, greatest_gap, is_known}
use Rattle.other_tables.specs.SteadySections.{is_same_section, is_splice_command, is_timed, none_changes, number_of, section_by, section_of}
use Rattle.other_tables.specs.SteadySections.{section_on as steady_sections_section_on, sections_on, steady_if, steady_sections, widest_gap, with_new}
use Rattle.own_slots.specs.Extremes.{greatest, least}
use Rattle.pes_packet.specs.Encoding.{header_with, packet_length, pes_header_bytes, pes_packet_bytes, pes_start_bytes, pts_dts_header, pts_header}
use Rattle.pes_packet.specs.Encoding.{stamp_bytes}
use Rattle.program_tables.specs.Association.{association, association_change, differs as association_differs, entries, entries_of, first_pat}
use Rattle.program_tables.specs.Association.{in_force as association_in_force, is_entry as association_is_entry, is_named, is_other}
use Rattle.program_tables.specs.Association.{is_said as association_is_said, pat_found, pat_in, pat_of_section, with_program}
use Rattle.program_tables.specs.Association.{with_programs as association_with_programs}
use Rattle.program_tables.specs.ProgramMaps.{differs as program_maps_differs, first_differing, has_descriptor, has_descriptors}
use Rattle.program_tables.specs.ProgramMaps.{has_stream as program_maps_has_stream, has_streams, in_force as program_maps_in_force, is_of_sound}
use Rattle.program_tables.specs.ProgramMaps.{is_same_descriptor, is_same_stream, keeps_descriptors, keeps_one, keeps_stream, keeps_streams, map_change}
use Rattle.program_tables.specs.ProgramMaps.{names_same, pmt_found, pmt_in, pmt_of_section, program_map}
use Rattle.program_tables.specs.Sections.{section_bytes, section_on as sections_section_on}
use Rattle.psi_tables.specs.CheckWord.{after_bit, after_bits, after_byte, after_bytes, bits_of, check_word}
use Rattle.psi_tables.specs.Loops.{descriptors_length, entry_after, entry_at, loop_at, loop_from}
use Rattle.psi_tables.specs.ProgramAssociation.{pat_at, program_of, programs_in}
use Rattle.psi_tables.specs.ProgramMap.{pmt_after, pmt_at, stream_of as program_map_stream_of, streams_at, streams_in}
use Rattle.psi_tables.specs.Reading.{is_bad_length, long_header_of, long_section, section_at, section_start_at, short_section, sized_at, whole_at}
use Rattle.psi_tables.specs.Tables.{form_at, table_header_at}
use Rattle.service_information.specs.CivilTimes.{civil_text, clock_text, date_text, two_digits}
use Rattle.service_information.specs.CodedTimes.{below_sixty, decimal_in, moment_in, moment_on, seconds_in, sixtieths_in}
use Rattle.service_information.specs.EventSections.{event_section_found, event_section_in, if_in_force, in_force as event_sections_in_force}
use Rattle.service_information.specs.EventSections.{of_section as event_sections_of_section}
use Rattle.service_information.specs.EventSurplus.{event_surplus, is_said as event_surplus_is_said}
use Rattle.service_information.specs.EventSurplus.{is_same as event_surplus_is_same, is_surplus as event_surplus_is_surplus}
use Rattle.service_information.specs.EventSurplus.{is_taken as event_surplus_is_taken, says_more}
use Rattle.service_information.specs.Events.{can_be_said as events_can_be_said, event_in, if_said, is_among as events_is_among, is_free, overlaps, place_of}
use Rattle.service_information.specs.Events.{stream_events, timed_event, with_entries, with_event, with_findings, with_if_said, with_section}
use Rattle.service_information.specs.FirstFindings.{first_packet as first_findings_first_packet, has_table_id}
use Rattle.service_information.specs.StreamTime.{is_surplus as stream_time_is_surplus, of_section as stream_time_of_section, of_table, stream_time}
use Rattle.service_information.specs.StreamTime.{time_found, time_in}
use Rattle.service_information.specs.Warnings.{information_warnings, is_bad as warnings_is_bad, is_bad_on}
use Rattle.sound_frames.specs.FrameHeaders.{aac_frequency, ac3_frame, ac3_frequency, ac3_rate, ac3_size, adts_frame, enhanced_ac3, enhanced_blocks}
use Rattle.sound_frames.specs.FrameHeaders.{enhanced_frequency, first_layer_rate, frame_header, frame_kind, layer_frame, layer_frequency, layer_header}
use Rattle.sound_frames.specs.FrameHeaders.{layer_rate, layer_samples, layer_size, loas_config, loas_frame, low_first_layer_rate, low_layer_rate, plain_ac3}
use Rattle.sound_frames.specs.FrameHeaders.{second_layer_rate, sounding, third_layer_rate}
use Rattle.sound_frames.specs.FrameWalks.{by_header, count_by, count_passed, header_read, headed, parts_from, passed, passed_by, walked_from}
use Rattle.sound_frames.specs.Frames.{all_frames, next_frame, walked, with_frame}
use Rattle.stream_choice.specs.Choices.{best}
use Rattle.stream_choice.specs.Frames.{framed_bytes, is_framing}
use Rattle.stream_choice.specs.Ranges.{are_max_packets, is_needs, is_within}
use Rattle.stream_choice.specs.Shares.{held_bytes, leaking_needs}
use Rattle.stream_coding.specs.Codings.{channel_pairs, coding_by_descriptors, coding_of, four_bytes, is_ac3, is_j2k, j2k_limits, registers_ac3}
use Rattle.stream_coding.specs.Codings.{registers_pcm}
use Rattle.stream_programs.specs.FreePids.{is_taken as free_pids_is_taken, least_free}
use Rattle.stream_programs.specs.PidAssignment.{assigned_map_pid, assigned_map_pids, assigned_pids, with_pcr_pids}
use Rattle.stream_programs.specs.Programs.{any_ca, any_of_multiplex, can_place, can_share, has_clock, holder_in, is_multiplexed_map, is_scrambled_map}
use Rattle.stream_programs.specs.Programs.{programs_of, shares, with_access, with_map, with_multiplex, with_program_by, with_program_if}
use Rattle.stream_programs.specs.Programs.{with_programs as programs_with_programs, with_shared, with_stream, with_stream_if}
use Rattle.stream_programs.specs.Programs.{with_streams as programs_with_streams, with_table}
use Rattle.stream_programs.specs.StrayPids.{is_pes, omitted_pid, pes_count, pes_number, stray_pid, stray_pids, unknown_pid}
use Rattle.stream_programs.specs.Streams.{has_no_pes, holder, is_alike, is_reserved, is_shared_with, is_stream_of as streams_is_stream_of, omission_of}
use Rattle.stream_programs.specs.Streams.{shared_by}
use Rattle.ts_services.specs.NetworkInformation.{can_be_said as network_information_can_be_said, coded_name, entry_of, first_network}
use Rattle.ts_services.specs.NetworkInformation.{is_entry as network_information_is_entry, is_network_section, is_original}
use Rattle.ts_services.specs.NetworkInformation.{known_stream, network_in, network_said}
use Rattle.ts_services.specs.NetworkInformation.{network_with, nit_found, nit_in, nit_in_force, nit_of_section, stream_network}
use Rattle.ts_services.specs.Networks.{network, network_found as networks_network_found}
use Rattle.ts_services.specs.ServiceDescriptions.{in_force as service_descriptions_in_force, sdt_found, sdt_in, sdt_of_section}
use Rattle.ts_services.specs.Services.{in_descriptors as services_in_descriptors, in_entries, length_prefixed, of_descriptor as services_of_descriptor}
use Rattle.ts_services.specs.Services.{of_entry, service, service_found, service_in, with_provider}
use Rattle.laws_job.specs.WorkedJob.{WorkedJob, stream_findings, worked_input, worked_options}
use Rattle.laws_job.proofs.WorkedFindings.{worked_found}

input : job_input worked_options 4 stream_findings ≡ Ok worked_input
unfolding descriptors_from descriptors_in first_descriptor has_ca has_of_multiplex has_tag is_by_hevc_hrd is_by_hrd is_by_vbv_delay is_ca
    is_of_multiplex is_tagged kept_bytes kept_descriptors aac_buffers buffers_of coding_holding given_buffers j2k_buffers multiplexing without_size
    video_buffers has_bit is_later_video is_mpeg_video longest_stay names_stills apart_by apart_dts is_same_next next_place counted_units max_row
    counted_packets interval_after max_unit_size min_interval fault_of_moments first_late_pts first_same_pts in_order is_first max_ahead moments_after
    nearest placed with_dts distance dts_at dts_not_increasing fault_or first_fault min_distance moved or_fault unit_at first_other_at written_id
    greatest_over steps_after unit_runs continuation continued_by end_of first_id carried_units_first_packet is_access_point is_cut is_part is_split
    carried_units_is_unstamped more_bytes pes_role role_of role_of_what start_id units_from units_in cause_of cause_of_what current_after first_cause
    unit_warnings_id_of pes_cause unstamped_cause warning_list warnings_from change_warnings first_lacking first_why job_input job_warnings nothing_carried
    stream_refusal stream_warnings table_warnings tables_of with_association with_found with_moved with_pids job_input_with_programs
    job_input_with_streams with_unit_counts and_then each unless base0_of lasts first_start job_events start_found start_of name_given
    original_given has_service has_services information_of named_service network_of network_or original_of renamed
    service_with job_options_is_among is_selected_program is_selected_stream clock_if clock_in job_programs_has_stream numbers_named
    program_warnings program_with_pids job_streams_is_stream_of can_take has_table is_left_out is_reported job_tables packet_at
    packet_span span_if table_if table_of tables_on packets_is_bad no_packets clock_by is_same_clock buffer_warning map_warnings name_warning
    network_warnings option_warnings packet_warning packet_warning_of pid_option_warning pid_warnings selection_warning stray_warning stray_warnings
    asked_rate crossing_warning frame_warning frame_warnings_of header_warning leak_warning leak_warnings_of unkept_frames unkept_leak
    whole_warning crosses has_cut crossing_frames_is_cut buffers_for buffers_refusal choices chosen coding_for crossing_for first_bytes first_kept
    framing_for framing_of groups_of header_of is_countable is_declared is_too_long length_refusal max_group_packets measured most_header
    asked_shares with_frames multiplexing_for needs_of packets_of_group prompt_lead share_of shares_of size_refusal too_long too_many unit_counts units_refusal way_out
    with_buffers without_header base_for base_of base_of_first earliest entry_size first_base first_dts first_dts_of is_long_map is_mended is_on_clock
    map_size moved_by moved_stream moved_streams packet_of stamps_refusal table_size with_moments alone first_odd odd_buffers odd_bytes odd_counts
    odd_stamps odd_stream odd_units own_base carried_stream common_id dts_refusal wire_streams_id_of wire_streams_is_unstamped is_unstamped_cause
    is_written kept_stream left_out_for left_out_warnings other_id_refusal stream_if_any wire_streams_stream_of unless_odd warnings_by why_not_carried
    with_stamps with_units are_steady begun_by comes_again distance_from distinct_sections extension_of greatest_gap is_known is_same_section
    is_splice_command is_timed none_changes has_lost is_kept is_read loses program_loss number_of section_by section_of steady_sections_section_on
    sections_on steady_if steady_sections widest_gap with_new greatest least header_with packet_length pes_header_bytes pes_packet_bytes
    pes_start_bytes pts_dts_header pts_header stamp_bytes association association_change association_differs entries entries_of first_pat
    association_in_force association_is_entry is_named is_other association_is_said pat_found pat_in pat_of_section with_program
    association_with_programs program_maps_differs first_differing has_descriptor has_descriptors program_maps_has_stream has_streams
    program_maps_in_force is_of_sound is_same_descriptor is_same_stream keeps_descriptors keeps_one keeps_stream keeps_streams map_change names_same
    pmt_found pmt_in pmt_of_section program_map section_bytes sections_section_on after_bit after_bits after_byte after_bytes bits_of check_word
    descriptors_length entry_after entry_at loop_at loop_from pat_at program_of programs_in pmt_after pmt_at program_map_stream_of streams_at
    streams_in is_bad_length long_header_of long_section section_at section_start_at short_section sized_at whole_at form_at table_header_at
    civil_text clock_text date_text two_digits below_sixty decimal_in moment_in moment_on seconds_in sixtieths_in event_section_found event_section_in
    if_in_force event_sections_in_force event_sections_of_section event_surplus event_surplus_is_said
    event_surplus_is_same event_surplus_is_surplus event_surplus_is_taken says_more events_can_be_said event_in if_said events_is_among
    is_free overlaps place_of stream_events timed_event with_entries with_event with_findings with_if_said with_section first_findings_first_packet
    has_table_id stream_time_is_surplus
    stream_time_of_section of_table stream_time time_found time_in information_warnings warnings_is_bad is_bad_on aac_frequency
    ac3_frame ac3_frequency ac3_rate ac3_size adts_frame enhanced_ac3 enhanced_blocks enhanced_frequency first_layer_rate frame_header frame_kind
    layer_frame layer_frequency layer_header layer_rate layer_samples layer_size loas_config loas_frame low_first_layer_rate low_layer_rate plain_ac3
    second_layer_rate sounding third_layer_rate by_header count_by count_passed header_read headed parts_from passed passed_by walked_from all_frames
    next_frame walked with_frame best framed_bytes is_framing are_max_packets is_needs is_within held_bytes leaking_needs channel_pairs
    coding_by_descriptors coding_of four_bytes is_ac3 is_j2k j2k_limits registers_ac3 registers_pcm free_pids_is_taken least_free assigned_map_pid
    assigned_map_pids assigned_pids with_pcr_pids any_ca any_of_multiplex can_place can_share has_clock holder_in is_multiplexed_map is_scrambled_map
    programs_of shares with_access with_map with_multiplex with_program_by with_program_if programs_with_programs with_shared with_stream
    with_stream_if programs_with_streams with_table is_pes omitted_pid pes_count pes_number stray_pid stray_pids unknown_pid has_no_pes holder
    is_alike is_reserved is_shared_with streams_is_stream_of omission_of shared_by network_information_can_be_said coded_name entry_of first_network
    network_information_is_entry is_network_section is_original other_streams_is_said other_streams_is_surplus others_of known_stream network_in network_said
    network_with nit_found nit_in nit_in_force nit_of_section stream_network surplus_from network networks_network_found service_descriptions_in_force sdt_found sdt_in sdt_of_section
    services_in_descriptors in_entries length_prefixed services_of_descriptor of_entry service service_found service_in with_provider all_later
    dts_are_made is_later found_stream made_for makes_dts makes_itself begin_later crosses_into do_cross why_no_unit without_unit
input = refl

pub worked_job : WorkedJob
worked_job = record { found = worked_found; input = input }
