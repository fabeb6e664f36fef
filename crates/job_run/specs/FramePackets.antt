-- The PES packets of sound of a job, with at most as many frames as its options ask for.
use Rattle.std.specs.Prelude.{ℕ, List, Option, Some, None, option_map, filter_map}
use Rattle.pid_findings.specs.Views.{FindingView}
use Rattle.program_tables.specs.Association.{association}
use Rattle.sound_frames.specs.FrameHeaders.{frame_kind}
use Rattle.sound_packets.specs.CutPackets.{cut_packets}
use Rattle.sound_packets.specs.declared.known_frames.SoundPid.{SoundPid}
use Rattle.stamp_repair.specs.DataTimes.{programs_by}
use Rattle.stream_programs.specs.Programs.{FoundProgramsView}
use Rattle.stream_programs.specs.Streams.{FoundStreamView}

-- a stream of sound, by its entry in the program map
unfoldable pub sound_of : FoundStreamView → Option SoundPid
sound_of s = option_map (λ kind. record { pid = s.pid; kind = kind }) (frame_kind s.stream_type s.descriptors)

abbrev pub sounds_by : FoundProgramsView → List SoundPid
sounds_by found = filter_map sound_of found.streams

abbrev pub sounds_in : List FindingView → List SoundPid
sounds_in findings = sounds_by (programs_by (association findings) findings)

abbrev pub cut_sounds : ℕ → List FindingView → List FindingView
cut_sounds frames findings = cut_packets frames (sounds_in findings) findings

-- the findings in which each PES packet of sound has at most this number of frames; the same findings if none is asked for
unfoldable pub framed_by : Option ℕ → List FindingView → List FindingView
framed_by None findings = findings
framed_by (Some frames) findings = cut_sounds frames findings
