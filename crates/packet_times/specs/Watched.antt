-- The streams that may not be without a packet for long (ETSI TR 101 290, 5.2.1, 1.6): video, and audio, except audio that is described as of another type
-- than the main service.
use Rattle.std.specs.Prelude.{ℕ, ◌==◌, ◌&&◌, not, nat_lt, Bool, true, false, List, [], ◌∷◌, Option, Some, None}
use Rattle.std.specs.List.{list_any}
use Rattle.descriptor_loops.specs.Descriptors.{DescriptorView, descriptors_in}
use Rattle.stream_coding.specs.declared.coding.Coding.{Coding}
use Rattle.stream_coding.specs.declared.coding.Coding.TheVariants as codings
use Rattle.stream_coding.specs.Codings.{coding_of}
use Rattle.stream_programs.specs.Streams.{FoundStreamView}
use Rattle.ts_tables.specs.NamedStreams.{NamedView, stream_of}

-- an ISO_639_language_descriptor (ISO/IEC 13818-1, 2.6.18): a language in three characters and its audio_type, then further languages; the audio_type of
-- the first language is greater than 0
unfoldable pub has_type : List ℕ → Bool
has_type [] = false
has_type (a ∷ []) = false
has_type (a ∷ b ∷ []) = false
has_type (a ∷ b ∷ c ∷ []) = false
has_type (a ∷ b ∷ c ∷ audio_type ∷ rest) = nat_lt 0 audio_type

unfoldable pub is_typed : DescriptorView → Bool
is_typed d = (d.tag == 10) && has_type d.body

abbrev pub has_typed : List ℕ → Bool
has_typed descriptors = list_any is_typed (descriptors_in descriptors)

unfoldable pub is_steady : Coding → List ℕ → Bool
is_steady (codings.Mpeg sequence) descriptors = true
is_steady (codings.Avc sequence) descriptors = true
is_steady (codings.Hevc sequence) descriptors = true
is_steady (codings.Jpeg2000 limits) descriptors = true
is_steady codings.Audio descriptors = not (has_typed descriptors)
is_steady (codings.Aac channels) descriptors = not (has_typed descriptors)
is_steady codings.Ac3 descriptors = not (has_typed descriptors)
is_steady (codings.Pcm pairs) descriptors = not (has_typed descriptors)
is_steady codings.Subtitles descriptors = false
is_steady codings.Teletext descriptors = false
is_steady codings.Other descriptors = false

-- by its entry in the program map
abbrev pub is_steady_stream : FoundStreamView → Bool
is_steady_stream s = is_steady (coding_of s.stream_type s.descriptors []) s.descriptors

unfoldable pub is_watched_by : Option FoundStreamView → Bool
is_watched_by None = false
is_watched_by (Some stream) = is_steady_stream stream

-- the PID of such a stream of the first tables, once these are known
abbrev pub is_watched : NamedView → ℕ → Bool
is_watched named pid = is_watched_by (stream_of named pid)
