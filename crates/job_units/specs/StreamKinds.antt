-- What a stream is for a viewer.
use Rattle.std.specs.Prelude.{ℕ, List, [], Option, Some, None}
use Rattle.stream_coding.specs.Codings.{coding_of}
use Rattle.stream_coding.specs.declared.coding.Coding.{Coding}
use Rattle.stream_coding.specs.declared.coding.Coding.TheVariants as codings
use Rattle.stream_programs.specs.Streams.{FoundStreamView}
use Rattle.job_programs.specs.declared.named_stream.NamedStream.{NamedStream}
use Rattle.job_programs.specs.declared.named_stream.StreamKind.{StreamKind}
use Rattle.job_programs.specs.declared.named_stream.StreamKind.TheVariants.{Picture, Sound}

-- video is a picture, and audio is sound
unfoldable pub coded_kind : Coding → Option StreamKind
coded_kind (codings.Mpeg sequence) = Some Picture
coded_kind (codings.Avc sequence) = Some Picture
coded_kind (codings.Hevc sequence) = Some Picture
coded_kind (codings.Jpeg2000 limits) = Some Picture
coded_kind codings.Audio = Some Sound
coded_kind (codings.Aac channels) = Some Sound
coded_kind codings.Ac3 = Some Sound
coded_kind (codings.Pcm pairs) = Some Sound
coded_kind codings.Subtitles = None
coded_kind codings.Teletext = None
coded_kind codings.Other = None

-- by the stream_type and the descriptors of a stream in its PMT alone
abbrev pub kind_of : ℕ → List ℕ → Option StreamKind
kind_of stream_type descriptors = coded_kind (coding_of stream_type descriptors [])

-- a stream as a warning names it
abbrev pub named_stream : FoundStreamView → NamedStream
named_stream s = record { program = s.program; pid = s.pid; kind = kind_of s.stream_type s.descriptors }
