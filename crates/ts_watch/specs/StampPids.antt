-- Which time stamps have to repeat within 700 ms, by the tables: those of sound in private_stream_1, but not those of still pictures (ETSI TR 101 290,
-- 5.2.2, 2.5), whose bytes may stay 60 s in a decoder (ISO/IEC 13818-1, 2.4.2.6). Of other streams the tables do not say so.
use Rattle.std.specs.Prelude.{ℕ, ◌==◌, Bool, true, false, if◌then◌else◌, [], Option, Some, None}
use Rattle.es_buffers.specs.Stays.{longest_stay}
use Rattle.stream_coding.specs.declared.coding.Coding.{Coding}
use Rattle.stream_coding.specs.declared.coding.Coding.TheVariants as codings
use Rattle.stream_coding.specs.Codings.{coding_of}
use Rattle.stream_programs.specs.Streams.{FoundStreamView}
use Rattle.ts_tables.specs.NamedStreams.{NamedView, stream_of}

abbrev pub of_picture : ℕ → Option Bool
of_picture seconds = if seconds == 60 then Some false else None

-- by the coding, and by the longest time in seconds that a byte may stay
unfoldable pub said_by : Coding → ℕ → Option Bool
said_by (codings.Mpeg sequence) seconds = of_picture seconds
said_by (codings.Avc sequence) seconds = of_picture seconds
said_by (codings.Hevc sequence) seconds = of_picture seconds
said_by codings.Ac3 seconds = Some true
said_by (codings.Pcm pairs) seconds = Some true
said_by _ seconds = None

unfoldable pub said_of : Option FoundStreamView → Option Bool
said_of None = None
said_of (Some s) = said_by (coding_of s.stream_type s.descriptors []) (longest_stay s.stream_type s.descriptors)

abbrev pub said : NamedView → ℕ → Option Bool
said named pid = said_of (stream_of named pid)
