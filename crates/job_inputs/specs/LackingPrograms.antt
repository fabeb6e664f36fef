-- Programs that would be written without a picture, or without sound.
use Rattle.std.specs.Prelude.{ℕ, ◌==◌, ◌&&◌, ◌||◌, not, Bool, true, false, if◌then◌else◌, List, [], ◌∷◌, length, Option, Some, None}
use Rattle.std.specs.List.{list_any}
use Rattle.std.specs.Option.{option_or}
use Rattle.job_programs.specs.JobStreams.{WireStreamView, is_stream_of}
use Rattle.job_programs.specs.declared.named_stream.NamedStream.{NamedStream}
use Rattle.job_programs.specs.declared.named_stream.StreamKind.{StreamKind}
use Rattle.job_programs.specs.declared.named_stream.StreamKind.TheVariants.{Picture, Sound}
use Rattle.job_programs.specs.declared.refusal.JobRefusal.{JobRefusal}
use Rattle.job_programs.specs.declared.refusal.JobRefusal.TheVariants as refusals
use Rattle.job_programs.specs.declared.refusal.LeftOutCause.{LeftOutCause}
use Rattle.job_programs.specs.declared.refusal.LeftOutCause.TheVariants as causes
use Rattle.job_programs.specs.declared.warning.Warning.{Warning}
use Rattle.job_programs.specs.declared.warning.Warning.TheVariants as warnings
use Rattle.job_units.specs.StreamKinds.{kind_of}

-- 1. No stream is carried, or one is not

-- why a stream is not carried: the first warning of a stream_id that can't be written, or of a stream that is left out for a reason
unfoldable pub why_nothing : Warning → Option JobRefusal
why_nothing (warnings.StreamId stream packet id) = Some (refusals.StreamId packet stream.pid id)
why_nothing (warnings.LeftOut stream why) = Some why
why_nothing _ = None

unfoldable pub first_why : List Warning → Option JobRefusal
first_why [] = None
first_why (w ∷ ws) = option_or (why_nothing w) (first_why ws)

-- the refusal if no stream is carried; if that is asked for, also if one is not carried
unfoldable pub nothing_carried : Bool → List Warning → List WireStreamView → Option JobRefusal
nothing_carried strict all_warnings streams =
    if length streams == 0 || strict then first_why all_warnings else None

-- 2. A program lacks a picture, or sound

-- why a stream is left out, if the refusal is about a stream
unfoldable pub cause_of : JobRefusal → Option LeftOutCause
cause_of (refusals.Scrambled pid) = Some causes.Scrambled
cause_of (refusals.StreamId packet pid id) = Some (causes.StreamId packet id)
cause_of (refusals.NoStamps pid) = Some causes.NoStamps
cause_of (refusals.OtherStreamId packet pid id first) = Some (causes.OtherStreamId packet id first)
cause_of (refusals.Stamps packet pid fault mended) = Some (causes.Stamps packet fault mended)
cause_of (refusals.Dts pid fault) = Some (causes.Dts fault)
cause_of (refusals.Units pid count) = Some (causes.Units count)
cause_of (refusals.Size pid size) = Some (causes.Size size)
cause_of (refusals.Buffers pid size rx main way) = Some (causes.Buffers size rx main way)
cause_of _ = None

unfoldable pub is_kind : StreamKind → Option StreamKind → Bool
is_kind kind None = false
is_kind Picture (Some Picture) = true
is_kind Sound (Some Picture) = false
is_kind Picture (Some Sound) = false
is_kind Sound (Some Sound) = true

-- a stream is a program's, as its own or a shared one, and of this kind
abbrev pub is_of : ℕ → StreamKind → WireStreamView → Bool
is_of program kind s = is_stream_of program s && is_kind kind (kind_of s.stream_type s.descriptors)

-- a stream of the program is carried, and none of this kind
unfoldable pub lacking_kind : List WireStreamView → ℕ → ℕ → StreamKind → LeftOutCause → Option JobRefusal
lacking_kind streams program pid kind cause =
    if list_any (is_stream_of program) streams && not (list_any (is_of program kind) streams) then Some (refusals.Lacking program pid kind cause) else None

unfoldable pub lacking_if : List WireStreamView → ℕ → ℕ → LeftOutCause → Option StreamKind → Option JobRefusal
lacking_if streams program pid cause None = None
lacking_if streams program pid cause (Some kind) = lacking_kind streams program pid kind cause

-- of a stream that is left out for this cause
unfoldable pub lacking_stream : List WireStreamView → NamedStream → LeftOutCause → Option JobRefusal
lacking_stream streams stream cause = lacking_if streams stream.program stream.pid cause stream.kind

unfoldable pub lacking_for : List WireStreamView → NamedStream → Option LeftOutCause → Option JobRefusal
lacking_for streams stream None = None
lacking_for streams stream (Some cause) = lacking_stream streams stream cause

-- of a stream that a warning names
unfoldable pub lacking_by : List WireStreamView → Warning → Option JobRefusal
lacking_by streams (warnings.StreamId stream packet id) = lacking_stream streams stream (causes.StreamId packet id)
lacking_by streams (warnings.LeftOut stream why) = lacking_for streams stream (cause_of why)
lacking_by streams _ = None

-- of the first one that is left out
unfoldable pub first_lacking : List WireStreamView → List Warning → Option JobRefusal
first_lacking streams [] = None
first_lacking streams (w ∷ ws) = option_or (lacking_by streams w) (first_lacking streams ws)

abbrev pub lacking_unless : Bool → List WireStreamView → List Warning → Option JobRefusal
lacking_unless lenient streams all_warnings = if lenient then None else first_lacking streams all_warnings

-- 3. The refusal for streams that are not carried

unfoldable pub stream_refusal : Bool → Bool → List Warning → List WireStreamView → Option JobRefusal
stream_refusal strict lenient all_warnings streams =
    option_or (nothing_carried strict all_warnings streams) (lacking_unless lenient streams all_warnings)
