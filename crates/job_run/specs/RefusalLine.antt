-- The line for the refusal of a stream.
use Rattle.std.specs.Prelude.{ℕ, ◌-◌, ◌&&◌, nat_lt, Bool, false, if◌then◌else◌, List, [], ◌++◌, Option, Some, None, codes, decimal}
use Rattle.diagnosis.specs.FaultLines.{fault_line}
use Rattle.es_moments.specs.declared.stamps.StampFault.{StampFault}
use Rattle.es_moments.specs.declared.stamps.StampFault.TheVariants.{DtsNotIncreasing, PtsOutOfRange, DtsTooFar}
use Rattle.es_moments.specs.declared.dts_from_pts.DtsFault.{DtsFault}
use Rattle.es_moments.specs.declared.dts_from_pts.DtsFault.TheVariants.{SamePts, PtsTooLate}
use Rattle.job_programs.specs.JobOptions.{is_among}
use Rattle.job_programs.specs.declared.refusal.GreaterBuffers.{GreaterBuffers}
use Rattle.job_programs.specs.declared.refusal.JobRefusal.{JobRefusal}
use Rattle.job_programs.specs.declared.refusal.NamedNumbers.{NamedNumbers}
use Rattle.job_programs.specs.declared.refusal.LeftOutCause.{LeftOutCause}
use Rattle.job_programs.specs.declared.refusal.LeftOutCause.TheVariants as causes
use Rattle.job_programs.specs.declared.named_stream.StreamKind.{StreamKind}
use Rattle.job_programs.specs.declared.named_stream.StreamKind.TheVariants.{Picture, Sound}
use Rattle.job_programs.specs.declared.refusal.JobRefusal.TheVariants.{NoPackets, NoAssociation, NoProgram, NoStream, Scrambled, Programs, Streams, StreamId}
use Rattle.job_programs.specs.declared.refusal.JobRefusal.TheVariants.{NoStamps, OtherStreamId, Stamps, Dts, Units, Size, Buffers, Pids, Description, Plan}
use Rattle.job_programs.specs.declared.refusal.JobRefusal.TheVariants.{Declaration, Lacking}

-- time stamps that can't be moments of a run, after the packet and the PID of their unit
unfoldable pub stamps_text : StampFault → List ℕ
stamps_text (DtsNotIncreasing by) = codes " DTS is " ++ decimal by ++ codes " before the one before"
stamps_text (PtsOutOfRange after limit) = codes " PTS is " ++ decimal after ++ codes " after its DTS: not 0 to " ++ decimal limit
stamps_text DtsTooFar = codes " DTS is too far"

-- DTS that fall by more than a second, as where two recordings were joined
unfoldable pub has_fallen : StampFault → Bool
has_fallen (DtsNotIncreasing by) = nat_lt 90_000 by
has_fallen (PtsOutOfRange after limit) = false
has_fallen DtsTooFar = false

unfoldable pub fallen_text : Bool → List ℕ
fallen_text fallen = if fallen then codes "; --joined takes recordings that were joined\n" else codes "\n"

-- DTS fall with a clock: the stream is one of these, whose clocks go back
abbrev pub falls_with : List ℕ → ℕ → StampFault → Bool
falls_with falling pid fault = has_fallen fault && is_among pid falling

-- what would mend them, if something would
unfoldable pub remedy_text : Bool → Bool → List ℕ
remedy_text mended fallen = if mended then codes "; --make-dts makes DTS from the PTS\n" else fallen_text fallen

unfoldable pub stamps_line : Bool → ℕ → ℕ → StampFault → Bool → List ℕ
stamps_line fallen packet pid fault mended = codes "packet " ++ decimal packet ++ codes " pid " ++ decimal pid ++ stamps_text fault
    ++ remedy_text mended fallen

-- a stream for which no DTS can be made, after its PID
unfoldable pub making_text : DtsFault → List ℕ
making_text (SamePts pts) = codes " two PTS are " ++ decimal pts ++ codes "\n"
making_text (PtsTooLate index after) = codes " unit " ++ decimal index ++ codes " PTS is " ++ decimal after ++ codes " after its DTS: not 0 to 90000\n"

-- units that their buffers do not hold, and the buffers that would take them
unfoldable pub unfit_text : ℕ → ℕ → ℕ → ℕ → List ℕ
unfit_text pid size rx main = codes "pid " ++ decimal pid ++ codes " units of up to " ++ decimal size ++ codes " bytes do not fit rx " ++ decimal rx
    ++ codes " and main " ++ decimal main

unfoldable pub greater_text : ℕ → ℕ → ℕ → List ℕ
greater_text pid rx main = codes "; --buffers " ++ decimal pid ++ codes ":" ++ decimal rx ++ codes ":" ++ decimal main ++ codes " would carry it\n"

unfoldable pub way_text : ℕ → Option GreaterBuffers → List ℕ
way_text pid None = codes "\n"
way_text pid (Some b) = greater_text pid b.rx b.main

-- the programs that a transport stream names: the first four, and the number of further ones
unfoldable pub first_text : Option ℕ → List ℕ
first_text None = codes "none"
first_text (Some number) = decimal number

unfoldable pub next_text : Option ℕ → List ℕ
next_text None = []
next_text (Some number) = codes ", " ++ decimal number

unfoldable pub more_text : ℕ → List ℕ
more_text count = if nat_lt 4 count then codes " and " ++ decimal (count - 4) ++ codes " more: tsview lists them\n" else codes "\n"

unfoldable pub named_text : NamedNumbers → List ℕ
named_text there = first_text there.first ++ (next_text there.second ++ (next_text there.third ++ (next_text there.fourth ++ more_text there.count)))

-- a program that would be written without a picture, or without sound
unfoldable pub kind_text : StreamKind → List ℕ
kind_text Picture = codes "picture"
kind_text Sound = codes "sound"

unfoldable pub lacking_program : ℕ → List ℕ
lacking_program program = codes "program " ++ decimal program ++ codes " would have no "

unfoldable pub lenient_text : ℕ → List ℕ
lenient_text pid = codes ": --lenient leaves pid " ++ decimal pid ++ codes " out\n"

unfoldable pub lacking_line : ℕ → ℕ → StreamKind → List ℕ
lacking_line program pid kind = lacking_program program ++ (kind_text kind ++ lenient_text pid)

unfoldable pub refusal_line : JobRefusal → List ℕ
refusal_line NoPackets = codes "not a transport stream\n"
refusal_line NoAssociation = codes "no PAT: the stream is empty, or names no programs\n"
refusal_line (NoProgram there) = codes "no PMT: no program that is asked for has one with a stream; the PAT names " ++ named_text there
refusal_line NoStream = codes "no stream\n"
refusal_line (Scrambled pid) = codes "pid " ++ decimal pid ++ codes " is scrambled\n"
refusal_line (Programs count) = decimal count ++ codes " programs: more than 64\n"
refusal_line (Streams count) = decimal count ++ codes " streams: more than 254\n"
refusal_line (StreamId packet pid id) = codes "packet " ++ decimal packet ++ codes " pid " ++ decimal pid ++ codes " stream_id " ++ decimal id
    ++ codes " cannot be written\n"
refusal_line (NoStamps pid) = codes "pid " ++ decimal pid ++ codes " has no PTS in its PES packets\n"
refusal_line (OtherStreamId packet pid id first) = codes "packet " ++ decimal packet ++ codes " pid " ++ decimal pid ++ codes " stream_id " ++ decimal id
    ++ codes " after " ++ decimal first ++ codes "\n"
refusal_line (Stamps packet pid fault mended) = stamps_line false packet pid fault mended
refusal_line (Dts pid fault) = codes "pid " ++ decimal pid ++ making_text fault
refusal_line (Units pid count) = codes "pid " ++ decimal pid ++ codes " has " ++ decimal count ++ codes " units: more than 1048576\n"
refusal_line (Size pid size) = codes "pid " ++ decimal pid ++ codes " unit of " ++ decimal size ++ codes " bytes is too large\n"
refusal_line (Buffers pid size rx main way) = unfit_text pid size rx main ++ way_text pid way
refusal_line (Lacking program pid kind cause) = lacking_line program pid kind
refusal_line Pids = codes "no PID is left for a PMT or a PCR\n"
refusal_line (Description fault) = codes "the description is refused: " ++ fault_line [] fault
refusal_line (Plan rate) = codes "no plan at rate " ++ decimal rate ++ codes ": tsjob why names what prevents one\n"
refusal_line (Declaration pid) = codes "pid " ++ decimal pid ++ codes " breaks its own declaration\n"

-- the same in a recording that has streams whose clocks go back, and is not taken as joined: then `--joined` takes DTS that fall with the clock
unfoldable pub reason_in : List ℕ → JobRefusal → List ℕ
reason_in falling (Stamps packet pid fault mended) = stamps_line (falls_with falling pid fault) packet pid fault mended
reason_in falling refusal = refusal_line refusal

-- the refusal of a stream that is left out for this cause
unfoldable pub refusal_of : ℕ → LeftOutCause → JobRefusal
refusal_of pid causes.Scrambled = Scrambled pid
refusal_of pid (causes.StreamId packet id) = StreamId packet pid id
refusal_of pid causes.NoStamps = NoStamps pid
refusal_of pid (causes.OtherStreamId packet id first) = OtherStreamId packet pid id first
refusal_of pid (causes.Stamps packet fault mended) = Stamps packet pid fault mended
refusal_of pid (causes.Dts fault) = Dts pid fault
refusal_of pid (causes.Units count) = Units pid count
refusal_of pid (causes.Size size) = Size pid size
refusal_of pid (causes.Buffers size rx main way) = Buffers pid size rx main way

-- why the stream can't be carried, and what its program would lack
unfoldable pub lacking_in : List ℕ → ℕ → ℕ → StreamKind → LeftOutCause → List ℕ
lacking_in falling program pid kind cause = reason_in falling (refusal_of pid cause) ++ lacking_line program pid kind

unfoldable pub refusal_in : List ℕ → JobRefusal → List ℕ
refusal_in falling (Lacking program pid kind cause) = lacking_in falling program pid kind cause
refusal_in falling refusal = reason_in falling refusal
