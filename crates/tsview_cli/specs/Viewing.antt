-- A stream that is viewed as it comes: the lines of the events that the bytes of a read settle are written before the next read.
use Rattle.std.specs.Prelude.{◌≡◌, ◌⊎◌, ◌<◌, ◌≤◌, ℕ, ◌%◌, ◌*◌, Bool, true, false, if◌then◌else◌, List, [], ◌++◌, codes, length, take, Option, Some, Result}
use Rattle.std.specs.Prelude.{Ok, Err}
use Rattle.std.specs.Io.KnownBytes.{Consumes, IsAtEnd}
use Rattle.capture.specs.Captures.{Part, capture_of, with_parts}
use Rattle.capture.specs.Reading.{ReaderView, capture_left}
use Rattle.ts_watch.specs.Choices.{RequestView}
use Rattle.analysis.specs.Analysis.{is_crowded}
use Rattle.analysis.specs.declared.analyser.Analyser.{Analyser}
use Rattle.analysis.specs.Analysis.{IsAnalysed, AnalysisState, start}
use Rattle.event_lines.specs.declared.event_lines.LineForm.{LineForm}
use Rattle.event_lines.specs.EventLines.{lines_of}
use Rattle.devices.specs.Devices.{Device, HasFailed, IsClean, IsUntouched, Takes}
use Rattle.devices.specs.Lines.{Reports, Stopped, line_text}
use Rattle.devices.specs.Outcomes.{Outcome, halt_line, printed}
use Rattle.devices.specs.Runs.{Ends}
use Rattle.devices.specs.WholeInput.{IsLong, ReadsInput, TakesInput}
use Rattle.devices.specs.declared.halt.Halt.{Halt}
use Rattle.devices.specs.declared.halt.Halt.TheVariants.{Read, Write, Memory}
use Rattle.tsview_cli.specs.CapturedStreams.{IsSoFar, after_parts, events_last, events_of, is_good_input, is_whole, last_events, left_in, parts_in}
use Rattle.tsview_cli.specs.declared.captured.CapturedView.{CapturedView}
use Rattle.tsview_cli.specs.declared.viewing.Viewed.{Viewed}
use Rattle.tsview_cli.specs.declared.viewing.Viewed.TheVariants as is_viewed

-- 1. The lines of a stream, plain or as JSON objects

-- the lines of the events that parts settle
abbrev pub lines_all : LineForm → AnalysisState → List Part → List ℕ
lines_all form s parts = lines_of form (events_of s parts)

abbrev pub settled : RequestView → LineForm → List Part → List ℕ
settled request form parts = lines_all form (start request) parts

-- all lines, with the lines at the end; status 1 if something is wrong
abbrev pub all_lines : RequestView → LineForm → List ℕ → List ℕ
all_lines request form bytes = settled request form (parts_in bytes) ++ lines_of form (events_last request bytes)

abbrev pub viewed : RequestView → LineForm → List ℕ → Outcome
viewed request form bytes = printed (all_lines request form bytes) (if is_good_input request bytes then 0 else 1)

-- a view of the first parts of these bytes is crowded: too many units of a stream wait
pub record IsCrowdedAfter (request : RequestView) (bytes : List ℕ) : Type 0 where
  pub found : List Part
  pub later : List Part
  pub parts_are : parts_in bytes ≡ found ++ later
  pub now : Analyser
  pub kept : IsAnalysed now (after_parts (start request) found)
  pub crowded : is_crowded now ≡ true

-- these parts of the first bytes of an input are settled, except parts within less than 1,128 bytes, whatever bytes follow
pub record AreSettled (bytes : List ℕ) (found : List Part) : Type 0 where
  pub reader : ReaderView
  pub left : (more : List ℕ) → capture_of (bytes ++ more) ≡ with_parts found (capture_left reader more)
  pub few : length reader.kept < 1128

-- after the parts that these bytes settle, the view is not crowded
pub record IsCalmAfter (first : AnalysisState) (bytes : List ℕ) : Type 0 where
  pub found : List Part
  pub are : AreSettled bytes found
  pub now : Analyser
  pub kept : IsAnalysed now (after_parts first found)
  pub calm : is_crowded now ≡ false

-- the size of a piece, after which it is asked whether the view is crowded; no read gives more bytes: 349 packets, somewhat more than 64 KiB
abbrev pub longest_piece : ℕ
longest_piece = 349 * 188

-- the view was crowded at the end of no piece before the last: only then is a next piece read
abbrev pub WasCalm : AnalysisState → List ℕ → Type 0
WasCalm first bytes = (n : ℕ) → n % longest_piece ≡ 0 → n < length bytes → IsCalmAfter first (take n bytes)

-- nor after the last piece
pub record StaysCalm (first : AnalysisState) (bytes : List ℕ) : Type 0 where
  pub before : WasCalm first bytes
  pub after : IsCalmAfter first bytes

-- all lines, of an input whose view is crowded after no piece
pub record Leads (request : RequestView) (form : LineForm) (bytes : List ℕ) (outcome : Outcome) : Type 0 where
  pub is : outcome ≡ viewed request form bytes
  pub calm : StaysCalm (start request) bytes

-- 2. As far as it came

-- why a next piece is not viewed: a call of the reader failed, or there was no memory
abbrev pub StopsNext : Device → Halt → Type 0
StopsNext input Read = HasFailed input
StopsNext input Write = ⊥
StopsNext input Memory = IsClean input

-- the next n bytes of the input are at the front of a piece, none only if the input ended
pub record CameFront (input : Device) (piece : List ℕ) (n : ℕ) : Type 0 where
  pub fits : n ≤ length piece
  pub known : Consumes input.before.bytes input.after.bytes (take n piece)
  pub ends : n ≡ 0 → IsAtEnd input.after.bytes
  pub clean : IsClean input

abbrev pub ReadsSome : Device → List ℕ → Result ℕ Halt → Type 0
ReadsSome input piece (Ok n) = CameFront input piece n
ReadsSome input piece (Err Read) = HasFailed input
ReadsSome input piece (Err Write) = ⊥
ReadsSome input piece (Err Memory) = ⊥

-- the input begins with these bytes
abbrev pub BeginsWith : Option (List ℕ) → List ℕ → Type 0
BeginsWith known bytes = (xs : List ℕ) → known ≡ Some xs → (rest : List ℕ) × (xs ≡ bytes ++ rest)

-- these bytes were viewed, piece by piece, and the lines that they settle were written
pub record Seen (form : LineForm) (first : AnalysisState) (output : Device) (now : CapturedView) (bytes : List ℕ) : Type 0 where
  pub found : List Part
  pub so_far : IsSoFar first now bytes found
  pub written : Takes output (lines_all form first found)
  pub clean : IsClean output
  pub calm : WasCalm first bytes

-- the lines of the further parts that these bytes settle
pub record Shows (form : LineForm) (first : AnalysisState) (now : CapturedView) (bytes : List ℕ) (found : List Part) (text : List ℕ) : Type 0 where
  pub more : List Part
  pub so_far : IsSoFar first now bytes (found ++ more)
  pub text_is : text ≡ lines_all form (after_parts first found) more

-- the lines of the rest of the input, and the lines at the end
pub record EndShows (rate : Option ℕ) (form : LineForm) (first : AnalysisState) (bytes : List ℕ) (found : List Part) (text : List ℕ) (good : Bool) : Type 0 where
  pub more : List Part
  pub parts_are : parts_in bytes ≡ found ++ more
  pub text_is : text ≡ lines_of form (events_of (after_parts first found) more
      ++ last_events rate (capture_of bytes).form (after_parts first (parts_in bytes)) (left_in bytes))
  pub good_is : good ≡ is_whole rate (capture_of bytes).form (after_parts first (parts_in bytes)) (left_in bytes)

-- the first `size` bytes of the input were viewed, and then too many units of a stream waited: no more of the input is viewed
pub record Crowds (form : LineForm) (first : AnalysisState) (input output : Device) (now : CapturedView) (size : ℕ) : Type 0 where
  pub bytes : List ℕ
  pub size_is : size ≡ length bytes
  pub front : BeginsWith input.before.bytes bytes
  pub seen : Seen form first output now bytes
  pub clean : IsClean input
  pub crowded : is_crowded now.parts.view ≡ true

-- the whole input was viewed, or that front of it
abbrev pub Reaches : LineForm → AnalysisState → Device → Device → CapturedView → ℕ → Type 0
Reaches form first input output now size = TakesInput (Seen form first output now) input (Ok size) ⊎ Crowds form first input output now size

-- if the view is crowded, the input may have more bytes than were viewed
abbrev pub as_viewed : Bool → Bool → Viewed
as_viewed crowded good = if crowded then is_viewed.Crowded else is_viewed.Whole good

-- why no more is written than this text: all of it is, and the reader failed or there was no memory; or the writer failed
-- within it
abbrev pub BreaksAt : List ℕ → Device → Device → Halt → Type 0
BreaksAt text input output Read = Takes output text × (HasFailed input ⊎ IsLong input.before.bytes)
BreaksAt text input output Write = Stopped text output × HasFailed output
BreaksAt text input output Memory = Takes output text × IsClean input

-- the lines that the first bytes of the input settle
pub record Breaks (form : LineForm) (first : AnalysisState) (input output : Device) (halt : Halt) : Type 0 where
  pub bytes : List ℕ
  pub front : BeginsWith input.before.bytes bytes
  pub found : List Part
  pub are : AreSettled bytes found
  pub calm : WasCalm first bytes
  pub at : BreaksAt (lines_all form first found) input output halt

-- these bytes are the whole input, or too many units of a stream wait after them: no more is viewed
abbrev pub AreViewed : RequestView → Device → List ℕ → Type 0
AreViewed request input bytes = ReadsInput input (Ok bytes) ⊎ IsCrowdedAfter request bytes

-- the lines of parts that these bytes settle
abbrev pub IsSettledText : RequestView → LineForm → List ℕ → List ℕ → Type 0
IsSettledText request form bytes text = (found : List Part) × AreSettled bytes found × (text ≡ settled request form found)

-- the same, or all lines of these bytes if no more of the input is viewed
abbrev pub IsText : RequestView → LineForm → Device → List ℕ → List ℕ → Type 0
IsText request form input bytes text = IsSettledText request form bytes text ⊎ ((text ≡ all_lines request form bytes) × AreViewed request input bytes)

pub record BreaksOff (request : RequestView) (form : LineForm) (input output : Device) (halt : Halt) : Type 0 where
  pub bytes : List ℕ
  pub front : BeginsWith input.before.bytes bytes
  pub text : List ℕ
  pub text_is : IsText request form input bytes text
  pub calm : WasCalm (start request) bytes
  pub at : BreaksAt text input output halt

-- 3. A run

-- all lines are written, and too many units of a stream waited at the end of no piece
pub record SeesAll (request : RequestView) (form : LineForm) (input output : Device) (good : Bool) : Type 0 where
  pub bytes : List ℕ
  pub read : ReadsInput input (Ok bytes)
  pub written : Takes output (all_lines request form bytes)
  pub clean : IsClean output
  pub calm : StaysCalm (start request) bytes
  pub good_is : good ≡ is_good_input request bytes

-- or the lines of the first bytes of the input, after which too many units of a stream wait, with the lines at the end; no more is viewed
pub record SeesFront (request : RequestView) (form : LineForm) (input output : Device) : Type 0 where
  pub bytes : List ℕ
  pub front : BeginsWith input.before.bytes bytes
  pub read : IsClean input
  pub calm : WasCalm (start request) bytes
  pub crowded : IsCrowdedAfter request bytes
  pub written : Takes output (all_lines request form bytes)
  pub clean : IsClean output

abbrev pub Sees : RequestView → LineForm → Device → Device → Result Viewed Halt → Type 0
Sees request form input output (Ok (is_viewed.Whole good)) = SeesAll request form input output good
Sees request form input output (Ok is_viewed.Crowded) = SeesFront request form input output
Sees request form input output (Err halt) = BreaksOff request form input output halt

-- the line that standard error then takes, and the status
abbrev pub Concludes : Viewed → Device → ℕ → Type 0
Concludes (is_viewed.Whole good) faults status = IsUntouched faults × (status ≡ (if good then 0 else 1))
Concludes is_viewed.Crowded faults status = Reports faults (line_text (codes "waiting") []) × (status ≡ 3)

-- it ended early, and the line that says why is printed
pub record EndsEarly (request : RequestView) (form : LineForm) (input output faults : Device) (status : ℕ) : Type 0 where
  pub halt : Halt
  pub breaks : BreaksOff request form input output halt
  pub reports : Reports faults (halt_line halt)
  pub status_is : status ≡ 3

-- or the rest of the input was not viewed, because too many units of a stream wait, and a line says so
pub record EndsCrowded (request : RequestView) (form : LineForm) (input output faults : Device) (status : ℕ) : Type 0 where
  pub sees : SeesFront request form input output
  pub reports : Reports faults (line_text (codes "waiting") [])
  pub status_is : status ≡ 3

abbrev pub Views : RequestView → LineForm → Device → Device → Device → ℕ → Type 0
Views request form input output faults status =
    Ends (Leads request form) input output faults status ⊎
    (EndsEarly request form input output faults status ⊎ EndsCrowded request form input output faults status)
