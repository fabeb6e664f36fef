-- A page of the events of a stream, written at its end.
use Rattle.std.specs.Prelude.{◌≡◌, ℕ, ◌++◌, Bool, if◌then◌else◌, List, [], Option, Result, Ok, Err, string_bytes}
use Rattle.capture.specs.Captures.{Part, capture_of}
use Rattle.ts_watch.specs.Choices.{RequestView}
use Rattle.analysis.specs.Analysis.{AnalysisState, start}
use Rattle.view_page.specs.declared.page.Page.{Page}
use Rattle.view_page.specs.Pages.{IsPage, PageState, after_events, no_events}
use Rattle.view_page.specs.PageText.{page_text}
use Rattle.devices.specs.Devices.{Device}
use Rattle.events.specs.declared.timed_event.TimedEvent.{TimedEvent}
use Rattle.devices.specs.Outcomes.{Outcome, printed}
use Rattle.devices.specs.WholeInput.{ReadsInput}
use Rattle.devices.specs.declared.halt.Halt.{Halt}
use Rattle.tsview_cli.specs.CapturedStreams.{IsSoFar, after_parts, events_before, events_last, events_of, is_good_input, is_whole, last_events, left_in}
use Rattle.tsview_cli.specs.CapturedStreams.{parts_in, rate_in}
use Rattle.tsview_cli.specs.declared.drawing.Drawing.{Drawing}
use Rattle.tsview_cli.specs.declared.drawing.DrawnPage.{DrawnPage}

-- 1. A stream that is drawn

-- the first bytes of a stream were viewed, and the page has the events that they settle
pub record IsDrawn (drawing : Drawing) (s : AnalysisState) (p : PageState) (bytes : List ℕ) : Type 0 where
  pub found : List Part
  pub so_far : IsSoFar s drawing.stream bytes found
  pub page : IsPage drawing.page (after_events p (events_of s found))

abbrev pub first_page : RequestView → PageState
first_page request = no_events request.options.window (rate_in request) request.stamps

abbrev pub TakesBytes : List ℕ → Drawing → Drawing → Type 0
TakesBytes bytes first now = (s : AnalysisState) (p : PageState) → IsDrawn first s p [] → IsDrawn now s p bytes

-- all events of an input, with the events at its end
abbrev pub all_events : Option ℕ → AnalysisState → List ℕ → List TimedEvent
all_events rate s bytes = events_of s (parts_in bytes) ++ last_events rate (capture_of bytes).form (after_parts s (parts_in bytes)) (left_in bytes)

abbrev pub is_good_from : Option ℕ → AnalysisState → List ℕ → Bool
is_good_from rate s bytes = is_whole rate (capture_of bytes).form (after_parts s (parts_in bytes)) (left_in bytes)

pub record EndsDrawn (rate : Option ℕ) (page : Page) (s : AnalysisState) (p : PageState) (bytes : List ℕ) (good : Bool) : Type 0 where
  pub is : IsPage page (after_events p (all_events rate s bytes))
  pub good_is : good ≡ is_good_from rate s bytes

-- 2. The page of a stream

-- a page is the page of all events, with the events at the end
pub record IsWritten (rate : Option ℕ) (s : AnalysisState) (p : PageState) (bytes : List ℕ) (drawn : DrawnPage) : Type 0 where
  pub page : Page
  pub is : IsPage page (after_events p (all_events rate s bytes))
  pub text_is : string_bytes drawn.text ≡ page_text page
  pub good_is : drawn.good ≡ is_good_from rate s bytes

-- the page of the whole input
pub record DrawsAll (request : RequestView) (input : Device) (page : DrawnPage) : Type 0 where
  pub bytes : List ℕ
  pub read : ReadsInput input (Ok bytes)
  pub written : IsWritten (rate_in request) (start request) (first_page request) bytes page

abbrev pub Draws : RequestView → Device → Result DrawnPage Halt → Type 0
Draws request input (Ok page) = DrawsAll request input page
Draws request input (Err halt) = ReadsInput input (Err halt)

-- 3. A run

-- a page is written that is drawn of all events, and the status is 1 where something is wrong
pub record DrawsPage (request : RequestView) (bytes : List ℕ) (outcome : Outcome) : Type 0 where
  pub page : Page
  pub is : IsPage page (after_events (first_page request) (events_before request bytes ++ events_last request bytes))
  pub outcome_is : outcome ≡ printed (page_text page) (if is_good_input request bytes then 0 else 1)
