-- A page that is drawn from a stream piece by piece.
use Rattle.std.proofs.Common.{◌≡◌, ◌∙◌, ℕ, ◌%◌, Bool, List, [], ◌∷◌, ◌++◌, refl, sym, ap, subst, Result, Ok, Err, Option, append_assoc}
use Rattle.std.specs.Prelude.{IfErr, IfOk, OnOk, if◌then◌else◌, string_bytes}
use Rattle.capture.specs.Captures.{Part, capture_of}
use Rattle.events.specs.declared.timed_event.TimedEvent.{TimedEvent}
use Rattle.ts_watch.specs.Choices.{RequestView}
use Rattle.analysis.specs.Analysis.{AnalysisState, start}
use Rattle.view_page.specs.Pages.{IsPage, PageState, after_event, after_events}
use Rattle.view_page.specs.declared.page.Page.{Page}
use Rattle.devices.specs.Devices.{Device}
use Rattle.devices.specs.WholeInput.{ReadsInput, TakesAll}
use Rattle.devices.specs.declared.halt.Halt.{Halt}
use Rattle.devices.specs.declared.halt.Halt.TheVariants.{Memory}
use Rattle.devices.specs.Outcomes.{printed}
use Rattle.tsview_cli.specs.CapturedStreams.{IsEnded, IsMore, IsSoFar, after_parts, events_of, last_events, left_in, parts_in, rate_in}
use Rattle.tsview_cli.specs.declared.captured.CapturedView.{CapturedView}
use Rattle.tsview_cli.specs.declared.drawing.Drawing.{Drawing}
use Rattle.tsview_cli.specs.declared.drawing.DrawnPage.{DrawnPage}
use Rattle.tsview_cli.specs.Drawing.{Draws, DrawsPage, EndsDrawn, IsDrawn, IsWritten, TakesBytes, all_events, first_page, is_good_from}
use Rattle.tsview_cli.proofs.CapturedParts.{events_both}

-- 1. Events one after another

pub page_both : (p : PageState) (found more : List TimedEvent) → after_events p (found ++ more) ≡ after_events (after_events p found) more
unfolding after_events
page_both p [] more = refl
page_both p (event ∷ found) more = page_both (after_event p event) found more

pub drawn_none : (stream : CapturedView) (page : Page) (s : AnalysisState) (p : PageState) → IsSoFar s stream [] [] → IsPage page p →
    IsDrawn (record { stream = stream; page = page }) s p []
unfolding after_events events_of
drawn_none stream page s p so_far is = record { found = []; so_far = so_far; page = is }

-- The page takes the events that more bytes settle.
pub drawn_more : (s : AnalysisState) (p : PageState) (stream : CapturedView) (page : Page) (bytes : List ℕ) (found : List Part) (events : List TimedEvent) →
    IsMore s stream bytes found → events ≡ stream.parts.events.items →
    IsPage page (after_events (after_events p (events_of s found)) events) → IsDrawn (record { stream = stream; page = page }) s p bytes
drawn_more s p stream page bytes found events m is taken = record {
  found = found ++ m.more;
  so_far = m.so_far;
  page = subst (IsPage page)
      (ap (after_events (after_events p (events_of s found))) (is ∙ m.events)
      ∙ sym (page_both p (events_of s found) (events_of (after_parts s found) m.more))
      ∙ ap (after_events p) (sym (events_both s found m.more)))
      taken;
}

pub drawn_end : (rate : Option ℕ) (s : AnalysisState) (p : PageState) (stream : CapturedView) (page : Page) (bytes : List ℕ) (found : List Part)
    (events : List TimedEvent) (good : Bool) →
    IsEnded rate s stream bytes found good → events ≡ stream.parts.events.items → IsPage page (after_events (after_events p (events_of s found)) events) →
    EndsDrawn rate page s p bytes good
drawn_end rate s p stream page bytes found events good e is taken =
    let last = last_events rate (capture_of bytes).form (after_parts s (parts_in bytes)) (left_in bytes) in
    let before = events_of s found in
    let more = events_of (after_parts s found) e.more in
    record {
      is = subst (IsPage page)
          (ap (after_events (after_events p before)) (is ∙ e.events)
          ∙ sym (page_both p before (more ++ last))
          ∙ ap (after_events p)
          (sym (append_assoc before more last)
          ∙ ap (λ (l : List TimedEvent). l ++ last) (sym (events_both s found e.more) ∙ ap (events_of s) (sym e.parts_are))))
          taken;
      good_is = e.good_is;
    }

pub takes_none : (drawing : Drawing) → TakesBytes [] drawing drawing
takes_none drawing s p d = d

-- 2. The page of the whole input

pub all_drawn : (request : RequestView) (input : Device) (first now : Drawing) (size : ℕ) (result : Result DrawnPage Halt) (rate : Option ℕ) →
    IsDrawn first (start request) (first_page request) [] → rate ≡ rate_in request →
    TakesAll (λ bytes. TakesBytes bytes first now) input size →
    ((s : AnalysisState) (p : PageState) (bytes : List ℕ) → IsDrawn now s p bytes → IfOk result (IsWritten rate s p bytes)) →
    IfErr result (λ halt. halt ≡ Memory) → Draws request input result
all_drawn request input first now size (Ok page) rate d is t written memory = record {
  bytes = t.bytes;
  read = t.read;
  written = subst (λ (r : Option ℕ). IsWritten r (start request) (first_page request) t.bytes page) is
      (written (start request) (first_page request) t.bytes (t.taken (start request) (first_page request) d));
}
all_drawn request input first now size (Err halt) rate d is t written memory = subst (λ (h : Halt). ReadsInput input (Err h)) (sym memory) t.read.1.clean

-- The output is the page.
pub draws : (request : RequestView) (bytes : List ℕ) (drawn : DrawnPage) → IsWritten (rate_in request) (start request) (first_page request) bytes drawn →
    DrawsPage request bytes (printed (string_bytes drawn.text) (if drawn.good then 0 else 1))
draws request bytes drawn w = record {
  page = w.page;
  is = w.is;
  outcome_is = rw (w.text_is, w.good_is) refl;
}

-- The page, if there is memory for it
pub on_ok : {V E A B : Type 0} (r : Result V E) → (A → B) → OnOk r A → OnOk r B
on_ok (Ok v) f a = f a
on_ok (Err e) f a = tt
