-- What a page keeps of a stream, by its events and nothing else.
use Rattle.std.specs.Prelude.{◌≡◌, ℕ, Bool, List, [], ◌∷◌, Option, None}
use Rattle.events.specs.declared.event.Event.{Event}
use Rattle.events.specs.declared.timed_event.TimedEvent.{TimedEvent}
use Rattle.events.specs.declared.event.Event.TheVariants.{End}
use Rattle.events.specs.declared.event.ReportEnd.{ReportEnd}
use Rattle.view_page.specs.declared.page.Page.{Page}
use Rattle.page_curves.specs.PidLabels.{LabelsState, no_labels}
use Rattle.view_rows.specs.PageLabels as labels
use Rattle.page_charts.specs.PictureTexts.{PictureTexts}
use Rattle.page_charts.specs.TracePictures as pictures
use Rattle.view_rows.specs.RowTexts.{RowTexts}
use Rattle.view_rows.specs.Rows as rows
use Rattle.view_page.specs.Services as services
use Rattle.view_page.specs.Services.{AreServices, KeptServices}
use Rattle.view_page.specs.Values as values
use Rattle.view_page.specs.Values.{AreValues, KeptValues}

-- the length of a window in ms, the given rate, whether stamps were asked for, the rows of tables, the curves of PIDs and of programs, what PIDs
-- carry, pictures of buffers near their greatest excesses, and the end
pub record PageState : Type 0 where
  pub millis : ℕ
  pub rate : Option ℕ
  pub stamps : Bool
  pub rows : RowTexts
  pub values : KeptValues
  pub services : KeptServices
  pub labels : LabelsState
  pub traces : PictureTexts
  pub end : ReportEnd

pub record IsPage (page : Page) (s : PageState) : Type 0 where
  pub millis : page.millis ≡ s.millis
  pub rate : page.rate ≡ s.rate
  pub stamps : page.stamps ≡ s.stamps
  pub rows : page.rows ≡ s.rows
  pub values : AreValues page.values s.values
  pub services : AreServices page.services s.services
  pub labels : page.labels ≡ s.labels
  pub traces : page.traces ≡ s.traces
  pub end : page.end ≡ s.end

abbrev pub no_events : ℕ → Option ℕ → Bool → PageState
no_events millis rate stamps = record {
  millis = millis;
  rate = rate;
  stamps = stamps;
  rows = rows.no_rows;
  values = values.no_values;
  services = services.no_services;
  labels = no_labels;
  traces = pictures.no_pictures;
  end = record { packets = 0; refused = 0; left = 0; length = None };
}

unfoldable pub end_after : ReportEnd → Event → ReportEnd
end_after end (End e) = e
end_after end _ = end

abbrev pub with_end : PageState → Event → PageState
with_end s event = record s { end = end_after s.end event }

-- after an event: its row uses the labels known before it
abbrev pub after_event : PageState → TimedEvent → PageState
after_event s e = record {
  millis = s.millis;
  rate = s.rate;
  stamps = s.stamps;
  rows = rows.with_event s.labels s.rows e;
  values = values.with_event s.values e.event;
  services = services.with_event s.services e.event;
  labels = labels.with_event s.labels e.event;
  traces = pictures.after_event s.labels s.traces e.event;
  end = end_after s.end e.event;
}

unfoldable pub after_events : PageState → List TimedEvent → PageState
after_events s [] = s
after_events s (event ∷ events) = after_events (after_event s event) events
