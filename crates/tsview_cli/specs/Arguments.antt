-- What the command line asks for.
use Rattle.std.specs.Prelude.{ℕ, Bool, false, if◌then◌else◌, List, Option, Some, None, codes, map, option_and_then, option_map}
use Rattle.std.specs.Borrow.{Bor}
use Rattle.std.specs.Str.{bytes_eq}
use Rattle.clap.specs.Words.{Row, Text, first_of}
use Rattle.devices.specs.Options.{is_given}
use Rattle.arrival.specs.declared.arrival.Arrival.{Arrival}
use Rattle.arrival.specs.declared.arrival.Arrival.TheVariants.{Unknown, AtRate, OnLines}
use Rattle.event_lines.specs.declared.event_lines.LineForm.{LineForm}
use Rattle.word_faults.specs.Lists.{buffer_list}
use Rattle.es_buffers.specs.declared.buffers.PidBuffers.{PidBuffers}
use Rattle.es_events.specs.declared.view_options.ViewOptions.{ViewOptions}
use Rattle.ts_watch.specs.declared.view_request.ViewSpan.{ViewSpan}
use Rattle.ts_watch.specs.Choices.{ChoiceView, RequestView}
use Rattle.word_faults.specs.GivenOptions.{given_options, number_if, number_of, numbers_of}
use Rattle.tsview_cli.specs.declared.request.Request.{Request}
use Rattle.tsview_cli.specs.declared.request.Request.TheVariants.{Lines, Page}
use Rattle.tsview_cli.specs.Options.{options}

-- packets arrive at a rate that is given, or else by clock references
unfoldable pub arrival_of : Option ℕ → Arrival
arrival_of None = Unknown
arrival_of (Some rate) = AtRate rate

-- none if the rate is out of its range
abbrev pub arrival_in : List Row → Option Arrival
arrival_in rows = option_map arrival_of (number_if options (codes "rate") rows)

abbrev pub view_options : Arrival → ℕ → ViewOptions
view_options arrival window = record { arrival = arrival; origin = 0; window = window }

-- a rate in bits a second, and a window of 10 ms to an hour, 1 s if none is given
unfoldable pub options_of : List Row → Option ViewOptions
options_of rows =
    option_and_then (λ arrival.
    option_and_then (λ window.
    Some (view_options arrival window))
    (number_of options (codes "window") rows))
    (arrival_in rows)

-- the part of the stream whose faults and windows are asked for, in ms
unfoldable pub span_of : List Row → Option ViewSpan
span_of rows =
    option_and_then (λ from.
    option_and_then (λ to.
    Some (record { from = from; to = to }))
    (number_if options (codes "to") rows))
    (number_if options (codes "from") rows)

-- the programs that are viewed, and the buffers that are given
abbrev pub choice : List ℕ → List PidBuffers → ChoiceView
choice programs buffers = record { programs = programs; buffers = buffers }

unfoldable pub choice_of : List Row → Option ChoiceView
choice_of rows =
    option_and_then (λ programs.
    option_and_then (λ buffers.
    Some (choice programs buffers))
    (buffer_list (first_of (codes "buffers") rows)))
    (numbers_of options (codes "program") rows)

-- whether by the stamps before packets of 192 bytes
abbrev pub request : ViewOptions → ChoiceView → ViewSpan → Bool → RequestView
request given viewed span stamps = record { options = given; choice = viewed; span = span; stamps = stamps }

-- whether stamps are asked for; none if a rate is given too
unfoldable pub stamps_beside : Arrival → Bool → Option Bool
stamps_beside Unknown stamps = Some stamps
stamps_beside (AtRate rate) stamps = if stamps then None else Some false
stamps_beside (OnLines lines) stamps = Some stamps

abbrev pub stamps_in : List Row → Arrival → Option Bool
stamps_in rows arrival = stamps_beside arrival (is_given (first_of (codes "arrival-stamps") rows))

-- how lines are written
abbrev pub form_of : List Row → LineForm
form_of rows = record { json = is_given (first_of (codes "json") rows); quiet = is_given (first_of (codes "quiet") rows) }

-- the lines of its report, or the page of them, which has no JSON objects
unfoldable pub requested : Bool → LineForm → RequestView → Option Request
requested page form request = if page then (if form.json then None else Some (Page request)) else Some (Lines request form)

-- a request with the options that are lists
unfoldable pub request_with : List Row → ViewOptions → ViewSpan → Bool → Option Request
request_with rows given span stamps =
    option_and_then (λ viewed.
    requested (is_given (first_of (codes "page") rows)) (form_of rows) (request given viewed span stamps))
    (choice_of rows)

unfoldable pub request_of : List Row → Option Request
request_of rows =
    option_and_then (λ given.
    option_and_then (λ span.
    option_and_then (λ stamps.
    request_with rows given span stamps)
    (stamps_in rows given.arrival))
    (span_of rows))
    (options_of rows)

-- a request with the name of the stream's file; the stream is the input if no name or `-` is given
pub record AskedView : Type 0 where
  pub request : Request
  pub file : Option Text

abbrev pub unless_input : Text → Option Text
unless_input name = if bytes_eq name (codes "-") then None else Some name

abbrev pub file_of : List Row → Option Text
file_of rows = option_and_then unless_input (first_of (codes "file") rows)

abbrev pub asked_for : Request → Option Text → AskedView
asked_for request file = record { request = request; file = file }

abbrev pub asked_view : List Row → Request → AskedView
asked_view rows request = asked_for request (file_of rows)

unfoldable pub asked_of : List Row → Option AskedView
asked_of rows = option_map (asked_view rows) (request_of rows)

-- the request of the words; none for a usage error
abbrev pub asked_in : List Text → Option AskedView
asked_in words = option_and_then asked_of (given_options (codes "tsview") options words)

-- the same of words in memory
abbrev pub asked : List (Bor (List ℕ)) → Option AskedView
asked words = asked_in (map (λ s. s.now) words)
