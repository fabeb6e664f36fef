-- The events of a job's programs, the moment at which its run begins, and what of service information is left out.
use Rattle.std.specs.Prelude.{ℕ, List, [], map, slice_get, codes, Option, Some, None, option_map, flat_map}
use Rattle.std.specs.Option.{option_or}
use Rattle.pid_findings.specs.Views.{FindingView}
use Rattle.job_text.specs.DescriptionParts.{EventPartView}
use Rattle.service_information.specs.CivilTimes.{civil_text}
use Rattle.service_information.specs.Events.{FoundEventView, stream_events}
use Rattle.service_information.specs.ShortEvents.{ShortEventView, short_event}
use Rattle.service_information.specs.StreamTime.{stream_time}
use Rattle.service_information.specs.Warnings.{information_warnings}
use Rattle.dvb_texts.specs.Texts.{decode_text}
use Rattle.job_programs.specs.GivenLoops.{given_event, kept_loop}
use Rattle.job_programs.specs.JobPrograms.{JobProgramView}
use Rattle.job_programs.specs.declared.warning.Warning.{Warning}
use Rattle.job_programs.specs.declared.warning.Warning.TheVariants.{Information}
use Rattle.job_text.specs.Texts.{event_text}

abbrev pub numbers_of : List JobProgramView → List ℕ
numbers_of programs = map (λ p. p.number) programs

unfoldable pub job_events : List FindingView → List JobProgramView → List FoundEventView
job_events findings programs = stream_events (numbers_of programs) findings

-- 1. The moment of the first slot: the given moment, otherwise the stream's, otherwise the start of the first event

unfoldable pub first_start : List FoundEventView → Option ℕ
first_start events = option_map (λ e. e.start) (slice_get events 0)

unfoldable pub start_found : Option ℕ → List ℕ
start_found None = codes "2000-01-01T00:00:00"
start_found (Some moment) = civil_text moment

unfoldable pub start_of : Option (List ℕ) → List FoundEventView → List FindingView → List ℕ
start_of None events findings = start_found (option_or (stream_time findings) (first_start events))
start_of (Some text) events findings = text

-- 2. What a description says of events: language, a name of at most 100 bytes and a text of 150, or all descriptors if these texts do not give
-- exactly these

-- the texts of the first short event descriptor; empty without one
unfoldable pub texts_of : Option ShortEventView → ShortEventView
texts_of None = record { language = []; name = []; text = [] }
texts_of (Some said) = said

unfoldable pub event_with : FoundEventView → List ℕ → List ℕ → List ℕ → EventPartView
event_with e language name text = record {
  program = e.program;
  id = e.id;
  start = civil_text e.start;
  duration = e.duration;
  language = language;
  name = name;
  text = text;
  descriptors = kept_loop 4000 (given_event language name text) e.descriptors;
}

unfoldable pub event_by : FoundEventView → ShortEventView → EventPartView
event_by e said = event_with e (decode_text 3 said.language) (decode_text 100 said.name) (decode_text 150 said.text)

abbrev pub event_part : FoundEventView → EventPartView
event_part e = event_by e (texts_of (short_event e.descriptors))

-- the descriptors that a description with these texts has of the event
abbrev pub event_loop : EventPartView → Option (List ℕ)
event_loop e = option_or e.descriptors (given_event e.language e.name e.text)

abbrev pub event_parts : List FoundEventView → List EventPartView
event_parts events = map event_part events

abbrev pub events_text : List EventPartView → List ℕ
events_text events = flat_map event_text events

-- 3. Warnings

abbrev pub programs_information : List FindingView → List JobProgramView → List Warning
programs_information findings programs = map Information (information_warnings (numbers_of programs) findings)
