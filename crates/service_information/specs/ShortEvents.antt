-- What a short event descriptor says (EN 300 468, 6.2.37).
use Rattle.std.specs.Prelude.{ℕ, ◌==◌, nat_lt, if◌then◌else◌, List, [], ◌∷◌, length, take, drop, Option, Some, None, option_map}
use Rattle.std.specs.Prelude.{option_and_then}
use Rattle.std.specs.Option.{option_or}
use Rattle.descriptor_loops.specs.Descriptors.{DescriptorView, descriptors_in}
use Rattle.ts_services.specs.Services.{length_prefixed}
use Rattle.service_information.specs.declared.short_events.ShortEvent.{ShortEvent}

-- ISO_639_language_code, and the texts as they are coded there
pub record ShortEventView : Type 0 where
  pub language : List ℕ
  pub name : List ℕ
  pub text : List ℕ

abbrev pub short_event_view : ShortEvent → ShortEventView
short_event_view e = record { language = e.language.now; name = e.name.now; text = e.text.now }

unfoldable pub with_name : List ℕ → Option (List ℕ × List ℕ) → Option ShortEventView
with_name language name =
    option_and_then (λ n. option_map (λ text. record { language = language; name = n.0; text = text.0 }) (length_prefixed n.1)) name

-- three bytes, and two texts, each after its length
unfoldable pub short_event_in : List ℕ → Option ShortEventView
short_event_in body = if nat_lt (length body) 3 then None else with_name (take 3 body) (length_prefixed (drop 3 body))

-- the event by a short event descriptor
unfoldable pub of_descriptor : DescriptorView → Option ShortEventView
of_descriptor d = if d.tag == 0x4D then short_event_in d.body else None

-- the first one
unfoldable pub in_descriptors : List DescriptorView → Option ShortEventView
in_descriptors [] = None
in_descriptors (d ∷ ds) = option_or (of_descriptor d) (in_descriptors ds)

abbrev pub short_event : List ℕ → Option ShortEventView
short_event descriptors = in_descriptors (descriptors_in descriptors)
