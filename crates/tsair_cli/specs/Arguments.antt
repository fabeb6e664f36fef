-- What the command line asks for.
use Rattle.std.specs.Prelude.{ℕ, Bool, false, not, ◌||◌, List, Option, Some, None, codes, map, option_and_then}
use Rattle.std.specs.Borrow.{Bor}
use Rattle.clap.specs.Words.{Row, Text, first_of}
use Rattle.devices.specs.Options.{is_given}
use Rattle.on_air.specs.declared.options.Terms.{Terms}
use Rattle.word_faults.specs.GivenOptions.{given_options, number_if, number_of}
use Rattle.tsair_cli.specs.Options.{options}
use Rattle.tsair_cli.specs.declared.arguments.AirOptions.{AirOptions}

abbrev pub air_terms : ℕ → ℕ → Option ℕ → Option ℕ → Terms
air_terms wait ahead slots room = record { wait = wait; ahead = ahead; slots = slots; room = room }

abbrev pub air_options : Bool → Bool → Bool → Terms → Option ℕ → AirOptions
air_options hex stop unframe terms periods = record { terms = terms; periods = periods; hex = hex; stop = stop; unframe = unframe }

-- the terms; none if any value is none
abbrev pub terms_by : Option ℕ → Option ℕ → Option (Option ℕ) → Option (Option ℕ) → Option Terms
terms_by wait ahead slots room =
    option_and_then (λ w. option_and_then (λ a. option_and_then (λ s. option_and_then (λ r. Some (air_terms w a s r)) room) slots) ahead) wait

-- times in units of 90 kHz: without words, a unit may come 2 s after a greater DTS, and a record may lie 10 s ahead
unfoldable pub terms_of : List Row → Option Terms
terms_of rows =
    terms_by (number_of options (codes "wait") rows) (number_of options (codes "ahead") rows) (number_if options (codes "slots") rows)
    (number_if options (codes "room") rows)

unfoldable pub options_of : List Row → Option AirOptions
options_of rows =
    option_and_then (λ terms.
    option_and_then (λ periods.
    Some (air_options (is_given (first_of (codes "hex") rows)) (is_given (first_of (codes "stop") rows)) (is_given (first_of (codes "unframe") rows))
    terms periods))
    (number_if options (codes "switch") rows))
    (terms_of rows)

-- the options that the words give; none if they are a usage error
abbrev pub asked_in : List Text → Option AirOptions
asked_in words = option_and_then options_of (given_options (codes "tsair") options words)

-- the same of words in memory
abbrev pub asked : List (Bor (List ℕ)) → Option AirOptions
asked words = asked_in (map (λ s. s.now) words)

-- bytes are written that are no text: records, or packets that are not lines of digits
abbrev pub are_bytes : Option AirOptions → Bool
are_bytes None = false
are_bytes (Some options) = options.unframe || not options.hex

abbrev pub writes_bytes : List (Bor (List ℕ)) → Bool
writes_bytes words = are_bytes (asked words)
