-- What the command line asks for.
use Rattle.std.specs.Prelude.{ℕ, IsTrue, ◌<◌, Bool, true, List, [], ◌∷◌, Option, Some, None, if◌then◌else◌, codes, map}
use Rattle.std.specs.Borrow.{Bor}
use Rattle.std.specs.Str.{bytes_eq}
use Rattle.clap.specs.Words.{Row, Text, Kinds, fault_of, first_of, subcommand_of}
use Rattle.tsmux_cli.specs.declared.request.Request.{Request}
use Rattle.tsmux_cli.specs.declared.request.Request.TheVariants.{Carry, Check, Demux, Monitor, Mux, Plan}
use Rattle.pes_packet.specs.StreamIds.{is_unit_id}
use Rattle.tsmux_cli.specs.CommandLine.{tsmux_app}
use Rattle.devices.specs.Options.{is_given, number_option}
use Rattle.word_faults.specs.GivenOptions.{number_if, number_of}
use Rattle.tsmux_cli.specs.Options.{carry_options, monitor_options, mux_options}

-- the options of `carry`
unfoldable pub carry_of : Bool → Option ℕ → Option ℕ → Option Request
carry_of hex None id = None
carry_of hex (Some pid) None = None
carry_of hex (Some pid) (Some id) = if is_unit_id id then Some (Carry (record { hex = hex; pid = pid; id = id })) else None

unfoldable pub carry_request : List Row → Option Request
carry_request rows = carry_of (is_given (first_of (codes "hex") rows))
    (number_of carry_options (codes "pid") rows)
    (number_option 0 255 192 (first_of (codes "id") rows))

-- the options of `mux`
unfoldable pub mux_of : Bool → Option (Option ℕ) → Option (Option ℕ) → Option Request
mux_of hex None periods = None
mux_of hex (Some slots) None = None
mux_of hex (Some slots) (Some periods) = Some (Mux (record { hex = hex; slots = slots; periods = periods }))

unfoldable pub mux_request : List Row → Option Request
mux_request rows = mux_of (is_given (first_of (codes "hex") rows))
    (number_if mux_options (codes "slots") rows)
    (number_if mux_options (codes "switch") rows)

-- the options of `monitor`: the rate is in bits a second, the limit in milliseconds
unfoldable pub monitor_of : Option ℕ → Option ℕ → Option Request
monitor_of None limit = None
monitor_of (Some rate) None = None
monitor_of (Some rate) (Some limit) = Some (Monitor (record { rate = rate; pcr_limit = limit }))

unfoldable pub monitor_request : List Row → Option Request
monitor_request rows = monitor_of (number_of monitor_options (codes "rate") rows)
    (number_of monitor_options (codes "pcr") rows)

unfoldable pub request_of : Text → List Row → Option Request
request_of name rows =
    if bytes_eq name (codes "carry") then carry_request rows
    else (if bytes_eq name (codes "plan") then Some Plan
    else (if bytes_eq name (codes "demux") then Some Demux
    else (if bytes_eq name (codes "check") then Some (Check (is_given (first_of (codes "switch") rows)))
    else (if bytes_eq name (codes "mux") then mux_request rows
    else (if bytes_eq name (codes "monitor") then monitor_request rows else None)))))

-- words without a fault
unfoldable pub subcommand_request : Option (Text × List Row) → Option Request
subcommand_request None = None
subcommand_request (Some s) = request_of s.0 s.1

unfoldable pub unless_faulty : Kinds → Option Request → Option Request
unless_faulty [] asked = asked
unless_faulty (k ∷ ks) asked = None

-- words, their faults and their subcommand; without words, it is `carry --hex`
unfoldable pub requested_of : List Text → Kinds → Option (Text × List Row) → Option Request
requested_of [] faults named = Some (Carry (record { hex = true; pid = 256; id = 192 }))
requested_of (w ∷ words) faults named = unless_faulty faults (subcommand_request named)

-- the request of the words; none for a usage error
abbrev pub requested : List Text → Option Request
requested words = requested_of words (fault_of tsmux_app words) (subcommand_of tsmux_app words)

-- the same of words in memory
abbrev pub asked : List (Bor (List ℕ)) → Option Request
asked words = requested (map (λ s. s.now) words)

-- the options of a request are in their ranges
abbrev pub Fits : Option Request → Type 0
Fits None = Unit {0}
Fits (Some (Carry c)) = (c.pid < 8192) × IsTrue (is_unit_id c.id)
Fits (Some Plan) = Unit {0}
Fits (Some Demux) = Unit {0}
Fits (Some (Check switch)) = Unit {0}
Fits (Some (Mux options)) = Unit {0}
Fits (Some (Monitor options)) = Unit {0}
