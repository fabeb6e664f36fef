-- The subcommands of the program with their options, by their tables, and its usage.
use Rattle.std.specs.Prelude.{ℕ, if◌then◌else◌, List, [], ◌∷◌, Option, Some, None, codes, map}
use Rattle.std.specs.List.{concat}
use Rattle.std.specs.Str.{bytes_eq}
use Rattle.word_faults.specs.CommandLine.{CommandLine, Text}
use Rattle.word_faults.specs.KnownWords.{known_by}
use Rattle.word_faults.specs.OptionRows.{OptionRow, constant_view}
use Rattle.word_faults.specs.OptionUsage.{inline_by}
use Rattle.tsmux_cli.specs.declared.options.TheConstants.{CARRY, CHECK, MUX, MONITOR}
use Rattle.tsmux_cli.specs.declared.options.FirstWord.{FirstWord}
use Rattle.tsmux_cli.specs.declared.options.FirstWord.TheVariants.{NoSubcommand, Carry, Plan, Demux, Check, Mux, Monitor}

-- 1. The options of each subcommand

abbrev pub carry_options : List OptionRow
carry_options = map constant_view CARRY

abbrev pub check_options : List OptionRow
check_options = map constant_view CHECK

abbrev pub mux_options : List OptionRow
mux_options = map constant_view MUX

abbrev pub monitor_options : List OptionRow
monitor_options = map constant_view MONITOR

unfoldable pub options_of : FirstWord → List OptionRow
options_of NoSubcommand = []
options_of Carry = carry_options
options_of Plan = []
options_of Demux = []
options_of Check = check_options
options_of Mux = mux_options
options_of Monitor = monitor_options

-- the option that has to be given
abbrev pub required_rate : Option Text
required_rate = Some (codes "--rate")

abbrev pub required_of : FirstWord → Option Text
required_of Monitor = required_rate
required_of first = None

-- 2. The first word, and the words that may follow it

-- the subcommand of this name
unfoldable pub named : Text → Option FirstWord
named word =
    if bytes_eq word (codes "carry") then Some Carry
    else (if bytes_eq word (codes "plan") then Some Plan
    else (if bytes_eq word (codes "demux") then Some Demux
    else (if bytes_eq word (codes "check") then Some Check
    else (if bytes_eq word (codes "mux") then Some Mux
    else (if bytes_eq word (codes "monitor") then Some Monitor else None)))))

abbrev pub begun_with : Option FirstWord → FirstWord
begun_with None = NoSubcommand
begun_with (Some first) = first

abbrev pub known_after : List Text → FirstWord
known_after [] = NoSubcommand
known_after (w ∷ words) = begun_with (named w)

abbrev pub subcommand_names : List Text
subcommand_names = codes "carry" ∷ codes "plan" ∷ codes "demux" ∷ codes "check" ∷ codes "mux" ∷ codes "monitor" ∷ []

-- it asks for nothing that the program does
abbrev pub alone_names : List Text
alone_names = codes "-V" ∷ []

-- the options of the subcommand, or nothing
abbrev pub known_words : FirstWord → CommandLine
known_words first = known_by (options_of first) subcommand_names alone_names (required_of first)

-- 3. The usage

-- a line for each subcommand, with its options, and a line for what it does
abbrev pub usage_text : List ℕ
usage_text = concat
    (codes "usage: tsmux carry" ∷ inline_by None carry_options ∷ codes " < RECORDS > PACKETS\n"
    ∷ codes "           packets of one PID, from the records of stream 0; --hex: as hexadecimal digits\n"
    ∷ codes "       tsmux plan < DESCRIPTION > PLAN\n"
    ∷ codes "           a plan for a service description\n"
    ∷ codes "       tsmux demux < PACKETS > FINDINGS\n"
    ∷ codes "           a line for each PES packet, section and fault\n"
    ∷ codes "       tsmux check" ∷ inline_by None check_options ∷ codes " < JOB\n"
    ∷ codes "           whether the plan of a job keeps every condition; --switch: a second plan after it, too\n"
    ∷ codes "       tsmux mux" ∷ inline_by None mux_options ∷ codes " < JOB > PACKETS\n"
    ∷ codes "           the packets of a job, or N of them; --switch: Q periods of the first plan, then the second\n"
    ∷ codes "       tsmux monitor" ∷ inline_by required_rate monitor_options ∷ codes " < PACKETS > REPORT\n"
    ∷ codes "           a report by fifteen rules; --rate: in bits/s; --pcr: greatest time between PCRs, in ms; else 40\n"
    ∷ codes "       tsmux --version\n"
    ∷ codes "       tsmux --help\n"
    ∷ codes "with no words: tsmux carry --hex\n"
    ∷ codes "a job is a description, its plan and records: cat DESCRIPTION PLAN RECORDS | tsmux mux > PACKETS\n"
    ∷ codes "an example: tsjob --whole in.ts | tsmux mux > out.ts\n"
    ∷ codes "tsjob makes jobs of any stream, tsremux is both in one step, tsair runs without end, tsview looks at buffers\n" ∷ [])
