-- What the command line asks for.
use Rattle.std.specs.Prelude.{ℕ, Bool, List, [], Option, Some, None, if◌then◌else◌, codes, map}
use Rattle.std.specs.Borrow.{Bor}
use Rattle.clap.specs.Words.{Row, Text, first_of}
use Rattle.given_values.specs.GivenNames.{NetworkNameView, ServiceNameView}
use Rattle.given_values.specs.declared.clock_base.ClockBase.{ClockBase}
use Rattle.given_values.specs.declared.clock_sharing.ClockSharing.{ClockSharing}
use Rattle.given_values.specs.declared.declare_by.DeclareBy.{DeclareBy}
use Rattle.es_buffers.specs.declared.buffers.PidBuffers.{PidBuffers}
use Rattle.devices.specs.Options.{is_given}
use Rattle.job_run.specs.declared.reporting.Reporting.{Reporting}
use Rattle.job_run.specs.declared.job_arguments.Subcommand.{Subcommand}
use Rattle.job_run.specs.declared.job_arguments.Subcommand.TheVariants.{Whole, Describe, Units, Why}
use Rattle.job_run.specs.JobArguments.{JobArgumentsView}
use Rattle.word_faults.specs.JobValues.{base_of, clock_sharing_of, declare_by_of, start_of}
use Rattle.word_faults.specs.Lists.{buffer_list, given}
use Rattle.word_faults.specs.NameLists.{name_list, network_if_given}
use Rattle.word_faults.specs.GivenOptions.{given_options, number_if, number_of, numbers_of}
use Rattle.tsjob_cli.specs.FileMark.{has_mark}
use Rattle.tsjob_cli.specs.Options.{options}
use Rattle.tsjob_cli.specs.Subcommands.{subcommand_of}

-- 1. One value each

-- the file of a description whose units are written while the stream comes, if it is named: for `units` alone
unfoldable pub stream_of : Subcommand → Option Text → Option (Option Text)
stream_of subcommand None = Some None
stream_of Whole (Some name) = None
stream_of Describe (Some name) = None
stream_of Units (Some name) = Some (Some name)
stream_of Why (Some name) = None

-- numbers, by their rows
unfoldable pub rate_in : List Row → Option (Option ℕ)
rate_in rows = number_if options (codes "rate") rows

unfoldable pub limit_in : List Row → Option ℕ
limit_in rows = number_of options (codes "pcr") rows

unfoldable pub lead_in : List Row → Option ℕ
lead_in rows = number_of options (codes "lead") rows

unfoldable pub frames_in : List Row → Option (Option ℕ)
frames_in rows = number_if options (codes "frames") rows

unfoldable pub programs_in : List Row → Option (List ℕ)
programs_in rows = numbers_of options (codes "program") rows

unfoldable pub without_in : List Row → Option (List ℕ)
without_in rows = numbers_of options (codes "without") rows

unfoldable pub aligned_in : List Row → Option (List ℕ)
aligned_in rows = numbers_of options (codes "aligned") rows

-- which lines are reported
unfoldable pub reporting_in : List Row → Reporting
reporting_in rows = record {
  whole = is_given (first_of (codes "whole") rows);
  quiet = is_given (first_of (codes "quiet") rows);
  all = is_given (first_of (codes "verbose") rows);
}

-- 2. All of them

-- arguments with empty lists
abbrev pub plain : Subcommand → Option Text → Reporting → Option ℕ → Option Text → ℕ → ℕ → DeclareBy → Bool → Bool → Bool → Bool → Bool → ClockSharing →
    ClockBase → Option ℕ → JobArgumentsView
plain subcommand stream reporting rate start pcr_limit lead declare_by make_dts mark_access joined strict lenient clock base frames = record {
  subcommand = subcommand;
  stream = stream;
  reporting = reporting;
  options = record {
    rate = rate;
    start = start;
    pcr_limit = pcr_limit;
    lead = lead;
    declare_by = declare_by;
    make_dts = make_dts;
    strict = strict;
    lenient = lenient;
    base = base;
    clock = clock;
    network = None;
    names = [];
    programs = [];
    without = [];
    buffers = [];
    mark_access = mark_access;
    aligned = [];
    joined = joined;
    frames = frames;
  };
}

-- the options that are one value each
unfoldable pub values_of : List Row → Option JobArgumentsView
values_of rows =
    given (subcommand_of (first_of (codes "subcommand") rows)) (λ subcommand.
    given (stream_of subcommand (first_of (codes "stream") rows)) (λ stream.
    given (rate_in rows) (λ rate.
    given (start_of (first_of (codes "start") rows)) (λ start.
    given (limit_in rows) (λ pcr_limit.
    given (lead_in rows) (λ lead.
    given (frames_in rows) (λ frames.
    given (declare_by_of (first_of (codes "declare") rows)) (λ declare_by.
    given (clock_sharing_of (first_of (codes "clock") rows)) (λ clock.
    given (base_of (first_of (codes "base") rows)) (λ base.
    Some (plain subcommand stream (reporting_in rows) rate start pcr_limit lead declare_by (is_given (first_of (codes "make-dts") rows))
    (is_given (first_of (codes "mark-access") rows))
    (is_given (first_of (codes "joined") rows))
    (is_given (first_of (codes "strict") rows)) (is_given (first_of (codes "lenient") rows)) clock base frames)))))))))))

-- arguments with lists
abbrev pub with_lists : List ℕ → List ℕ → List PidBuffers → Option NetworkNameView → List ServiceNameView → List ℕ → JobArgumentsView → JobArgumentsView
with_lists programs without buffers network names aligned arguments =
    record arguments {
      options = record arguments.options { programs = programs; without = without; buffers = buffers; network = network; names = names; aligned = aligned };
    }

unfoldable pub arguments_of : List Row → Option JobArgumentsView
arguments_of rows =
    given (values_of rows) (λ values.
    given (programs_in rows) (λ programs.
    given (without_in rows) (λ without.
    given (buffer_list (first_of (codes "buffers") rows)) (λ buffers.
    given (network_if_given (first_of (codes "network") rows)) (λ network.
    given (name_list (first_of (codes "name") rows)) (λ names.
    given (aligned_in rows) (λ aligned.
    Some (with_lists programs without buffers network names aligned values))))))))

-- 3. From words

-- the request of a subcommand and options; none for a usage error
abbrev pub options_in : List Text → Option JobArgumentsView
options_in words = given (given_options (codes "tsjob") options words) arguments_of

-- the options that the words ask for; none if the words may contain names of files
abbrev pub arguments_in : List Text → Option JobArgumentsView
arguments_in words = if has_mark words then None else options_in words

-- the same of words in memory
abbrev pub arguments : List (Bor (List ℕ)) → Option JobArgumentsView
arguments words = arguments_in (map (λ s. s.now) words)
