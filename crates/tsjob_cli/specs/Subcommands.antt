-- The output for a stream, by the subcommand.
use Rattle.std.specs.Prelude.{Option, Some, None, if◌then◌else◌, codes}
use Rattle.std.specs.Str.{bytes_eq}
use Rattle.clap.specs.Words.{Text}
use Rattle.job_run.specs.declared.job_arguments.Subcommand.{Subcommand}
use Rattle.job_run.specs.declared.job_arguments.Subcommand.TheVariants.{Whole, Describe, Units, Why}

-- without a subcommand, the whole job
unfoldable pub subcommand_of : Option Text → Option Subcommand
subcommand_of None = Some Whole
subcommand_of (Some text) =
    if bytes_eq text (codes "describe") then Some Describe
    else (if bytes_eq text (codes "units") then Some Units
    else (if bytes_eq text (codes "why") then Some Why else None))
