-- The command line as it is declared to `clap`: subcommands and their options.
use Rattle.std.specs.Prelude.{codes}
use Rattle.clap.specs.Words.{App, new_app, with_subcommand}
use Rattle.word_faults.specs.GivenOptions.{subcommand_by, top_app as top_of}
use Rattle.tsmux_cli.specs.Options.{carry_options, check_options, monitor_options, mux_options}

-- each with the options of its table
abbrev pub carry_app : App
carry_app = subcommand_by (codes "carry") carry_options

abbrev pub plan_app : App
plan_app = new_app (codes "plan")

abbrev pub demux_app : App
demux_app = new_app (codes "demux")

abbrev pub check_app : App
check_app = subcommand_by (codes "check") check_options

abbrev pub mux_app : App
mux_app = subcommand_by (codes "mux") mux_options

abbrev pub monitor_app : App
monitor_app = subcommand_by (codes "monitor") monitor_options

-- tsmux and its subcommands
abbrev pub top_app : App
top_app = top_of (codes "tsmux")

abbrev pub without_mux : App
without_mux = with_subcommand (with_subcommand (with_subcommand (with_subcommand top_app carry_app.top) plan_app.top) demux_app.top) check_app.top

unfoldable pub tsmux_app : App
tsmux_app = with_subcommand (with_subcommand without_mux mux_app.top) monitor_app.top
