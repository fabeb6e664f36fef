-- Words to packets: of streams, or of a service by hand.
use Rattle.std.specs.Prelude.{List, Option, Some, None}
use Rattle.devices.specs.Devices.{Device}
use Rattle.devices.specs.Files.{Files}
use Rattle.word_faults.specs.CommandLine.{Text}
use Rattle.tsremux_cli.specs.ByHand.{MuxesByHand, hand}
use Rattle.tsremux_cli.specs.Remuxing.{Remuxes}
use Rattle.tsremux_cli.specs.Words.{description_of, plan_of, records_of}
use Rattle.tsremux_cli.specs.declared.figures.Remuxed.{Remuxed}

-- with a description by hand, or without
abbrev pub WritesBy : Option Text → List Text → Files → Device → Device → Device → Remuxed → Type 0
WritesBy None words files input packets faults result = Remuxes words files input packets faults result
WritesBy (Some description) words files input packets faults result =
    MuxesByHand (hand description (plan_of words) (records_of words)) files input packets faults result

abbrev pub WritesFor : List Text → Files → Device → Device → Device → Remuxed → Type 0
WritesFor words files input packets faults result = WritesBy (description_of words) words files input packets faults result
