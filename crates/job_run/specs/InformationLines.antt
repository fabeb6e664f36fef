-- The lines of warnings about service information.
use Rattle.std.specs.Prelude.{ℕ, List, ◌++◌, codes, decimal}
use Rattle.service_information.specs.declared.warning.InformationWarning.{InformationWarning}
use Rattle.service_information.specs.declared.warning.InformationWarning.TheVariants.{EventSurplus, TimeSurplus, BadSection}

unfoldable pub information_line : InformationWarning → List ℕ
information_line (EventSurplus packet) = codes "packet " ++ decimal packet ++ codes " EIT has an event that cannot be carried: left out\n"
information_line (TimeSurplus packet) = codes "packet " ++ decimal packet ++ codes " TDT says no time: left out\n"
information_line (BadSection pid packet) = codes "packet " ++ decimal packet ++ codes " pid " ++ decimal pid ++ codes " bad-section\n"
