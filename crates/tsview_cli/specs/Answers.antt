-- The answers for a stream.
use Rattle.std.specs.Prelude.{ℕ}
use Rattle.devices.specs.Devices.{Device}
use Rattle.devices.specs.Runs.{Performs}
use Rattle.tsview_cli.specs.Drawing.{DrawsPage}
use Rattle.tsview_cli.specs.Viewing.{Views}
use Rattle.tsview_cli.specs.declared.request.Request.{Request}
use Rattle.tsview_cli.specs.declared.request.Request.TheVariants.{Lines, Page}

-- the stream is viewed as it comes, or a page of it is drawn
abbrev pub Answers : Request → Device → Device → Device → ℕ → Type 0
Answers (Lines request form) = Views request form
Answers (Page request) = Performs (DrawsPage request)
