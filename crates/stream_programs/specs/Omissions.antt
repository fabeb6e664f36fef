-- What of the tables of a stream a receiver loses.
use Rattle.std.specs.Prelude.{Bool, true, false}
use Rattle.stream_programs.specs.declared.omission.TableOmission.{TableOmission}
use Rattle.stream_programs.specs.declared.omission.TableOmission.TheVariants.{NoMap, ConditionalAccess, Multiplex, NoPes, Reserved, Taken, SharedOtherwise}
use Rattle.stream_programs.specs.declared.omission.TableOmission.TheVariants.{NoStream}

-- whether a stream is lost: a stream of sections, on a PID that no stream may have, of a second program, or described otherwise by the second program
abbrev pub is_loss : TableOmission → Bool
is_loss (NoPes program pid stream_type) = true
is_loss (Reserved program pid) = true
is_loss (Taken program pid holder) = true
is_loss (SharedOtherwise program pid holder) = true
is_loss (NoMap program) = false
is_loss (ConditionalAccess program) = false
is_loss (Multiplex program) = false
is_loss (NoStream program) = false
