use Rattle.std.proofs.Common.{sym}
use Rattle.mux_core.proofs.AcceptedUnits.{is_accepted}
use Rattle.mux_core.proofs.carrying.next_unit.Goals as goal

pub returns-in-None-clause-accepted : goal.returns-in-None-clause-accepted
returns-in-None-clause-accepted g c = is_accepted c.args.id c.args.min_next_dts c.in-Ok-Some.stream c.in-Ok-Some.unit (sym c.in-None.ensures)

pub returns-in-None-clause-judges : goal.returns-in-None-clause-judges
returns-in-None-clause-judges g c =
    let found = rw c.in-Ok-Some.field-0-is at c.in-Ok-Some.ensures.found in
    record { stream = c.in-Ok-Some.stream; bytes = found.0; is_record = found.1; judged_is = sym c.in-None.ensures }

pub returns-in-Some-clause-judges : goal.returns-in-Some-clause-judges
returns-in-Some-clause-judges g c =
    let found = rw c.in-Ok-Some.field-0-is at c.in-Ok-Some.ensures.found in
    (c.in-Ok-Some.unit, record { stream = c.in-Ok-Some.stream; bytes = found.0; is_record = found.1; judged_is = sym c.in-Some.ensures })
