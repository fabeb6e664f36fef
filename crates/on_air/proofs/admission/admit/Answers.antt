use Rattle.std.proofs.Common.{◌≡◌, Some, true, false, sym, ap, ◌∙◌, subst}
use Rattle.pes_packet.specs.AccessUnits.{AccessUnit}
use Rattle.on_air.specs.declared.refusals.AirRefusal.TheVariants.{Feed}
use Rattle.on_air.specs.declared.refusals.RefusedUnit.{RefusedUnit}
use Rattle.on_air.specs.Airing.{is_tick, job_of, refused_unit}
use Rattle.on_air.specs.AirStates.{Admits}
use Rattle.on_air.proofs.FedRecords.{ticked, unfed, fed}
use Rattle.on_air.proofs.admission.admit.Goals as goal

pub returns-then-is_tick : goal.returns-then-is_tick
returns-then-is_tick g c = λ run a carries near alone.
    let tick : is_tick (c.args.stream, c.args.unit) ≡ true = sym c.is_tick.ensures ∙ c.if-is_tick.true in
    ticked run a c.args.mux.now (c.args.stream, c.args.unit) carries near tick

pub returns-in-Ok : goal.returns-in-Ok
returns-in-Ok g c = λ run a carries near alone.
    let unit : is_tick (c.args.stream, c.args.unit) ≡ false = sym c.is_tick.ensures ∙ c.if-is_tick.false in
    fed run a c.args.mux.now c.feed.new.self (c.args.stream, c.args.unit) carries near unit alone (c.in-Ok.ensures.takes (job_of a) carries.represents)

pub returns-in-Err : goal.returns-in-Err
returns-in-Err g c = λ run a carries near alone.
    let unit : is_tick (c.args.stream, c.args.unit) ≡ false = sym c.is_tick.ensures ∙ c.if-is_tick.false in
    let same : c.refused_unit.result ≡ refused_unit (c.args.stream, c.args.unit) c.in-Err.cause =
    c.refused_unit.ensures ∙ ap (λ (u : AccessUnit). refused_unit (c.args.stream, u) c.in-Err.cause) c.in-Err.ensures.handed_back.0 in
    subst (λ (r : RefusedUnit). Admits run a (c.args.stream, c.args.unit) (Some (Feed r)) c.feed.new.self) (sym same)
    (unfed run a c.args.mux.now c.feed.new.self (c.args.stream, c.args.unit) c.in-Err.cause carries near unit alone
    (c.in-Err.ensures.takes (job_of a) carries.represents)
    c.in-Err.ensures.handed_back.1)
