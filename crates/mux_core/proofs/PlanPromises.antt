-- The promises of a schedule, one by one.
use Rattle.unit_timing.specs.Plans.{run_packets}
use Rattle.unit_timing.specs.Transport.{pes_left}
use Rattle.unit_timing.proofs.NotEarly.{run_left}
use Rattle.slot_plan.specs.declared.slot.Item.TheVariants.{Stream}
use Rattle.slot_plan.specs.Schedule.{Schedule, owned}
use Rattle.description_parts.specs.Described.{Described}
use Rattle.slot_plan.specs.Promised.{declaration, Promised}
use Rattle.mux_core.specs.TimingLaws.{UnitsArrive, TransportFits, MainFits, SystemFits, PcrsRecur, SectionsRecur}

pub units_arrive : (d : Described) (schedule : Schedule) → Promised d schedule → UnitsArrive d schedule
units_arrive d schedule p i n s pes is keeps = (p.streams i s pes is keeps).arrived n

pub transport_fits : (d : Described) (schedule : Schedule) → Promised d schedule → TransportFits d schedule
transport_fits d schedule p i n x s pes is keeps = (p.streams i s pes is keeps).transport n x

pub main_fits : (d : Described) (schedule : Schedule) → Promised d schedule → MainFits d schedule
main_fits d schedule p i n x s pes is keeps =
    (p.streams i s pes is keeps).main n x (pes_left d.rate s.rx 0 (run_packets (owned schedule (Stream i)) d.rate (declaration s) pes n))
    (run_left (owned schedule (Stream i)) d.rate s.lead s.rx n pes)

pub system_fits : (d : Described) (schedule : Schedule) → Promised d schedule → SystemFits d schedule
system_fits d schedule p i x slots lt rises = ((p.programs i lt).transport slots x rises, (p.programs i lt).system slots x rises)

pub pcrs_recur : (d : Described) (schedule : Schedule) → Promised d schedule → PcrsRecur d schedule
pcrs_recur d schedule p i n program is = p.pcrs i program n is

pub sections_recur : (d : Described) (schedule : Schedule) → Promised d schedule → SectionsRecur d schedule
sections_recur d schedule p t j n lt within = p.sections t j n lt within
