-- Tables and clock references come within their limits.
use Rattle.std.proofs.Common.{arith}
use Rattle.mux_core.proofs.Accepted.{units_kept}
use Rattle.mux_core.proofs.Whole.{contents_fit, headline}
use Rattle.laws_run.specs.Monitored.{InTimeLaw, AnyStateInTimeLaw}
use Rattle.laws_run.proofs.ClocksRecur.{clocks_in_time}
use Rattle.laws_run.proofs.TablesRecur.{pat_in_time}
use Rattle.laws_run.proofs.MapsRecur.{maps_in_time}
use Rattle.laws_run.proofs.ServicesRecur.{nit_in_time, sdt_in_time, eit_in_time, tdt_in_time}

pub in_time : InTimeLaw
in_time d units n limit r promised kept wide few = record {
  clocks = λ pid. clocks_in_time d units n limit pid (contents_fit d units r kept) wide (headline d units n r promised kept).programs;
  associations = pat_in_time d units n r promised kept few;
  maps = maps_in_time d units n r promised kept few;
  network = nit_in_time d units n r promised kept few;
  services = sdt_in_time d units n r promised kept few;
  events = eit_in_time d units n r promised kept few;
  time = tdt_in_time d units n r promised kept few;
}

pub any_state_in_time : AnyStateInTimeLaw
any_state_in_time h m n limit r promised st wide few = in_time m.schedule h.units n limit r promised (units_kept h m r st) wide (omega (arith, few))
