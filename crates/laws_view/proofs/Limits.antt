-- The limits that both programs use.
use Rattle.std.proofs.Common.{refl}
use Rattle.tr101290.specs.Limits.{milliseconds}
use Rattle.laws_view.specs.Limits.{MonitorLimits, TsviewKeeps}

pub monitor_limits : MonitorLimits
monitor_limits rate given = record { pat = refl; pmt = refl; nit = refl; sdt = refl; eit = refl; tdt = refl; pcr = refl; pts = refl }

pub tsview_limits : TsviewKeeps
unfolding milliseconds
tsview_limits = record {
  pat = refl;
  pmt = λ pid. refl;
  nit = refl;
  sdt = refl;
  eit = refl;
  tdt = refl;
  pcr = λ given. refl;
  pts = refl;
  gap = refl;
  distance = refl;
  seconds = refl;
}
