-- The units of a stream that keep their DTS
use Rattle.std.proofs.Common.{◌≡◌, ℕ, false, List, map, ap, subst}
use Rattle.pes_packet.specs.AccessUnits.{AccessUnit}
use Rattle.pid_findings.specs.Views.{FindingView}
use Rattle.es_moments.specs.WireUnits.{CarriedUnit}
use Rattle.es_moments.proofs.RisingDts.{rising_own}
use Rattle.es_units.specs.CarriedUnits.{apart_wire_units, carried_units}
use Rattle.job_programs.specs.FoundUnits.{AreMoved, KeepDts, source_of}

kept_source : (pid : ℕ) (findings : List FindingView) → KeepDts pid findings →
    map (λ u. u.unit) (source_of false pid findings) ≡ apart_wire_units pid findings
unfolding source_of
kept_source pid findings keep = ap (map (λ (u : CarriedUnit). u.unit)) (rising_own (carried_units pid findings) keep)

pub kept_moved : (pid : ℕ) (findings : List FindingView) (base : ℕ) (us : List AccessUnit) → KeepDts pid findings →
    AreMoved (map (λ u. u.unit) (source_of false pid findings)) base us → AreMoved (apart_wire_units pid findings) base us
kept_moved pid findings base us keep moved = subst (λ (wire : List AccessUnit). AreMoved wire base us) (kept_source pid findings keep) moved
