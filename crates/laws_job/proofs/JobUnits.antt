-- The units of a job are the units that were found.
use Rattle.std.proofs.Common.{ℕ, false, List, None, sym, subst}
use Rattle.pes_packet.specs.AccessUnits.{AccessUnit}
use Rattle.pid_findings.specs.Views.{FindingView}
use Rattle.es_moments.specs.Stamps.{moved, MovedByOneConstant}
use Rattle.job_programs.specs.FoundUnits.{AreFound, KeepDts}
use Rattle.job_programs.proofs.KeptDts.{kept_moved}
use Rattle.laws_job.specs.Laws.{AreTheSame, AreThose}
use Rattle.es_units.specs.CarriedUnits.{apart_wire_units}

moved_same : MovedByOneConstant → (base : ℕ) (wire : List AccessUnit) → AreTheSame wire base (moved base None wire)
moved_same law base wire = let all = law base None wire in record { dts = all.0; pts = all.1; marks = all.2; bytes = all.3 }

pub those : MovedByOneConstant → (findings : List FindingView) (pid : ℕ) (us : List AccessUnit) → AreFound false findings pid us → KeepDts pid findings →
    AreThose (apart_wire_units pid findings) us
those law findings pid us found keep =
    let moved = kept_moved pid findings found.base us keep found.moved in
    record {
      base = found.base;
      range = moved.range;
      same = subst (λ (x : List AccessUnit). AreTheSame (apart_wire_units pid findings) found.base x) (sym moved.are)
          (moved_same law found.base (apart_wire_units pid findings));
    }
