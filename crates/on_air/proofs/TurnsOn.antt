-- The turns of a run fit, whatever records come
use Rattle.std.proofs.Common.{◌≡◌, ℕ, ◌<◌, ◌≤◌, Bool, List, refl, sym, ap, ◌∙◌, subst, arith}
use Rattle.pes_packet.specs.AccessUnits.{AccessUnit}
use Rattle.description_parts.specs.Ranges.{IsInRange}
use Rattle.mux_core.specs.Scheduled.{Scheduled}
use Rattle.mux_core.specs.Headline.{UnitsKept}
use Rattle.mux_core.specs.Histories.{History, content_over}
use Rattle.mux_core.specs.MuxStates.{MuxState}
use Rattle.mux_core.proofs.Accepted.{units_kept}
use Rattle.mux_core.specs.WholeJobs.{run_output}
use Rattle.mux_core.proofs.FedUnits.{run_same}
use Rattle.mux_core.proofs.JobWriting.{output_bytes}
use Rattle.turns.specs.LineUpRuns.{HeadlineOverLineUps}
use Rattle.turns.specs.Turns.{IsKept, TurnsFit, bytes_by, content_by, content_of, turn_with}
use Rattle.turns.proofs.LineUpRuns.{line_ups_law}
use Rattle.turns.proofs.NextTurns.{goes_on}
use Rattle.on_air.specs.Airing.{Before, Run, air_output, content_with, history_by, job_of}
use Rattle.on_air.specs.AirStates.{Carries, Promises}
use Rattle.on_air.specs.Courses.{turn_of}
use Rattle.on_air.specs.Laws.{LineUpsKept}
use Rattle.on_air.proofs.Contents.{turns_same}

-- A history that a multiplexer carries
pub turn_kept : (run : Run) (from : ℕ) (h later : History) (m : MuxState) → Promises run.scheduled → Carries run h m → later.units ≡ h.units →
    IsKept (turn_with from run.scheduled later)
turn_kept run from h later m promises c same = record {
  ranges = promises.ranges;
  promised = promises.promised;
  units = subst (λ (units : ℕ → List AccessUnit). UnitsKept run.scheduled units) (sym same)
      (subst (λ (d : Scheduled). UnitsKept d h.units) c.scheduled
      (units_kept h m (subst (λ (d : Scheduled). IsInRange d.description) (sym c.scheduled) promises.ranges) c.represents));
}

-- Turns go on with a history that has the same in the slots so far.
pub turns_go_on : (run : Run) (before : Before) (old new : History) (slots : ℕ) → before.from ≤ slots →
    ((t : ℕ) → t < slots → content_over run.scheduled new.changes new.units t ≡ content_over run.scheduled old.changes old.units t) →
    IsKept (turn_with before.from run.scheduled new) → TurnsFit (turn_with before.from run.scheduled old) before.turns →
    TurnsFit (turn_with before.from run.scheduled new) before.turns
turns_go_on run before old new slots le same kept fit =
    goes_on before.from slots run.scheduled old new before.turns le
    (run_same (content_of (turn_with before.from run.scheduled new)) (content_of (turn_with before.from run.scheduled old)) 0 slots
    (λ t lt. same t (omega (arith, lt)))) kept fit

-- All bytes written, by whatever line-up, keep the promises.
pub written_keeps : LineUpsKept
written_keeps run a fit binary =
    let bytes : air_output run a ≡ bytes_by (turn_of run a) a.before.turns a.slots =
    ap (λ (hex : Bool). run_output hex (content_with run a.before a.accepted a.changes) 0 a.slots) binary
    ∙ output_bytes (content_with run a.before a.accepted a.changes) 0 a.slots
    ∙ run_same (content_with run a.before a.accepted a.changes) (content_by (turn_of run a) a.before.turns) 0 a.slots
    (λ t lt. turns_same a.before.from run.scheduled (history_by a.before a.accepted a.before.from a.changes) (job_of a) a.before.turns t refl) in
    subst (λ (l : List ℕ). HeadlineOverLineUps (turn_of run a) a.before.turns a.slots l) (sym bytes)
    (line_ups_law (turn_of run a) a.before.turns a.slots fit.turns fit.begun)
