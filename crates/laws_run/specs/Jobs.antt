-- What comes back of a whole job: all its units are accepted before the first slot, and n slots are written.
use Rattle.std.specs.Prelude.{◌≡◌, ℕ, ◌^◌, ◌≤◌, false, List, [], None}
use Rattle.pes_packet.specs.AccessUnits.{AccessUnit}
use Rattle.pes_packet.specs.Units.{units_of}
use Rattle.description_parts.specs.Ranges.{IsInRange}
use Rattle.mux_core.specs.Scheduled.{Scheduled}
use Rattle.mux_core.specs.WholeJobs.{first_refused, capacity_for, job_history, output_of}
use Rattle.laws_run.specs.GivenBack.{GivenBack}
use Rattle.laws_run.specs.Clean.{IsClean}

-- the bytes of a job in which every unit is accepted give its units back
abbrev pub JobLaw : Type 0
JobLaw = (d : Scheduled) (units : List (ℕ × AccessUnit)) (n : ℕ) → IsInRange d.description → first_refused d (capacity_for units) [] units ≡ None → n ≤ 2 ^ 40 →
    GivenBack d (λ k. units_of k units) n (output_of false d (job_history units n))

-- and they have no fault
abbrev pub JobCleanLaw : Type 0
JobCleanLaw = (d : Scheduled) (units : List (ℕ × AccessUnit)) (n : ℕ) → IsInRange d.description → first_refused d (capacity_for units) [] units ≡ None →
    n ≤ 2 ^ 40 →
    IsClean d (output_of false d (job_history units n))
