-- PAT and PMT come before the packets of a job's streams.
use Rattle.std.proofs.Common.{◌≡◌, ℕ, ◌*◌, false, List, take, slice_get, Some, sym, subst}
use Rattle.pes_packet.specs.Units.{units_of}
use Rattle.ts_packet.specs.PidList.{pid_list}
use Rattle.slot_plan.specs.Promised.{PlanLaw}
use Rattle.mux_core.specs.Histories.{content_at}
use Rattle.mux_core.proofs.JobWriting.{output_bytes}
use Rattle.laws_run.specs.FollowedTables.{IsFollowed}
use Rattle.laws_run.specs.TablesFirst.{TablesFirstLaw as RunTablesFirst}
use Rattle.es_units.proofs.KeptDeclarations.{units_kept}
use Rattle.laws_job.specs.Laws.{schedule_for}
use Rattle.laws_job.specs.FirstUnits.{TablesFirstLaw}
use Rattle.laws_job.proofs.AcceptedUnits.{all_kept}

pub tables_before : PlanLaw → RunTablesFirst → TablesFirstLaw
tables_before plan law d p findings units n k j s e ranges serving are is late there =
    let line = schedule_for d p in
    let same = output_bytes (content_at line (λ i. units_of i units)) 0 n in
    subst (λ (bytes : List ℕ). IsFollowed d (take (188 * e.index) bytes)) (sym same)
    (law line (λ i. units_of i units) n k j s e ranges (plan d p ranges serving) (all_kept units_kept false line findings units ranges are) is late
    (subst (λ (bytes : List ℕ). slice_get (pid_list s.pid bytes) j ≡ Some e) same there))
