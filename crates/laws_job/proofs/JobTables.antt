-- PAT and PMT come before each packet of a job's streams.
use Rattle.std.proofs.Common.{◌≡◌, ◌≢◌, ◌≤◌, ◌<◌, ℕ, List, [], ◌∷◌, length, map, option_map, All, refl, sym, ap, subst, ◌∙◌, inl, inr, arith}
use Rattle.std.proofs.lemmas.List.Elements.{All-nil, All-head, All-tail, All-get_or}
use Rattle.std.proofs.lemmas.Option.{slice_get_cases, slice_get-map}
use Rattle.std.proofs.lemmas.List.{length-map}
use Rattle.pes_packet.specs.AccessUnits.{AccessUnit}
use Rattle.pes_packet.specs.Units.{units_of}
use Rattle.mux_core.proofs.UnitCounts.{other_units}
use Rattle.laws_run.specs.TablesFirst.{DueLate}
use Rattle.es_moments.specs.Merging.{AreMerged}
use Rattle.job_programs.specs.JobStreams.{TimedStreamView}
use Rattle.job_inputs.proofs.MovedInputs.{moved_of}
use Rattle.laws_job.specs.FirstUnits.{FirstUnitsLaw, TablesFirstLaw}
use Rattle.laws_job.proofs.FirstUnits.{all_late}

-- If no stream has the number k, no unit has it.
none_of : (k count : ℕ) (units : List (ℕ × AccessUnit)) → count ≤ k → All (λ e. e.0 < count) units → units_of k units ≡ []
none_of k count [] past all = refl
none_of k count (entry ∷ rest) past all =
    let below : entry.0 < count = All-head (λ (e : ℕ × AccessUnit). e.0 < count) entry rest all in
    let other : entry.0 ≢ k = λ same. omega (arith, below, past, same) in
    other_units k entry rest other ∙ none_of k count rest past (All-tail (λ (e : ℕ × AccessUnit). e.0 < count) entry rest all)

-- If all units of a job are due late, the units of each stream are due late.
job_late : (k : ℕ) (streams : List TimedStreamView) (units : List (ℕ × AccessUnit)) → AreMerged (map (λ t. t.units) streams) units →
    All (λ t. DueLate t.units) streams → DueLate (units_of k units)
job_late k streams units merged all = elim (slice_get_cases streams k).1 [
  | inl here ↦
      let t = here.0 in
      let same : units_of k units ≡ t.units =
      merged.each k t.units (slice_get-map (λ (x : TimedStreamView). x.units) streams k ∙ ap (option_map (λ (x : TimedStreamView). x.units)) here.2) in
      let late : DueLate t.units =
      subst (λ (x : TimedStreamView). DueLate x.units) here.3 (All-get_or (λ (x : TimedStreamView). DueLate x.units) streams k t here.1 all) in
      subst DueLate (sym same) late
  | inr past ↦
      let none : units_of k units ≡ [] =
      none_of k (length (map (λ (x : TimedStreamView). x.units) streams)) units
      (omega (arith, length-map streams (λ (x : TimedStreamView). x.units), past.0)) merged.numbered in
      subst DueLate (sym none) (All-nil (λ (u : AccessUnit). 180000 ≤ u.dts))
]

pub first_units : TablesFirstLaw → FirstUnitsLaw
first_units law options count findings input is =
    let wire = moved_of options count findings input is in
    let late = all_late findings input.programs input.tables wire.streams input.streams wire.moved in
    record {
      streams = wire.streams;
      moved = wire.moved;
      late = late;
      tables_first = λ near d p text units n k j s e job are ranges serving stream there.
          law d p findings units n k j s e ranges serving are stream (job_late k input.streams units job.merged (late near)) there;
    }
