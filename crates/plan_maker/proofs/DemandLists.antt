-- Demands, one after another.
use Rattle.std.proofs.Common.{◌≡◌, ℕ, ◌||◌, Bool, List, [], ◌∷◌, ◌++◌, length, map, refl, ap, ◌∙◌}
use Rattle.std.specs.Prelude.{nat_lt}
use Rattle.std.specs.List.{list_any}
use Rattle.std.proofs.lemmas.List.{map-append}
use Rattle.description_parts.specs.Described.{Described, DescribedStream, DescribedProgram}
use Rattle.description_parts.specs.Tables.{table_kinds, table_limit, round_packets}
use Rattle.slot_plan.specs.declared.slot.Slot.TheVariants.{Stream, Pcr, Table}
use Rattle.plan_maker.specs.Clocks.{clock_limit}
use Rattle.plan_maker.specs.Recurrences.{recurrence_of}
use Rattle.plan_maker.specs.StreamNeeds.{StreamView, stream_at}
use Rattle.plan_maker.specs.Demands.{StreamNeed, RecurringNeed, DemandView, demand_view, demand_of, stream_demand, pcr_demand, table_demand}
use Rattle.plan_maker.specs.Demands.{distance_of, is_over}
use Rattle.plan_maker.specs.declared.search.recurrence.Recurrence.{Recurrence}
use Rattle.plan_maker.specs.declared.search.demand.Demand.{Demand}

pub over_views : (period : ℕ) (ds : List Demand) → list_any (λ d. nat_lt period d.count) ds ≡ list_any (is_over period) (map demand_view ds)
over_views period [] = refl
over_views period (d ∷ ds) = ap (λ (b : Bool). nat_lt period d.count || b) (over_views period ds)

pub view_pushed : (ds : List Demand) (d : Demand) (shown : DemandView) → demand_view d ≡ shown → map demand_view (ds ++ d ∷ []) ≡ map demand_view ds
    ++ shown ∷ []
view_pushed ds d shown is = map-append demand_view ds (d ∷ []) ∙ ap (λ (v : DemandView). map demand_view ds ++ v ∷ []) is

module _ (d : Described) (period i : ℕ) (shown : DemandView) (rate kind : ℕ) where
  pub stream_demand_is : (x : DescribedStream) (v : StreamView) → shown ≡ demand_of (Stream i) (StreamNeed v) i kind period → v ≡ stream_at x rate →
      rate ≡ d.rate → kind ≡ length d.streams → shown ≡ stream_demand d period i x
  stream_demand_is x v is need rates kinds = is ∙ rw (need, rates, kinds) refl

  pub pcr_demand_is : (x : DescribedProgram) (limit : ℕ) (r : Recurrence) → shown ≡ demand_of (Pcr i) (RecurringNeed r) i kind period →
      r ≡ recurrence_of limit rate 1 0 → limit ≡ clock_limit d x → rate ≡ d.rate → kind ≡ length d.programs → shown ≡ pcr_demand d period i x
  pcr_demand_is x limit r is need limits rates kinds = is ∙ rw (need, limits, rates, kinds) refl

  pub table_demand_is : (distance limit packets apart : ℕ) (r : Recurrence) → shown ≡ demand_of (Table i) (RecurringNeed r) i kind period →
      r ≡ recurrence_of limit rate packets apart → limit ≡ table_limit d i → packets ≡ round_packets d i → apart ≡ distance_of d distance i →
      rate ≡ d.rate → kind ≡ length (table_kinds d) → shown ≡ table_demand d distance period i
  table_demand_is distance limit packets apart r is need limits rounds distances rates kinds =
      is ∙ rw (need, limits, rounds, distances, rates, kinds) refl
