-- Excesses of a main buffer: a view has none if the line `main` has at most the buffer's size.
use Rattle.std.specs.Prelude.{◌≡◌, ℕ, ◌≤◌, List, [], ◌∷◌, flat_map, None}
use Rattle.arrival.specs.declared.arrival.Arrival.TheVariants.{AtRate}
use Rattle.tstd_rows.specs.Held.{empty, main_most}
use Rattle.ts_watch.specs.Choices.{RequestView}
use Rattle.es_view.specs.Entries.{EntryState}
use Rattle.laws_view.specs.TimedPackets.{Timed}
use Rattle.laws_view.specs.StreamPackets.{entered_each}
use Rattle.laws_view.specs.TimedStreams.{IsWholeBy, entered_by, stream_entering}
use Rattle.laws_view.specs.WholeStreams.{IsWhole, stream_packets}

-- however packets arrive, no excess has ended with any of the stream's packets, and none is open at the end
abbrev pub TimedNoExcessLaw : Type 0
TimedNoExcessLaw = (request : RequestView) (step : ℕ) (packets : List Timed) (e : EntryState) (whole : IsWholeBy request step packets e) →
    main_most e.held ≤ e.held.main.size →
    (flat_map (λ v. v.main)
    (entered_by (empty step e.held.rx e.held.main.size) (stream_entering request e whole.begun.before (whole.begun.first ∷ whole.begun.later))) ≡ [])
    × (e.held.main.under_way ≡ None)

-- at a constant rate
abbrev pub NoMainExcessLaw : Type 0
NoMainExcessLaw = (request : RequestView) (rate : ℕ) (packets : List (List ℕ)) (e : EntryState) (whole : IsWhole request rate packets e) →
    main_most e.held ≤ e.held.main.size →
    (flat_map (λ v. v.main)
    (entered_each (empty rate e.held.rx e.held.main.size) (AtRate rate) (stream_packets request e whole.begun.before (whole.begun.first ∷ whole.begun.later))) ≡
    [])
    × (e.held.main.under_way ≡ None)
