-- What the ranges of a description say about its streams and tables.
use Rattle.std.specs.Prelude.{ℕ, ◌<◌, ◌≤◌, List, Some, length, slice_get, IsTrue}
use Rattle.std.proofs.Common.{◌≡◌, inl, inr, refl, ap, sym, ◌∙◌, arith}
use Rattle.std.proofs.lemmas.Bool.{lt-ltb}
use Rattle.std.proofs.lemmas.List.Elements.{All-get_or}
use Rattle.std.proofs.lemmas.Option.{get_or_from_slice_get, slice_get_within}
use Rattle.pes_packet.specs.StreamIds.{is_unit_id, greatest_size}
use Rattle.description_parts.specs.Described.{Described, DescribedStream}
use Rattle.description_parts.specs.Ranges.{IsInRange, IsStream, IsStreamId}
use Rattle.description_parts.specs.Tables.{table_kinds, section_count}
use Rattle.description.proofs.Allowed.{rows_some}
use Rattle.description_parts.specs.declared.table_kind.TableKind.{TableKind}
use Rattle.table_rounds.specs.Laws.{IsSourceOf}
use Rattle.mux_core.specs.Scheduled.{Scheduled}
use Rattle.unit_queue.specs.Queues.{ParametersInRange}
use Rattle.mux_core.specs.Histories.{History, past_of, parameters_of, text_at, last_texts, table_over}
use Rattle.mux_core.specs.TextChanges.{ChangesFit}
use Rattle.mux_core.proofs.TextChanges.{text_last, last_kinds, last_counts, past_now, bytes_now, past_over, on_air_by}
use Rattle.mux_core.specs.SlotSteps.{section_bytes}
use Rattle.description.specs.Pids.{SectionsLaw}
use Rattle.description.specs.SectionBytes.{table_bytes}
use Rattle.mux_core.proofs.FedUnits.{ParametersKnown}
use Rattle.mux_core.proofs.SlotSteps.{TablesKnown}

-- The numbers of a stream are in their ranges.
pub stream_range : (d : Described) (k : ℕ) (s : DescribedStream) → IsInRange d → slice_get d.streams k ≡ Some s → IsStream s
stream_range d k s ranges is =
    rw (get_or_from_slice_get d.streams k s s is) at (All-get_or IsStream d.streams k s (slice_get_within d.streams k s is) ranges.streams)

unit_id : (id : ℕ) → IsStreamId id → IsTrue (is_unit_id id)
unit_id id (inl e) = rw e refl
unit_id id (inr r) = grind (arith, r.0, r.1)

size_fits : (id size : ℕ) → IsStreamId id → size ≤ 4000000 → (id < 224 → size ≤ 65522) → size ≤ greatest_size id
size_fits id size (inl e) most bounded = let few = bounded (omega (arith, e)) in grind (arith, few)
size_fits id size (inr r) most bounded = grind (arith, r.1, most, bounded)

pub parameters_fit : (d : Described) (s : DescribedStream) → IsInRange d → IsStream s → ParametersInRange (parameters_of d s)
parameters_fit d s ranges r = record {
  pid = omega (arith, r.pid.high);
  base0 = ranges.base0;
  stream_id = unit_id s.stream_id r.stream_id;
  size = size_fits s.stream_id s.size r.stream_id r.most_size r.bounded_size;
  pts_limit = r.most_pts_limit;
  rows = rows_some s r;
}

pub parameters_known : (d : Scheduled) → IsInRange d.description → ParametersKnown d
parameters_known d ranges k s is = parameters_fit d.description s ranges (stream_range d.description k s ranges is)

pub sources_known : (d : Scheduled) (h : History) (texts : Described) (t : ℕ) (kind : TableKind) → ChangesFit d.description h.slots h.changes →
    texts ≡ last_texts d.description h.changes → slice_get (table_kinds d.description) t ≡ Some kind →
    IsSourceOf (table_over d h.changes t) h.slots (section_bytes texts t)
sources_known d h texts t kind fit are is j moment lt =
    let last = last_texts d.description h.changes in
    let e : text_at d.description h.changes h.slots ≡ last = text_last d.description h.slots h.slots h.changes fit (omega arith) in
    let kinds : table_kinds last ≡ table_kinds d.description = last_kinds d.description h.slots h.changes fit in
    let there : slice_get (table_kinds last) t ≡ Some kind = ap (λ (l : List TableKind). slice_get l t) kinds ∙ is in
    let count : section_count last t ≡ section_count d.description t = last_counts d.description h.slots t h.changes fit in
    ap (λ (x : Described). section_bytes x t j moment) are
    ∙ rw (lt-ltb t (length (table_kinds last)) (slice_get_within (table_kinds last) t kind there), lt-ltb j (section_count last t) (omega (arith, lt, count)))
    (ap (λ (x : Described). table_bytes x t j moment) (sym e))
    ∙ sym (bytes_now d.description h.changes t h.slots j moment (past_over d.description h.slots h.changes fit))

pub tables_known : SectionsLaw → (d : Scheduled) (h : History) (texts : Described) → IsInRange d.description → ChangesFit d.description h.slots h.changes →
    texts ≡ last_texts d.description h.changes → TablesKnown d h texts
tables_known law d h texts ranges fit are = record {
  places = λ t kind is. (law d.description t ranges (slice_get_within (table_kinds d.description) t kind is)).2;
  sources = λ t kind is. sources_known d h texts t kind fit are is;
  start = λ t. past_now (past_of h.changes) h.slots (λ past. past.start t h.slots) (text_at d.description h.changes h.slots).start
      (past_over d.description h.slots h.changes fit)
      ∙ ap (λ (e : Described). e.start) (text_last d.description h.slots h.slots h.changes fit (omega arith) ∙ sym are);
  on_air = λ t. on_air_by d.description h.slots t h.changes fit;
}
