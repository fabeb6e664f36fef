-- If a multiplexer's state represents a history, the units of the history keep their declarations.
use Rattle.std.proofs.Common.{ℕ, Option, Some, None, slice_get, subst}
use Rattle.description_parts.specs.Described.{DescribedStream}
use Rattle.description_parts.specs.Ranges.{IsInRange}
use Rattle.unit_queue.specs.Queues.{Queue, Kept}
use Rattle.mux_core.specs.Scheduled.{Scheduled}
use Rattle.mux_core.specs.Histories.{History, owned_stream}
use Rattle.mux_core.specs.MuxStates.{MuxState, Represents, QueueRepresents}
use Rattle.mux_core.specs.Headline.{UnitsKept, AnyStateLaw}
use Rattle.mux_core.specs.declared.room.Room.{Room}
use Rattle.mux_core.proofs.KnownRanges.{parameters_known}
use Rattle.mux_core.proofs.Whole.{headline_over}

kept_in : (d : Scheduled) (h : History) (capacity : Room) (k : ℕ) (q : Option Queue) (s : DescribedStream) → QueueRepresents d h capacity k q (Some s) →
    Kept (owned_stream d k s) (h.units k)
kept_in d h capacity k (Some q) s st = st.kept
kept_in d h capacity k None s st = absurd st

pub units_kept : (h : History) (m : MuxState) → IsInRange m.schedule.description → Represents h m → UnitsKept m.schedule h.units
units_kept h m r st = record {
  parameters = parameters_known m.schedule r;
  kept = λ k s is. kept_in m.schedule h m.capacity k (slice_get m.queues k) s
      (subst (λ (o : Option DescribedStream). QueueRepresents m.schedule h m.capacity k (slice_get m.queues k) o) is (st.streams k));
}

pub any_state : AnyStateLaw
any_state h m n r promised st = headline_over m.schedule h.changes h.units n r promised (units_kept h m r st)
