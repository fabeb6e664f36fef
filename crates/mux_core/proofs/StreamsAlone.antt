-- A stream has its PID to itself.
use Rattle.std.proofs.Common.{◌≡◌, ℕ, true, List, Some, slice_get, refl, ap, sym, ◌∙◌, eq-eqb}
use Rattle.std.proofs.lemmas.Bool.{false≢true, eqb-true}
use Rattle.pes_packet.specs.AccessUnits.{AccessUnit}
use Rattle.slot_contents.specs.RunLaws.{Fits}
use Rattle.description_parts.specs.Described.{DescribedStream}
use Rattle.description_parts.specs.Ranges.{IsInRange}
use Rattle.slot_plan.specs.declared.slot.Slot.{Slot}
use Rattle.slot_plan.specs.declared.slot.Slot.TheVariants.{Stream, Pcr, Table, Null}
use Rattle.slot_plan.specs.declared.slot.Item.TheVariants.{Stream as StreamItem}
use Rattle.slot_plan.specs.Items.{is_own}
use Rattle.slot_plan.specs.Schedule.{slot_of}
use Rattle.slot_plan.specs.SlotPids.{slot_pid}
use Rattle.unit_queue.specs.Places.{stream_content}
use Rattle.unit_queue.specs.Payloads.{StreamIsAlone}
use Rattle.mux_core.specs.Scheduled.{Scheduled}
use Rattle.mux_core.specs.Histories.{owned_stream, stream_in, content_in, content_at, content_over, TextsSoFar, unchanged}
use Rattle.mux_core.proofs.ContentPids.{silent, not_null}

-- A stream's own slot is a slot of the stream.
own_is : (k : ℕ) (slot : Slot) → is_own (StreamItem k) slot ≡ true → slot ≡ Stream k
own_is k (Stream j) e = ap Stream (sym (eqb-true k j e))
own_is k (Pcr i) e = absurd (false≢true e)
own_is k (Table t) e = absurd (false≢true e)
own_is k Null e = absurd (false≢true e)

stream_named : (d : Scheduled) (k : ℕ) (s : DescribedStream) → slice_get d.description.streams k ≡ Some s → slot_pid d.description (Stream k) ≡ Some s.pid
unfolding slot_pid
stream_named d k s is = rw is refl

stream_at : (d : Scheduled) (changes : TextsSoFar) (units : ℕ → List AccessUnit) (t k : ℕ) (s : DescribedStream) → slice_get d.description.streams k ≡ Some s →
    slot_of d.schedule t ≡ Stream k
    → content_over d changes units t ≡ stream_content (owned_stream d k s) (units k) t
unfolding content_over content_in stream_in
stream_at d changes units t k s is e = ap (content_in d changes units t) e ∙ ap (stream_in d units t k) is

pub stream_alone_over : (d : Scheduled) (changes : TextsSoFar) (units : ℕ → List AccessUnit) (k : ℕ) (s : DescribedStream) → IsInRange d.description → Fits (content_over d changes units)
    → slice_get d.description.streams k ≡ Some s → StreamIsAlone (owned_stream d k s) (units k) (content_over d changes units)
stream_alone_over d changes units k s r fits is = record {
  fits = fits;
  no_null = not_null d s.pid (Stream k) r (stream_named d k s is);
  own = λ t y. stream_at d changes units t k s is (own_is k (slot_of d.schedule t) y);
  others = λ t n. silent d changes units t s.pid (Stream k) r (stream_named d k s is) (λ e. false≢true (sym n ∙ ap (is_own (StreamItem k)) e ∙ eq-eqb k k refl));
}

pub stream_alone : (d : Scheduled) (units : ℕ → List AccessUnit) (k : ℕ) (s : DescribedStream) → IsInRange d.description → Fits (content_at d units)
    → slice_get d.description.streams k ≡ Some s → StreamIsAlone (owned_stream d k s) (units k) (content_at d units)
stream_alone d units k s r fits is = stream_alone_over d unchanged units k s r fits is
