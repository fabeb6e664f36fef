-- The bytes of units in a main buffer at a moment, one unit after another.
use Rattle.std.proofs.Common.{◌≡◌, ◌∙◌, ℕ, ◌+◌, ◌<◌, ◌≤◌, nat_lt, List, [], ◌∷◌, length, drop, get_or, refl, ap, arith, add-one, inl, inr, le_refl}
use Rattle.std.proofs.lemmas.List.{drop_all}
use Rattle.std.proofs.lemmas.Bool.{cases_Bool}
use Rattle.std.proofs.Math.Seq.{drop-cons}
use Rattle.tstd.specs.BufferedUnits.{all_buffered, all_bytes, buffered_bytes}
use Rattle.tstd.specs.declared.buffered_units.BufferedUnit.{BufferedUnit}
use Rattle.tstd_rows.specs.Held.{Held, IsHeld}
use Rattle.tstd_rows.specs.History.{last_of, main_fullness}
use Rattle.tstd_rows.specs.declared.stream_buffers.StreamBuffers.{StreamBuffers}
use Rattle.tstd_rows.specs.declared.transport_buffer.TransportBuffer.{TransportBuffer}
use Rattle.es_view.specs.HeldEvents.{main_now}

-- The bytes of the units from i on are the bytes of unit i and of the units after it.
pub buffered_next : (x : ℕ) (units : List BufferedUnit) (i : ℕ) (d : BufferedUnit) → i < length units →
    all_buffered x (drop i units) ≡ buffered_bytes x (get_or units i d) + all_buffered x (drop (i + 1) units)
unfolding all_buffered
buffered_next x units i d below = rw (drop-cons units i d below, add-one i) refl

pub buffered_end : (x : ℕ) (units : List BufferedUnit) (i : ℕ) → length units ≤ i → all_buffered x (drop i units) ≡ 0
unfolding all_buffered
buffered_end x units i over = rw (drop_all i units over) refl

-- At most all bytes of a unit are in the buffer.
pub one_fewer : (x : ℕ) (unit : BufferedUnit) → buffered_bytes x unit ≤ unit.bytes
one_fewer x unit = elim (cases_Bool (nat_lt x unit.until)) [ inl a ↦ rw a (omega arith) | inr a ↦ rw a (omega arith) ]

pub all_fewer : (x : ℕ) (units : List BufferedUnit) → all_buffered x units ≤ all_bytes units
unfolding all_buffered all_bytes
all_fewer x [] = omega arith
all_fewer x (unit ∷ units) = omega (arith, one_fewer x unit, all_fewer x units)

-- The bytes of all units make up the buffer when the last byte has left the transport buffer.
pub main_sum : (b : StreamBuffers) (h : Held) → IsHeld b h →
    all_buffered b.view.transport.last b.view.main.earlier.items + buffered_bytes b.view.transport.last b.view.main.current ≡ main_now h
main_sum b h k =
    k.view.held b.view.transport.last (le_refl b.view.transport.last)
    ∙ ap (λ (s : ℕ). main_fullness s h.parts b.view.transport.last) k.step
    ∙ ap (λ (x : ℕ). main_fullness h.rate h.parts x)
    (ap (λ (t : TransportBuffer). t.last) k.view.arrived ∙ ap (λ (s : ℕ). last_of s h.parts) k.step)
