-- Services, or transport streams, one after another take up the room of a section.
use Rattle.std.proofs.Common.{◌≡◌, ◌≤◌, ◌<◌, ℕ, ◌+◌, ◌-◌, true, false, List, ◌∷◌, ap, ◌∙◌, sym, inl, inr, arith}
use Rattle.std.specs.Prelude.{nat_le, sum_by}
use Rattle.std.proofs.lemmas.Bool.{cases_Bool, le-leb, lt-leb, leb-true, leb-false}
use Rattle.std.proofs.lemmas.List.Sums.{sum_by-cons}
use Rattle.job_programs.specs.Information.{NamedServiceView}
use Rattle.dvb_tables.specs.TransportStreams.{TransportStreamView}
use Rattle.stream_jobs.specs.Transponders.{network_stream_size, service_size}

less_room : (size rest left : ℕ) → size ≤ left → nat_le (size + rest) left ≡ nat_le rest (left - size)
less_room size rest left le = elim (cases_Bool (nat_le rest (left - size))) [
  | inl fits ↦ let within = leb-true rest (left - size) fits in le-leb (size + rest) left (omega (arith, within, le)) ∙ sym fits
  | inr exceeds ↦ let over = leb-false rest (left - size) exceeds in lt-leb (size + rest) left (omega (arith, over, le)) ∙ sym exceeds
]

-- If the first service fits, the others need the room that is left.
pub rest_fits : (s : NamedServiceView) (ss : List NamedServiceView) (left : ℕ) → service_size s ≤ left →
    nat_le (sum_by service_size (s ∷ ss)) left ≡ nat_le (sum_by service_size ss) (left - service_size s)
rest_fits s ss left le = ap (λ (n : ℕ). nat_le n left) (sum_by-cons service_size s ss) ∙ less_room (service_size s) (sum_by service_size ss) left le

pub streams_rest_fits : (t : TransportStreamView) (ts : List TransportStreamView) (left : ℕ) → network_stream_size t ≤ left →
    nat_le (sum_by network_stream_size (t ∷ ts)) left ≡ nat_le (sum_by network_stream_size ts) (left - network_stream_size t)
streams_rest_fits t ts left le =
    ap (λ (n : ℕ). nat_le n left) (sum_by-cons network_stream_size t ts) ∙ less_room (network_stream_size t) (sum_by network_stream_size ts) left le

-- If it does not fit, all of them do not.
pub first_stream_is_over : (t : TransportStreamView) (ts : List TransportStreamView) (left : ℕ) → left < network_stream_size t →
    nat_le (sum_by network_stream_size (t ∷ ts)) left ≡ false
first_stream_is_over t ts left over =
    lt-leb (sum_by network_stream_size (t ∷ ts)) left (omega (arith, over, sum_by-cons network_stream_size t ts))

pub first_is_over : (s : NamedServiceView) (ss : List NamedServiceView) (left : ℕ) → left < service_size s →
    nat_le (sum_by service_size (s ∷ ss)) left ≡ false
first_is_over s ss left over =
    lt-leb (sum_by service_size (s ∷ ss)) left (omega (arith, over, sum_by-cons service_size s ss))
