-- Bytes of a unit that enter both buffers, and the excess of the main buffer
use Rattle.std.proofs.Common.{◌≡◌, ◌∙◌, sym, ℕ, ◌+◌, ◌<◌, List, ◌∷◌, Option, None, ap, ap₂, subst, arith}
use Rattle.clock27.specs.Departure.{departures, last_left}
use Rattle.clock27.specs.Peak.{greatest_at, most_found}
use Rattle.clock27.proofs.Departures.{last_left-append}
use Rattle.tstd_rows.specs.RowEntry.{entered, fullness_with}
use Rattle.tstd_rows.specs.Least.{least_found, least_in}
use Rattle.tstd_rows.specs.Buffers.{entered as buffer_entered}
use Rattle.tstd_rows.specs.declared.transport_buffer.TransportBuffer.{TransportBuffer}
use Rattle.tstd_rows.specs.declared.excess.Excess.{Excess}
use Rattle.tstd.specs.BufferState.{fullness_at}
use Rattle.std.specs.Option.{option_to_list}
use Rattle.tstd_rows.specs.History.{Part, arrivals_of, transport_of, last_of, left_after, main_fullness, row_least}
use Rattle.tstd_rows.specs.History.Part.{Passes, Carries}
use Rattle.tstd_rows.specs.Busy.{busy_of, busy_under_way, busy_with}
use Rattle.tstd_rows.specs.declared.busy_watch.BusyWatch.{BusyWatch}
use Rattle.tstd_rows.specs.Viewed.{IsViewOf}
use Rattle.tstd_rows.specs.MainExcess.{after_row, ended_by}
use Rattle.tstd_rows.specs.declared.viewed_buffers.StreamView.{StreamView}
use Rattle.tstd_rows.specs.declared.main_watch.MainWatch.{MainWatch}
use Rattle.tstd_rows.proofs.Views.{row_lowest, row_most}
use Rattle.tstd_rows.specs.Held.{Held, IsHeld, carried, last_entry, main_ended, main_found, main_least_found, passed, transport_busy_under_way, transport_found}
use Rattle.tstd_rows.specs.declared.stream_buffers.StreamBuffers.{StreamBuffers}

-- At the entries of these bytes, the most bytes of the view are the most bytes of the parts.
pub main_row : {A : Type 0} (view : StreamView A) (rate : ℕ) (parts : List Part) (ts : List ℕ) → IsViewOf view parts → view.transport.step ≡ rate →
    0 < view.transport.step →
    greatest_at (fullness_with view.main (departures view.transport.step view.transport.last ts)) (departures view.transport.step view.transport.last ts)
    ≡ greatest_at (main_fullness rate (Carries ts ∷ parts)) (left_after rate parts ts)
main_row view rate parts ts v step pos =
    let s : ℕ = view.transport.step in
    let last : view.transport.last ≡ last_of s parts = ap (λ (b : TransportBuffer). b.last) v.arrived in
    ap₂ (λ (u l : ℕ). greatest_at (λ x. fullness_at view.main x + entered u x (departures s l ts)) (departures s l ts)) v.until last
    ∙ row_most s (fullness_at view.main) parts ts pos (λ x le. v.held x (omega (arith, le, last)))
    ∙ ap (λ (n : ℕ). greatest_at (main_fullness n (Carries ts ∷ parts)) (left_after n parts ts)) step

-- The fewest bytes that these bytes find in the view are the fewest in the parts.
pub least_row : {A : Type 0} (view : StreamView A) (rate : ℕ) (parts : List Part) (ts : List ℕ) → IsViewOf view parts → view.transport.step ≡ rate →
    0 < view.transport.step →
    least_in view.main None (departures view.transport.step view.transport.last ts) ≡ row_least rate parts ts
least_row view rate parts ts v step pos =
    let s : ℕ = view.transport.step in
    let last : view.transport.last ≡ last_of s parts = ap (λ (b : TransportBuffer). b.last) v.arrived in
    ap₂ (λ (u l : ℕ). least_found (fullness_at view.main) u 0 None (departures s l ts)) v.until last
    ∙ row_lowest s (fullness_at view.main) parts ts pos (λ x le. v.held x (omega (arith, le, last)))
    ∙ ap (λ (n : ℕ). row_least n parts ts) step

pub main_lowest_found : (old : StreamBuffers) (h : Held) (ts times : List ℕ) (found : Option ℕ) → IsHeld old h → ts ≡ times → 0 < old.view.transport.step →
    found ≡ least_in old.view.main None (departures old.view.transport.step old.view.transport.last ts) → found ≡ main_least_found h times
main_lowest_found old h ts times found k same pos is =
    is ∙ least_row old.view h.rate h.parts ts k.view k.step pos ∙ ap (λ (t : List ℕ). main_least_found h t) same

-- The most bytes found in the main buffer are the most that the parts and the arrival times give.
pub main_most_found : (old : StreamBuffers) (h : Held) (ts times : List ℕ) (found : ℕ) → IsHeld old h → ts ≡ times → 0 < old.view.transport.step →
    found ≡ greatest_at (fullness_with old.view.main (departures old.view.transport.step old.view.transport.last ts))
    (departures old.view.transport.step old.view.transport.last ts) →
    found ≡ main_found h times
main_most_found old h ts times found k same pos is =
    is ∙ main_row old.view h.rate h.parts ts k.view k.step pos ∙ ap (λ (t : List ℕ). main_found h t) same

-- The most bytes found in the transport buffer are the most that the parts and the arrival times give.
pub transport_most_found : (old : StreamBuffers) (h : Held) (ts times : List ℕ) (found : ℕ) → IsHeld old h → ts ≡ times →
    found ≡ most_found old.view.transport.step old.view.transport.last ts → found ≡ transport_found h times
transport_most_found old h ts times found k same is =
    let last : old.view.transport.last ≡ last_of old.view.transport.step h.parts = ap (λ (b : TransportBuffer). b.last) k.view.arrived in
    is ∙ ap (λ (l : ℕ). most_found old.view.transport.step l ts) last
    ∙ ap (λ (n : ℕ). most_found n (last_of n h.parts) ts) k.step
    ∙ ap (λ (t : List ℕ). transport_found h t) same

-- The last of these bytes leaves the transport buffer at the time that the parts give.
pub last_row : {A : Type 0} (view : StreamView A) (after : TransportBuffer) (rate : ℕ) (parts : List Part) (ts : List ℕ) → IsViewOf view parts →
    view.transport.step ≡ rate →
    after ≡ buffer_entered view.transport ts → after.last ≡ last_of rate (Carries ts ∷ parts)
unfolding arrivals_of
last_row view after rate parts ts v step is =
    let s : ℕ = view.transport.step in
    let last : view.transport.last ≡ last_of s parts = ap (λ (b : TransportBuffer). b.last) v.arrived in
    let left : after.last ≡ last_left s view.transport.last ts = ap (λ (b : TransportBuffer). b.last) is in
    left ∙ rw last (sym (last_left-append s 0 (arrivals_of parts) ts)) ∙ ap (λ (n : ℕ). last_of n (Carries ts ∷ parts)) step

-- Bytes of a unit enter buffers that hold the parts so far.
pub carried_held : (old new : StreamBuffers) (h : Held) (ts times : List ℕ) (most last : ℕ) → IsHeld old h → ts ≡ times → new.rx ≡ old.rx →
    ((parts : List Part) → IsViewOf old.view parts → IsViewOf new.view (Carries ts ∷ parts)) → new.view.transport ≡ buffer_entered old.view.transport ts →
    new.view.watch.size ≡ old.view.watch.size → 0 < old.view.transport.step →
    most ≡ greatest_at (fullness_with old.view.main (departures old.view.transport.step old.view.transport.last ts))
    (departures old.view.transport.step old.view.transport.last ts) →
    last ≡ new.view.transport.last → new.main.size ≡ old.main.size → new.main.under_way ≡ after_row old.main.size old.main.under_way most last →
    new.busy ≡ old.busy →
    IsHeld new (carried h times)
unfolding busy_of
carried_held old new h ts times most last k same rx views enters size pos most_is last_is main_size main busy =
    let found : most ≡ main_found h ts = most_is ∙ main_row old.view h.rate h.parts ts k.view k.step pos in
    let ends : last ≡ last_entry h ts = last_is ∙ last_row old.view new.view.transport h.rate h.parts ts k.view k.step enters in
    let size_is : new.main.size ≡ h.main.size = main_size ∙ ap (λ (m : MainWatch). m.size) k.main in
    let grows : new.main.under_way ≡ after_row h.main.size h.main.under_way (main_found h ts) (last_entry h ts) =
    main ∙ ap (λ (m : MainWatch). after_row m.size m.under_way most last) k.main ∙ ap₂ (λ (n l : ℕ). after_row h.main.size h.main.under_way n l) found ends in
    let watch : new.main ≡ record { size = h.main.size; under_way = after_row h.main.size h.main.under_way (main_found h ts) (last_entry h ts) } =
    ap₂ {C = MainWatch} (λ (n : ℕ) (u : Option Excess). record { size = n; under_way = u }) size_is grows in
    subst (λ (t : List ℕ). IsHeld new (carried h t)) same (record {
      rx = rx ∙ k.rx;
      step = ap (λ (b : TransportBuffer). b.step) enters ∙ k.step;
      size = size ∙ k.size;
      view = views h.parts k.view;
      main = watch;
      busy = busy ∙ k.busy;
    })

-- Bytes that stop at the transport buffer enter buffers that hold the parts so far.
pub passed_held : (old new : StreamBuffers) (h : Held) (ts times : List ℕ) → IsHeld old h → ts ≡ times → new.rx ≡ old.rx →
    ((parts : List Part) → IsViewOf old.view parts → IsViewOf new.view (Passes ts ∷ parts)) → new.view.transport ≡ buffer_entered old.view.transport ts →
    new.view.watch.size ≡ old.view.watch.size → new.main ≡ old.main → new.busy ≡ busy_with old.busy old.view.transport.last ts → IsHeld new (passed h times)
unfolding busy_of
passed_held old new h ts times k same rx views enters size main busy =
    let last : old.view.transport.last ≡ last_of h.rate h.parts =
    ap (λ (b : TransportBuffer). b.last) k.view.arrived ∙ ap (λ (n : ℕ). last_of n h.parts) k.step in
    subst (λ (t : List ℕ). IsHeld new (passed h t)) same (record {
      rx = rx ∙ k.rx;
      step = ap (λ (b : TransportBuffer). b.step) enters ∙ k.step;
      size = size ∙ k.size;
      view = views h.parts k.view;
      main = main ∙ k.main;
      busy = busy ∙ ap₂ (λ (w : BusyWatch) (l : ℕ). busy_with w l ts) k.busy last;
    })

-- The time that the transport buffer is not empty is the time that the parts give.
pub busy_held : (b : StreamBuffers) (h : Held) → IsHeld b h → busy_under_way b.busy b.view.transport.last ≡ transport_busy_under_way h
busy_held b h k =
    let last : b.view.transport.last ≡ last_of h.rate h.parts =
    ap (λ (t : TransportBuffer). t.last) k.view.arrived ∙ ap (λ (n : ℕ). last_of n h.parts) k.step in
    ap₂ (λ (w : BusyWatch) (l : ℕ). busy_under_way w l) k.busy last

-- The excess of the main buffer that has ended is the excess that the parts give.
pub carried_ended : (old : StreamBuffers) (after : TransportBuffer) (h : Held) (ts times : List ℕ) (most last : ℕ) (result : Option Excess) → IsHeld old h →
    ts ≡ times →
    after ≡ buffer_entered old.view.transport ts → 0 < old.view.transport.step →
    most ≡ greatest_at (fullness_with old.view.main (departures old.view.transport.step old.view.transport.last ts))
    (departures old.view.transport.step old.view.transport.last ts) →
    last ≡ after.last → result ≡ ended_by old.main.size old.main.under_way most last → option_to_list result ≡ main_ended h times
carried_ended old after h ts times most last result k same enters pos most_is last_is is =
    let found : most ≡ main_found h ts = most_is ∙ main_row old.view h.rate h.parts ts k.view k.step pos in
    let ends : last ≡ last_entry h ts = last_is ∙ last_row old.view after h.rate h.parts ts k.view k.step enters in
    ap (λ (e : Option Excess). option_to_list e)
    (is ∙ ap (λ (m : MainWatch). ended_by m.size m.under_way most last) k.main ∙ ap₂ (λ (n l : ℕ). ended_by h.main.size h.main.under_way n l) found ends)
    ∙ ap (λ (t : List ℕ). main_ended h t) same

-- The number of bytes that have arrived is the number in the parts.
pub bytes_held : (buffers : StreamBuffers) (h : Held) → IsHeld buffers h → buffers.view.transport.bytes ≡ (transport_of h.rate h.parts).bytes
bytes_held buffers h k =
    ap (λ (b : TransportBuffer). b.bytes) k.view.arrived ∙ ap (λ (n : ℕ). (transport_of n h.parts).bytes) k.step
