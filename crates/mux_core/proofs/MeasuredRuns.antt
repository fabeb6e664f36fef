-- What measuring finds in bytes that keep their promises.
use Rattle.std.proofs.Common.{◌≡◌, ℕ, suc, ◌+◌, ◌*◌, ◌/◌, ◌≤◌, List, [], ◌∷◌, length, slice_get, Option, Some, None, refl, ap, subst, ◌∙◌, arith}
use Rattle.pes_packet.specs.AccessUnits.{AccessUnit}
use Rattle.pes_packet.specs.Units.{units_of}
use Rattle.description_parts.specs.Described.{Described, DescribedStream}
use Rattle.tstd.specs.Carried.{packets_on}
use Rattle.unit_timing.specs.declared.multiplexing_buffer.MultiplexingBuffer.{MultiplexingBuffer}
use Rattle.unit_timing.specs.VideoBuffers.{multiplexing_left}
use Rattle.unit_timing.proofs.LateUnits.{late_law}
use Rattle.tstd.specs.Carried.{timed_pes_packets}
use Rattle.tstd.specs.Measured.{IsVideoFullness, HasVideoFullness, late_in, late_or, late_from}
use Rattle.tstd.specs.declared.fullness.VideoFullness.{VideoFullness}
use Rattle.mux_core.specs.Scheduled.{Scheduled}
use Rattle.mux_core.specs.Headline.{StreamKept, VideoKept}
use Rattle.mux_core.specs.MeasuredRuns.{MeasuredLaw}

-- If no stream has a late unit, there is no first late unit.
none_late : (d : Described) (units : List (ℕ × AccessUnit)) (bytes : List ℕ) (number : ℕ) (streams : List DescribedStream)
    → ((k : ℕ) (s : DescribedStream) → slice_get streams k ≡ Some s →
    late_in d.rate d.base0 (length bytes / 188) s (units_of (number + k) units) (packets_on s.pid bytes) s.multiplexing ≡ None)
    → late_from d units bytes number streams ≡ None
unfolding late_from
none_late d units bytes number [] none = refl
none_late d units bytes number (s ∷ streams) none =
    let here : number + 0 ≡ number = omega arith in
    let first : late_in d.rate d.base0 (length bytes / 188) s (units_of number units) (packets_on s.pid bytes) s.multiplexing ≡ None =
    subst (λ (n : ℕ). late_in d.rate d.base0 (length bytes / 188) s (units_of n units) (packets_on s.pid bytes) s.multiplexing ≡ None) here (none 0 s refl) in
    let rest = none_late d units bytes (number + 1) streams (λ k t e.
    let there : number + suc k ≡ number + 1 + k = omega arith in
    subst (λ (n : ℕ). late_in d.rate d.base0 (length bytes / 188) t (units_of n units) (packets_on t.pid bytes) t.multiplexing ≡ None) there (none (suc k) t e))
    in
    ap (λ o. late_or number o (late_from d units bytes (number + 1) streams)) first ∙ rest

-- A stream that keeps all its promises has no late unit: not in its transport buffer, and for video not in its elementary stream buffer.
late_nowhere : (d : Scheduled) (k : ℕ) (s : DescribedStream) (units : List AccessUnit) (slots : ℕ) (bytes : List ℕ) (o : Option MultiplexingBuffer) →
    ((b : MultiplexingBuffer) → o ≡ Some b → VideoKept d s b units slots bytes) → StreamKept d k s units slots bytes →
    late_in d.description.rate d.description.base0 slots s units (packets_on s.pid bytes) o ≡ None
unfolding late_in
late_nowhere d k s units slots bytes None video kept = kept.arrived
late_nowhere d k s units slots bytes (Some b) video kept =
    late_law.none_late d.description.rate (s.rx * b.rbx) slots 0 (timed_pes_packets s.stream_id d.description.base0 units)
    (multiplexing_left d.description.rate s.rx b.rbx (packets_on s.pid bytes)) (video b refl).whole

-- The two fullness numbers of a video stream.
two_numbers : (rate base0 : ℕ) (s : DescribedStream) (units : List AccessUnit) (bytes : List ℕ) (o : Option MultiplexingBuffer) (p : Option VideoFullness)
    (b : MultiplexingBuffer) (v : VideoFullness) → o ≡ Some b → p ≡ Some v → HasVideoFullness rate base0 s units (packets_on s.pid bytes) o p →
    IsVideoFullness rate base0 s units (packets_on s.pid bytes) b v
unfolding HasVideoFullness
two_numbers rate base0 s units bytes o p b v has is full = rw (has, is) at full

pub measured : MeasuredLaw
measured d changes units slots bytes found h streams programs late = record {
  none_late = late ∙ none_late d.description units bytes 0 d.description.streams (λ k s e.
      let at : 0 + k ≡ k = omega arith in
      ap (λ (n : ℕ). late_in d.description.rate d.description.base0 n s (units_of (0 + k) units) (packets_on s.pid bytes) s.multiplexing) whole
      ∙ ap (λ (n : ℕ). late_in d.description.rate d.description.base0 slots s (units_of n units) (packets_on s.pid bytes) s.multiplexing) at
      ∙ late_nowhere d k s (units_of k units) slots bytes s.multiplexing (h.streams k s e).video (h.streams k s e));
  streams = λ k s f e there.
      let kept = h.streams k s e in
      let full = streams.each k s f e there in (
        subst (λ (n : ℕ). n ≤ 512) full.transport.reached (kept.transport full.transport.moment),
        subst (λ (n : ℕ). n ≤ s.main) full.main.reached (kept.main_buffer full.main.moment),
      );
  videos = λ k s f b v e there has is.
      let kept = (h.streams k s e).video b has in
      let full = two_numbers d.description.rate d.description.base0 s (units_of k units) bytes s.multiplexing f.video b v has is
      (streams.each k s f e there).video in (
        subst (λ (n : ℕ). n ≤ b.size) full.multiplexing.reached (kept.multiplexing full.multiplexing.moment),
        subst (λ (n : ℕ). n ≤ s.main) full.elementary.reached (kept.elementary full.elementary.moment),
      );
  programs = λ i p f e there.
      let kept = h.programs i p e in
      let full = programs.each i p f e there in (
        subst (λ (n : ℕ). n ≤ 512) full.transport.reached (kept.system_transport full.transport.moment),
        subst (λ (n : ℕ). n ≤ 1536) full.system.reached (kept.system_buffer full.system.moment),
      );
}
  where
    whole : length bytes / 188 ≡ slots
    whole = let all : length bytes ≡ 188 * slots = h.size in omega (arith, all)
