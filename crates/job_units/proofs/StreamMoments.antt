-- Streams with only the moments of their units, and with the bytes of the units as well
use Rattle.std.proofs.Common.{◌≡◌, ◌∙◌, ◌<◌, ◌^◌, ℕ, Bool, true, false, None, List, map, Result, Ok, sym, ap, subst}
use Rattle.pes_packet.specs.AccessUnits.{AccessUnit}
use Rattle.pid_findings.specs.Views.{FindingView}
use Rattle.es_units.specs.CarriedUnits.{carried_units}
use Rattle.es_moments.specs.Stamps.{first_fault, moved}
use Rattle.es_moments.specs.UnitMoments.{moment_of, units_at}
use Rattle.es_moments.specs.declared.unit_moments.UnitMoment.{UnitMoment}
use Rattle.es_moments.proofs.MadeDts.{made_contents}
use Rattle.es_moments.proofs.RisingDts.{rising_contents}
use Rattle.es_moments.proofs.UnitMoments.{at_own, contents}
use Rattle.job_units.specs.declared.moved_streams.FirstDts.{FirstDts}
use Rattle.job_programs.specs.declared.refusal.JobRefusal.{JobRefusal}
use Rattle.job_programs.specs.Answers.{unless}
use Rattle.job_programs.specs.FoundUnits.{AreFound, source_of, IsCarried, IsMoved}
use Rattle.job_programs.specs.JobPrograms.{JobProgramView, clock_in}
use Rattle.job_programs.specs.JobStreams.{TimedStreamView, WireStreamView}
use Rattle.job_units.specs.Moments.{base_of, moved_by, moved_stream, pts_limit_of, wire_of, with_moments, StreamMomentsView, with_units, timed_stream}
use Rattle.es_moments.specs.WireUnits.{CarriedUnit}

source_contents : (made : Bool) (pid : ℕ) (findings : List FindingView) → contents (source_of made pid findings) ≡ contents (carried_units pid findings)
unfolding source_of
source_contents false pid findings = rising_contents (carried_units pid findings)
source_contents true pid findings = made_contents (carried_units pid findings)

-- Units at these moments equal the moved units.
pub at_source : (made : Bool) (pid base : ℕ) (findings : List FindingView) (us : List CarriedUnit) (ms : List UnitMoment) → us ≡ source_of made pid findings →
    ms ≡ map moment_of (moved base None (map (λ (u : CarriedUnit). u.unit) us)) →
    units_at ms (carried_units pid findings) ≡ moved base None (map (λ (u : CarriedUnit). u.unit) us)
at_source made pid base findings us ms are is =
    ap (λ (l : List UnitMoment). units_at l (carried_units pid findings)) is
    ∙ at_own base None us (carried_units pid findings) (ap contents are ∙ source_contents made pid findings)

-- A stream with these moments of its units
abbrev pub head_of : WireStreamView → List UnitMoment → StreamMomentsView
head_of s ms = record {
  program = s.program;
  pid = s.pid;
  stream_type = s.stream_type;
  stream_id = s.stream_id;
  descriptors = s.descriptors;
  shared_with = s.shared_with;
  units = ms;
}

-- The units of the stream have the moments by the constant of its program's clock.
pub moved_leads : (made : Bool) (findings : List FindingView) (due base : ℕ) (programs : List JobProgramView) (all : List FirstDts) (s : WireStreamView)
    (ms : List UnitMoment) (h : StreamMomentsView) →
    base ≡ base_of due all (clock_in programs s.program) → IsCarried made findings s →
    first_fault (pts_limit_of s.stream_type s.descriptors) base None 0 (wire_of s) ≡ None → ms ≡ map moment_of (moved base None (wire_of s)) →
    h ≡ head_of s ms →
    moved_by findings due programs all s ≡ Ok (timed_stream findings h)
unfolding moved_by moved_stream with_moments with_units unless
moved_leads made findings due base programs all s ms h based carried sound is head =
    rw (head, sym based, sound) (ap (λ (us : List AccessUnit). let r : Result TimedStreamView JobRefusal = Ok (record {
      program = s.program;
      pid = s.pid;
      stream_type = s.stream_type;
      stream_id = s.stream_id;
      descriptors = s.descriptors;
      shared_with = s.shared_with;
      units = us;
    }) in r) (sym (at_source made s.pid base findings s.units ms carried is)))

pub moved_is : (made : Bool) (findings : List FindingView) (base : ℕ) (s : WireStreamView) (ms : List UnitMoment) (h : StreamMomentsView) →
    base < 2 ^ 33 → IsCarried made findings s → first_fault (pts_limit_of s.stream_type s.descriptors) base None 0 (wire_of s) ≡ None →
    ms ≡ map moment_of (moved base None (wire_of s)) → h ≡ head_of s ms →
    IsMoved made findings (timed_stream findings h)
unfolding with_units
moved_is made findings base s ms h range carried sound is head =
    let are : AreFound made findings s.pid (units_at ms (carried_units s.pid findings)) = record {
      base = base;
      moved = record {
        range = range;
        limit = pts_limit_of s.stream_type s.descriptors;
        sound = subst
            (λ (us : List CarriedUnit). first_fault (pts_limit_of s.stream_type s.descriptors) base None 0 (map (λ (u : CarriedUnit). u.unit) us) ≡ None)
            carried sound;
        are = at_source made s.pid base findings s.units ms carried is ∙ ap (λ (us : List CarriedUnit). moved base None (map (λ (u : CarriedUnit). u.unit) us))
            carried;
      };
    } in
    rw head are
