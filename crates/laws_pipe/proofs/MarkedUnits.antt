-- The units of a PID for whose findings both modes of `tsjob units` request the same marks.
use Rattle.std.proofs.Common.{◌≡◌, ◌∙◌, ◌&&◌, ℕ, Bool, true, false, if◌then◌else◌, Some, List, [], ◌∷◌, map, refl, sym, ap, ap₂}
use Rattle.std.specs.List.{list_any}
use Rattle.demux.specs.Laws.{found_of, has_pid}
use Rattle.pid_findings.specs.Views.{FindingView}
use Rattle.stamp_repair.specs.DataTimes.{is_unstamped, seen_in, timed}
use Rattle.packet_pcr.specs.declared.pcr_reading.FoundPcr.{FoundPcr}
use Rattle.stamp_repair.proofs.OtherPids.{others_stay}
use Rattle.stamp_repair.specs.LoneStamps.{damaged, is_on}
use Rattle.stamp_repair.specs.declared.search.LonePes.{LonePes}
use Rattle.stamp_repair.proofs.DamagedFindings.{unfound_stay}
use Rattle.es_moments.specs.ApartUnits.{apart_units}
use Rattle.es_units.specs.CarriedUnits.{Ignored, carried_units, role_of, apart_wire_units}
use Rattle.es_units.proofs.CarriedUnits.{same_units}
use Rattle.es_feed.specs.EachStream.{if_start, next_starts, one_by_one, starts_next}
use Rattle.es_units.specs.Marking.{MarkingView, all_marked, is_aligned, type_of}
use Rattle.es_units.proofs.MarkedFindings.{marked_by_pid}
use Rattle.job_inputs.specs.AskedMarks.{marking_of}
use Rattle.job_run.specs.Streams.{findings_of, in_step}
use Rattle.tsjob_cli.specs.StreamedUnits.{access_of}
use Rattle.laws_pipe.specs.StreamedUnits.{AreMarkedAlike, AskAlike}
use Rattle.es_moments.specs.WireUnits.{CarriedUnit}

-- 1. Whether units have one PES packet each depends on the findings of the PID alone

other_role : (pid : ℕ) (f : FindingView) → has_pid pid f.pid ≡ false → role_of pid f ≡ Ignored
unfolding role_of
other_role pid f other = rw other refl

if_own : Bool → FindingView → List FindingView → List FindingView
if_own own f fs = if own then f ∷ fs else fs

next_by : (own : Bool) (pid : ℕ) (f : FindingView) (found fs : List FindingView) → has_pid pid f.pid ≡ own → next_starts pid found ≡ next_starts pid fs →
    next_starts pid (if_own own f found) ≡ next_starts pid (f ∷ fs)
unfolding if_own next_starts starts_next
next_by true pid f found fs is same = ap (λ (b : Bool). starts_next (role_of pid f) b) same
next_by false pid f found fs is same = rw (other_role pid f is) same

own_next : (pid : ℕ) (fs : List FindingView) → next_starts pid (found_of pid fs) ≡ next_starts pid fs
unfolding if_own
own_next pid [] = refl
own_next pid (f ∷ fs) = next_by (has_pid pid f.pid) pid f (found_of pid fs) fs refl (own_next pid fs)

alone_by : (own : Bool) (pid : ℕ) (f : FindingView) (found fs : List FindingView) → has_pid pid f.pid ≡ own → next_starts pid found ≡ next_starts pid fs →
    one_by_one pid found ≡ one_by_one pid fs → one_by_one pid (if_own own f found) ≡ one_by_one pid (f ∷ fs)
unfolding if_own one_by_one if_start
alone_by true pid f found fs is next same = ap₂ (λ (a b : Bool). if_start (role_of pid f) a && b) next same
alone_by false pid f found fs is next same = rw (other_role pid f is) same

own_alone : (pid : ℕ) (fs : List FindingView) → one_by_one pid (found_of pid fs) ≡ one_by_one pid fs
unfolding if_own
own_alone pid [] = refl
own_alone pid (f ∷ fs) = alone_by (has_pid pid f.pid) pid f (found_of pid fs) fs refl (own_next pid fs) (own_alone pid fs)

-- 2. Findings with the same marks

found_alike : (whole streamed : MarkingView) (pid : ℕ) (fs : List FindingView) → AreMarkedAlike whole streamed pid →
    found_of pid (all_marked whole fs) ≡ found_of pid (all_marked streamed fs)
found_alike whole streamed pid fs alike = marked_by_pid whole streamed pid fs alike.typed alike.aligned

pub alone_alike : (whole streamed : MarkingView) (pid : ℕ) (fs : List FindingView) → AreMarkedAlike whole streamed pid →
    one_by_one pid (all_marked whole fs) ≡ one_by_one pid (all_marked streamed fs)
alone_alike whole streamed pid fs alike =
    sym (own_alone pid (all_marked whole fs)) ∙ ap (one_by_one pid) (found_alike whole streamed pid fs alike) ∙ own_alone pid (all_marked streamed fs)

carried_alike : (whole streamed : MarkingView) (pid : ℕ) (fs : List FindingView) → AreMarkedAlike whole streamed pid →
    carried_units pid (all_marked whole fs) ≡ carried_units pid (all_marked streamed fs)
carried_alike whole streamed pid fs alike =
    sym (same_units pid (all_marked whole fs)) ∙ ap (carried_units pid) (found_alike whole streamed pid fs alike) ∙ same_units pid (all_marked streamed fs)

pub wire_alike : (whole streamed : MarkingView) (pid : ℕ) (fs : List FindingView) → AreMarkedAlike whole streamed pid →
    apart_wire_units pid (all_marked whole fs) ≡ apart_wire_units pid (all_marked streamed fs)
wire_alike whole streamed pid fs alike =
    ap (λ (us : List CarriedUnit). map (λ (u : CarriedUnit). u.unit) (apart_units us)) (carried_alike whole streamed pid fs alike)

-- 3. Teletext without stamps is on other PIDs

timed_alike : (references : List FoundPcr) (pid : ℕ) (fs : List FindingView) → is_unstamped (seen_in fs) pid ≡ false →
    found_of pid (timed references fs) ≡ found_of pid fs
timed_alike references pid fs stamped = others_stay references fs pid stamped

pub alone_timed : (references : List FoundPcr) (pid : ℕ) (fs : List FindingView) → is_unstamped (seen_in fs) pid ≡ false →
    one_by_one pid (timed references fs) ≡ one_by_one pid fs
alone_timed references pid fs stamped =
    sym (own_alone pid (timed references fs)) ∙ ap (one_by_one pid) (timed_alike references pid fs stamped) ∙ own_alone pid fs

carried_timed : (references : List FoundPcr) (pid : ℕ) (fs : List FindingView) → is_unstamped (seen_in fs) pid ≡ false →
    carried_units pid (timed references fs) ≡ carried_units pid fs
carried_timed references pid fs stamped =
    sym (same_units pid (timed references fs)) ∙ ap (carried_units pid) (timed_alike references pid fs stamped) ∙ same_units pid fs

pub wire_timed : (references : List FoundPcr) (pid : ℕ) (fs : List FindingView) → is_unstamped (seen_in fs) pid ≡ false →
    apart_wire_units pid (timed references fs) ≡ apart_wire_units pid fs
wire_timed references pid fs stamped =
    ap (λ (us : List CarriedUnit). map (λ (u : CarriedUnit). u.unit) (apart_units us)) (carried_timed references pid fs stamped)

-- 4. Stamps that are alone out of order are on other PIDs

pub alone_ordered : (lone : List LonePes) (pid : ℕ) (fs : List FindingView) → list_any (is_on pid) lone ≡ false →
    one_by_one pid (map (damaged lone) fs) ≡ one_by_one pid fs
alone_ordered lone pid fs none =
    sym (own_alone pid (map (damaged lone) fs)) ∙ ap (one_by_one pid) (unfound_stay lone pid fs none) ∙ own_alone pid fs

carried_ordered : (lone : List LonePes) (pid : ℕ) (fs : List FindingView) → list_any (is_on pid) lone ≡ false →
    carried_units pid (map (damaged lone) fs) ≡ carried_units pid fs
carried_ordered lone pid fs none =
    sym (same_units pid (map (damaged lone) fs)) ∙ ap (carried_units pid) (unfound_stay lone pid fs none) ∙ same_units pid fs

pub wire_ordered : (lone : List LonePes) (pid : ℕ) (fs : List FindingView) → list_any (is_on pid) lone ≡ false →
    apart_wire_units pid (map (damaged lone) fs) ≡ apart_wire_units pid fs
wire_ordered lone pid fs none =
    ap (λ (us : List CarriedUnit). map (λ (u : CarriedUnit). u.unit) (apart_units us)) (carried_ordered lone pid fs none)

-- 5. No access points

pub ask_alike : AskAlike
unfolding marking_of access_of
ask_alike a w d bytes pid none other aligned =
    let whole : (marking_of a.options (findings_of (in_step bytes))).access ≡ [] = rw none refl in
    let streamed : access_of w.mark_access d.streams ≡ [] = rw other refl in
    record {
      typed = ap (type_of pid) (whole ∙ sym streamed);
      aligned = ap (λ (pids : List ℕ). is_aligned pids (Some pid)) aligned;
    }
