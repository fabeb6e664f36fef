-- The output of both modes of `tsjob units` for a stream.
use Rattle.std.proofs.Common.{◌≡◌, ◌∙◌, ◌<◌, ◌≤◌, ℕ, zero, suc, ◌+◌, ◌/◌, ◌++◌, Bool, true, false, if◌then◌else◌, Option, Some, None, List, [], ◌∷◌, All}
use Rattle.std.proofs.Common.{length, map, slice_get, get_or, refl, sym, ap, subst, ◌⊎◌, inl, inr, arith}
use Rattle.std.specs.Io.KnownBytes.{Consumes, IsAtEnd}
use Rattle.std.specs.List.{list_any}
use Rattle.std.specs.Prelude.{option_map}
use Rattle.std.proofs.lemmas.List.{append-nil, length-map}
use Rattle.std.proofs.lemmas.Option.{get_or_from_slice_get, same_Some, slice_get_within, slice_get-map}
use Rattle.pes_packet.specs.AccessUnits.{AccessUnit}
use Rattle.pes_packet.specs.Units.{units_of}
use Rattle.description_parts.specs.Described.{Described, DescribedStream}
use Rattle.description_parts.specs.Ranges.{IsInRange}
use Rattle.description.proofs.Pids.{pid_positions, pids_apart}
use Rattle.description_parts.specs.Tables.{table_count}
use Rattle.pid_findings.specs.Views.{FindingView}
use Rattle.stamp_repair.specs.DataTimes.{is_unstamped, seen_in}
use Rattle.stamp_repair.specs.References.{references_in}
use Rattle.stamp_repair.specs.LoneStamps.{damaged, is_on, lone_damaged}
use Rattle.es_moments.specs.Stamps.{distance, dts_at, moved, unit_at}
use Rattle.es_feed.specs.EachStream.{AreFirst, fed_stream, have_fault, one_by_one}
use Rattle.fed_streams.specs.Feeding.{Fed, FedStreamView}
use Rattle.es_feed.specs.StreamFeeding.{fed_of}
use Rattle.es_feed.proofs.MovedApart.{fed_apart}
use Rattle.es_feed.specs.MovedApart.{AreWhole, after_time}
use Rattle.es_feed.specs.FedLines.{fed_records, have_refusal}
use Rattle.es_feed.specs.Passing.{EndsStream}
use Rattle.es_feed.specs.StreamLines.{first_lines}
use Rattle.es_feed.proofs.ReportedLines.{no_faults}
use Rattle.es_feed.proofs.WatchedStreams.{clear_is_fed, refusal_reported}
use Rattle.es_moments.specs.Merging.{AreMerged}
use Rattle.es_units.specs.Marking.{MarkingView, all_marked}
use Rattle.job_inputs.specs.AskedMarks.{marking_of}
use Rattle.job_programs.specs.JobOptions.{JobOptionsView}
use Rattle.job_inputs.specs.ClockConstants.{HasConstants, IsMovedBy, clock_of}
use Rattle.job_programs.specs.FoundUnits.{AreMoved, KeepDts}
use Rattle.job_programs.proofs.KeptDts.{kept_moved}
use Rattle.job_inputs.specs.JobInput.{JobInputView}
use Rattle.job_programs.specs.JobStreams.{TimedStreamView}
use Rattle.job_programs.specs.declared.program_clock.ProgramClock.{ProgramClock}
use Rattle.job_inputs.proofs.ClockConstants.{constants_of}
use Rattle.devices.specs.Devices.{Device}
use Rattle.job_run.specs.declared.job_arguments.Subcommand.{Subcommand}
use Rattle.job_run.specs.declared.job_arguments.Subcommand.TheVariants.{Units}
use Rattle.job_run.specs.JobArguments.{JobArgumentsView}
use Rattle.job_run.specs.Outcomes.{Gives, GivesUnits}
use Rattle.packet_sync.specs.PacketBytes.{packets_in}
use Rattle.job_run.specs.FramePackets.{framed_by}
use Rattle.job_run.specs.Streams.{asked_findings, findings_for, findings_of, in_step, parts_by, references_by}
use Rattle.tsjob_cli.specs.StreamedUnits.{GoesBy, earliest, feed_of, maps_of, marking_by, pids_of, streams_from}
use Rattle.laws_pipe.specs.StreamedUnits.{AreAlike, AreLaterByOne, AreMarkedAlike, TheSameUnits, lone_found, timed_findings}
use Rattle.laws_pipe.proofs.MarkedUnits.{alone_ordered, alone_timed, wire_ordered, wire_timed, alone_alike, wire_alike}
use Rattle.laws_pipe.proofs.PipedRuns.{GivenOf, given_by_run, taken}
use Rattle.es_units.specs.CarriedUnits.{apart_wire_units}

-- 1. The streams of a description, before their first unit

record Described_at (n k : ℕ) (ss : List DescribedStream) (t : FedStreamView) : Type 0 where
  stream : DescribedStream
  at : slice_get ss k ≡ Some stream
  is : t ≡ fed_stream (n + k) stream.pid

shifted : (n k : ℕ) (ss : List DescribedStream) (s : DescribedStream) (t : FedStreamView) → Described_at (n + 1) k ss t → Described_at n (suc k) (s ∷ ss) t
shifted n k ss s t d =
    let same : (n + 1) + k ≡ n + suc k = omega arith in
    record { stream = d.stream; at = d.at; is = d.is ∙ ap (λ (m : ℕ). fed_stream m d.stream.pid) same }

described_at : (n k : ℕ) (ss : List DescribedStream) (t : FedStreamView) → slice_get (streams_from n ss) k ≡ Some t → Described_at n k ss t
unfolding streams_from
described_at n k [] t at = absurd cc
described_at n zero (s ∷ ss) t at =
    let same : n ≡ n + 0 = omega arith in
    let is : fed_stream n s.pid ≡ t = cc in
    record { stream = s; at = refl; is = sym is ∙ ap (λ (m : ℕ). fed_stream m s.pid) same }
described_at n (suc k) (s ∷ ss) t at = shifted n k ss s t (described_at (n + 1) k ss t at)

fed_at : (n k : ℕ) (ss : List DescribedStream) (s : DescribedStream) → slice_get ss k ≡ Some s →
    slice_get (streams_from n ss) k ≡ Some (fed_stream (n + k) s.pid)
unfolding streams_from
fed_at n k [] s at = absurd cc
fed_at n zero (x ∷ ss) s at =
    let same : x ≡ s = cc in
    let number : n ≡ n + 0 = omega arith in
    ap (λ (y : DescribedStream). Some (fed_stream n y.pid)) same ∙ ap (λ (m : ℕ). Some (fed_stream m s.pid)) number
fed_at n (suc k) (x ∷ ss) s at =
    let same : (n + 1) + k ≡ n + suc k = omega arith in
    fed_at (n + 1) k ss s at ∙ ap (λ (m : ℕ). Some (fed_stream m s.pid)) same

count_from : (n : ℕ) (ss : List DescribedStream) → length (streams_from n ss) ≡ length ss
unfolding streams_from
count_from n [] = refl
count_from n (s ∷ ss) = let rest = count_from (n + 1) ss in omega (arith, rest)

streams_apart : (d : Described) (j k : ℕ) (s t : DescribedStream) → IsInRange d → slice_get d.streams j ≡ Some s → slice_get d.streams k ≡ Some t →
    s.pid ≡ t.pid → j ≡ k
streams_apart d j k s t ranges one two same =
    let places = pid_positions d in
    let there = pids_apart d (table_count d + length d.programs + j) (table_count d + length d.programs + k) t.pid ranges
    (places.stream j s one ∙ ap (λ (p : ℕ). Some (Some p)) same) (places.stream k t two) in
    omega (arith, there)

first_streams : (d : Described) → IsInRange d → AreFirst (streams_from 0 d.streams)
first_streams d ranges = record {
  each = λ k s at.
      let x = described_at 0 k d.streams s at in
      let number : 0 + k ≡ k = omega arith in
      x.is ∙ ap (λ (m : ℕ). fed_stream m x.stream.pid) number ∙ ap (λ (p : ℕ). fed_stream k p) (sym (ap (λ (y : FedStreamView). y.units.pid) x.is));
  own = λ j k s t one two same.
      let x = described_at 0 j d.streams s one in
      let y = described_at 0 k d.streams t two in
      streams_apart d j k x.stream y.stream ranges x.at y.at
      (sym (ap (λ (z : FedStreamView). z.units.pid) x.is) ∙ same ∙ ap (λ (z : FedStreamView). z.units.pid) y.is);
  few = let count = count_from 0 d.streams in let most = ranges.most_streams in omega (arith, count, most);
}

-- 2. The records of the feed

-- The records of all bytes, without a fault
record FedBy (w : JobOptionsView) (d : Described) (bytes output : List ℕ) : Type 0 where
  silent : have_fault (fed_of (feed_of w d) (packets_in bytes)) ≡ false
  output_is : output ≡ fed_records (fed_of (feed_of w d) (packets_in bytes))

not_one : (status : ℕ) → status ≡ 0 → status ≡ 1 → ⊥
not_one status good one = omega (arith, good, one)

not_three : (status : ℕ) → status ≡ 0 → status ≡ 3 → ⊥
not_three status good three = omega (arith, good, three)

not_faulty : (faulty : Bool) (status : ℕ) → status ≡ 0 → status ≡ (if faulty then 1 else 0) → faulty ≡ false
not_faulty true status good is = absurd (not_one status good is)
not_faulty false status good is = refl

-- An input that is read to its end has arrived as a whole.
all_came : (before after : Option (List ℕ)) (bytes came : List ℕ) → before ≡ Some bytes → Consumes before after came → IsAtEnd after → came ≡ bytes
all_came None after bytes came known reads ends = absurd cc
all_came (Some xs) None bytes came known reads ends = let no : ⊥ = reads in absurd no
all_came (Some xs) (Some ys) bytes came known reads ends =
    let all : xs ≡ bytes = cc in
    let none : ys ≡ [] = ends in
    let split : xs ≡ came ++ ys = reads in
    sym (append-nil came) ∙ ap (λ (rest : List ℕ). came ++ rest) (sym none) ∙ sym split ∙ all

-- If no fault is reported, the description is of this stream.
at_end : (E : Type 0) (fed : List Fed) → have_fault fed ≡ false → E ⊎ (have_refusal fed ≡ true) → E
at_end E fed none (inl ends) = ends
at_end E fed none (inr refused) = absurd (refusal_reported fed none refused)

ended : (w : JobOptionsView) (d : Described) (bytes output : List ℕ) (stream records faults : Device) → stream.before.bytes ≡ Some bytes →
    records.before.bytes ≡ Some [] → records.after.bytes ≡ Some output →
    EndsStream (feed_of w d) (pids_of d) stream records faults 0 → FedBy w d bytes output
ended w d bytes output stream records faults known empty output_is e =
    let p = e.passes in
    let quiet : e.faulty ≡ false = not_faulty e.faulty 0 refl e.status_is in
    let none : have_fault p.fed ≡ false = no_faults (first_lines (pids_of d)) p.fed (sym p.faulty_is ∙ quiet) in
    let came : p.came ≡ bytes =
    all_came stream.before.bytes stream.after.bytes bytes p.came known p.passes.read (at_end (IsAtEnd stream.after.bytes) p.fed none p.ends) in
    let all : p.fed ≡ fed_of (feed_of w d) (packets_in p.came) = clear_is_fed (feed_of w d) p.came p.fed p.fed_is none in
    record {
      silent = ap (λ (b : List ℕ). have_fault (fed_of (feed_of w d) (packets_in b))) (sym came) ∙ ap have_fault (sym all) ∙ none;
      output_is = sym (taken records.before.bytes records.after.bytes (fed_records p.fed) output empty output_is p.passes.written)
          ∙ ap fed_records all ∙ ap (λ (b : List ℕ). fed_records (fed_of (feed_of w d) (packets_in b))) came;
    }

gone : (w : JobOptionsView) (d : Described) (bytes output : List ℕ) (stream records faults : Device) → stream.before.bytes ≡ Some bytes →
    records.before.bytes ≡ Some [] → records.after.bytes ≡ Some output →
    GoesBy w d stream records faults 0 → FedBy w d bytes output
gone w d bytes output stream records faults known empty output_is (inl (inl e)) = ended w d bytes output stream records faults known empty output_is e
gone w d bytes output stream records faults known empty output_is (inl (inr stops)) = absurd (not_three 0 refl stops.status_is)
gone w d bytes output stream records faults known empty output_is (inr lacks) = absurd (not_three 0 refl lacks.status_is)

-- 3. One stream, in both modes

record Both (d : Described) (input : JobInputView) (k : ℕ) : Type 0 where
  described : DescribedStream
  described_is : slice_get d.streams k ≡ Some described
  timed : TimedStreamView
  timed_is : slice_get input.streams k ≡ Some timed
  pid : described.pid ≡ timed.pid

some_at : {A : Type 0} (xs : List A) (k : ℕ) → k < length xs → (x : A) × (slice_get xs k ≡ Some x)
some_at [] k below = absurd (let no : ⊥ = omega (arith, below) in no)
some_at (x ∷ xs) zero below = (x, refl)
some_at (x ∷ xs) (suc k) below = let less : k < length xs = omega (arith, below) in some_at xs k less

both_at : (a : JobArgumentsView) (w : JobOptionsView) (d : Described) (bytes : List ℕ) (input : JobInputView) (k : ℕ) → AreAlike a w d bytes input →
    k < length d.streams → Both d input k
both_at a w d bytes input k alike below =
    let s = some_at d.streams k below in
    let count : length d.streams ≡ length input.streams =
    sym (length-map d.streams (λ s. s.pid)) ∙ ap (length {A = ℕ}) alike.pids ∙ length-map input.streams (λ t. t.pid) in
    let there : k < length input.streams = omega (arith, below, count) in
    let t = some_at input.streams k there in
    let one : slice_get (map (λ s. s.pid) d.streams) k ≡ Some s.0.pid = slice_get-map (λ s. s.pid) d.streams k ∙ ap (option_map (λ s. s.pid)) s.1 in
    let two : slice_get (map (λ t. t.pid) input.streams) k ≡ Some t.0.pid = slice_get-map (λ t. t.pid) input.streams k ∙ ap (option_map (λ t. t.pid)) t.1 in
    let same : Some s.0.pid ≡ Some t.0.pid = sym one ∙ ap (λ (ps : List ℕ). slice_get ps k) alike.pids ∙ two in
    record { described = s.0; described_is = s.1; timed = t.0; timed_is = t.1; pid = cc }

-- A property of all elements of a list is a property of the element at each place.
at_place : {X : Type 0} (P : X → Type 0) (xs : List X) (i : ℕ) (x : X) → All P xs → slice_get xs i ≡ Some x → P x
at_place P xs i x all at =
    let within = slice_get_within xs i x at in
    let same : get_or xs i x ≡ x = get_or_from_slice_get xs i x x at in
    subst P same (all i x within)

-- 4. Both modes have the same findings of a PID

-- The marks for the whole stream, and for the stream as it arrives
abbrev whole_marking : JobArgumentsView → List ℕ → MarkingView
whole_marking a bytes = marking_of a.options (findings_of (in_step bytes))

abbrev streamed_findings : JobOptionsView → Described → List ℕ → List FindingView
streamed_findings w d bytes = all_marked (marking_by w d) (findings_of (in_step bytes))

marks_of : (a : JobArgumentsView) (w : JobOptionsView) (d : Described) (bytes : List ℕ) (input : JobInputView) (k : ℕ) (t : TimedStreamView) →
    AreAlike a w d bytes input →
    slice_get input.streams k ≡ Some t → AreMarkedAlike (whole_marking a bytes) (marking_by w d) t.pid
marks_of a w d bytes input k t alike at =
    at_place (λ t. AreMarkedAlike (whole_marking a bytes) (marking_by w d) t.pid) input.streams k t alike.marks at

stamps_of : (a : JobArgumentsView) (w : JobOptionsView) (d : Described) (bytes : List ℕ) (input : JobInputView) (k : ℕ) (t : TimedStreamView) →
    AreAlike a w d bytes input →
    slice_get input.streams k ≡ Some t → is_unstamped (seen_in (asked_findings a.options bytes)) t.pid ≡ false
stamps_of a w d bytes input k t alike at =
    at_place (λ t. is_unstamped (seen_in (asked_findings a.options bytes)) t.pid ≡ false) input.streams k t alike.stamped at

ordered_of : (a : JobArgumentsView) (w : JobOptionsView) (d : Described) (bytes : List ℕ) (input : JobInputView) (k : ℕ) (t : TimedStreamView) →
    AreAlike a w d bytes input →
    slice_get input.streams k ≡ Some t → list_any (is_on t.pid) (lone_found a bytes) ≡ false
ordered_of a w d bytes input k t alike at = at_place (λ t. list_any (is_on t.pid) (lone_found a bytes) ≡ false) input.streams k t alike.ordered at

-- If the parts of a recording are not joined and no PES packet is cut, the job takes the requested findings, timed by the clock references; PES packets with
-- stamps that are alone out of order are damaged.
as_found : (a : JobArgumentsView) (bytes : List ℕ) → a.options.joined ≡ false → a.options.frames ≡ None →
    findings_for a.options bytes ≡ map (damaged (lone_found a bytes)) (timed_findings a bytes)
unfolding framed_by references_by parts_by lone_damaged
as_found a bytes unjoined uncut = rw (unjoined, uncut) refl

same_wire : (a : JobArgumentsView) (w : JobOptionsView) (d : Described) (bytes : List ℕ) (input : JobInputView) (k : ℕ) (t : TimedStreamView) →
    AreAlike a w d bytes input →
    slice_get input.streams k ≡ Some t → apart_wire_units t.pid (findings_for a.options bytes) ≡ apart_wire_units t.pid (streamed_findings w d bytes)
same_wire a w d bytes input k t alike at =
    ap (λ (fs : List FindingView). apart_wire_units t.pid fs) (as_found a bytes alike.unjoined alike.uncut)
    ∙ wire_ordered (lone_found a bytes) t.pid (timed_findings a bytes) (ordered_of a w d bytes input k t alike at)
    ∙ wire_timed (references_in (in_step bytes)) t.pid (asked_findings a.options bytes) (stamps_of a w d bytes input k t alike at)
    ∙ wire_alike (whole_marking a bytes) (marking_by w d) t.pid (findings_of (in_step bytes)) (marks_of a w d bytes input k t alike at)

same_alone : (a : JobArgumentsView) (w : JobOptionsView) (d : Described) (bytes : List ℕ) (input : JobInputView) (k : ℕ) (t : TimedStreamView) →
    AreAlike a w d bytes input →
    slice_get input.streams k ≡ Some t → one_by_one t.pid (streamed_findings w d bytes) ≡ true
same_alone a w d bytes input k t alike at =
    sym (alone_alike (whole_marking a bytes) (marking_by w d) t.pid (findings_of (in_step bytes)) (marks_of a w d bytes input k t alike at))
    ∙ sym (alone_timed (references_in (in_step bytes)) t.pid (asked_findings a.options bytes) (stamps_of a w d bytes input k t alike at))
    ∙ sym (alone_ordered (lone_found a bytes) t.pid (timed_findings a bytes) (ordered_of a w d bytes input k t alike at))
    ∙ sym (ap (λ (fs : List FindingView). one_by_one t.pid fs) (as_found a bytes alike.unjoined alike.uncut))
    ∙ at_place (λ t. one_by_one t.pid (findings_for a.options bytes) ≡ true) input.streams k t alike.alone at

-- 5. The constant of its clock moves each unit

with_own : (findings : List FindingView) (base : ℕ) (t : TimedStreamView) → KeepDts t.pid findings → IsMovedBy false findings base t →
    AreMoved (apart_wire_units t.pid findings) base t.units
with_own findings base t keep moved = kept_moved t.pid findings base t.units keep moved

by_one : (a : JobArgumentsView) (w : JobOptionsView) (d : Described) (bytes : List ℕ) (input : JobInputView) (k : ℕ) (t : TimedStreamView)
    (constants : HasConstants a.options (findings_for a.options bytes) input)
    (alike : AreAlike a w d bytes input) → slice_get input.streams k ≡ Some t →
    AreMoved (apart_wire_units t.pid (findings_for a.options bytes)) (constants.constant alike.clock) t.units
by_one a w d bytes input k t constants alike is =
    let findings = findings_for a.options bytes in
    let one = at_place (λ t. IsMovedBy a.options.make_dts findings (constants.constant (clock_of input.programs t)) t) input.streams k t constants.streams is in
    let clock = at_place (λ t. clock_of input.programs t ≡ alike.clock) input.streams k t alike.one_clock is in
    let same = subst (λ (c : ProgramClock). IsMovedBy a.options.make_dts findings (constants.constant c) t) clock one in
    let keep = at_place (λ t. KeepDts t.pid findings) input.streams k t alike.keep is in
    with_own findings (constants.constant alike.clock) t keep
    (subst (λ (made : Bool). IsMovedBy made findings (constants.constant alike.clock) t) alike.own same)

-- 6. The units from the feed are whole, and begin near one another

-- The stream of a job that the feed has as a stream of a description
record JobStream (input : JobInputView) (k pid : ℕ) : Type 0 where
  stream : TimedStreamView
  at : slice_get input.streams k ≡ Some stream
  pid_is : stream.pid ≡ pid

job_stream : (a : JobArgumentsView) (w : JobOptionsView) (d : Described) (bytes : List ℕ) (input : JobInputView) (k : ℕ) (s : FedStreamView) →
    AreAlike a w d bytes input →
    slice_get (streams_from 0 d.streams) k ≡ Some s → JobStream input k s.units.pid
job_stream a w d bytes input k s alike at =
    let x = described_at 0 k d.streams s at in
    let b = both_at a w d bytes input k alike (slice_get_within d.streams k x.stream x.at) in
    let same : b.described ≡ x.stream = same_Some b.described x.stream (sym b.described_is ∙ x.at) in
    record {
      stream = b.timed;
      at = b.timed_is;
      pid_is = sym b.pid ∙ ap (λ (y : DescribedStream). y.pid) same ∙ sym (ap (λ (y : FedStreamView). y.units.pid) x.is);
    }

first_moved : (base : ℕ) (wire us : List AccessUnit) (w : AccessUnit) (ws : List AccessUnit) → us ≡ moved base None wire → wire ≡ w ∷ ws →
    slice_get us 0 ≡ Some (unit_at base None w)
unfolding moved
first_moved base wire us w ws are is = ap (λ (xs : List AccessUnit). slice_get xs 0) (are ∙ ap (λ (xs : List AccessUnit). moved base None xs) is)

near_on_wire : (base apart : ℕ) (u v : AccessUnit) → (unit_at base None u).dts ≤ (unit_at base None v).dts + apart → distance base u.dts ≤ distance base v.dts
    + apart
unfolding unit_at dts_at
near_on_wire base apart u v near = near

whole_streams : (a : JobArgumentsView) (w : JobOptionsView) (d : Described) (bytes : List ℕ) (input : JobInputView)
    (constants : HasConstants a.options (findings_for a.options bytes) input)
    (alike : AreAlike a w d bytes input) →
    AreWhole (constants.constant alike.clock) earliest (streams_from 0 d.streams) (streamed_findings w d bytes)
whole_streams a w d bytes input constants alike =
    let base = constants.constant alike.clock in
    let whole = findings_for a.options bytes in
    let streamed = streamed_findings w d bytes in
    record {
      alone = λ k s at.
          let x = job_stream a w d bytes input k s alike at in
          subst (λ (p : ℕ). one_by_one p streamed ≡ true) x.pid_is (same_alone a w d bytes input k x.stream alike x.at);
      near = λ j k s t at_s at_t u v us vs here there.
          let x = job_stream a w d bytes input j s alike at_s in
          let y = job_stream a w d bytes input k t alike at_t in
          let one = first_moved base (apart_wire_units x.stream.pid whole) x.stream.units u us (by_one a w d bytes input j x.stream constants alike x.at).are
          (same_wire a w d bytes input j x.stream alike x.at ∙ ap (λ (p : ℕ). apart_wire_units p streamed) x.pid_is ∙ here) in
          let other = first_moved base (apart_wire_units y.stream.pid whole) y.stream.units v vs (by_one a w d bytes input k y.stream constants alike y.at).are
          (same_wire a w d bytes input k y.stream alike y.at ∙ ap (λ (p : ℕ). apart_wire_units p streamed) y.pid_is ∙ there) in
          near_on_wire base earliest u v (alike.near j k x.stream y.stream (unit_at base None u) (unit_at base None v) x.at y.at one other);
    }

-- 7. Both modes

alike_units : (a : JobArgumentsView) (w : JobOptionsView) (d : Described) (bytes : List ℕ) (input : JobInputView) (units : List (ℕ × AccessUnit)) →
    HasConstants a.options (findings_for a.options bytes) input →
    IsInRange d → have_fault (fed_of (feed_of w d) (packets_in bytes)) ≡ false → AreMerged (map (λ t. t.units) input.streams) units →
    AreAlike a w d bytes input → AreLaterByOne (length d.streams) (fed_of (feed_of w d) (packets_in bytes)) units
alike_units a w d bytes input units constants ranges silent merged alike =
    let whole = findings_for a.options bytes in
    let streamed = streamed_findings w d bytes in
    let base = constants.constant alike.clock in
    let apart = fed_apart earliest base (marking_by w d) (maps_of d) (streams_from 0 d.streams) (packets_in bytes) (omega arith) (first_streams d ranges) silent
    (whole_streams a w d bytes input constants alike) in
    record {
      here = apart.here;
      there = apart.there;
      are = λ k below.
          let b = both_at a w d bytes input k alike below in
          let t = b.timed in
          let number : 0 + k ≡ k = omega arith in
          let place : slice_get (streams_from 0 d.streams) k ≡ Some (fed_stream k b.described.pid) =
          fed_at 0 k d.streams b.described b.described_is ∙ ap (λ (n : ℕ). Some (fed_stream n b.described.pid)) number in
          let timed : t.units ≡ moved base None (apart_wire_units t.pid whole) = (by_one a w d bytes input k t constants alike b.timed_is).are in
          let wire : apart_wire_units t.pid whole ≡ apart_wire_units b.described.pid streamed =
          same_wire a w d bytes input k t alike b.timed_is ∙ ap (λ (p : ℕ). apart_wire_units p streamed) (sym b.pid) in
          let same : units_of k units ≡ moved base None (apart_wire_units b.described.pid streamed) =
          merged.each k t.units (slice_get-map (λ t. t.units) input.streams k ∙ ap (option_map (λ t. t.units)) b.timed_is)
          ∙ timed ∙ ap (λ (us : List AccessUnit). moved base None us) wire in
          apart.are k (fed_stream k b.described.pid) place ∙ sym (ap (λ (us : List AccessUnit). map (after_time apart.there) us) same);
    }

given_units : (a : JobArgumentsView) (bytes output : List ℕ) (g : GivenOf a bytes output) → a.subcommand ≡ Units → GivesUnits g.input output
given_units a bytes output g units = subst (λ (word : Subcommand). Gives word a.options (findings_for a.options bytes) g.input output) units g.gives

pub the_same_units : TheSameUnits
the_same_units words a v d bytes whole streamed one records job_reports status other passed silent ranges w s =
    let given = given_by_run a bytes whole one records job_reports status w.known w.ends w.empty w.output_is w.some in
    let units = given_units a bytes whole given w.units in
    let fed = gone v d bytes streamed other passed silent s.known s.empty s.output_is s.goes in
    let constants = constants_of a.options (length (in_step bytes) / 188) (findings_for a.options bytes) given.input given.input_is in
    record {
      input = given.input;
      input_is = given.input_is;
      units = units.units;
      merged = units.merged;
      whole_is = units.is;
      fed = fed_of (feed_of v d) (packets_in bytes);
      streamed_is = fed.output_is;
      same = λ alike. alike_units a v d bytes given.input units.units constants ranges fed.silent units.merged alike;
    }
