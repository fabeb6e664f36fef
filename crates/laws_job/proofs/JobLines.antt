-- A job has the lines of its streams, a line for each damaged packet, and a line for each stream that is left out.
use Rattle.std.proofs.Common.{◌≡◌, ◌∙◌, ◌⊎◌, inl, inr, ℕ, zero, suc, ◌==◌, ◌++◌, Bool, true, false, cond, if◌then◌else◌, List, [], ◌∷◌, length, map, filter}
use Rattle.std.proofs.Common.{flat_map, Option, Some, None, Result, Ok, Err, Contains, refl, sym, ap, subst, arith, eq-eqb, ⊎_elim}
use Rattle.std.specs.Prelude.{ok_or, option_to_list, is_some}
use Rattle.std.proofs.lemmas.List.Elements.{Contains-append_left, Contains-append_right}
use Rattle.pid_findings.specs.Views.{WhatView, IsTruncated, IsBadPacket, IsErrored, FindingView}
use Rattle.program_tables.specs.Association.{AssociationView, association}
use Rattle.stream_programs.specs.PidAssignment.{assigned_pids}
use Rattle.stream_programs.specs.Programs.{FoundProgramsView, programs_of}
use Rattle.stream_programs.specs.Streams.{FoundStreamView}
use Rattle.stream_programs.specs.declared.pid_assignment.ProgramPids.{ProgramPids}
use Rattle.es_moments.specs.WireUnits.{CarriedUnit}
use Rattle.es_units.specs.CarriedUnits.{carried_units}
use Rattle.es_units.specs.UnitWarnings.{unit_warnings}
use Rattle.es_units.specs.declared.unit_warning.UnitWarning.{UnitWarning}
use Rattle.job_programs.specs.Answers.{and_then, unless, each}
use Rattle.job_programs.specs.ClockBases.{base0_of}
use Rattle.job_programs.specs.Information.{JobInformationView, information_of}
use Rattle.job_programs.specs.JobOptions.{JobOptionsView}
use Rattle.job_programs.specs.JobPrograms.{JobProgramView, all_program_warnings, job_programs, numbers_named}
use Rattle.job_programs.specs.JobStreams.{TimedStreamView, WireStreamView}
use Rattle.job_programs.specs.JobTables.{JobTableView, reported, is_reported}
use Rattle.job_programs.specs.Packets.{no_packets}
use Rattle.job_programs.specs.Warnings.{packet_warning, packet_warning_of, packet_warnings, pid_warnings}
use Rattle.job_programs.specs.declared.warning.PacketWarning.TheVariants.{Bad, Errored}
use Rattle.job_programs.specs.declared.named_stream.NamedStream.{NamedStream}
use Rattle.job_programs.specs.declared.refusal.JobRefusal.{JobRefusal}
use Rattle.job_programs.specs.declared.refusal.JobRefusal.TheVariants as refusals
use Rattle.job_programs.specs.declared.warning.Warning.{Warning}
use Rattle.job_programs.specs.declared.warning.Warning.TheVariants as warnings
use Rattle.job_programs.specs.Events.{programs_information}
use Rattle.job_programs.proofs.Steps.{granted, comes, same_value}
use Rattle.job_units.specs.declared.declarations.StreamChoice.{StreamChoice}
use Rattle.job_units.specs.BufferWarnings.{buffer_warnings}
use Rattle.job_units.specs.Declarations.{UnitCountsView, too_many, too_long, all_measured, all_unit_counts, choices}
use Rattle.job_units.specs.Moments.{earliest, first_base, firsts, moved_by, moved_stream, moved_streams, with_moments}
use Rattle.job_units.specs.OddStreams.{odd_stream}
use Rattle.job_units.specs.StreamKinds.{named_stream}
use Rattle.job_units.specs.WireStreams.{selected, wire_streams, carried_stream, carried_streams, found_stream, kept_stream, unless_odd, stream_if_any}
use Rattle.job_units.specs.WireStreams.{is_written, made_for, makes_dts, makes_itself, stream_of, with_units, with_stamps, common_id, no_unit_warning}
use Rattle.job_units.specs.WireStreams.{why_not_carried, left_out_for, warnings_by, left_out_warnings, all_left_out_warnings, why_no_unit, without_unit}
use Rattle.job_inputs.specs.JobInput.{JobInputView, job_input, with_association, with_programs, with_pids, with_found, with_streams, with_moved}
use Rattle.job_inputs.specs.JobInput.{with_unit_counts, change_warnings, table_warnings, stream_warnings, job_warnings}
use Rattle.job_inputs.specs.JobInput.{named_of, tables_of}
use Rattle.job_inputs.specs.LackingPrograms.{stream_refusal}
use Rattle.laws_job.specs.JobLines.{is_about, IsNamed, pids_of, JobLinesLaw}

-- 1. Elements of lists

cons_has : {X : Type 0} (x : X) (xs : List X) (y : X) → Contains xs y → Contains (x ∷ xs) y
cons_has x xs y (k, lt, e) = (suc k, omega (arith, lt), e)

flat_has : {X Y : Type 0} (f : X → List Y) (xs : List X) (x : X) (y : Y) → Contains xs x → Contains (f x) y → Contains (flat_map f xs) y
flat_has f [] x y (k, lt, e) at = absurd (omega (arith, lt))
flat_has f (z ∷ zs) x y (zero, lt, e) at =
    Contains-append_left (f z) (flat_map f zs) y (subst (λ v. Contains (f v) y) (sym e) at)
flat_has f (z ∷ zs) x y (suc k, lt, e) at =
    Contains-append_right (f z) (flat_map f zs) y (flat_has f zs x y (k, omega (arith, lt), e) at)

map_has : {X Y : Type 0} (f : X → Y) (xs : List X) (x : X) → Contains xs x → Contains (map f xs) (f x)
map_has f [] x (k, lt, e) = absurd (omega (arith, lt))
map_has f (z ∷ zs) x (zero, lt, e) = (zero, omega arith, ap f e)
map_has f (z ∷ zs) x (suc k, lt, e) = cons_has (f z) (map f zs) (f x) (map_has f zs x (k, omega (arith, lt), e))

first_kept : {X : Type 0} (b : Bool) (x : X) (xs : List X) (y : X) → b ≡ true → x ≡ y → Contains (cond b (x ∷ xs) xs) y
first_kept true x xs y keeps same = (zero, omega arith, same)
first_kept false x xs y keeps same = absurd (cc)

later_kept : {X : Type 0} (b : Bool) (x : X) (xs : List X) (y : X) → Contains xs y → Contains (cond b (x ∷ xs) xs) y
later_kept true x xs y at = cons_has x xs y at
later_kept false x xs y at = at

filter_has : {X : Type 0} (p : X → Bool) (xs : List X) (x : X) → p x ≡ true → Contains xs x → Contains (filter p xs) x
filter_has p [] x keeps (k, lt, e) = absurd (omega (arith, lt))
filter_has p (z ∷ zs) x keeps (zero, lt, e) = first_kept (p z) z (filter p zs) x (ap p e ∙ keeps) e
filter_has p (z ∷ zs) x keeps (suc k, lt, e) = later_kept (p z) z (filter p zs) x (filter_has p zs x keeps (k, omega (arith, lt), e))

-- A list made from each element's number is made from the numbers alone.
flat_of : {X Y : Type 0} (g : ℕ → List Y) (p : X → ℕ) (xs : List X) → flat_map (λ x. g (p x)) xs ≡ flat_map g (map p xs)
flat_of g p [] = refl
flat_of g p (x ∷ xs) = ap (λ ys. g (p x) ++ ys) (flat_of g p xs)

-- 2. The PIDs of streams stay the same

moved_pid : (findings : List FindingView) (base : ℕ) (s : WireStreamView) (t : TimedStreamView) → moved_stream findings base s ≡ Ok t → t.pid ≡ s.pid
unfolding moved_stream with_moments
moved_pid findings base s t is =
    sym (ap (λ (x : TimedStreamView). x.pid) (same_value (with_moments base s) t (granted _ (Ok (with_moments base s)) t is)))

all_pids : (f : WireStreamView → Result TimedStreamView JobRefusal) → ((s : WireStreamView) (t : TimedStreamView) → f s ≡ Ok t → t.pid ≡ s.pid) →
    (ss : List WireStreamView) (ts : List TimedStreamView) → each f ss ≡ Ok ts → map (λ t. t.pid) ts ≡ map (λ s. s.pid) ss
unfolding each
all_pids f keeps [] ts is = ap (map (λ t. t.pid)) (sym (same_value [] ts is))
all_pids f keeps (s ∷ ss) ts is =
    let first = comes (λ y. and_then (λ ys. Ok (y ∷ ys)) (each f ss)) (f s) ts is in
    let rest = comes (λ ys. Ok (first.value ∷ ys)) (each f ss) ts first.last_is in
    let here : first.value.pid ≡ s.pid = keeps s first.value first.first_is in
    let more : map (λ t. t.pid) rest.value ≡ map (λ x. x.pid) ss = all_pids f keeps ss rest.value rest.first_is in
    ap (map (λ t. t.pid)) (sym (same_value (first.value ∷ rest.value) ts rest.last_is)) ∙ rw (here, more) refl

moved_pids : (findings : List FindingView) (due : ℕ) (programs : List JobProgramView) (ss : List WireStreamView) (ts : List TimedStreamView) →
    moved_streams findings due programs ss ≡ Ok ts → map (λ t. t.pid) ts ≡ map (λ s. s.pid) ss
unfolding moved_streams moved_by
moved_pids findings due programs ss ts is =
    all_pids (moved_by findings due programs (firsts programs ss)) (λ s t. moved_pid findings _ s t) ss ts is

-- 3. A stream is carried, or a line names it

record IsKept (pid : ℕ) (ws : List WireStreamView) : Type 0 where
  stream : WireStreamView
  among : Contains ws stream
  pid_is : stream.pid ≡ pid

named_first : (pid : ℕ) (line : Warning) (more : List Warning) → is_about pid line ≡ true → IsNamed pid (line ∷ more)
named_first pid line more is = record { line = line; among = (zero, omega arith, refl); about = is }

about_none : (s : NamedStream) (why : Option JobRefusal) → is_about s.pid (without_unit s why) ≡ true
unfolding is_about without_unit
about_none s None = eq-eqb s.pid s.pid refl
about_none s (Some why) = eq-eqb s.pid s.pid refl

why_named : (count : ℕ) (findings : List FindingView) (s : NamedStream) (us : List CarriedUnit) → IsNamed s.pid (why_not_carried count findings s us)
unfolding why_not_carried is_about
why_named count findings s [] =
    named_first s.pid (no_unit_warning s (unit_warnings s.pid count findings)) (pid_warnings count findings s.pid)
    (about_none s (why_no_unit s.pid (unit_warnings s.pid count findings)))
why_named count findings s (u ∷ us) = named_first s.pid (warnings.StreamId s u.packet u.stream_id) [] (eq-eqb s.pid s.pid refl)

wire_pid : (made : Bool) (cs : List CarriedUnit) (s : FoundStreamView) (w : WireStreamView) → stream_of made s cs ≡ Ok w → w.pid ≡ s.pid
unfolding stream_of with_units
wire_pid made cs s w is =
    let id = comes (λ id. and_then (λ us. Ok (with_units s id us)) (with_stamps made s.pid cs)) (common_id s.pid _ cs) w is in
    let us = comes (λ us. Ok (with_units s id.value us)) (with_stamps made s.pid cs) w id.last_is in
    sym (ap (λ (x : WireStreamView). x.pid) (same_value (with_units s id.value us.value) w us.last_is))

some_pid : (made : Bool) (cs : List CarriedUnit) (s : FoundStreamView) (w : WireStreamView) (can : Bool) →
    (if can then and_then (λ v. Ok (Some v)) (stream_of made s cs) else Ok None) ≡ Ok (Some w) → w.pid ≡ s.pid
some_pid made cs s w false is = absurd (cc)
some_pid made cs s w true is =
    let there = comes (λ v. Ok (Some v)) (stream_of made s cs) (Some w) is in
    let last : Some there.value ≡ Some w = same_value (Some there.value) (Some w) there.last_is in
    let same : there.value ≡ w = cc in
    ap (λ (x : WireStreamView). x.pid) (sym same) ∙ wire_pid made cs s there.value there.first_is

by_odd : (s : NamedStream) (w : WireStreamView) (odd : Option JobRefusal) → w.pid ≡ s.pid →
    IsKept s.pid (option_to_list (unless_odd odd w)) ⊎ IsNamed s.pid (left_out_for s odd)
unfolding unless_odd left_out_for is_about
by_odd s w None same = inl (record { stream = w; among = (zero, omega arith, refl); pid_is = same })
by_odd s w (Some why) same = inr (named_first s.pid (warnings.LeftOut s why) [] (eq-eqb s.pid s.pid refl))

after_made : (pid : ℕ) (made : Bool) (lines : List Warning) → IsNamed pid lines → IsNamed pid (made_for pid made ++ lines)
unfolding made_for
after_made pid made lines named = record {
  line = named.line;
  among = Contains-append_right (made_for pid made) lines named.line named.among;
  about = named.about;
}

by_result : (options : JobOptionsView) (count : ℕ) (findings : List FindingView) (s : FoundStreamView) (r : Result (Option WireStreamView) JobRefusal) →
    ((w : WireStreamView) → r ≡ Ok (Some w) → w.pid ≡ s.pid) →
    IsKept s.pid (option_to_list (kept_stream options findings r)) ⊎ IsNamed s.pid (warnings_by options count findings s r)
unfolding kept_stream warnings_by left_out_for is_about
by_result options count findings s (Err why) keeps = inr (named_first s.pid (warnings.LeftOut (named_stream s) why) [] (eq-eqb s.pid s.pid refl))
by_result options count findings s (Ok None) keeps = inr (why_named count findings (named_stream s) (carried_units s.pid findings))
by_result options count findings s (Ok (Some w)) keeps =
    ⊎_elim (λ kept. inl kept)
    (λ named. inr
    (after_made s.pid (makes_itself options (carried_units s.pid findings)) (left_out_for (named_stream s) (odd_stream options findings w)) named))
    (by_odd (named_stream s) w (odd_stream options findings w) (keeps w refl))

one_stream : (options : JobOptionsView) (count : ℕ) (findings : List FindingView) (s : FoundStreamView) →
    IsKept s.pid (carried_stream options findings s) ⊎ IsNamed s.pid (left_out_warnings options count findings s)
unfolding carried_stream left_out_warnings found_stream stream_if_any
one_stream options count findings s =
    let cs = carried_units s.pid findings in
    by_result options count findings s (if is_written s cs then and_then (λ v. Ok (Some v)) (stream_of (makes_dts options cs) s cs) else Ok None)
    (λ w is. some_pid (makes_dts options cs) cs s w (is_written s cs) is)

each_stream : (options : JobOptionsView) (count : ℕ) (findings : List FindingView) (ss : List FoundStreamView) (s : FoundStreamView) → Contains ss s →
    Contains (map (λ w. w.pid) (carried_streams options findings ss)) s.pid ⊎ IsNamed s.pid (flat_map (left_out_warnings options count findings) ss)
each_stream options count findings ss s at =
    ⊎_elim
    (λ kept. inl (subst (λ (pid : ℕ). Contains (map (λ w. w.pid) (carried_streams options findings ss)) pid) kept.pid_is
    (map_has (λ w. w.pid) (carried_streams options findings ss) kept.stream
    (flat_has (carried_stream options findings) ss s kept.stream at kept.among))))
    (λ named. inr (record {
      line = named.line;
      among = flat_has (left_out_warnings options count findings) ss s named.line at named.among;
      about = named.about;
    }))
    (one_stream options count findings s)

-- 4. The parts of a job

record Made (all : List Warning) (streams : List TimedStreamView) (input : JobInputView) : Type 0 where
  more : List Warning
  warnings_are : input.warnings ≡ all ++ more
  streams_are : input.streams ≡ streams

made : (options : JobOptionsView) (information : JobInformationView) (base : ℕ) (programs : List JobProgramView) (tables : List JobTableView)
    (all_warnings : List Warning) (streams : List TimedStreamView) (input : JobInputView) →
    with_moved options information base programs tables all_warnings streams ≡ Ok input → Made all_warnings streams input
unfolding with_moved with_unit_counts
made options information base programs tables all_warnings streams input is =
    let finish = λ (all : List UnitCountsView) (chosen : List StreamChoice). (let i : JobInputView = record {
      information = information;
      base0 = base;
      programs = programs;
      streams = streams;
      unit_counts = all;
      choices = chosen;
      tables = tables;
      warnings = all_warnings ++ buffer_warnings options.buffers (all_measured streams) all chosen;
    } in i) in
    let counted = granted (too_long streams) (with_unit_counts options finish streams) input
    (granted (too_many (length programs) (length streams)) (unless (too_long streams) (with_unit_counts options finish streams)) input is) in
    let all = comes (λ all. and_then (λ chosen. Ok (finish all chosen)) (choices options.declare_by options.lead (all_measured streams) all))
    (all_unit_counts options.buffers (all_measured streams)) input counted in
    let chosen = comes (λ chosen. Ok (finish all.value chosen)) (choices options.declare_by options.lead (all_measured streams) all.value) input all.last_is in
    let same : finish all.value chosen.value ≡ input = same_value (finish all.value chosen.value) input chosen.last_is in
    subst (Made all_warnings streams) {x = finish all.value chosen.value} same (record {
      more = buffer_warnings options.buffers (all_measured streams) all.value chosen.value;
      warnings_are = refl;
      streams_are = refl;
    })

ok_value : (o : Option AssociationView) (why : JobRefusal) (a : AssociationView) → ok_or o why ≡ Ok a → o ≡ Some a
ok_value None why a is = absurd (cc)
ok_value (Some b) why a is = let same : b ≡ a = same_value b a is in ap Some same

record Lined (options : JobOptionsView) (count : ℕ) (findings : List FindingView) (input : JobInputView) : Type 0 where
  association_is : AssociationView
  in_force : association findings ≡ Some association_is
  assigned : List ProgramPids
  tables : List JobTableView
  pids : pids_of input ≡ map (λ s. s.pid) (wire_streams options findings (programs_of (named_of options association_is) findings).streams)
  lines : (w : Warning) → is_reported tables w ≡ true →
      Contains (job_warnings options count findings association_is (named_of options association_is) (programs_of (named_of options association_is) findings)
      assigned (wire_streams options findings (programs_of (named_of options association_is) findings).streams)) w → Contains input.warnings w

lined : (options : JobOptionsView) (count : ℕ) (findings : List FindingView) (input : JobInputView) → job_input options count findings ≡ Ok input →
    Lined options count findings input
unfolding job_input with_association with_programs with_pids with_found with_streams
lined options count findings input is =
    let associated = comes (with_association options count findings) (ok_or (association findings) refusals.NoAssociation) input
    (granted (no_packets count findings) (and_then (with_association options count findings) (ok_or (association findings) refusals.NoAssociation)) input is) in
    let a = associated.value in
    let found = programs_of (named_of options a) findings in
    let assigned = comes (with_pids options count findings a (named_of options a) found) (ok_or (assigned_pids found) refusals.Pids) input
    (granted (if length found.programs == 0 then Some (refusals.NoProgram (numbers_named a.programs)) else None)
    (and_then (with_pids options count findings a (named_of options a) found) (ok_or (assigned_pids found) refusals.Pids)) input associated.last_is) in
    let streams = wire_streams options findings found.streams in
    let programs = job_programs streams found.programs assigned.value in
    let tables = tables_of options count findings found assigned.value streams in
    let all = job_warnings options count findings a (named_of options a) found assigned.value streams in
    let information = information_of options a.transport_stream_id findings programs in
    let due = earliest programs tables streams in
    let base = base0_of options.base (first_base due programs streams) in
    let timed = comes (with_moved options information base programs tables (reported tables all)) (moved_streams findings due programs streams) input
    (granted (stream_refusal options.strict options.lenient (reported tables all) streams)
    (and_then (with_moved options information base programs tables (reported tables all)) (moved_streams findings due programs streams))
    input assigned.last_is) in
    let done = made options information base programs tables (reported tables all) timed.value input timed.last_is in
    record {
      association_is = a;
      in_force = ok_value (association findings) refusals.NoAssociation a associated.first_is;
      assigned = assigned.value;
      tables = tables;
      pids = ap (λ (ts : List TimedStreamView). map (λ t. t.pid) ts) done.streams_are ∙ moved_pids findings due programs streams timed.value timed.first_is;
      lines = λ w keeps at. subst (λ (ws : List Warning). Contains ws w) (sym done.warnings_are)
          (Contains-append_left (reported tables all) done.more w (filter_has (is_reported tables) all w keeps at));
    }

-- 5. The lines of a job

packets_in : (options : JobOptionsView) (count : ℕ) (findings : List FindingView) (a : AssociationView) (named : _) (found : FoundProgramsView)
    (assigned : List ProgramPids) (streams : List WireStreamView) (w : Warning) → Contains (packet_warnings findings) w →
    Contains (job_warnings options count findings a named found assigned streams) w
unfolding job_warnings stream_warnings table_warnings change_warnings
packets_in options count findings a named found assigned streams w at =
    let changes : Contains (change_warnings options a named findings) w =
    Contains-append_left _ _ w (Contains-append_left _ _ w (Contains-append_left (packet_warnings findings) _ w at)) in
    let of_tables : Contains (table_warnings options a named findings found) w =
    Contains-append_left _ _ w (Contains-append_left _ _ w (Contains-append_left _ _ w
    (Contains-append_left (change_warnings options a named findings) _ w changes))) in
    let of_streams : Contains (stream_warnings options count findings a named found) w =
    Contains-append_left (table_warnings options a named findings found) _ w of_tables in
    Contains-append_left _ _ w (Contains-append_left _ _ w (Contains-append_left (stream_warnings options count findings a named found) _ w of_streams))

left_out_in : (options : JobOptionsView) (count : ℕ) (findings : List FindingView) (a : AssociationView) (named : _) (found : FoundProgramsView)
    (assigned : List ProgramPids) (streams : List WireStreamView) (w : Warning) → Contains (all_left_out_warnings options count findings found.streams) w →
    Contains (job_warnings options count findings a named found assigned streams) w
unfolding job_warnings stream_warnings
left_out_in options count findings a named found assigned streams w at =
    let of_streams : Contains (stream_warnings options count findings a named found) w =
    Contains-append_right (table_warnings options a named findings found) _ w at in
    Contains-append_left _ _ w (Contains-append_left _ _ w (Contains-append_left (stream_warnings options count findings a named found) _ w of_streams))

units_in : (options : JobOptionsView) (count : ℕ) (findings : List FindingView) (a : AssociationView) (named : _) (found : FoundProgramsView)
    (assigned : List ProgramPids) (streams : List WireStreamView) (w : Warning) → Contains (flat_map (λ s. pid_warnings count findings s.pid) streams) w →
    Contains (job_warnings options count findings a named found assigned streams) w
unfolding job_warnings
units_in options count findings a named found assigned streams w at =
    let before = stream_warnings options count findings a named found ++ all_program_warnings streams found.programs assigned in
    let units = flat_map (λ s. pid_warnings count findings s.pid) streams in
    Contains-append_left (before ++ units) (programs_information findings (job_programs streams found.programs assigned)) w
    (Contains-append_right before units w at)

unit_line : (pid count : ℕ) (findings : List FindingView) (streams : List WireStreamView) (w : UnitWarning) → Contains (map (λ s. s.pid) streams) pid →
    Contains (unit_warnings pid count findings) w → Contains (flat_map (λ s. pid_warnings count findings s.pid) streams) (warnings.Units pid w)
unfolding pid_warnings
unit_line pid count findings streams w on at =
    subst (λ (ws : List Warning). Contains ws (warnings.Units pid w)) (sym (flat_of (pid_warnings count findings) (λ s. s.pid) streams))
    (flat_has (pid_warnings count findings) (map (λ s. s.pid) streams) pid (warnings.Units pid w) on
    (map_has (warnings.Units pid) (unit_warnings pid count findings) w at))

-- The carried tables remove none of these lines.
reported_alone : (tables : List JobTableView) (line w : Warning) → is_reported tables line ≡ true → Contains (line ∷ []) w → is_reported tables w ≡ true
reported_alone tables line w keeps (zero, lt, e) = subst (λ (x : Warning). is_reported tables x ≡ true) e keeps
reported_alone tables line w keeps (suc k, lt, e) = absurd (omega (arith, lt))

reported_none : (tables : List JobTableView) (w : Warning) → Contains [] w → is_reported tables w ≡ true
reported_none tables w (k, lt, e) = absurd (omega (arith, lt))

what_reported : (tables : List JobTableView) (packet : ℕ) (what : WhatView) (w : Warning) → Contains (packet_warning_of packet what) w →
    is_reported tables w ≡ true
unfolding packet_warning_of is_reported
what_reported tables packet (IsBadPacket error) w at = reported_alone tables (warnings.Packet packet Bad) w refl at
what_reported tables packet IsErrored w at = reported_alone tables (warnings.Packet packet Errored) w refl at
what_reported tables packet (IsTruncated bytes) w at = reported_alone tables (warnings.TrailingBytes (length bytes)) w refl at
what_reported tables packet _ w at = reported_none tables w at

if_reported : (tables : List JobTableView) (some : Bool) (packet : ℕ) (what : WhatView) (w : Warning) →
    Contains (if some then [] else packet_warning_of packet what) w → is_reported tables w ≡ true
if_reported tables true packet what w at = reported_none tables w at
if_reported tables false packet what w at = what_reported tables packet what w at

packet_reported : (tables : List JobTableView) (f : FindingView) (w : Warning) → Contains (packet_warning f) w → is_reported tables w ≡ true
unfolding packet_warning
packet_reported tables f w at = if_reported tables (is_some f.pid) f.packet f.what w at

about_reported : (tables : List JobTableView) (pid : ℕ) (w : Warning) → is_about pid w ≡ true → is_reported tables w ≡ true
unfolding is_about is_reported
about_reported tables pid (warnings.Table omission) is = absurd (cc)
about_reported tables pid _ is = refl

units_reported : (tables : List JobTableView) (pid : ℕ) (w : UnitWarning) → is_reported tables (warnings.Units pid w) ≡ true
unfolding is_reported
units_reported tables pid w = refl

-- 6. All lines

pub says_all : JobLinesLaw
says_all options count findings input is =
    let all = lined options count findings input is in
    let a = all.association_is in
    let found = programs_of (named_of options a) findings in
    let streams = wire_streams options findings found.streams in
    record {
      units = λ pid w on at. all.lines (warnings.Units pid w) (units_reported all.tables pid w)
          (units_in options count findings a (named_of options a) found all.assigned streams (warnings.Units pid w)
          (unit_line pid count findings streams w (subst (λ (pids : List ℕ). Contains pids pid) all.pids on) at));
      packets = λ f w on at. all.lines w (packet_reported all.tables f w at)
          (packets_in options count findings a (named_of options a) found all.assigned streams w (flat_has packet_warning findings f w on at));
      named_by = a;
      in_force = all.in_force;
      streams = λ s at. ⊎_elim (λ kept. inl (subst (λ (pids : List ℕ). Contains pids s.pid) (sym all.pids) kept))
          (λ named. inr (record {
            line = named.line;
            among = all.lines named.line (about_reported all.tables s.pid named.line named.about)
                (left_out_in options count findings a (named_of options a) found all.assigned streams named.line named.among);
            about = named.about;
          }))
          (each_stream options count findings (selected options.without found.streams) s at);
    }
