-- Programs, one after another.
use Rattle.std.proofs.Common.{◌≡◌, ◌≤◌, ◌<◌, ℕ, ◌+◌, List, [], length, drop, get_or, refl, add-one}
use Rattle.std.proofs.Math.Seq.{drop-cons}
use Rattle.std.proofs.lemmas.List.{drop_all}
use Rattle.psi_tables.specs.declared.pat.programs.Program.{Program}
use Rattle.pid_findings.specs.Views.{FindingView}
use Rattle.program_tables.specs.ProgramMaps.{program_map}
use Rattle.stream_programs.specs.declared.omission.TableOmission.{TableOmission}
use Rattle.stream_programs.specs.Streams.{FoundStreamView}
use Rattle.stream_programs.specs.Programs.{FoundProgramView, FoundProgramsView, nothing, with_program_by, with_programs}

pub programs_more : (found after : FoundProgramsView) (i : ℕ) (ps : List Program) (d : Program) (fs : List FindingView) → i < length ps →
    after ≡ with_program_by found (get_or ps i d) (program_map (get_or ps i d) fs) →
    with_programs found (drop i ps) fs ≡ with_programs after (drop (i + 1) ps) fs
unfolding with_programs
programs_more found after i ps d fs below made = rw (drop-cons ps i d below, made, add-one i) refl

pub programs_end : (found : FoundProgramsView) (i : ℕ) (ps : List Program) (fs : List FindingView) → length ps ≤ i → with_programs found (drop i ps) fs ≡ found
unfolding with_programs
programs_end found i ps fs over = rw (drop_all i ps over) refl

-- Empty lists are nothing gathered.

abbrev pub gathered : List FoundProgramView → List FoundStreamView → List FoundStreamView → List TableOmission → FoundProgramsView
gathered programs streams tables left_out = record { programs = programs; streams = streams; tables = tables; left_out = left_out }

pub nothing_yet : (programs : List FoundProgramView) (streams tables : List FoundStreamView) (left_out : List TableOmission) → programs ≡ [] → streams ≡ [] →
    tables ≡ [] → left_out ≡ [] → gathered programs streams tables left_out ≡ nothing
nothing_yet programs streams tables left_out a b c d = rw (a, b, c, d) refl
