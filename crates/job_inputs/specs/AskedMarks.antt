-- The marks that the options of a job ask for.
use Rattle.std.specs.Prelude.{◌≡◌, Bool, false, if◌then◌else◌, List, [], map, Option, Some, None}
use Rattle.pid_findings.specs.Views.{FindingView}
use Rattle.program_tables.specs.Association.{AssociationView, association}
use Rattle.stream_programs.specs.Programs.{programs_of}
use Rattle.stream_programs.specs.Streams.{FoundStreamView}
use Rattle.es_units.specs.Marking.{MarkingView, all_marked}
use Rattle.es_units.specs.declared.marking.TypedPid.{TypedPid}
use Rattle.job_inputs.specs.JobInput.{named_of}
use Rattle.job_programs.specs.JobOptions.{JobOptionsView}

abbrev pub typed_pid : FoundStreamView → TypedPid
typed_pid s = record { pid = s.pid; stream_type = s.stream_type }

-- the streams of the selected programs, with the stream_types that the job declares for them
unfoldable pub types_by : JobOptionsView → List FindingView → Option AssociationView → List TypedPid
types_by options findings None = []
types_by options findings (Some a) = map typed_pid (programs_of (named_of options a) findings).streams

unfoldable pub marking_of : JobOptionsView → List FindingView → MarkingView
marking_of options findings = record {
  access = if options.mark_access then types_by options findings (association findings) else [];
  aligned = options.aligned;
}

-- the findings with the marks that are asked for, from which a job is made
abbrev pub as_asked : JobOptionsView → List FindingView → List FindingView
as_asked options findings = all_marked (marking_of options findings) findings

-- if no mark is asked for, the findings stay the same
abbrev pub NoneIsAsked : Type 0
NoneIsAsked = (options : JobOptionsView) (findings : List FindingView) → options.mark_access ≡ false → options.aligned ≡ [] →
    as_asked options findings ≡ findings
