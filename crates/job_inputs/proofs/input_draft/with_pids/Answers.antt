use Rattle.std.proofs.Common.{map, ◌≡◌, ◌++◌, ◌∙◌, ap, List, rules}
use Rattle.std.specs.Prelude.{flat_map}
use Rattle.pid_findings.specs.Shown.{finding_view}
use Rattle.job_inputs.specs.InputDrafts.{finished}
use Rattle.program_tables.specs.Association.{AssociationView}
use Rattle.stream_programs.specs.Programs.{FoundProgramsView}
use Rattle.job_programs.specs.Events.{programs_information}
use Rattle.job_programs.specs.JobOptions.{JobOptionsView}
use Rattle.job_programs.specs.JobPrograms.{JobProgramView, job_programs, all_program_warnings}
use Rattle.job_inputs.specs.JobInput.{with_streams}
use Rattle.job_programs.specs.Warnings.{pid_warnings}
use Rattle.job_units.specs.WireStreams.{wire_streams, all_left_out_warnings}
use Rattle.job_programs.specs.JobTables.{job_tables, reported}
use Rattle.job_programs.specs.JobStreams.{WireStreamView}
use Rattle.job_inputs.proofs.JobInputs.{all_warnings, in_pids}
use Rattle.job_inputs.proofs.input_draft.with_pids.Goals as goal
use Rattle.job_programs.specs.Answers.{Leads}

pub returns-clause-value : goal.returns-clause-value
returns-clause-value c =
    let options = c.args.options.now in
    let findings = map finding_view c.args.findings.now in
    let streams = c.in_ok-streams.streams.items in
    let are : wire_streams options findings c.args.found.streams ≡ streams = search rules in
    let empties : c.wire_streams.new.warnings.items ≡ c.in_ok-warnings.warnings.items
    ++ all_left_out_warnings options c.args.count findings c.args.found.streams = search rules in
    let programs : c.job_programs.new.warnings.items ≡ c.wire_streams.new.warnings.items
    ++ all_program_warnings streams c.args.found.programs c.args.assigned.items = search rules in
    let pids : c.push_stream_warnings.new.warnings.items ≡ c.job_programs.new.warnings.items
    ++ flat_map (λ s. pid_warnings c.args.count findings s.pid) streams =
    c.in_ok-push_stream_warnings.ensures
    ∙ ap (λ (all : List WireStreamView). c.job_programs.new.warnings.items ++ flat_map (λ s. pid_warnings c.args.count findings s.pid) all)
    c.deref-2.ensures.value in
    let named = ap (λ (f : FoundProgramsView). f.programs) c.found.view_is in
    let made : c.in_ok-programs.programs.items ≡ job_programs streams c.args.found.programs c.args.assigned.items =
    search (rules, c.in_ok-programs.ensures.programs, c.deref.ensures.value, named) in
    let texts : c.push_information_warnings.new.warnings.items ≡ c.push_stream_warnings.new.warnings.items
    ++ programs_information findings (job_programs streams c.args.found.programs c.args.assigned.items) =
    c.in_ok-push_information_warnings.ensures
    ∙ ap (λ (ps : List JobProgramView). c.push_stream_warnings.new.warnings.items ++ programs_information findings ps) (c.deref-3.ensures.value ∙ made) in
    let tables : c.in_ok-tables.tables.items ≡ job_tables options.without c.args.count findings c.in_ok-programs.programs.items streams c.args.found.tables =
    search (rules, c.in_ok-tables.ensures) in
    let left : c.reported-reported.result.items ≡ reported c.in_ok-tables.tables.items c.push_information_warnings.new.warnings.items =
    search (rules, c.reported-reported.ensures) in
    let id = ap (λ (a : AssociationView). a.transport_stream_id) c.association.view_is in
    let value : Leads
    (with_streams options findings c.args.association.now.transport_stream_id c.in_ok-programs.programs.items c.in_ok-tables.tables.items
    c.reported-reported.result.items streams) (finished options findings) c.with_streams.result =
    search (rules, c.with_streams.ensures.value, id) in
    let warnings = all_warnings options c.args.count findings c.args.association.now c.args.named.now c.args.found c.args.assigned.items streams
    c.in_ok-warnings.warnings.items c.wire_streams.new.warnings.items c.job_programs.new.warnings.items c.push_stream_warnings.new.warnings.items
    c.push_information_warnings.new.warnings.items
    c.in_ok-warnings.ensures empties programs pids texts in
    in_pids options c.args.count findings c.args.association.now c.args.named.now c.args.found c.args.assigned.items streams
    c.in_ok-programs.programs.items c.in_ok-tables.tables.items c.push_information_warnings.new.warnings.items c.reported-reported.result.items
    (finished options findings)
    c.with_streams.result
    are made tables warnings left value
