-- The description of a job is read with the buffers that were chosen for its streams.
use Rattle.std.proofs.Common.{◌≡◌, ℕ, List, ◌++◌, zip, flat_map, Ok, sym, ap, ◌∙◌}
use Rattle.std.proofs.lemmas.List.Folds.{flat_map-map}
use Rattle.toml.specs.Parse.{parse_document}
use Rattle.description.specs.Reading.{description_of}
use Rattle.job_text.specs.Laws.{TextsAreRead}
use Rattle.job_text.specs.Texts.{event_text, heading_text, network_if_any, program_text, stream_text, table_text}
use Rattle.job_inputs.specs.JobInput.{JobInputView}
use Rattle.job_programs.specs.JobOptions.{JobOptionsView}
use Rattle.job_programs.specs.JobTables.{table_part, tables_text}
use Rattle.stream_jobs.specs.SharedClocks.{sharing}
use Rattle.stream_jobs.specs.Texts.{description_text, heading_of, program_part, programs_text, stream_part, streams_text}
use Rattle.laws_job.specs.DeclaredBuffers.{DeclaredLaw, program_parts, stream_parts, table_parts}
use Rattle.laws_job.proofs.TextsDescribed.{texts_are_described}
use Rattle.job_programs.specs.Events.{events_text}

-- The text of a description, made of its parts
abbrev text_of_parts : JobOptionsView → JobInputView → ℕ → List ℕ
text_of_parts options input rate =
    heading_text (heading_of (sharing options.clock input) input rate)
    ++ (flat_map event_text input.information.events
    ++ (network_if_any input.information.network
    ++ (flat_map program_text (program_parts options input)
    ++ (flat_map stream_text (stream_parts input) ++ flat_map table_text (table_parts input)))))

by_parts : (options : JobOptionsView) (input : JobInputView) (rate : ℕ) → description_text options input rate ≡ text_of_parts options input rate
unfolding description_text
by_parts options input rate =
    let front : List ℕ → List ℕ = λ x. heading_text (heading_of (sharing options.clock input) input rate)
    ++ (flat_map event_text input.information.events ++ (network_if_any input.information.network ++ x)) in
    let programs : programs_text options.pcr_limit (sharing options.clock input) input.programs input.information.services ≡ flat_map program_text (program_parts options input) =
    sym (flat_map-map program_text (program_part options.pcr_limit (sharing options.clock input)) (zip input.programs input.information.services)) in
    let streams : streams_text input.streams input.unit_counts input.choices ≡ flat_map stream_text (stream_parts input) =
    sym (flat_map-map stream_text stream_part (zip input.streams (zip input.unit_counts input.choices))) in
    let tables : tables_text input.streams input.tables ≡ flat_map table_text (table_parts input) =
    sym (flat_map-map table_text (table_part input.streams) input.tables) in
    ap (λ (x : List ℕ). front (x ++ (streams_text input.streams input.unit_counts input.choices ++ tables_text input.streams input.tables))) programs
    ∙ ap (λ (x : List ℕ). front (flat_map program_text (program_parts options input) ++ (x ++ tables_text input.streams input.tables))) streams
    ∙ ap (λ (x : List ℕ). front (flat_map program_text (program_parts options input) ++ (flat_map stream_text (stream_parts input) ++ x))) tables

pub declared : TextsAreRead → DeclaredLaw
declared law options input rate d fit is =
    texts_are_described law d (heading_of (sharing options.clock input) input rate) input.information.events input.information.network
    (program_parts options input) (stream_parts input) (table_parts input)
    fit.heading fit.events fit.network fit.programs fit.streams fit.tables
    (is ∙ ap (λ (text : List ℕ). description_of (parse_document text)) (by_parts options input rate))
