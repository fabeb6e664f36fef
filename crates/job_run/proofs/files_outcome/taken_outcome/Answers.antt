use Rattle.std.proofs.Common.{◌∙◌, List, ap, map}
use Rattle.std.specs.List.{list_any}
use Rattle.job_run.specs.StreamFiles.{TakenView, taken_lines}
use Rattle.job_run.proofs.StreamFiles.{few_inputs, joined_is_taken, refused_is_taken}
use Rattle.job_run.proofs.files_outcome.taken_outcome.Goals as goal

pub join_all-requires : goal.join_all-requires
join_all-requires c =
    few_inputs c.args.taken c.in_ok-inputs.inputs.items (c.in_ok-inputs.ensures ∙ ap (λ (ts : List TakenView). map (λ t. t.input) ts) c.taken.view_is)
    c.requires

pub returns-in-Ok : goal.returns-in-Ok
returns-in-Ok c =
    let names = map (λ s. s.now) c.args.names.now in
    joined_is_taken c.args.arguments.now names c.args.taken c.in_ok-inputs.inputs.items c.in-Ok.joined c.outcome_of.result
    (c.in_ok-inputs.ensures ∙ ap (λ (ts : List TakenView). map (λ t. t.input) ts) c.taken.view_is) c.in-Ok.ensures.value
    (c.outcome_of.ensures c.args.taken (c.in_ok-lines.ensures ∙ ap (λ (ts : List TakenView). taken_lines names 0 ts) (c.deref.ensures.value ∙ c.taken.view_is))
    (c.is_any_less-less.ensures ∙ ap (λ (ts : List TakenView). list_any (λ t. t.less) ts) (c.deref-2.ensures.value ∙ c.taken.view_is)))

pub returns-in-Err : goal.returns-in-Err
returns-in-Err c =
    refused_is_taken c.args.arguments.now (map (λ s. s.now) c.args.names.now) c.args.taken c.in_ok-inputs.inputs.items c.in-Err.error c.refused_outcome.result
    (c.in_ok-inputs.ensures ∙ ap (λ (ts : List TakenView). map (λ t. t.input) ts) c.taken.view_is) c.in-Err.ensures.value c.refused_outcome.ensures
