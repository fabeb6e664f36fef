use Rattle.std.proofs.Common.{◌∙◌, Option, Some, String, Global, string_bytes, nat_eq, ap, sym}
use Rattle.std.specs.Prelude.{option_map}
use Rattle.std.specs.Map.{lookup}
use Rattle.page_curves.specs.PidLabels.{LabelsState}
use Rattle.page_curves.proofs.Services.{lookup_each}
use Rattle.page_curves.proofs.pid_labels.PidLabels.service_of.Goals as goal

pub returns-in-None : goal.returns-in-None
returns-in-None c =
    ap (λ (o : Option (String Global)). option_map string_bytes o) c.in-None.ensures.value
    ∙ sym (lookup_each c.self.inside.services.entries c.args.program)
    ∙ ap (λ (l : LabelsState). lookup (nat_eq c.args.program) l.services) c.self.view_is

pub returns-in-Some : goal.returns-in-Some
returns-in-Some c =
    ap Some c.as_str.ensures.value
    ∙ ap (λ (o : Option (String Global)). option_map string_bytes o) c.in-Some.ensures.value
    ∙ sym (lookup_each c.self.inside.services.entries c.args.program)
    ∙ ap (λ (l : LabelsState). lookup (nat_eq c.args.program) l.services) c.self.view_is
