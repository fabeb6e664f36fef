use Rattle.std.proofs.Common.{◌≡◌, ◌∙◌, ℕ, List, String, Global, map, string_bytes, nat_eq, ap}
use Rattle.indexmap.specs.IndexMap.{insert_entry}
use Rattle.page_curves.specs.PidLabels.{LabelsState, with_service}
use Rattle.page_curves.proofs.Services.{insert_each}
use Rattle.page_curves.proofs.pid_labels.PidLabels.take_service.Goals as goal

pub returns : goal.returns
returns c =
    let es = c.self.inside.services.entries in
    let inserted : map (λ e. (e.0, string_bytes e.1)) c.insert.new.self.entries ≡ insert_entry nat_eq (map (λ e. (e.0, string_bytes e.1)) es) c.args.program
    (string_bytes c.args.name) =
    ap (λ (es : List (ℕ × String Global)). map (λ e. (e.0, string_bytes e.1)) es) c.in_ok-insert.ensures.entries ∙ insert_each es c.args.program c.args.name in
    ap (λ (s : List (ℕ × List ℕ)). record { programs = c.self.inside.programs.entries; services = s; names = c.self.inside.names.entries }) inserted
    ∙ ap (λ (l : LabelsState). with_service c.args.program (string_bytes c.args.name) l) c.self.view_is
