use Rattle.std.proofs.Common.{◌∙◌, List, ℕ, ap, map}
use Rattle.std.specs.Borrow.{Bor}
use Rattle.tsjob_cli.specs.Command.{outputs_of}
use Rattle.tsjob_cli.proofs.Commands.{commanded}
use Rattle.tsjob_cli.proofs.command.run_command.Goals as goal

pub returns-in-Ok : goal.returns-in-Ok
returns-in-Ok g c =
    commanded (outputs_of (g.F.OutputFiles.creates c.args.files.now) (g.F.OutputFiles.keeps c.args.files.now) (g.F.OutputFiles.shows c.args.files.now)) (map (λ s. s.now) c.deref.result.now) _ _ _ _ _ _
    (ap (λ (words : List (Bor (List ℕ))). map (λ s. s.now) words) c.deref.ensures.value ∙ c.in-Ok.ensures) c.run_sorted.ensures.taken c.run_sorted.ensures.other
