use Rattle.std.proofs.Common.{◌∙◌, List, ℕ, None, ap, map, refl}
use Rattle.std.specs.Borrow.{Bor}
use Rattle.tsjob_cli.specs.Command.{outputs_of}
use Rattle.tsjob_cli.proofs.Commands.{performed}
use Rattle.tsjob_cli.proofs.command.perform_words.Goals as goal

pub returns-in-Some : goal.returns-in-Some
returns-in-Some g c =
    performed (outputs_of (g.F.OutputFiles.creates c.args.files.now) (g.F.OutputFiles.keeps c.args.files.now) (g.F.OutputFiles.shows c.args.files.now)) (map (λ s. s.now) c.args.words.now) _ _ _ _ _ _ _
    c.in-Some.ensures
    (ap (λ (words : List (Bor (List ℕ))). map (λ s. s.now) words) c.deref.ensures.value ∙ c.in-Ok.ensures) (c.write_file.ensures, refl)

pub returns : goal.returns
returns g c =
    performed (outputs_of (g.F.OutputFiles.creates c.args.files.now) (g.F.OutputFiles.keeps c.args.files.now) (g.F.OutputFiles.shows c.args.files.now)) (map (λ s. s.now) c.args.words.now) _ None _ _ _
    _ _ c.in-None.ensures
    (ap (λ (words : List (Bor (List ℕ))). map (λ s. s.now) words) c.deref-in-None.ensures.value ∙ c.in-Ok.ensures) c.write_output.ensures
