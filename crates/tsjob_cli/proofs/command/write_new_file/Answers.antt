use Rattle.tsjob_cli.proofs.Commands.{makes_file}
use Rattle.tsjob_cli.proofs.command.write_new_file.Goals as goal

pub returns : goal.returns
returns g c = makes_file _ _ _ _ _ _ _ _ _ _ _ _ c.make_job-made.ensures c.save.ensures
