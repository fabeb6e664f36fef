use Rattle.std.proofs.Common.{◌≡◌, ◌++◌, drop, string_bytes}
use Rattle.std.specs.Prelude.{flat_map}
use Rattle.tsair_cli.specs.States.{program_text}
use Rattle.tsair_cli.proofs.state.write_programs.Given as goal

abbrev pub invariant-loop-program : goal.invariant-loop-program
invariant-loop-program l =
    string_bytes l.line ++ flat_map program_text (drop l.program-index l.programs) ≡ string_bytes l.fn.line ++ flat_map program_text l.programs
