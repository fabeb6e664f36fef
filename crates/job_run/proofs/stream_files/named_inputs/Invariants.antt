use Rattle.std.proofs.Common.{map, take}
use Rattle.devices.specs.Files.{files_of}
use Rattle.job_run.specs.StreamFiles.{AreTaken}
use Rattle.job_run.proofs.stream_files.named_inputs.Given as goal

abbrev pub invariant-loop-number : goal.invariant-loop-number
invariant-loop-number g l = AreTaken l.arguments (files_of (g.F.NamedFiles.contents_of l.files) (g.F.NamedFiles.opens l.files) g.F.NamedFiles.never_fails)
    (take l.number (map (λ s. s.now) l.names)) l.streams.items
