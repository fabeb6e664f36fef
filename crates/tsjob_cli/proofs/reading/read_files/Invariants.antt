use Rattle.std.proofs.Common.{◌≡◌, map, take}
use Rattle.devices.specs.Files.{files_of}
use Rattle.tsjob_cli.specs.ReadFiles.{HaveBytes}
use Rattle.tsjob_cli.proofs.NamedFiles.{port}
use Rattle.tsjob_cli.proofs.reading.read_files.Given as goal

abbrev pub invariant-loop-name : goal.invariant-loop-name
invariant-loop-name g l = record {
  bytes : HaveBytes (files_of (g.F.NamedFiles.contents_of l.files) (g.F.NamedFiles.opens l.files) g.F.NamedFiles.never_fails)
      (take l.name-index (map (λ s. s.now) l.names)) l.all.items;
  reported : port (g.E.Write.contents l.faults) (g.E.Sink.fault_count l.faults) ≡ port (g.E.Write.contents l.fn.faults) (g.E.Sink.fault_count l.fn.faults);
}
