use Rattle.std.proofs.Common.{refl}
use Rattle.devices.specs.Devices.{Device, between}
use Rattle.devices.specs.Files.{files_of}
use Rattle.tsjob_cli.proofs.NamedFiles.{stops_unopened, stops_unread}
use Rattle.tsjob_cli.proofs.reading.read_file.Goals as goal

pub returns-in_default : goal.returns-in_default
returns-in_default g c =
    let files = files_of (g.F.NamedFiles.contents_of c.args.files.now) (g.F.NamedFiles.opens c.args.files.now) g.F.NamedFiles.never_fails in
    (stops_unopened files _ _ c.in_default.ensures.opens c.report_of.ensures, refl)

pub returns : goal.returns
returns g c =
    let files = files_of (g.F.NamedFiles.contents_of c.args.files.now) (g.F.NamedFiles.opens c.args.files.now) g.F.NamedFiles.never_fails in
    let input : Device = between (record { bytes = g.F.Reader.Read.remaining c.in-Some.file; failed = g.F.Reader.Source.fault_count c.in-Some.file })
    (record { bytes = g.F.Reader.Read.remaining c.read_whole.new.input; failed = g.F.Reader.Source.fault_count c.read_whole.new.input }) in (
      stops_unread files _ input _ c.in-Err.halt c.in-Some.ensures.opens c.in-Some.ensures.reader
          (λ e f. g.met.F.NamedFiles.counts_none e c.in-Some.file c.read_whole.new.input f) c.in-Err.ensures
          c.report_unread.ensures.reports_text,
      c.report_unread.ensures.status,
    )
