use Rattle.std.proofs.Common.{◌∙◌, ◌++◌, List, [], ℕ, ap, inr, refl}
use Rattle.devices.specs.Files.{files_of}
use Rattle.tsjob_cli.proofs.NamedFiles.{no_bytes, read_more, stops_at_one, stops_later}
use Rattle.tsjob_cli.proofs.reading.read_files.Goals as goal

pub loop-name-init : goal.loop-name-init
loop-name-init g c = record { bytes = no_bytes _ _ c.new-all.ensures.items; reported = refl }

pub returns-in-Err-append : goal.returns-in-Err-append
returns-in-Err-append g c =
    stops_at_one (files_of (g.F.NamedFiles.contents_of c.args.files.now) (g.F.NamedFiles.opens c.args.files.now) g.F.NamedFiles.never_fails) c.args.names.now
    c.loop-name.name-index (record { ref_ptr = (0, 0); now = [] }) c.loop-name.all.items _ _ c.loop-name-test.true c.loop-name.invariant.bytes
    (stops_later (files_of (g.F.NamedFiles.contents_of c.args.files.now) (g.F.NamedFiles.opens c.args.files.now) g.F.NamedFiles.never_fails) _ _ _ _
    (c.in-Ok.ensures.1 ∙ c.loop-name.invariant.reported) (inr (inr c.report_halt.ensures.reports))) c.report_halt.ensures.status

pub returns-in-Err : goal.returns-in-Err
returns-in-Err g c =
    stops_at_one (files_of (g.F.NamedFiles.contents_of c.args.files.now) (g.F.NamedFiles.opens c.args.files.now) g.F.NamedFiles.never_fails) c.args.names.now
    c.loop-name.name-index (record { ref_ptr = (0, 0); now = [] }) c.loop-name.all.items _ _ c.loop-name-test.true c.loop-name.invariant.bytes
    (stops_later (files_of (g.F.NamedFiles.contents_of c.args.files.now) (g.F.NamedFiles.opens c.args.files.now) g.F.NamedFiles.never_fails) _ _ _ _
    c.loop-name.invariant.reported c.in-Err.ensures.0) c.in-Err.ensures.1

pub loop-name-preserved : goal.loop-name-preserved
loop-name-preserved g c = record {
  bytes = read_more (files_of (g.F.NamedFiles.contents_of c.args.files.now) (g.F.NamedFiles.opens c.args.files.now) g.F.NamedFiles.never_fails) c.args.names.now
      c.loop-name.name-index (record { ref_ptr = (0, 0); now = [] }) _ _ _ c.loop-name-test.true c.loop-name.invariant.bytes c.in-Ok.ensures.0
      (c.in-Ok-append.ensures ∙ ap (λ (xs : List ℕ). c.loop-name.all.items ++ xs) c.deref.ensures.value);
  reported = c.in-Ok.ensures.1 ∙ c.loop-name.invariant.reported;
}
