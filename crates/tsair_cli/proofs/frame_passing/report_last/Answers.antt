use Rattle.std.proofs.Common.{◌≡◌, ℕ, Bool, true, false, refl, sym, subst, ◌∙◌, ap}
use Rattle.std.specs.Prelude.{if◌then◌else◌}
use Rattle.devices.specs.Devices.{Port, between}
use Rattle.devices.specs.Lines.{Reports}
use Rattle.tsair_cli.specs.FramePassing.{cut_line}
use Rattle.tsair_cli.specs.Readings.{reading_of}
use Rattle.tsair_cli.proofs.Unframing.{half_reported, not_half}
use Rattle.tsair_cli.proofs.frame_passing.report_last.Goals as goal

pub returns-then-ends_half : goal.returns-then-ends_half
returns-then-ends_half g c =
    let before : Port = record { bytes = g.E.Write.contents c.args.faults.now; failed = g.E.Sink.fault_count c.args.faults.now } in
    let reported : Port = record { bytes = g.E.Write.contents c.report_drop.new.faults; failed = g.E.Sink.fault_count c.report_drop.new.faults } in
    half_reported (reading_of c.args.feed.now) before reported 1 (sym c.ends_half.ensures ∙ c.if-ends_half.true)
    (subst (λ (n : ℕ). Reports (between before reported) (cut_line n)) c.count.ensures c.report_drop.ensures) refl

pub returns-then-has_reported : goal.returns-then-has_reported
returns-then-has_reported g c =
    let port : Port = record { bytes = g.E.Write.contents c.args.faults.now; failed = g.E.Sink.fault_count c.args.faults.now } in
    let reported : c.args.feed.now.reported ≡ true = sym c.has_reported.ensures ∙ c.if-has_reported.true in
    not_half (reading_of c.args.feed.now) port 1 (sym c.ends_half.ensures ∙ c.if-ends_half.false) (ap (λ (b : Bool). if b then 1 else 0) (sym reported))

pub returns-else-has_reported : goal.returns-else-has_reported
returns-else-has_reported g c =
    let port : Port = record { bytes = g.E.Write.contents c.args.faults.now; failed = g.E.Sink.fault_count c.args.faults.now } in
    let reported : c.args.feed.now.reported ≡ false = sym c.has_reported.ensures ∙ c.if-has_reported.false in
    not_half (reading_of c.args.feed.now) port 0 (sym c.ends_half.ensures ∙ c.if-ends_half.false) (ap (λ (b : Bool). if b then 1 else 0) (sym reported))
