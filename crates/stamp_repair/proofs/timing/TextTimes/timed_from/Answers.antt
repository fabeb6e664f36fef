use Rattle.std.proofs.Common.{◌≡◌, ◌∙◌, ◌∷◌, [], map, ap, rules}
use Rattle.std.proofs.lemmas.List.{map-append}
use Rattle.pid_findings.specs.Shown.{finding_view}
use Rattle.stamp_repair.specs.DataTimes.{moment_on, passed, timed_finding, timed_from}
use Rattle.stamp_repair.proofs.PassedFindings.{timed_end, timed_more}
use Rattle.stamp_repair.proofs.timing.TextTimes.timed_from.Goals as goal

pub loop-finding-preserved : goal.loop-finding-preserved
loop-finding-preserved c =
    let t = c.args.self.now in
    let line = c.loop-finding.line in
    let next = c.pass.new.self in
    let f = finding_view c.in-Some.finding in
    let g = finding_view c.timed_finding.result in
    let went : next ≡ passed f.packet line = search rules in
    let made : g ≡ timed_finding (moment_on t next.clocks f.pid) f = search rules in
    c.loop-finding.invariant
    ∙ timed_more t line next f g (map finding_view c.pop_front.new.self.items) (map finding_view c.loop-finding.left.items)
    (map finding_view c.loop-finding.timed.items)
    (map finding_view c.push.new.self.items) (ap (map finding_view) c.in-Some.ensures.items) went made
    (ap (map finding_view) c.in_ok-push.ensures.items ∙ map-append finding_view c.loop-finding.timed.items (c.timed_finding.result ∷ []))

pub returns : goal.returns
returns c =
    let none : c.loop-finding.left.items ≡ [] = search rules in
    timed_end c.args.self.now c.loop-finding.line (map finding_view c.loop-finding.left.items) (map finding_view c.loop-finding.timed.items) _
    (ap (map finding_view) none)
    c.loop-finding.invariant
    ∙ ap (λ xs. timed_from c.args.self.now c.args.line (map finding_view xs)) c.from-left.ensures.0
