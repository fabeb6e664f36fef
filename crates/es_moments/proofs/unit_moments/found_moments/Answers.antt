use Rattle.std.proofs.Common.{◌≡◌, ◌∙◌, ◌∷◌, [], ◌++◌, None, ap, map, rules}
use Rattle.es_moments.specs.Stamps.{moved, unit_fault}
use Rattle.es_moments.specs.UnitMoments.{moment_at, moment_of}
use Rattle.es_moments.proofs.UnitMoments.{wire, moments_more, moments_over, faults_more, faults_here, faults_over}
use Rattle.es_moments.proofs.unit_moments.found_moments.Goals as goal
use Rattle.es_moments.specs.WireUnits.{CarriedUnit}

pub returns-in-Err-clause-refused : goal.returns-in-Err-clause-refused
returns-in-Err-clause-refused g c =
    faults_here c.args.limit c.args.base c.loop-index.before c.loop-index.index c.args.units.now c.index-units-index.result c.in-Err.fault
    c.loop-index-test.true c.index-units-index.is
    c.loop-index.invariant.fault
    (c.in-Err.ensures.fault ∙ ap (λ (w : CarriedUnit). unit_fault c.args.limit c.args.base c.loop-index.before w.unit) c.unit.view_is)

pub loop-index-preserved : goal.loop-index-preserved
loop-index-preserved g c =
    let base = c.args.base in
    let before = c.loop-index.before in
    let at = c.loop-index.index in
    let us = c.args.units.now in
    let u = c.index-units-index.result in
    let next = c.in-Ok-moment.next in
    let inv = c.loop-index.invariant in
    let made : next ≡ moment_at base before u.unit.dts u.unit.pts =
    c.in-Ok-moment.ensures.value ∙ ap (λ (w : CarriedUnit). moment_at base before w.unit.dts w.unit.pts) c.unit.view_is in
    let none : None ≡ unit_fault c.args.limit base before u.unit =
    c.in-Ok-moment.ensures.fault ∙ ap (λ (w : CarriedUnit). unit_fault c.args.limit base before w.unit) c.unit.view_is in
    let pushed : c.push.new.self.items ≡ c.loop-index.found.items ++ next ∷ [] = search rules in
    record {
      moments = moments_more base before at us u (map moment_of (moved base None (wire us))) c.loop-index.found.items c.push.new.self.items next
          c.loop-index-test.true c.index-units-index.is inv.moments made pushed;
      fault = faults_more c.args.limit base before at us u next c.loop-index-test.true c.index-units-index.is inv.fault none made;
      before = c.in-Ok-moment.ensures.bound;
    }

pub returns-clause-moments : goal.returns-clause-moments
returns-clause-moments g c =
    moments_over c.args.base c.loop-index.before c.loop-index.index c.args.units.now (map moment_of (moved c.args.base None (wire c.args.units.now)))
    c.loop-index.found.items
    c.loop-index-test.false c.loop-index.invariant.moments

pub returns-clause-sound : goal.returns-clause-sound
returns-clause-sound g c =
    faults_over c.args.limit c.args.base c.loop-index.before c.loop-index.index c.args.units.now c.loop-index-test.false c.loop-index.invariant.fault
