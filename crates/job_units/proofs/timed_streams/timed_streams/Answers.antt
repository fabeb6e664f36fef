use Rattle.std.proofs.Common.{◌≡◌, ◌∙◌, ◌++◌, ◌∷◌, [], List, map, ap, sym, refl, rules}
use Rattle.pid_findings.specs.Shown.{finding_view}
use Rattle.job_units.proofs.TakenStreams.{others_more, others_start, pids_of, taken_start, taken_more, taken_end}
use Rattle.job_units.proofs.timed_streams.timed_streams.Goals as goal
use Rattle.job_programs.specs.JobOptions.{is_among}
use Rattle.job_units.specs.Moments.{StreamMomentsView, with_units, timed_stream}

pub streams-init : goal.streams-init
streams-init c =
    let pids : c.as_slice-later.result.now ≡ pids_of c.from-left.result.items = search rules in
    record {
      taken = taken_start (map finding_view c.args.findings.now) c.as_slice-later.result.now c.from-left.result.items c.in_ok-timed.timed.items pids
          (let none : c.in_ok-timed.timed.items ≡ [] = search rules in none);
      others = others_start (pids_of c.from-left.result.items) c.as_slice-later.result.now (map finding_view c.args.findings.now) pids;
      pids = refl;
    }

pub streams-preserved : goal.streams-preserved
streams-preserved c =
    let old = map finding_view c.args.findings.now in
    let all = map (timed_stream old) c.from-left.result.items in
    let pushed : c.push.new.self.items ≡ c.streams.timed.items ++ c.in_ok-timed_stream.field-0 ∷ [] = search rules in
    record {
      taken = taken_more old (map finding_view c.streams.findings) (map finding_view c.units_of.new.findings) c.streams.later.now
          c.in-Some-split_first.rest.now c.in-Some-split_first.pid.now
          c.streams.left.items c.pop_front.new.self.items c.in-Some.next c.in_ok-units.units.items c.in_ok-timed_stream.field-0 all c.streams.timed.items
          c.push.new.self.items
          c.streams.invariant.taken c.in-Some-split_first.ensures.cases.0 c.in-Some.ensures.items c.in_ok-units.ensures.units c.in_ok-units.ensures.others
          c.in_ok-timed_stream.ensures pushed;
      others = others_more (pids_of c.from-left.result.items) c.streams.later.now c.in-Some-split_first.rest.now c.in-Some-split_first.pid.now old
          (map finding_view c.streams.findings) (map finding_view c.units_of.new.findings) c.streams.invariant.others c.in-Some-split_first.ensures.cases.0
          c.in_ok-units.ensures.own;
      pids = c.in_ok-units.ensures.pids ∙ c.streams.invariant.pids;
    }

pub returns-clause-streams : goal.returns-clause-streams
returns-clause-streams c =
    let none : c.streams.left.items ≡ [] = search rules in
    taken_end (map finding_view c.args.findings.now) (map finding_view c.streams.findings) c.streams.later.now c.streams.left.items
    (map (timed_stream (map finding_view c.args.findings.now)) c.from-left.result.items) c.streams.timed.items c.streams.invariant.taken none
    ∙ ap (map (timed_stream (map finding_view c.args.findings.now))) c.from-left.ensures.0

pub returns-clause-others : goal.returns-clause-others
returns-clause-others c =
    let same : pids_of c.from-left.result.items ≡ pids_of c.args.streams.items = ap pids_of c.from-left.ensures.0 in
    λ pid none. c.streams.invariant.others.stay pid (ap (is_among pid) same ∙ none)
