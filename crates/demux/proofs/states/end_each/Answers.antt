use Rattle.std.proofs.Common.{◌+◌, ◌≤◌, length, inl, inr, arith, add-one}
use Rattle.std.proofs.lemmas.Option.{slice_get_cases}
use Rattle.demux.proofs.StreamEnd.{ended_more, ended_none}
use Rattle.demux.proofs.states.end_each.Goals as goal

pub loop-i-preserved : goal.loop-i-preserved
loop-i-preserved g c =
    let entries = c.args.states.now.entries in
    elim (slice_get_cases entries c.loop-i.i).1 [
      | inl e ↦ record {
        found = ended_more c.args.packet c.loop-i.i (c.loop-i.i + 1) entries e.0 _ _ _ e.2 (add-one c.loop-i.i) (c.in_ok-end_at.ensures.found e.0 e.2)
            c.loop-i.invariant.found;
        joined = λ none. c.in_ok-end_at.ensures.joined (c.loop-i.invariant.joined none);
      }
      | inr e ↦ absurd (omega (arith, c.len-i-end.ensures.len, c.loop-i-test.true, e.0))
    ]

pub returns-clause-found : goal.returns-clause-found
returns-clause-found g c =
    let past : length c.args.states.now.entries ≤ c.loop-i.i = omega (arith, c.len-i-end.ensures.len, c.loop-i-test.false) in
    ended_none c.args.packet c.loop-i.i c.args.states.now.entries _ _ past c.loop-i.invariant.found
