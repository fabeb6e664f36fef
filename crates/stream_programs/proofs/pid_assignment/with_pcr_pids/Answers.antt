use Rattle.std.proofs.Common.{◌≡◌, ◌∙◌, sym, [], ◌∷◌, ◌++◌, slice_index_or, Some, None, rules}
use Rattle.stream_programs.specs.FreePids.{least_free}
use Rattle.stream_programs.proofs.AssignedPids.{next_clock, no_clock, all_clocks}
use Rattle.stream_programs.proofs.pid_assignment.with_pcr_pids.Goals as goal

pub returns-in_default : goal.returns-in_default
returns-in_default g c =
    let l = c.loop-map_pid in
    let is : least_free 256 l.used ≡ None = search rules in
    sym (l.invariant ∙ no_clock l.used c.args.maps.now l.given.items l.map_pid-index c.loop-map_pid-test.true is)

pub loop-map_pid-preserved : goal.loop-map_pid-preserved
loop-map_pid-preserved g c =
    let l = c.loop-map_pid in
    let clock = c.in-Some.pcr_pid in
    let is : least_free 256 l.used ≡ Some clock = search rules in
    let used : c.add.new.self ≡ l.used ++ clock ∷ [] = search rules in
    let given : c.push.new.self.items ≡ l.given.items ++ record { map_pid = slice_index_or c.args.maps.now l.map_pid-index 0; pcr_pid = clock } ∷ [] =
    search rules in
    l.invariant
    ∙ next_clock l.used c.add.new.self c.args.maps.now l.given.items c.push.new.self.items l.map_pid-index clock c.loop-map_pid-test.true is used given

pub returns : goal.returns
returns g c =
    sym (c.loop-map_pid.invariant
    ∙ all_clocks c.loop-map_pid.used c.args.maps.now c.loop-map_pid.given.items c.loop-map_pid.map_pid-index c.loop-map_pid-test.false)
