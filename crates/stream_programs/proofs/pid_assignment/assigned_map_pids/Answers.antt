use Rattle.std.proofs.Common.{◌≡◌, ◌∙◌, sym, [], ◌∷◌, ◌++◌, subst, List, ℕ, slice_index_or, Some, None, rules}
use Rattle.stream_programs.specs.PidAssignment.{assigned_map_pid}
use Rattle.stream_programs.proofs.AssignedPids.{more_taken, next_map, no_map, all_maps}
use Rattle.stream_programs.proofs.pid_assignment.assigned_map_pids.Goals as goal

pub returns-in_default : goal.returns-in_default
returns-in_default g c =
    let l = c.loop-pid in
    let streams = c.args.streams.now in
    let maps = c.args.maps.now in
    let answer : c.assigned_map_pid.result ≡ assigned_map_pid streams l.given.items l.taken (slice_index_or maps l.pid-index 0) =
    c.assigned_map_pid.ensures streams l.given.items l.invariant.own in
    let none : c.assigned_map_pid.result ≡ None = search rules in
    let is : assigned_map_pid streams l.given.items (streams ++ maps ++ l.given.items) (slice_index_or maps l.pid-index 0) ≡ None =
    subst (λ (t : List ℕ). assigned_map_pid streams l.given.items t (slice_index_or maps l.pid-index 0) ≡ None)
    l.invariant.taken (sym answer ∙ none) in
    sym (l.invariant.places ∙ no_map streams maps l.given.items l.pid-index c.loop-pid-test.true is)

pub loop-pid-preserved : goal.loop-pid-preserved
loop-pid-preserved g c =
    let l = c.loop-pid in
    let streams = c.args.streams.now in
    let maps = c.args.maps.now in
    let answer : c.assigned_map_pid.result ≡ assigned_map_pid streams l.given.items l.taken (slice_index_or maps l.pid-index 0) =
    c.assigned_map_pid.ensures streams l.given.items l.invariant.own in
    let some : c.assigned_map_pid.result ≡ Some c.in-Some.place = search rules in
    let is : assigned_map_pid streams l.given.items (streams ++ maps ++ l.given.items) (slice_index_or maps l.pid-index 0) ≡ Some c.in-Some.place =
    subst (λ (t : List ℕ). assigned_map_pid streams l.given.items t (slice_index_or maps l.pid-index 0) ≡ Some c.in-Some.place)
    l.invariant.taken (sym answer ∙ some) in
    let given : c.push.new.self.items ≡ l.given.items ++ c.in-Some.place ∷ [] = search rules in
    let own : c.add.new.self ≡ l.own ++ c.in-Some.place ∷ [] = search rules in
    let taken : c.add-in-loop-pid.new.self ≡ l.taken ++ c.in-Some.place ∷ [] = search rules in
    record {
      own = more_taken streams l.given.items l.own c.push.new.self.items c.add.new.self c.in-Some.place l.invariant.own given own;
      taken = more_taken (streams ++ maps) l.given.items l.taken c.push.new.self.items c.add-in-loop-pid.new.self c.in-Some.place l.invariant.taken given taken;
      places = l.invariant.places ∙ next_map streams maps l.given.items c.push.new.self.items l.pid-index c.in-Some.place c.loop-pid-test.true is given;
    }

pub returns : goal.returns
returns g c =
    sym (c.loop-pid.invariant.places ∙ all_maps c.args.streams.now c.args.maps.now c.loop-pid.given.items c.loop-pid.pid-index c.loop-pid-test.false)
