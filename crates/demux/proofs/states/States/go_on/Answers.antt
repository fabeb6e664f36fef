use Rattle.std.proofs.Common.{◌≡◌, [], subst}
use Rattle.pid_findings.specs.GoingOn.{plain_entry}
use Rattle.demux.specs.Stream.{States, state_of, with_state}
use Rattle.pid_findings.specs.Machine as machine
use Rattle.demux.proofs.MapSteps.{state_at, stayed, went_on}
use Rattle.demux.proofs.states.States.go_on.Goals as goal

pub returns-in-Some-clause-states : goal.returns-in-Some-clause-states
returns-in-Some-clause-states g c = λ is.
    let before = c.self.inside.by_pid.entries in
    let there = state_at c.args.pid _ before c.in-Some.ensures.index c.in-Some.ensures.value in
    let entry = plain_entry c.args.index c.args.bytes.now in
    let done = went_on c.go_on_at.result c.args.pid _ before c.go_on_at.new.states.entries c.args.self.now
    (machine.step (state_of c.args.pid before) entry) c.self.view_is c.in-Some.ensures.index (c.go_on_at.ensures.states (state_of c.args.pid before) there)
    is in
    subst (λ (s : States). c.go_on_at.new.states.entries ≡ with_state c.args.pid (machine.step (state_of c.args.pid s) entry) c.args.self.now) c.self.view_is
    done

pub returns-in-Some-clause-none : goal.returns-in-Some-clause-none
returns-in-Some-clause-none g c = λ is.
    let before = c.self.inside.by_pid.entries in
    let there = state_at c.args.pid _ before c.in-Some.ensures.index c.in-Some.ensures.value in
    let entry = plain_entry c.args.index c.args.bytes.now in
    subst (λ (s : States). machine.found_by (state_of c.args.pid s) entry ≡ []) c.self.view_is
    (c.go_on_at.ensures.none (state_of c.args.pid before) there is)

pub returns-in-Some-clause-stays : goal.returns-in-Some-clause-stays
returns-in-Some-clause-stays g c =
    let before = c.self.inside.by_pid.entries in
    let there = state_at c.args.pid _ before c.in-Some.ensures.index c.in-Some.ensures.value in
    stayed c.go_on_at.result _ before c.go_on_at.new.states.entries c.args.self.now (state_of c.args.pid before) c.self.view_is there
    (c.go_on_at.ensures.stays (state_of c.args.pid before) there)
