use Rattle.std.proofs.Common.{◌≡◌, ◌∙◌, ℕ, OnOk, Some, nat_eq, sym, subst, ap}
use Rattle.std.specs.Prelude.{position, slice_get}
use Rattle.std.specs.Map.{keys_of, lookup, values_of}
use Rattle.pid_map.specs.PidMaps.{PidEntries}
use Rattle.demux.specs.Stream.{States, state_of, with_state}
use Rattle.pid_findings.specs.Machine as machine
use Rattle.pid_findings.specs.Machine.{PidState}
use Rattle.pid_findings.specs.Shown.{entry_with}
use Rattle.demux.proofs.MapSteps.{state_at, stepped, unstepped}
use Rattle.demux.proofs.states.States.step.Goals as goal

-- The entry of a PID is at the same index in the same map.
index_in : (pid i : ℕ) (new old : PidEntries PidState) → new ≡ old → Some i ≡ position (nat_eq pid) (keys_of old.entries) →
    position (nat_eq pid) (keys_of new.entries) ≡ Some i
index_in pid i new old same at = rw same (sym at)

value_in : (pid i : ℕ) (new old : PidEntries PidState) → new ≡ old → slice_get (values_of old.entries) i ≡ lookup (nat_eq pid) old.entries →
    slice_get (values_of new.entries) i ≡ lookup (nat_eq pid) new.entries
value_in pid i new old same value = rw same value

pub returns-in-Some-clause-states : goal.returns-in-Some-clause-states
returns-in-Some-clause-states g c =
    let pid = c.args.place.pid in
    let map = c.index_of.new.self in
    let same = c.index_of.ensures.same in
    let before = map.entries in
    let now : before ≡ c.args.self.now = ap (λ (m : PidEntries PidState). m.entries) same ∙ c.self.view_is in
    let at = index_in pid c.in-Some.index map c.self.inside.by_pid same c.in-Some.ensures.index in
    let there = state_at pid c.in-Some.index before at (value_in pid c.in-Some.index map c.self.inside.by_pid same c.in-Some.ensures.value) in
    let entry = entry_with c.args.place.packet c.args.bytes.now c.args.packet.now in
    let done = stepped c.step_at.result pid c.in-Some.index before c.step_at.new.states.entries c.args.self.now
    (machine.step (state_of pid before) entry) now at (c.step_at.ensures.states (state_of pid before) there) in
    subst (λ (s : States). OnOk c.step_at.result (c.step_at.new.states.entries ≡ with_state pid (machine.step (state_of pid s) entry) c.args.self.now)) now done

pub returns-in-Some-clause-err : goal.returns-in-Some-clause-err
returns-in-Some-clause-err g c =
    let pid = c.args.place.pid in
    let map = c.index_of.new.self in
    let same = c.index_of.ensures.same in
    let before = map.entries in
    let now : before ≡ c.args.self.now = ap (λ (m : PidEntries PidState). m.entries) same ∙ c.self.view_is in
    let at = index_in pid c.in-Some.index map c.self.inside.by_pid same c.in-Some.ensures.index in
    let there = state_at pid c.in-Some.index before at (value_in pid c.in-Some.index map c.self.inside.by_pid same c.in-Some.ensures.value) in
    unstepped c.step_at.result c.in-Some.index before c.step_at.new.states.entries c.args.self.now (state_of pid before) now there
    (c.step_at.ensures.err (state_of pid before) there)
