use Rattle.std.proofs.Common.{◌≡◌, ◌∙◌, ◌==◌, slice_index_or, sym, true, false, rules}
use Rattle.es_units.proofs.TypedPids.{type_other, type_here, type_end}
use Rattle.es_units.specs.declared.marking.TypedPid.{TypedPid}
use Rattle.es_units.proofs.marking.type_of.Goals as goal

pub loop-typed-preserved : goal.loop-typed-preserved
loop-typed-preserved c =
    let none : TypedPid = record { pid = 0; stream_type = 0 } in
    let other : ((slice_index_or c.args.types.now c.loop-typed.typed-index none).pid == c.args.pid) ≡ false = search rules in
    c.loop-typed.invariant ∙ type_other c.args.pid c.loop-typed.typed-index c.args.types.now none c.loop-typed-test.true other

pub returns-then-typed-pid : goal.returns-then-typed-pid
returns-then-typed-pid c =
    let none : TypedPid = record { pid = 0; stream_type = 0 } in
    let own : ((slice_index_or c.args.types.now c.loop-typed.typed-index none).pid == c.args.pid) ≡ true = search rules in
    sym (c.loop-typed.invariant ∙ type_here c.args.pid c.loop-typed.typed-index c.args.types.now none c.loop-typed-test.true own)

pub returns : goal.returns
returns c = sym (c.loop-typed.invariant ∙ type_end c.args.pid c.loop-typed.typed-index c.args.types.now c.loop-typed-test.false)
