use Rattle.std.proofs.Common.{◌≡◌, ◌∙◌, subst, ◌<◌, ◌≤◌, ◌==◌, ap, length, true, false, rules, arith}
use Rattle.stream_programs.proofs.Sharers.{on_err, on_ok, same_at, shared_past, shared_here, shared_end, unchanged_here}
use Rattle.stream_programs.specs.Streams.{FoundStreamView, shared_by}
use Rattle.stream_programs.proofs.streams.share.Goals as goal

pub loop-k-preserved : goal.loop-k-preserved
loop-k-preserved g c =
    let ss = c.loop-k.streams.items in
    let size = ap (length {A = _}) c.loop-k.invariant.same in
    let below : c.loop-k.k < length ss = omega (arith, c.loop-k-test.true, c.len-k-end.ensures, size) in
    let other : (c.index.result.now.pid == c.args.pid) ≡ false = search rules in
    record {
      same = c.loop-k.invariant.same;
      shared = shared_past c.args.number c.args.pid c.loop-k.k ss c.index.result.now below c.index.ensures other c.loop-k.invariant.shared;
    }

pub returns-then-index-pid-clause-ok : goal.returns-then-index-pid-clause-ok
returns-then-index-pid-clause-ok g c =
    let ss = c.loop-k.streams.items in
    let size = ap (length {A = _}) c.loop-k.invariant.same in
    let below : c.loop-k.k < length ss = omega (arith, c.loop-k-test.true, c.len-k-end.ensures, size) in
    let own : (c.index.result.now.pid == c.args.pid) ≡ true = search rules in
    let same = same_at ss c.loop-k.k c.index.result.now c.index_mut-stream.result.now below c.index.ensures c.index_mut-stream.ensures.value in
    let here : (c.index_mut-stream.result.now.pid == c.args.pid) ≡ true = subst (λ (s : FoundStreamView). (s.pid == c.args.pid) ≡ true) same own in
    on_ok c.push_sharer.result
    (λ made. shared_here c.args.number c.args.pid c.loop-k.k ss c.index_mut-stream.result.now c.push_sharer.new.self below c.index_mut-stream.ensures.value
    here made c.loop-k.invariant.shared
    ∙ ap (shared_by c.args.number c.args.pid) c.loop-k.invariant.same) c.push_sharer.ensures.ok

pub returns-then-index-pid-clause-err : goal.returns-then-index-pid-clause-err
returns-then-index-pid-clause-err g c =
    on_err c.push_sharer.result
    (λ made. unchanged_here c.loop-k.k c.loop-k.streams.items c.index_mut-stream.result.now c.push_sharer.new.self c.index_mut-stream.ensures.value made
    ∙ c.loop-k.invariant.same) c.push_sharer.ensures.err

pub returns-clause-ok : goal.returns-clause-ok
returns-clause-ok g c =
    let size = ap (length {A = _}) c.loop-k.invariant.same in
    let over : length c.loop-k.streams.items ≤ c.loop-k.k = omega (arith, c.loop-k-test.false, c.len-k-end.ensures, size) in
    shared_end c.args.number c.args.pid c.loop-k.k c.loop-k.streams.items over c.loop-k.invariant.shared
    ∙ ap (shared_by c.args.number c.args.pid) c.loop-k.invariant.same

pub returns-clause-err : goal.returns-clause-err
returns-clause-err g c = tt
