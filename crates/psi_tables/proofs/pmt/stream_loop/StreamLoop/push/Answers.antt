use Rattle.std.proofs.Common.{◌≡◌, ℕ, List, is_some, true, sym, ap, ◌∙◌, subst, arith}
use Rattle.psi_tables.specs.Loops.{loop_at}
use Rattle.psi_tables.specs.ProgramMap.{stream_view, stream_loop_of, streams_in}
use Rattle.psi_tables.proofs.StreamEncodings.{EntryFits, pushed}
use Rattle.psi_tables.proofs.pmt.stream_loop.StreamLoop.push.Goals as goal

pub invariant_of-self : goal.invariant_of-self
invariant_of-self c =
    let fits : EntryFits (stream_view c.args.stream.now) = record { elementary_pid = c.requires; info_length = omega arith } in
    record {
      whole = subst (λ (x : List ℕ). is_some (loop_at 5 x) ≡ true) (sym c.append_to.ensures.items)
          (pushed c.args.self.now.bytes.items (stream_view c.args.stream.now) fits c.args.self.now.whole).whole;
    }

pub returns-clause-ok : goal.returns-clause-ok
unfolding stream_loop_of
returns-clause-ok c =
    let fits : EntryFits (stream_view c.args.stream.now) = record { elementary_pid = c.requires; info_length = omega arith } in
    ap streams_in c.append_to.ensures.items ∙ (pushed c.args.self.now.bytes.items (stream_view c.args.stream.now) fits c.args.self.now.whole).streams
