use Rattle.std.proofs.Common.{◌∙◌, ap, arith, ℕ, List, nat_eq}
use Rattle.indexmap.specs.IndexMap.{insert_entry}
use Rattle.stream_programs.specs.NumberPairs.{pair_key}
use Rattle.stream_programs.proofs.NumberPairs.{clocked}
use Rattle.stream_programs.proofs.gathered.Gathered.keep_program.Goals as goal

pub invariant_of-self-2 : goal.invariant_of-self-2
invariant_of-self-2 g c =
    clocked c.self.inside.sharers.entries c.self.inside.owners.entries c.self.inside.clocks.entries c.add_pair.new.pairs.entries c.self.inside.streams.items
    c.self.inside.programs.items _ c.args.program c.args.number c.args.pcr_pid c.args.number
    (c.add_pair.ensures.added
    ∙ ap (λ (es : List (ℕ × ℕ)). insert_entry nat_eq es (pair_key c.args.pcr_pid c.args.number) c.args.number) c.reserve_pair.ensures.same)
    c.in_ok-push.ensures.items (omega arith) c.requires.number c.requires.clock c.self.invariant
