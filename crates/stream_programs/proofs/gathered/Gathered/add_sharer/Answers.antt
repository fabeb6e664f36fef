use Rattle.std.proofs.Common.{◌≡◌, ◌∙◌, ap, arith, true, ℕ, List, nat_eq}
use Rattle.std.specs.Prelude.{is_some}
use Rattle.indexmap.specs.IndexMap.{insert_entry}
use Rattle.stream_programs.specs.NumberPairs.{pair_key}
use Rattle.stream_programs.specs.Streams.{holder}
use Rattle.stream_programs.specs.Programs.{FoundProgramsView}
use Rattle.stream_programs.proofs.NumberPairs.{shared}
use Rattle.stream_programs.proofs.gathered.Gathered.add_sharer.Goals as goal

pub invariant_of-self-2 : goal.invariant_of-self-2
invariant_of-self-2 g c =
    let there : is_some (holder c.args.pid c.self.inside.streams.items) ≡ true =
    ap (λ (f : FoundProgramsView). is_some (holder c.args.pid f.streams)) c.self.view_is ∙ c.requires in
    let more = c.add_pair.ensures.added
    ∙ ap (λ (es : List (ℕ × ℕ)). insert_entry nat_eq es (pair_key c.args.pid c.args.program) c.args.program) c.reserve_pair.ensures.same in
    let owned = c.add_pair-2.ensures.added
    ∙ ap (λ (es : List (ℕ × ℕ)). insert_entry nat_eq es (pair_key 0 c.args.program) c.args.program) c.reserve_pair-2.ensures.same in
    shared c.self.inside.sharers.entries c.self.inside.owners.entries c.add_pair.new.pairs.entries c.add_pair-2.new.pairs.entries
    c.self.inside.clocks.entries c.self.inside.streams.items _ c.self.inside.programs.items c.args.program c.args.pid c.args.program c.args.program
    more owned c.in_ok-share.ensures.ok (omega arith) there c.self.invariant
