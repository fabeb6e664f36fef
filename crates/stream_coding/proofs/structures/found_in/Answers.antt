use Rattle.std.proofs.Common.{◌∙◌, sym, ap, option_map}
use Rattle.stream_coding.proofs.StructureSearch.{found_here}
use Rattle.stream_coding.proofs.structures.found_in.Goals as goal

pub returns-in-Some-at_front : goal.returns-in-Some-at_front
returns-in-Some-at_front c =
    let front = sym c.at_front.ensures ∙ ap (option_map (λ rest. rest.now)) c.in-Some-at_front.is in
    sym (c.loop-rest.invariant ∙ found_here c.args.structure c.loop-rest.left.now _ _ _ c.in-Some.ensures.cases.0 front)
