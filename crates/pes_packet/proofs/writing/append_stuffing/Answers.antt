use Rattle.std.proofs.Common.{ℕ, List, ◌++◌, ap, ◌∙◌}
use Rattle.std.proofs.lemmas.List.{take-replicate}
use Rattle.pes_packet.proofs.writing.append_stuffing.Goals as goal

pub returns-clause-items : goal.returns-clause-items
returns-clause-items c =
    c.append.ensures.items ∙ ap (λ (bytes : List ℕ). c.args.header.now.items ++ bytes) (take-replicate {X = ℕ} c.args.count 36 0xFF c.requires.most)
