use Rattle.std.proofs.Common.{rules, ◌≡◌, ◌∷◌, min, length, List, ℕ, ap, ◌∙◌}
use Rattle.ts_packet.specs.declared.start.Start.TheVariants.{Begins}
use Rattle.slot_contents.specs.Contents.{PayloadContent, packet_of}
use Rattle.table_rounds.proofs.SectionParts.{first_bytes}
use Rattle.table_rounds.proofs.parts.write_short_first_part.Goals as goal

pub returns : goal.returns
returns c =
    let size : c.min.result ≡ min (length c.args.section.now) 183 = search rules in
    let all : c.deref.result.now ≡ 0 ∷ c.split_at.result.0.now = search rules in
    c.write_filled.ensures
    ∙ ap (λ (l : List ℕ). packet_of (PayloadContent c.args.pid c.args.counter Begins l))
    (first_bytes c.args.section.now c.split_at.result.0.now c.deref.result.now c.min.result size c.split_at.ensures.front all)
