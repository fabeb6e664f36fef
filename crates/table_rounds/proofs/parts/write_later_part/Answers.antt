use Rattle.std.proofs.Common.{◌++◌, take, replicate, List, ℕ, ap, ◌∙◌, arith}
use Rattle.ts_packet.specs.declared.start.Start.TheVariants.{Continues}
use Rattle.slot_contents.specs.Contents.{PayloadContent, packet_of}
use Rattle.table_rounds.proofs.SectionParts.{later_bytes}
use Rattle.table_rounds.proofs.parts.write_later_part.Goals as goal

pub returns : goal.returns
returns c =
    c.write_filled.ensures
    ∙ ap (λ (l : List ℕ). packet_of (PayloadContent c.args.pid c.args.counter Continues (take 184 l)))
    (ap (λ (l : List ℕ). l ++ replicate 184 0xFF) c.split_at.ensures.back ∙ later_bytes c.args.section.now c.args.from (omega (arith, c.requires.from)))
