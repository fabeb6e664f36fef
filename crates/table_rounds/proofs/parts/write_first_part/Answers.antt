use Rattle.std.proofs.Common.{◌%◌, List, ℕ, ap, ◌∙◌, arith}
use Rattle.ts_packet.specs.declared.start.Start.TheVariants.{Begins}
use Rattle.ts_packet.specs.Packets.{payload_packet}
use Rattle.slot_contents.specs.Contents.{packet_of}
use Rattle.table_rounds.proofs.SectionParts.{long_first_bytes}
use Rattle.table_rounds.proofs.parts.write_first_part.Goals as goal

pub returns : goal.returns
unfolding packet_of
returns c =
    c.write_split_payload_into.ensures
    ∙ ap (λ (l : List ℕ). payload_packet c.args.pid Begins (c.args.counter % 16) l)
    (long_first_bytes c.args.section.now c.split_at.result.0.now (omega (arith, c.if-section.false)) c.split_at.ensures.front)
