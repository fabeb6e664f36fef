use Rattle.std.proofs.Common.{rules, ◌≡◌, ◌-◌, ◌%◌, min, length, take, replicate, List, ℕ, arith, ap, ◌∙◌}
use Rattle.std.proofs.lemmas.List.{take-replicate, length-take}
use Rattle.ts_packet.specs.Packets.{payload_packet}
use Rattle.slot_contents.specs.Contents.{packet_of}
use Rattle.table_rounds.proofs.SectionParts.{filled_parts}
use Rattle.table_rounds.proofs.parts.write_filled.Goals as goal

pub returns : goal.returns
unfolding packet_of
returns c =
    let size : c.min.result ≡ min (length c.args.bytes.now) 184 = search rules in
    let front : length c.split_at.result.0.now ≡ c.min.result =
    ap (length {A = ℕ}) c.split_at.ensures.front ∙ omega (arith, length-take c.min.result c.args.bytes.now, size) in
    c.write_split_payload_into.ensures
    ∙ ap (λ (l : List ℕ). payload_packet c.args.pid c.args.start (c.args.counter % 16) l)
    (filled_parts c.args.bytes.now c.split_at.result.0.now _ c.min.result size c.split_at.ensures.front
    (ap (λ (n : ℕ). take (184 - n) (replicate {A = ℕ} 184 0xFF)) front ∙ take-replicate {X = ℕ} (184 - c.min.result) 184 0xFF (omega arith)))
