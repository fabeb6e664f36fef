use Rattle.std.proofs.Common.{◌≡◌, ℕ, ◌∙◌, ap, ap₂, ◌++◌, ◌∷◌, ◌≤◌, [], List, Some, sym, append-nil, replicate, false, arith}
use Rattle.std.proofs.lemmas.List.{take-replicate}
use Rattle.ts_packet.specs.Packets.{pcr_packet, plain_header, plain_parts}
use Rattle.ts_packet.specs.Writing.{packet_bytes, header_bytes, reference_bytes, optional_bytes, adaptation_bytes}
use Rattle.ts_packet.specs.Views.{WithFlags}
use Rattle.ts_packet.proofs.Filling.{pcr_field_bytes}
use Rattle.ts_packet.proofs.plain_packets.write_pcr_into.Goals as goal

pub returns : goal.returns
unfolding pcr_packet packet_bytes
returns c =
    let pcr = c.args.pcr in
    let field = optional_bytes adaptation_bytes (Some (WithFlags (plain_parts (Some pcr) 176))) in
    let header : c.copy_from_slice.new.self ≡ header_bytes (plain_header c.args.pid false 15) 2 =
    c.copy_from_slice.ensures.after ∙ c.header_bytes.ensures ∙ ap (λ h. header_bytes h 2) c.plain_header.ensures in
    let reference : c.copy_from_slice-3.new.self ≡ reference_bytes pcr =
    c.copy_from_slice-3.ensures.after ∙ c.reference_bytes-reference.ensures ∙ ap reference_bytes c.from.ensures in
    let within : 176 ≤ 184 = omega arith in
    let stuffing : c.copy_from_slice-4.new.self ≡ replicate 176 0xFF =
    c.copy_from_slice-4.ensures.after ∙ take-replicate {X = ℕ} 176 184 0xFF within in
    let parts : (c.copy_from_slice-2.new.self ++ c.copy_from_slice-3.new.self) ++ c.copy_from_slice-4.new.self ≡ field ++ [] =
    ap₂ (λ (a b : List ℕ). (a ++ b) ++ c.copy_from_slice-4.new.self) c.copy_from_slice-2.ensures.after reference
    ∙ ap (λ (l : List ℕ). 183 ∷ 16 ∷ (reference_bytes pcr ++ l)) stuffing
    ∙ sym (pcr_field_bytes pcr) ∙ sym (append-nil field) in
    ap₂ (λ (h t : List ℕ). h ++ t) header parts
