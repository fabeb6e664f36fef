use Rattle.std.proofs.Common.{ℕ, ◌≡◌, ◌∙◌, ap₂, ◌++◌, ◌-◌, ◌≤◌, List, length, replicate, rules}
use Rattle.std.proofs.lemmas.List.{take-replicate}
use Rattle.ts_packet.proofs.plain_packets.write_flags_and_stuffing.Goals as goal

pub returns-clause-bytes : goal.returns-clause-bytes
returns-clause-bytes c =
    let size = length c.args.field.now in
    let within : size - 2 ≤ 184 = search rules in
    let stuffing : c.copy_from_slice-2.new.self ≡ replicate (size - 2) 0xFF =
    c.copy_from_slice-2.ensures.after ∙ take-replicate {X = ℕ} (size - 2) 184 0xFF within in
    ap₂ (λ (a b : List ℕ). a ++ b) c.copy_from_slice.ensures.after stuffing
