use Rattle.std.proofs.Common.{◌≡◌, ◌+◌, ◌%◌, ◌++◌, ℕ, Bool, List, IfOk, IfErr, length, true, ap, ◌∙◌, subst, rules, arith}
use Rattle.pes_packet.specs.AccessUnits.{AccessUnit}
use Rattle.pes_packet.specs.Encoding.{pes_packet_bytes}
use Rattle.pes_packet.specs.Marks.{field_size}
use Rattle.pes_packet.specs.Payloads.{piece_count, unit_pieces}
use Rattle.ts_packet.specs.Beginnings.{start_by}
use Rattle.unit_queue.specs.OwnedStreams.{has_access}
use Rattle.mux_core.specs.Buffer.{IsOutput, Took}
use Rattle.mux_core.specs.Formats.{formatted_all}
use Rattle.mux_core.specs.PidPackets.{payload_packets}
use Rattle.mux_core.proofs.UnitPackets.{pes_is, header_some}
use Rattle.mux_core.proofs.pid_packets.push_unit.Goals as goal

pub push_pieces-requires-clause-lower : goal.push_pieces-requires-clause-lower
push_pieces-requires-clause-lower g c =
    let same : length c.deref.result.now ≡ length c.write_header-header.result.items = search rules in
    omega (
      arith,
      same,
      ap (length {A = ℕ}) c.write_header-header.ensures,
      header_some c.args.id c.len.result c.unit.inside.marks c.unit.inside.pts c.unit.inside.dts,
    )

pub returns-clause-ok : goal.returns-clause-ok
returns-clause-ok g c = λ start all number h e.
    let size : c.len.result ≡ length c.args.unit.now.bytes = search rules in
    let header : c.deref.result.now ≡ c.write_header-header.result.items = search rules in
    let bytes : c.deref-2.result.now ≡ c.args.unit.now.bytes = search rules in
    let pes : c.deref.result.now ++ c.deref-2.result.now ≡ pes_packet_bytes c.args.id 0 c.args.unit.now =
    pes_is c.args.id c.args.unit.now _ _ _ _ _ _ (header ∙ c.write_header-header.ensures) bytes size
    (ap (λ (u : AccessUnit). u.marks) c.unit.view_is) (ap (λ (u : AccessUnit). u.pts) c.unit.view_is) (ap (λ (u : AccessUnit). u.dts) c.unit.view_is) in
    let access : c.unit.inside.marks.random_access ≡ has_access c.args.unit.now = ap (λ (u : AccessUnit). u.marks.random_access) c.unit.view_is in
    subst (λ (b : Bool). IfOk c.push_pieces.result
    (λ next. (next ≡ (number + piece_count (field_size b + length (pes_packet_bytes c.args.id 0 c.args.unit.now))) % 16)
    × IsOutput start (g.W.Write.contents c.push_pieces.new.to) c.push_pieces.new.packets
    (all ++ formatted_all c.args.packets.now.hex
    (payload_packets c.args.pid (start_by true b) number (unit_pieces b (pes_packet_bytes c.args.id 0 c.args.unit.now)))))) access
    (subst (λ (x : List ℕ). IfOk c.push_pieces.result (λ next. (next ≡ (number + piece_count (field_size c.unit.inside.marks.random_access + length x)) % 16)
    × IsOutput start (g.W.Write.contents c.push_pieces.new.to) c.push_pieces.new.packets
    (all ++ formatted_all c.args.packets.now.hex
    (payload_packets c.args.pid (start_by true c.unit.inside.marks.random_access) number (unit_pieces c.unit.inside.marks.random_access x))))) pes
    (c.push_pieces.ensures.ok start all number h e))

pub returns-clause-err : goal.returns-clause-err
returns-clause-err g c = λ start all number h e.
    let size : c.len.result ≡ length c.args.unit.now.bytes = search rules in
    let header : c.deref.result.now ≡ c.write_header-header.result.items = search rules in
    let bytes : c.deref-2.result.now ≡ c.args.unit.now.bytes = search rules in
    let pes : c.deref.result.now ++ c.deref-2.result.now ≡ pes_packet_bytes c.args.id 0 c.args.unit.now =
    pes_is c.args.id c.args.unit.now _ _ _ _ _ _ (header ∙ c.write_header-header.ensures) bytes size
    (ap (λ (u : AccessUnit). u.marks) c.unit.view_is) (ap (λ (u : AccessUnit). u.pts) c.unit.view_is) (ap (λ (u : AccessUnit). u.dts) c.unit.view_is) in
    let access : c.unit.inside.marks.random_access ≡ has_access c.args.unit.now = ap (λ (u : AccessUnit). u.marks.random_access) c.unit.view_is in
    subst (λ (b : Bool). IfErr c.push_pieces.result (λ fault. Took start (g.W.Write.contents c.push_pieces.new.to) fault.sent
    (all ++ formatted_all c.args.packets.now.hex
    (payload_packets c.args.pid (start_by true b) number (unit_pieces b (pes_packet_bytes c.args.id 0 c.args.unit.now)))))) access
    (subst (λ (x : List ℕ). IfErr c.push_pieces.result (λ fault. Took start (g.W.Write.contents c.push_pieces.new.to) fault.sent
    (all ++ formatted_all c.args.packets.now.hex
    (payload_packets c.args.pid (start_by true c.unit.inside.marks.random_access) number (unit_pieces c.unit.inside.marks.random_access x))))) pes
    (c.push_pieces.ensures.err start all number h e))
