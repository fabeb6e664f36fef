use Rattle.std.proofs.Common.{◌≡◌, ◌≤◌, ◌∙◌, Some, map, slice_get, option_map, sym, ap, arith}
use Rattle.std.proofs.Math.Nat.{le_trans}
use Rattle.description_parts.specs.Ranges.{longest_section}
use Rattle.description_parts.specs.Tables.{most_bytes, sdt_length, sdt_parts, services_length}
use Rattle.description_parts.proofs.RoomLengths.{room_least}
use Rattle.description.proofs.Pids.{at_place, get_map}
use Rattle.description.proofs.description.Description.write_sdt_at.Goals as goal

pub write_sdt-requires-clause-room : goal.write_sdt-requires-clause-room
write_sdt-requires-clause-room c =
    let at : slice_get (sdt_parts c.args.self.now) c.args.section ≡ Some c.in-Some.part.now =
    sym c.sdt_part.ensures ∙ ap (option_map (λ s. s.now)) c.in-Some.is in
    let room = at_place (λ l. l ≤ longest_section) (map (services_length c.args.self.now) (sdt_parts c.args.self.now)) c.args.section
    (services_length c.args.self.now c.in-Some.part.now) (c.keeps_ranges.ensures.sdt_lengths c.requires.sdt)
    (get_map (services_length c.args.self.now) (sdt_parts c.args.self.now) c.args.section c.in-Some.part.now at) in
    let fits = le_trans (room_least most_bytes c.args.self.now.rooms.sdt (sdt_length c.in-Some.part.now)) room in
    omega (arith, fits)
