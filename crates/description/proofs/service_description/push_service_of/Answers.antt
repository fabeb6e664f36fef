use Rattle.std.proofs.Common.{arith, rules, length, ◌≡◌, ◌+◌, ◌++◌, [], ◌∷◌}
use Rattle.dvb_tables.specs.Services.{service_loop_of, services_bytes}
use Rattle.description_parts.specs.Tables.{service_length}
use Rattle.description.specs.SectionBytes.{service_says}
use Rattle.description.proofs.LoopLengths.{services_bytes-push, encoded_length}
use Rattle.description.proofs.service_description.push_service_of.Goals as goal

pub unreachable-requires : goal.unreachable-requires
unreachable-requires c =
    let longer = services_bytes-push (service_loop_of c.args.entries.now) (service_says c.args.has_eit c.args.program.now) in
    let room = c.requires in
    grind (arith, longer, room)

pub returns-clause-length : goal.returns-clause-length
returns-clause-length c =
    let value : service_loop_of c.push.new.self ≡ service_loop_of c.args.entries.now ++ service_says c.args.has_eit c.args.program.now ∷ [] = search rules in
    let longer = services_bytes-push (service_loop_of c.args.entries.now) (service_says c.args.has_eit c.args.program.now) in
    let is : length (services_bytes (service_loop_of c.args.entries.now ++ service_says c.args.has_eit c.args.program.now ∷ []))
    ≡ length (services_bytes (service_loop_of c.args.entries.now)) + service_length c.args.program.now = omega (arith, longer) in
    encoded_length services_bytes (service_loop_of c.push.new.self) (service_loop_of c.args.entries.now ++ service_says c.args.has_eit c.args.program.now ∷ [])
    (length (services_bytes (service_loop_of c.args.entries.now)) + service_length c.args.program.now) value is
