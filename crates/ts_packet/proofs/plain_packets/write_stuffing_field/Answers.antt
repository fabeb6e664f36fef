use Rattle.std.proofs.Common.{◌≡◌, ◌∙◌, ◌<◌, sym, length, rules}
use Rattle.std.proofs.lemmas.List.{nil_from_length}
use Rattle.ts_packet.proofs.Filling.{stuffing_none, stuffing_long}
use Rattle.ts_packet.proofs.plain_packets.write_stuffing_field.Goals as goal

pub returns-in-0-clause-bytes : goal.returns-in-0-clause-bytes
returns-in-0-clause-bytes c =
    let none : length c.args.field.now ≡ 0 = search rules in
    nil_from_length c.args.field.now none ∙ sym (stuffing_none (length c.args.field.now) none)

pub returns-in_default-clause-bytes : goal.returns-in_default-clause-bytes
returns-in_default-clause-bytes c =
    let more : 1 < length c.args.field.now = search rules in
    c.write_flags_and_stuffing.ensures.bytes ∙ sym (stuffing_long (length c.args.field.now) more)
