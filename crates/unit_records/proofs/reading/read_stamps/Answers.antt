use Rattle.std.proofs.Common.{◌≡◌, length, arith, rules}
use Rattle.unit_records.proofs.reading.read_stamps.Goals as goal

pub returns-in-Ok-clause-found : goal.returns-in-Ok-clause-found
returns-in-Ok-clause-found g c =
    let full : length c.fill.new.part ≡ 16 = omega (arith, c.fill.auto.part) in
    (c.fill.new.part, (full, search rules, search rules))
