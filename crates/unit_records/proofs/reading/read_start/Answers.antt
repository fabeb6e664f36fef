use Rattle.std.proofs.Common.{◌≡◌, length, arith, rules}
use Rattle.unit_records.proofs.reading.read_start.Goals as goal

pub returns-else-size-gt-MAX_UNIT_SIZE-clause-found : goal.returns-else-size-gt-MAX_UNIT_SIZE-clause-found
returns-else-size-gt-MAX_UNIT_SIZE-clause-found g c =
    let five : length c.read_part.new.part ≡ 5 = omega (arith, c.read_part.auto.part) in
    (c.read_part.new.part, (five, search rules, search rules))
