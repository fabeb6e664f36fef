use Rattle.std.proofs.Common.{arith, refl}
use Rattle.std.proofs.lemmas.Nat.{mod_below}
use Rattle.description.proofs.SectionCounts.{sections_law}
use Rattle.plan_checker.proofs.Rounds.{few_places}
use Rattle.description_parts.specs.Tables.{round_packets}
use Rattle.mux_core.proofs.coming.silent_after.Goals as goal

pub nonzero_rem-number : goal.nonzero_rem-number
nonzero_rem-number c = rw c.round_packets.ensures ((sections_law c.args.description.now c.args.table c.keeps_ranges.ensures c.requires).2)

pub overflow_cast-number : goal.overflow_cast-number
overflow_cast-number c =
    let some = (sections_law c.args.description.now c.args.table c.keeps_ranges.ensures c.requires).2 in
    let below = mod_below c.args.before (round_packets c.args.description.now c.args.table) some in
    let few = few_places c.args.description.now c.keeps_ranges.ensures c.args.table in
    rw c.round_packets.ensures (record { fits = omega (arith, below, few) })

pub silent-requires-clause-number : goal.silent-requires-clause-number
silent-requires-clause-number c =
    let some = (sections_law c.args.description.now c.args.table c.keeps_ranges.ensures c.requires).2 in
    rw (c.round_packets.ensures, c.deref.ensures.0, c.section_lengths.ensures)
    (mod_below c.args.before (round_packets c.args.description.now c.args.table) some)

pub returns : goal.returns
returns c =
    rw (c.silent.ensures, c.table_pid.ensures, c.rate.ensures, c.deref.ensures.0, c.section_lengths.ensures, c.round_packets.ensures) refl
