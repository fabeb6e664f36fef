use Rattle.std.specs.Prelude.{slice_index_or}
use Rattle.std.proofs.Common.{◌≡◌, ℕ, length, arith, ap, sym, ◌∙◌, rules}
use Rattle.own_slots.specs.Extremes.{greatest}
use Rattle.own_slots.proofs.Extremes.{greatest_none, greatest_more}
use Rattle.clock27.proofs.MinMax.{max_is}
use Rattle.description_parts.specs.Tables.{packets_of_section}
use Rattle.plan_checker.proofs.section_distances.most_packets.Goals as goal

pub loop-j-init : goal.loop-j-init
loop-j-init c = sym (greatest_none (λ j. packets_of_section (slice_index_or c.args.lengths.now j 0)))

pub loop-j-preserved : goal.loop-j-preserved
loop-j-preserved c =
    let here : c.packets_of_section.result ≡ packets_of_section (slice_index_or c.args.lengths.now c.loop-j.j 0) = search rules in
    omega (
      arith,
      c.max-most.ensures,
      max_is c.loop-j.most c.packets_of_section.result,
      c.loop-j.invariant,
      here,
      greatest_more c.loop-j.j (λ j. packets_of_section (slice_index_or c.args.lengths.now j 0)),
    )

pub returns : goal.returns
returns c =
    let e : c.loop-j.j ≡ length c.args.lengths.now = search rules in
    c.loop-j.invariant ∙ ap (λ (n : ℕ). greatest n (λ j. packets_of_section (slice_index_or c.args.lengths.now j 0))) e
