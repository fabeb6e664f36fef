use Rattle.std.proofs.Common.{◌≤◌, ap, sym, ◌∙◌, arith, length, option_map}
use Rattle.description_parts.specs.Tables.{sdt_parts, services_length}
use Rattle.description_parts.proofs.SdtParts.{lengths_all, lengths_pushed, most_parts}
use Rattle.description_parts.proofs.contents.Contents.sdt_lengths.Goals as goal

pub loop-part-preserved : goal.loop-part-preserved
loop-part-preserved c =
    let at = sym c.sdt_part.ensures.value ∙ ap (option_map (λ s. s.now)) c.in-Some.is in
    record {
      lengths = lengths_pushed (services_length c.args.self.now) (sdt_parts c.args.self.now) c.loop-part.part c.in-Some.services.now
          c.loop-part.lengths.items _ _ c.push.ensures.items c.loop-part.invariant.lengths c.services_length.ensures at;
      few = omega (arith, c.push.ensures.len, c.loop-part.invariant.few);
    }

pub returns : goal.returns
returns c =
    let d = c.args.self.now in
    let count = ap length c.programs-part-end.ensures.value in
    let most = most_parts d.is_transponder d.programs c.programs-part-end.ensures.counts.some_programs in
    let past : length (sdt_parts d) ≤ c.loop-part.part = omega (arith, count, most, c.loop-part-test.false) in
    c.loop-part.invariant.lengths ∙ lengths_all (services_length d) (sdt_parts d) c.loop-part.part past
