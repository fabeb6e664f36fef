use Rattle.std.proofs.Common.{◌≤◌, ◌+◌, ◌-◌, length, take, drop, subst, arith, ◌∙◌, rules}
use Rattle.std.proofs.lemmas.Grind.{common_steps}
use Rattle.std.specs.Io.KnownBytes.{Appends}
use Rattle.std.proofs.KnownBytes.{Appends-trans}
use Rattle.counted_io.proofs.Transfers.{front_more}
use Rattle.counted_io.proofs.writing.write_part.Goals as goal

pub loop-taken-preserved : goal.loop-taken-preserved
loop-taken-preserved g c =
    let part = c.args.part.now in
    let before = c.loop-taken.invariant in
    let fits : c.in-Ok.n ≤ length (take (length part - c.loop-taken.taken) (drop c.loop-taken.taken part)) = search rules in
    let more : c.loop-taken.taken + c.in-Ok.n ≤ length part = grind (arith, common_steps, fits) in
    record {
      within = more;
      bytes = subst (Appends _ _) (front_more c.loop-taken.taken c.in-Ok.n part before.within fits)
          (Appends-trans _ _ _ _ _ before.bytes c.in-Ok.ensures.bytes);
      clean = c.in-Ok.ensures.counts ∙ before.clean;
    }
