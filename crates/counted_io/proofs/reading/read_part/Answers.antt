use Rattle.std.proofs.Common.{◌-◌, length, subst, sym, ◌∙◌, rules}
use Rattle.std.specs.Io.KnownBytes.{Consumes}
use Rattle.std.proofs.KnownBytes.{Consumes-trans}
use Rattle.counted_io.proofs.Transfers.{filled_more}
use Rattle.counted_io.proofs.reading.read_part.Goals as goal

pub loop-taken-preserved : goal.loop-taken-preserved
loop-taken-preserved g c =
    let part = c.loop-taken.part in
    let before = c.loop-taken.invariant in
    let fits = c.in-Ok.ensures.bound.0 in
    record {
      within = search rules;
      bytes = subst (Consumes _ _)
          (sym (filled_more c.loop-taken.taken (length part - c.loop-taken.taken) c.in-Ok.n part c.read_some.new.part before.within fits))
          (Consumes-trans _ _ _ _ _ before.bytes c.in-Ok.ensures.bytes.0);
      clean = c.in-Ok.ensures.counts ∙ before.clean;
    }
