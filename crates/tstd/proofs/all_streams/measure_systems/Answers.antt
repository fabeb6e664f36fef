use Rattle.std.proofs.Common.{◌≡◌, ◌∙◌, ℕ, ◌∷◌, [], arith, get_or, subst}
use Rattle.std.proofs.lemmas.List.{length-append}
use Rattle.tstd.specs.PacketLists.{tables_from}
use Rattle.tstd.specs.Measured.{IsSystemFullness}
use Rattle.tstd.proofs.StreamsInTurn.{systems_next}
use Rattle.tstd.proofs.all_streams.measure_systems.Goals as goal

pub loop-program-preserved : goal.loop-program-preserved
loop-program-preserved g c =
    let inv = c.loop-program.invariant in
    let d = c.args.description.now in
    let u = c.program-item.result in
    let i = c.loop-program.program-index in
    let v = c.measure_tables.result in
    let chunks = c.as_chunks.result.0.now in
    let at : u ≡ get_or d.programs i u = rw c.programs-program-items.ensures.value at c.program-item.is in
    let is : IsSystemFullness d.rate (tables_from c.pmt_pid.result 0 chunks) v =
    subst (λ (n : ℕ). IsSystemFullness n (tables_from c.pmt_pid.result 0 chunks) v) (c.bits_per_second-rate.ensures.value ∙ c.rate.ensures)
    c.measure_tables.ensures in
    record {
      count = rw c.in_ok-push.ensures.items (length-append c.loop-program.programs.items (v ∷ []) ∙ omega (arith, inv.count));
      each = λ number p f there full. systems_next d.rate c.args.bytes.now chunks d.programs c.loop-program.programs.items v u c.pmt_pid.result i
          c.as_chunks.ensures.front inv.count at c.pmt_pid.ensures is inv.each number p f there (rw c.in_ok-push.ensures.items at full);
    }
