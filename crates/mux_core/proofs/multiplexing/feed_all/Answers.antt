use Rattle.std.proofs.Common.{◌≡◌, [], ℕ, List, length, sym, ap, ◌∙◌, subst, arith, rules}
use Rattle.pes_packet.specs.AccessUnits.{AccessUnit}
use Rattle.mux_core.specs.WholeJobs.{job_history, first_refused, AllFed}
use Rattle.mux_core.proofs.JobFeeding.{FedSoFar, fed_more, fed_refused, fed_all}
use Rattle.mux_core.proofs.multiplexing.feed_all.Goals as goal

pub units-preserved : goal.units-preserved
units-preserved g c = record {
  index = omega (arith, c.units.invariant.index, ap (length {A = ℕ × AccessUnit}) c.in-Some.ensures.items);
  fed = λ st.
      let w = subst (λ (l : List (ℕ × AccessUnit)). FedSoFar c.args.mux.now c.from-left.result.items c.units.mux c.units.index l) c.in-Some.ensures.items
      (c.units.invariant.fed st) in
      fed_more c.args.mux.now c.units.mux c.from-left.result.items c.units.index (c.in-Some.stream, c.in-Some.unit) c.pop_front.new.self.items c.feed.new.self w
      (c.in-Ok.ensures.takes (job_history w.fed 0) w.represents);
}

pub returns-in-Err : goal.returns-in-Err
returns-in-Err g c = record {
  fed = λ st.
      let w = subst (λ (l : List (ℕ × AccessUnit)). FedSoFar c.args.mux.now c.from-left.result.items c.units.mux c.units.index l) c.in-Some.ensures.items
      (c.units.invariant.fed st) in
      ap (λ (l : List (ℕ × AccessUnit)). first_refused c.args.mux.now.schedule c.args.mux.now.capacity [] l) (sym c.from-left.ensures.0)
      ∙ fed_refused c.args.mux.now c.units.mux c.from-left.result.items c.units.index (c.in-Some.stream, c.in-Some.unit) c.pop_front.new.self.items
      c.in-Err.cause c.feed.new.self w
      (c.in-Err.ensures.takes (job_history w.fed 0) w.represents);
}

pub returns : goal.returns
returns g c = record {
  fed = λ st.
      let none : c.units.left.items ≡ [] = search rules in
      subst (λ (l : List (ℕ × AccessUnit)). AllFed c.args.mux.now l c.units.mux) c.from-left.ensures.0
      (fed_all c.args.mux.now c.units.mux c.from-left.result.items c.units.index c.units.left.items (c.units.invariant.fed st) none);
}
