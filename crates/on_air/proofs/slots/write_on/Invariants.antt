use Rattle.std.proofs.Common.{◌≡◌, ◌+◌, ℕ, List, Option}
use Rattle.mux_core.specs.Buffer.{IsOutput}
use Rattle.mux_core.specs.Histories.{History}
use Rattle.mux_core.specs.MuxStates.{Represents}
use Rattle.mux_core.specs.WholeJobs.{run_output}
use Rattle.slot_contents.specs.Contents.{Content}
use Rattle.on_air.specs.AirStates.{GoesOn}
use Rattle.on_air.proofs.SlotsOn.{OnWay}
use Rattle.on_air.proofs.slots.write_on.Given as goal

abbrev pub invariant-slots : goal.invariant-slots
invariant-slots g l = record {
  hex : l.packets.hex ≡ l.fn.packets.hex;
  clean : g.W.Sink.fault_count l.to ≡ g.W.Sink.fault_count l.fn.to;
  written : (h : History) (content : ℕ → Content) (start : Option (List ℕ)) → Represents h l.fn.mux → GoesOn l.fn.mux.schedule h content →
      IsOutput start (g.W.Write.contents l.fn.to) l.fn.packets (run_output l.fn.packets.hex content 0 h.slots) →
      OnWay h l.fn.mux l.mux content l.fn.packets.hex (h.slots + l.counter) start (g.W.Write.contents l.to) l.packets;
}
