-- The promise for a stream whose units are PES packets of several access units (ISO/IEC 13818-1, 2.4.2.3), over runs of any length:
-- the main buffer has room for access units that are removed one by one.
--
-- A multiplexer sees no access units inside a unit. So the promise covers each way to cut the units into access units that keeps
-- the description's declaration for them: the cut that the stream has is among these.
use Rattle.std.specs.Prelude.{ℕ, ◌≤◌, Bool, List}
use Rattle.unit_timing.specs.declared.framing.FrameDeclaration.{FrameDeclaration}
use Rattle.unit_timing.specs.Transport.{NoneLeavesEarly}
use Rattle.unit_timing.specs.Plans.{Declaration, run_packets}
use Rattle.unit_timing.specs.AccessUnits.{FramedPacket, packets_of, framed_fullness}

-- at each moment the main buffer holds at most its size, even where bytes leave the transport buffer at other times, as in
-- `StreamServed`
abbrev pub FramesServed : (ℕ → Bool) → ℕ → Declaration → FrameDeclaration → List FramedPacket → Type 0
FramesServed own rate s f packets = (n x : ℕ) (left : List ℕ) → NoneLeavesEarly s.drain (run_packets own rate s (packets_of packets) n) left →
    framed_fullness rate s.drain x f.frame packets left ≤ s.main
