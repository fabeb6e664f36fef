-- The remaining part of a walk over the payload bytes of a PID.
use Rattle.std.specs.Prelude.{ℕ, List, ◌++◌}
use Rattle.tstd.specs.PacketLists.{payloads_from}
use Rattle.tstd.specs.declared.payloads.Payloads.{Payloads}

-- the bytes that the walk has not yet given
unfoldable pub bytes_ahead : Payloads → List ℕ
bytes_ahead walk = walk.rest.now ++ payloads_from walk.pid walk.packets.now
