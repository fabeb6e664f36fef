-- The numbers of a stream's multiplexing buffer are in their ranges.
use Rattle.std.specs.Prelude.{◌≤◌, Some, []}
use Rattle.std.proofs.Common.{◌≡◌, arith}
use Rattle.std.proofs.lemmas.List.Elements.{All-head}
use Rattle.unit_timing.specs.declared.multiplexing_buffer.MultiplexingBuffer.{MultiplexingBuffer}
use Rattle.description_parts.specs.Described.{DescribedStream}
use Rattle.description_parts.specs.Ranges.{IsMultiplexingBuffer, IsStream}

ranges_of : (s : DescribedStream) (b : MultiplexingBuffer) → IsStream s → s.multiplexing ≡ Some b → IsMultiplexingBuffer s.rx b
ranges_of s b is some = All-head (IsMultiplexingBuffer s.rx) b [] (rw some at is.multiplexing)

-- The leak is no faster than the fastest drain of a transport buffer.
pub leak_most : (s : DescribedStream) (b : MultiplexingBuffer) → IsStream s → s.multiplexing ≡ Some b → b.rbx ≤ 200000000
leak_most s b is some = omega (arith, (ranges_of s b is some).most_rbx, is.most_rx)

pub size_most : (s : DescribedStream) (b : MultiplexingBuffer) → IsStream s → s.multiplexing ≡ Some b → b.size ≤ 10000000
size_most s b is some = (ranges_of s b is some).most_size
