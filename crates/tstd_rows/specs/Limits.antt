-- The limits of a view: the buffer sizes that are the same for all streams (ISO/IEC 13818-1, 2.4.2.3), and how many bytes are viewed.
use Rattle.std.specs.Prelude.{ℕ, ◌-◌, ◌^◌}
pub use Rattle.unit_timing.specs.Buffers.{bsys_size, tb_size}

-- the most bytes of a stream that enter a buffer
abbrev pub most_bytes : ℕ
most_bytes = 2 ^ 40

-- packets before this one enter the buffers: 188 bytes each, they lie within the first 2^40 bytes
abbrev pub last_index : ℕ
last_index = 5848000000

-- the most bytes before a packet that enters
abbrev pub last_bytes : ℕ
last_bytes = most_bytes - 188
