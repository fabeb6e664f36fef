-- The buffers of the transport stream system target decoder that have one size for all (ISO/IEC 13818-1, 2.4.2.3):
-- sizes in bytes, drains in bits a second.
use Rattle.std.specs.Prelude.{ℕ}

-- a transport buffer, TB
abbrev pub tb_size : ℕ
tb_size = 512

-- the drain of the transport buffer of a program's tables
abbrev pub system_tb_drain : ℕ
system_tb_drain = 1000000

-- the system buffer of a program's tables, Bsys, and its drain
abbrev pub bsys_size : ℕ
bsys_size = 1536

abbrev pub bsys_drain : ℕ
bsys_drain = 80000
