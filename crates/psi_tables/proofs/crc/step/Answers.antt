use Rattle.std.proofs.Common.{ℕ, bit_xor, sym, ap, ◌∙◌, arith, ◌*◌, ◌%◌}
use Rattle.psi_tables.proofs.Linear.{after_byte_is}
use Rattle.psi_tables.proofs.crc.step.Goals as goal

pub returns : goal.returns
returns c = ap (λ (n : ℕ). bit_xor (c.args.register * 256 % 4294967296) n) c.crc_table_entry.ensures
    ∙ sym (after_byte_is c.args.register c.args.byte (omega arith))
