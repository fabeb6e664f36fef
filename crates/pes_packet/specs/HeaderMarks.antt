-- The marks that a PES header carries.
use Rattle.std.specs.Prelude.{◌==◌, Bool, option_map}
use Rattle.pes_packet.specs.Marks.{sixteen}
use Rattle.pes_packet.specs.declared.marks.Marks.{Marks}
use Rattle.pes_packet.specs.declared.reading.PesHeader.{PesHeader}

-- its flags, whether it has 45 bytes (EN 300 472, 4.2: PES_header_data_length 0x24), and PES_private_data; the random_access_indicator is
-- its packet's
abbrev pub header_marks : Bool → PesHeader → Marks
header_marks access header = record {
  random_access = access;
  flags = header.flags;
  long = header.data_length == 36;
  private_data = option_map sixteen header.private_data;
}
