use Rattle.std.proofs.Common.{◌∙◌, Option, ap, sym}
use Rattle.psi_tables.specs.ProgramMap.{PmtView}
use Rattle.program_tables.specs.ProgramMaps.{numbered}
use Rattle.program_tables.proofs.NumberedMaps.{by_number}
use Rattle.program_tables.proofs.program_map.pmt_in.Goals as goal

pub returns : goal.returns
returns c =
    c.numbered.ensures ∙ ap (λ (found : Option PmtView). numbered c.args.number found) c.map_in.ensures ∙ sym (by_number c.args.number c.args.bytes.now)
