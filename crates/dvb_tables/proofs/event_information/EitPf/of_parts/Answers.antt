use Rattle.std.proofs.Common.{◌∙◌, sym, arith}
use Rattle.psi_tables.proofs.TableForms.{table_header_at-is}
use Rattle.dvb_tables.proofs.event_information.EitPf.of_parts.Goals as goal

pub of_body-requires : goal.of_body-requires
of_body-requires c =
    let h = table_header_at-is 0x4E 4093 (record { header = c.args.header; body = c.args.body.now }) c.in_ok-header.header
    (sym c.table_header_at.ensures ∙ c.in_ok-header.was) in
    omega (arith, h.section_length)
