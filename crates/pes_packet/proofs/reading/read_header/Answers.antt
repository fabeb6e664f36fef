-- The reading function agrees with the table of fields in both directions.
use Rattle.std.proofs.Common.{◌∙◌, arith}
use Rattle.pes_packet.proofs.reading.read_header.Goals as goal
use Rattle.pes_packet.proofs.HeaderFields.{is_found, header_is_read}

pub returns-clause-found : goal.returns-clause-found
returns-clause-found c =
    is_found c.args.bytes.now c.header_at.result (λ i. omega (arith, c.type_inv.bytes i)) c.header_at.ensures

pub returns-clause-only : goal.returns-clause-only
returns-clause-only c = λ header size h.
    c.header_at.ensures ∙ header_is_read c.args.bytes.now header size (λ i. omega (arith, c.type_inv.bytes i)) h
