use Rattle.description_parts.proofs.TableNumbers.{table_count-is}
use Rattle.description_parts.proofs.contents.Contents.tables.Goals as goal

pub returns : goal.returns
returns c = rw (c.programs.ensures.value, c.private_tables.ensures.value, c.len.ensures.value, c.service_tables.ensures) (table_count-is c.args.self.now)
