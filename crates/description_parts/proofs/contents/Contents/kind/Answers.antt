use Rattle.std.proofs.Common.{◌≡◌, ◌≤◌, ◌<◌, length, arith, ◌∙◌, ap}
use Rattle.description_parts.specs.Tables.{service_tables}
use Rattle.description_parts.proofs.TableNumbers.{table_kind-pmt, table_kind-service, table_kind-private, table_kind-none}
use Rattle.description_parts.proofs.contents.Contents.kind.Goals as goal

pub returns-then-table-programs : goal.returns-then-table-programs
returns-then-table-programs c =
    let most : c.args.table ≤ length c.args.self.now.programs = rw c.programs-programs.ensures.value at c.if-table-programs.true in
    table_kind-pmt c.args.self.now c.args.table (omega arith) most

pub returns-then-place-count : goal.returns-then-place-count
returns-then-place-count c =
    let low : length c.args.self.now.programs < c.args.table = rw c.programs-programs.ensures.value at c.if-table-programs.false in
    let count = c.len-count.ensures.value ∙ ap length c.service_tables-services.ensures in
    let high = rw (c.programs-programs.ensures.value, count) at c.if-place-count.true in
    rw (c.deref.ensures.0, c.service_tables-services.ensures, c.programs-programs.ensures.value) (table_kind-service c.args.self.now c.args.table low high)

pub returns-then-private-private_tables : goal.returns-then-private-private_tables
returns-then-private-private_tables c =
    let low : length c.args.self.now.programs < c.args.table = rw c.programs-programs.ensures.value at c.if-table-programs.false in
    let count : c.len-count.result ≡ length (service_tables c.args.self.now) = c.len-count.ensures.value ∙ ap length c.service_tables-services.ensures in
    let past = rw (c.programs-programs.ensures.value, count) at c.if-place-count.false in
    let within = rw (c.programs-programs.ensures.value, count, c.private_tables.ensures.value) at c.if-private-private_tables.true in
    rw (c.programs-programs.ensures.value, count) (table_kind-private c.args.self.now c.args.table _ (omega arith) within)

pub returns-else-private-private_tables : goal.returns-else-private-private_tables
returns-else-private-private_tables c =
    let low : length c.args.self.now.programs < c.args.table = rw c.programs-programs.ensures.value at c.if-table-programs.false in
    let count : c.len-count.result ≡ length (service_tables c.args.self.now) = c.len-count.ensures.value ∙ ap length c.service_tables-services.ensures in
    let past = rw (c.programs-programs.ensures.value, count) at c.if-place-count.false in
    let over = rw (c.programs-programs.ensures.value, count, c.private_tables.ensures.value) at c.if-private-private_tables.false in
    table_kind-none c.args.self.now c.args.table _ (omega arith) over
