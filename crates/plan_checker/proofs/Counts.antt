-- The number of parts of a description
use Rattle.std.proofs.Common.{◌≤◌, Bool, true, false, ◌++◌, length, arith}
use Rattle.std.proofs.lemmas.List.{length-append}
use Rattle.description_parts.specs.Described.{Described}
use Rattle.description_parts.specs.Ranges.{IsInRange}
use Rattle.description_parts.specs.Tables.{only_if, has_events_table, service_tables, table_count}
use Rattle.description_parts.specs.declared.table_kind.TableKind.{TableKind}
use Rattle.description_parts.specs.declared.table_kind.TableKind.TheVariants.{Nit, Sdt, Eit, Tdt}
use Rattle.description_parts.proofs.TableNumbers.{table_count-is}
use Rattle.std.specs.Prelude.{is_some}

at_most_one : (b : Bool) (x : TableKind) → length (only_if b x) ≤ 1
at_most_one true x = omega arith
at_most_one false x = omega arith

few_service_tables : (d : Described) → length (service_tables d) ≤ 4
few_service_tables d =
    let n = only_if (is_some d.network) Nit in let s = only_if d.has_sdt Sdt in let e = only_if (has_events_table d) Eit in let t =
    only_if d.has_tdt Tdt in
    omega (
      arith,
      length-append n (s ++ e ++ t),
      length-append s (e ++ t),
      length-append e t,
      length-append (n ++ s ++ e) t,
      length-append (n ++ s) e,
      length-append n s,
      at_most_one (is_some d.network) Nit,
      at_most_one d.has_sdt Sdt,
      at_most_one (has_events_table d) Eit,
      at_most_one d.has_tdt Tdt,
    )

-- The tables are the PAT, at most 64 PMTs, 4 tables of the service information, and at most 64 tables of the description itself.
pub few_tables : (d : Described) → IsInRange d → table_count d ≤ 133
few_tables d r = omega (arith, table_count-is d, few_service_tables d, r.most_programs, r.most_tables)
