-- How the items of a description are named: a stream by its PID, a program by its program_number, a table by its kind.
use Rattle.std.specs.Prelude.{ℕ, List, ◌++◌, Option, Some, None, codes, decimal, slice_get}
use Rattle.description_parts.specs.Described.{Described, DescribedProgram, DescribedStream}
use Rattle.description_parts.specs.Tables.{table_kind}
use Rattle.description_parts.specs.declared.table_kind.TableKind.{TableKind}
use Rattle.description_parts.specs.declared.table_kind.TableKind.TheVariants.{Pat, Pmt, Nit, Sdt, Eit, Tdt, Private}

-- a number that names nothing is its own name
unfoldable pub name_of_stream : ℕ → Option DescribedStream → List ℕ
name_of_stream i (Some s) = codes "pid " ++ decimal s.pid
name_of_stream i None = codes "stream " ++ decimal i

unfoldable pub name_of_program : ℕ → Option DescribedProgram → List ℕ
name_of_program i (Some p) = codes "program " ++ decimal p.number
name_of_program i None = codes "program number " ++ decimal i

abbrev pub stream_name : Described → ℕ → List ℕ
stream_name d i = name_of_stream i (slice_get d.streams i)

abbrev pub program_name : Described → ℕ → List ℕ
program_name d i = name_of_program i (slice_get d.programs i)

unfoldable pub name_of_table : Described → ℕ → Option TableKind → List ℕ
name_of_table d t (Some Pat) = codes "PAT"
name_of_table d t (Some (Pmt i)) = codes "PMT of " ++ program_name d i
name_of_table d t (Some Nit) = codes "NIT"
name_of_table d t (Some Sdt) = codes "SDT"
name_of_table d t (Some Eit) = codes "EIT"
name_of_table d t (Some Tdt) = codes "TDT"
name_of_table d t (Some (Private i)) = codes "private table " ++ decimal i
name_of_table d t None = codes "table " ++ decimal t

abbrev pub table_name : Described → ℕ → List ℕ
table_name d t = name_of_table d t (table_kind d t)
