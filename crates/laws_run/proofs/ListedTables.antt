-- The entries of private tables in a program's map can be written.
use Rattle.std.proofs.Common.{ℕ, ◌==◌, Bool, true, false, if◌then◌else◌, List, [], ◌∷◌, ◌++◌, Option, Some, None, option_map, option_and_then, All, arith}
use Rattle.std.specs.List.{cons_option}
use Rattle.std.specs.Option.{option_to_list}
use Rattle.std.proofs.lemmas.List.Elements.{All-nil, All-head, All-tail}
use Rattle.psi_tables.specs.ProgramMap.{StreamView, StreamFits, StreamsFit}
use Rattle.description_parts.specs.Described.{DescribedEntry, DescribedTable}
use Rattle.description_parts.specs.Ranges.{IsPid, IsEntry, IsTable}
use Rattle.description_parts.specs.Tables.{entry_if_of, entry_in}
use Rattle.description.specs.SectionBytes.{table_stream, pmt_tables}

kept_if : (b : Bool) (e : DescribedEntry) → All IsEntry (e ∷ []) → All IsEntry (option_to_list (if b then Some e else None))
kept_if true e h = h
kept_if false e h = All-nil IsEntry

kept_in : (n : ℕ) (o : Option DescribedEntry) → All IsEntry (option_to_list o) → All IsEntry (option_to_list (option_and_then (entry_if_of n) o))
kept_in n None h = h
kept_in n (Some e) h = kept_if (e.program == n) e h

entry_fits : (pid : ℕ) (e : DescribedEntry) → IsPid pid → IsEntry e → StreamFits (table_stream pid e)
entry_fits pid e p i = record {
  stream_type = omega (arith, i.most_type);
  elementary_pid = omega (arith, p.high);
  info_length = omega (arith, i.descriptors.fits);
}

one_fits : (pid : ℕ) (o : Option DescribedEntry) (rest : List StreamView) → IsPid pid → All IsEntry (option_to_list o) → StreamsFit rest
    → StreamsFit (cons_option (option_map (table_stream pid) o) rest)
one_fits pid None rest p h r = r
one_fits pid (Some e) rest p h r = (entry_fits pid e p (All-head IsEntry e [] h), r)

pub tables_fit : (n : ℕ) (ts : List DescribedTable) → All IsTable ts → StreamsFit (pmt_tables n ts)
tables_fit n [] h = tt
tables_fit n (t ∷ ts) h =
    let is = All-head IsTable t ts h in
    one_fits t.pid (entry_in n t) (pmt_tables n ts) is.pid (kept_in n t.entry is.entry) (tables_fit n ts (All-tail IsTable t ts h))

-- If both parts of a loop can be written, the whole loop can.
pub both_fit : (xs ys : List StreamView) → StreamsFit xs → StreamsFit ys → StreamsFit (xs ++ ys)
both_fit [] ys h k = k
both_fit (x ∷ xs) ys h k = (h.0, both_fit xs ys h.1 k)
