-- The lines for tables that no job is made of.
use Rattle.std.specs.Prelude.{ℕ, ◌&&◌, ◌||◌, Bool, not, List, ◌++◌, flat_map, filter, codes, decimal}
use Rattle.other_tables.specs.TableKinds.{is_loss}
use Rattle.other_tables.specs.declared.kinds.TableKind.{TableKind}
use Rattle.other_tables.specs.declared.kinds.TableKind.TheVariants.{ConditionalAccess, Objects, Network, Services, Events, Time, Running, Applications, Splices}
use Rattle.other_tables.specs.declared.kinds.TableKind.TheVariants.{Private}
use Rattle.other_tables.specs.declared.tables.OtherTable.{OtherTable}
use Rattle.job_inputs.specs.JobInput.{JobInputView, carries_table}

unfoldable pub kind_name : TableKind → List ℕ
kind_name ConditionalAccess = codes "CAT, ECM or EMM"
kind_name Objects = codes "DSM-CC"
kind_name Network = codes "NIT"
kind_name Services = codes "SDT of other streams or BAT"
kind_name Events = codes "EIT"
kind_name Time = codes "TOT"
kind_name Running = codes "RST"
kind_name Applications = codes "AIT"
kind_name Splices = codes "SCTE 35"
kind_name Private = codes "another table"

unfoldable pub other_table_line : OtherTable → List ℕ
other_table_line t = codes "pid " ++ decimal t.pid ++ codes " has " ++ decimal t.count ++ codes " sections of " ++ kind_name t.kind ++ codes ": left out\n"

-- a line each
abbrev pub other_table_lines : List OtherTable → List ℕ
other_table_lines tables = flat_map other_table_line tables

-- whether a table that is not carried is reported: one that costs a viewer nothing only if all lines are asked for
abbrev pub is_reported : Bool → JobInputView → OtherTable → Bool
is_reported all m t = not (carries_table m t.pid) && (all || is_loss t.kind)

abbrev pub reported_tables : Bool → JobInputView → List OtherTable → List OtherTable
reported_tables all m tables = filter (is_reported all m) tables
