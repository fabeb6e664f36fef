-- The items of a description, with the limits of their gaps.
use Rattle.std.specs.Prelude.{ℕ, ◌*◌, List, [], ◌∷◌, ◌++◌, Option, Some, None, codes, slice_get}
use Rattle.description_parts.specs.Described.{Described, DescribedProgram, DescribedStream, DescribedEntry}
use Rattle.description_parts.specs.Tables.{clock_of, round_packets, table_kind, table_kinds, table_limit, table_pid}
use Rattle.description_parts.specs.declared.table_kind.TableKind.{TableKind}
use Rattle.description_parts.specs.declared.table_kind.TableKind.TheVariants.{Pat, Pmt, Nit, Sdt, Eit, Tdt, Private}
use Rattle.slot_plan.specs.Numbered.{numbered}
use Rattle.slot_plan.specs.declared.slot.Item.TheVariants.{Stream, Pcr, Table}
use Rattle.stream_coding.specs.Codings.{coding_of}
use Rattle.events.specs.PidNames as pids
use Rattle.events.specs.declared.pid_name.PidName.{PidName}
use Rattle.events.specs.declared.pid_name.PidName.TheVariants as carried
use Rattle.plan_page.specs.declared.owners.Owner.TheVariants.{Item, Null}
use Rattle.plan_page.specs.declared.plan_items.ItemName.{ItemName}
use Rattle.plan_page.specs.declared.plan_items.ItemName.TheVariants as named
use Rattle.plan_page.specs.declared.plan_items.LimitName.{LimitName}
use Rattle.plan_page.specs.declared.plan_items.LimitName.TheVariants.{Lead, PcrLimit, TableLimit, Nothing}
use Rattle.plan_page.specs.declared.plan_items.PlanItem.{PlanItem}

-- 1. Names

unfoldable pub word : ItemName → List ℕ
word (named.Carried name) = pids.word name
word named.Pcr = codes "PCR"
word named.Pmt = codes "PMT"
word named.Private = codes "private table"

unfoldable pub limit_word : LimitName → List ℕ
limit_word Lead = codes "lead"
limit_word PcrLimit = codes "pcr_limit"
limit_word TableLimit = codes "table"
limit_word Nothing = codes ""

unfoldable pub table_name : Option TableKind → ItemName
table_name (Some Pat) = named.Carried carried.Pat
table_name (Some (Pmt place)) = named.Pmt
table_name (Some Nit) = named.Carried carried.Nit
table_name (Some Sdt) = named.Carried carried.Sdt
table_name (Some Eit) = named.Carried carried.Eit
table_name (Some Tdt) = named.Carried carried.Tdt
table_name (Some (Private place)) = named.Private
table_name None = named.Carried carried.Other

-- 2. Items; limits are in units of 90 kHz

abbrev pub stream_item : ℕ → DescribedStream → PlanItem
stream_item number s = record {
  owner = Item (Stream number);
  name = named.Carried (pids.of_coding (coding_of s.stream_type s.descriptors []));
  program = s.program;
  pid = s.pid;
  row = 1;
  limit = s.lead;
  limit_name = Lead;
}

-- a program on another's clock has that program's slots
abbrev pub pcr_item : Described → ℕ → DescribedProgram → PlanItem
pcr_item d number p = record {
  owner = Item (Pcr (clock_of d number));
  name = named.Pcr;
  program = p.number;
  pid = p.pcr_pid;
  row = 1;
  limit = p.pcr_limit * 90;
  limit_name = PcrLimit;
}

-- a program map is of a program
unfoldable pub number_at : Described → ℕ → ℕ
number_at d place = elim (slice_get d.programs place) [ None ↦ 0 | Some program ↦ program.number ]

-- the program of a private table is the program whose PMT names it
unfoldable pub entry_number : Option DescribedEntry → ℕ
entry_number None = 0
entry_number (Some e) = e.program

unfoldable pub number_naming : Described → ℕ → ℕ
number_naming d place = elim (slice_get d.tables place) [ None ↦ 0 | Some private ↦ entry_number private.entry ]

unfoldable pub table_program : Described → Option TableKind → ℕ
table_program d (Some (Pmt place)) = number_at d place
table_program d (Some Pat) = 0
table_program d (Some Nit) = 0
table_program d (Some Sdt) = 0
table_program d (Some Eit) = 0
table_program d (Some Tdt) = 0
table_program d (Some (Private place)) = number_naming d place
table_program d None = 0

-- a section comes again after a round of all sections
abbrev pub table_item : Described → ℕ → PlanItem
table_item d t = record {
  owner = Item (Table t);
  name = table_name (table_kind d t);
  program = table_program d (table_kind d t);
  pid = table_pid d t;
  row = round_packets d t;
  limit = table_limit d t * 90;
  limit_name = TableLimit;
}

abbrev pub null_item : PlanItem
null_item = record { owner = Null; name = named.Carried carried.Null; program = 0; pid = 8191; row = 0; limit = 0; limit_name = Nothing }

-- streams, clock references, tables, null packets
abbrev pub plan_items : Described → List PlanItem
plan_items d = numbered (λ i s. stream_item i s ∷ []) 0 d.streams
    ++ (numbered (λ i p. pcr_item d i p ∷ []) 0 d.programs ++ (numbered (λ t _. table_item d t ∷ []) 0 (table_kinds d) ++ null_item ∷ []))
