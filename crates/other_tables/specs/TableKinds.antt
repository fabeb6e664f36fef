-- What table a section is of, by its table_id (ISO/IEC 13818-1, table 2-31; EN 300 468, table 2).
use Rattle.std.specs.Prelude.{ℕ, ◌==◌, ◌&&◌, ◌||◌, nat_le, Bool, true, false, if◌then◌else◌, Option, None, Some}
use Rattle.other_tables.specs.declared.kinds.TableKind.{TableKind}
use Rattle.other_tables.specs.declared.kinds.TableKind.TheVariants.{ConditionalAccess, Objects, Network, Services, Events, Time, Running, Applications, Splices}
use Rattle.other_tables.specs.declared.kinds.TableKind.TheVariants.{Private}

abbrev pub is_between : ℕ → ℕ → ℕ → Bool
is_between low high id = nat_le low id && nat_le id high

-- CAT, ECM and EMM; sections of DSM-CC; EIT, the schedule of this stream and of other streams
unfoldable pub kind_in_range : ℕ → TableKind
kind_in_range id =
    if id == 0x01 then ConditionalAccess
    else (if is_between 0x3A 0x3F id then Objects
    else (if is_between 0x4F 0x6F id then Events
    else (if is_between 0x80 0x8F id then ConditionalAccess else Private)))

-- none for stuffing, and none for PAT, PMT, the NIT of the actual network, the SDT and the present and following events of this stream, and the TDT: a
-- job is made from these
unfoldable pub kind_of : ℕ → Option TableKind
kind_of id =
    if id == 0x00 || id == 0x02 || id == 0x40 || id == 0x42 || id == 0x4E || id == 0x70 || id == 0x72 then None
    else (if id == 0x41 then Some Network
    else (if id == 0x46 || id == 0x4A then Some Services
    else (if id == 0x73 then Some Time
    else (if id == 0x71 then Some Running
    else (if id == 0x74 then Some Applications
    else (if id == 0xFC then Some Splices else Some (kind_in_range id)))))))

-- a viewer loses something without it
unfoldable pub is_loss : TableKind → Bool
is_loss ConditionalAccess = false
is_loss _ = true
