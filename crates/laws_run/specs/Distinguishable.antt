-- Which sections a demultiplexer can distinguish from PES packets and stuffing: all that are made from a description, and most that a
-- description has ready-made.
use Rattle.std.specs.Prelude.{◌≡◌, ℕ, ◌==◌, ◌&&◌, ◌||◌, Bool, false, List, [], slice_get, slice_index, Option, Some, None, All}
use Rattle.description_parts.specs.Described.{Described, DescribedTable}
use Rattle.description_parts.specs.Tables.{table_kind}
use Rattle.description_parts.specs.declared.table_kind.TableKind.{TableKind}
use Rattle.description_parts.specs.declared.table_kind.TableKind.TheVariants.{Pat, Pmt, Nit, Sdt, Eit, Tdt, Private}

-- whether a section is taken for something else: its table_id is 0xFF, stuffing (ISO/IEC 13818-1, 2.4.4), or after pointer_field 0 it begins
-- like a PES packet (2.4.3.6)
abbrev pub is_mistaken : List ℕ → Bool
is_mistaken bytes = (slice_index bytes 0 == 0xFF) || ((slice_index bytes 0 == 0x00) && (slice_index bytes 1 == 0x01))

-- the ready-made sections of a table; a table that is made from the description has none
abbrev pub private_sections : Option DescribedTable → List (List ℕ)
private_sections None = []
private_sections (Some table) = table.sections

abbrev pub ready_made : Described → Option TableKind → List (List ℕ)
ready_made d (Some (Private i)) = private_sections (slice_get d.tables i)
ready_made d (Some Pat) = []
ready_made d (Some (Pmt p)) = []
ready_made d (Some Nit) = []
ready_made d (Some Sdt) = []
ready_made d (Some Eit) = []
ready_made d (Some Tdt) = []
ready_made d None = []

-- no ready-made section of table number t is taken for something else
abbrev pub IsDistinguishable : Described → ℕ → Type 0
IsDistinguishable d t = All (λ bytes. is_mistaken bytes ≡ false) (ready_made d (table_kind d t))
