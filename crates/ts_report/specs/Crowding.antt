-- Streams with too many waiting units: no more of their transport stream is viewed.
use Rattle.std.specs.Prelude.{Bool, List}
use Rattle.std.specs.List.{list_any}
use Rattle.es_view.specs.Crowding.{is_entry_crowded}
use Rattle.ts_report.specs.declared.clocked_view.ClockedView.{ClockedView}
use Rattle.es_view.specs.declared.stream_entry.StreamEntry.{StreamEntry}
use Rattle.ts_report.specs.declared.view.View.{View}

abbrev pub are_crowded : List StreamEntry → Bool
are_crowded entries = list_any is_entry_crowded entries

-- whether some stream has reached the limit of waiting units
abbrev pub is_view_crowded : View → Bool
is_view_crowded view = are_crowded view.table.entries.items

abbrev pub is_crowded : ClockedView → Bool
is_crowded clocked = is_view_crowded clocked.view
