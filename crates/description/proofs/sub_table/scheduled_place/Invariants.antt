use Rattle.std.proofs.Common.{◌≡◌, ◌+◌, drop, slice_get, option_map}
use Rattle.description_parts.specs.Tables.{is_scheduled}
use Rattle.description.specs.SubTables.{places_where}
use Rattle.description.proofs.sub_table.scheduled_place.Given as goal

abbrev pub invariant-loop-at : goal.invariant-loop-at
invariant-loop-at l = slice_get (places_where (is_scheduled l.has_eit) l.programs) l.place
    ≡ option_map (λ k. k + l.at) (slice_get (places_where (is_scheduled l.has_eit) (drop l.at l.programs)) l.left)
