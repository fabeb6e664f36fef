use Rattle.std.proofs.Common.{◌≡◌, ◌∙◌, ◌==◌, ap, find, option_map, sym, List}
use Rattle.description_keys.proofs.KeyTables.{find-map, seen_twice}
use Rattle.description_keys.specs.KeyRows.{KeyRow, view}
use Rattle.description_keys.proofs.keys.row_of.Goals as goal

pub returns : goal.returns
returns c =
    seen_twice c.row_in.result ∙ (ap (option_map view) c.row_in.ensures
    ∙ (sym (find-map view (λ row. row.code == c.args.code) c.keys.result.now)
    ∙ ap (λ (rs : List KeyRow). find (λ row. row.code == c.args.code) rs) c.keys.ensures.rows))
