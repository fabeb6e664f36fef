-- The lines for changes of codings in a joined recording.
use Rattle.std.specs.Prelude.{ℕ, Bool, List, [], ◌++◌, if◌then◌else◌, flat_map, codes, decimal}
use Rattle.joined_parts.specs.declared.recodings.Recoding.{Recoding}

unfoldable pub recoding_line : Recoding → List ℕ
recoding_line r =
    codes "pid " ++ decimal r.pid ++ codes " has another coding from packet " ++ decimal r.packet
    ++ codes ": what comes before is carried as pid " ++ decimal r.to ++ codes "\n"

abbrev pub recoding_lines : List Recoding → List ℕ
recoding_lines recodings = flat_map recoding_line recodings

-- nothing is lost by a change: it is reported where all lines are
unfoldable pub recodings_text : Bool → List Recoding → List ℕ
recodings_text all recodings = if all then recoding_lines recodings else []
