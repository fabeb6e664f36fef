-- Tables, finding by finding
use Rattle.std.proofs.Common.{◌≡◌, ◌≤◌, ◌<◌, ℕ, ◌+◌, List, ◌∷◌, ◌++◌, length, map, drop, get_or, refl, sym, add-one}
use Rattle.std.proofs.Math.Seq.{drop-cons}
use Rattle.std.proofs.lemmas.List.{drop_all}
use Rattle.pid_findings.specs.Views.{FindingView}
use Rattle.other_tables.specs.OtherTables.{table_at, tables_from}
use Rattle.other_tables.specs.declared.tables.OtherTable.{OtherTable}

next : {X : Type 0} (view : X → FindingView) (i : ℕ) (fs : List X) (f : X) → i < length fs → f ≡ get_or fs i f →
    map view (drop i fs) ≡ view f ∷ map view (drop (i + 1) fs)
next view i fs f below at = rw (drop-cons fs i f below, add-one i, sym at) refl

pub tables_more : {X : Type 0} (view : X → FindingView) (all : List FindingView) (i : ℕ) (fs : List X) (f : X) (found after : List OtherTable) → i < length fs →
    f ≡ get_or fs i f →
    after ≡ found ++ table_at all found (view f) → tables_from all found (map view (drop i fs)) ≡ tables_from all after (map view (drop (i + 1) fs))
unfolding tables_from
tables_more view all i fs f found after below at made = rw (next view i fs f below at, made) refl

pub tables_end : {X : Type 0} (view : X → FindingView) (all : List FindingView) (i : ℕ) (fs : List X) (found : List OtherTable) → length fs ≤ i →
    tables_from all found (map view (drop i fs)) ≡ found
unfolding tables_from
tables_end view all i fs found over = rw (drop_all i fs over) refl
