-- The first records of a job are the first units that `mux` reads from it.
use Rattle.std.proofs.Common.{◌≡◌, ◌+◌, ℕ, zero, suc, Bool, true, false, List, [], ◌∷◌, ◌++◌, length, Option, Some, None, Result, Ok, Err, refl, sym, ◌∙◌}
use Rattle.std.proofs.Common.{subst, arith}
use Rattle.std.specs.Prelude.{◌==◌, if◌then◌else◌, nat_lt, slice_index}
use Rattle.std.proofs.Math.Seq.{drop-nil}
use Rattle.std.proofs.lemmas.Bool.{ne_eqb}
use Rattle.pes_packet.specs.AccessUnits.{AccessUnit}
use Rattle.unit_records.specs.Records.{after_record, head_size, max_unit_size, record_at, size_at, unit_at}
use Rattle.unit_records.specs.declared.reading.UnitFileError.{UnitFileError}
use Rattle.unit_records.specs.declared.reading.UnitFileError.TheVariants.{Cut, Size}
use Rattle.mux_core.specs.RecordRuns.{after_records}
use Rattle.on_air.specs.Laws.{with_entry, records_of}
use Rattle.checked_jobs.specs.UnitList.{ReadSoFar, Units, joined, units_from, units_in}
use Rattle.checked_jobs.proofs.UnitLists.{read_all, read_more, read_none, read_stopped}

same_units : (a b : List (ℕ × AccessUnit)) → ◌≡◌ {A = Result (List (ℕ × AccessUnit)) (ℕ × UnitFileError)} (Ok a) (Ok b) → a ≡ b
same_units a b e = cc

-- If any byte is left, the reader returns a record or a fault.
not_none : (empty cut large within : Bool) (entry : ℕ × AccessUnit) → empty ≡ false →
    ◌≡◌ {A = Result (Option (ℕ × AccessUnit)) UnitFileError}
    (if empty then Ok None else (if cut then Err Cut else (if large then Err Size else (if within then Err Cut else Ok (Some entry))))) (Ok None) → ⊥
not_none true cut large within entry some e = cc
not_none false true large within entry some e = cc
not_none false false true within entry some e = cc
not_none false false false true entry some e = cc
not_none false false false false entry some e = cc

-- If no record is left, `after_record` leaves the rest as it is.
none_after : (left : List ℕ) → record_at left ≡ Ok None → after_record left ≡ left
none_after [] e = drop-nil (head_size + size_at [])
none_after (x ∷ left) e = absurd (not_none (length (x ∷ left) == 0) (nat_lt (length (x ∷ left)) 5) (nat_lt max_unit_size (size_at (x ∷ left)))
    (nat_lt (length (x ∷ left)) (head_size + size_at (x ∷ left))) (slice_index (x ∷ left) 0, unit_at (x ∷ left))
    (ne_eqb (length (x ∷ left)) 0 (λ n. absurd (omega (arith, n)))) (unfold record_at in e))

read_with : (xs : List ℕ) (units done : List (ℕ × AccessUnit)) (left : List ℕ) (found : Result (Option (ℕ × AccessUnit)) UnitFileError) →
    record_at left ≡ found →
    units_in xs ≡ Ok units → ReadSoFar xs done left → ReadSoFar xs (with_entry found done) (after_record left)
unfolding with_entry
read_with xs units done left (Ok (Some entry)) is all r = read_more xs done left entry r is
read_with xs units done left (Ok None) is all r = subst (ReadSoFar xs done) (sym (none_after left is)) r
read_with xs units done left (Err fault) is all r = absurd (let e : Err (length done, fault) ≡ units_in xs = read_stopped xs done left fault r is in cc)

read_first : (xs : List ℕ) (units : List (ℕ × AccessUnit)) (n : ℕ) → units_in xs ≡ Ok units → ReadSoFar xs (records_of n xs) (after_records n xs)
unfolding records_of after_records
read_first xs units zero all = read_none xs
read_first xs units (suc n) all =
    read_with xs units (records_of n xs) (after_records n xs) (record_at (after_records n xs)) refl all (read_first xs units n all)

-- The records are all units, if no record is left.
pub all_records : (xs : List ℕ) (units : List (ℕ × AccessUnit)) (n : ℕ) → units_in xs ≡ Ok units → record_at (after_records n xs) ≡ Ok None →
    records_of n xs ≡ units
all_records xs units n all none = same_units (records_of n xs) units (read_all xs (records_of n xs) (after_records n xs) (read_first xs units n all) none ∙ all)

joined_first : (done units : List (ℕ × AccessUnit)) (after : Units) → joined done after ≡ Ok units → (rest : List (ℕ × AccessUnit)) × (units ≡ done ++ rest)
unfolding joined
joined_first done units (Ok entries) e = (entries, same_units units (done ++ entries) (sym e))
joined_first done units (Err at) e = absurd cc

-- The records are the first units, if more records may follow.
pub first_records : (xs : List ℕ) (units : List (ℕ × AccessUnit)) (n : ℕ) → units_in xs ≡ Ok units →
    (rest : List (ℕ × AccessUnit)) × (units ≡ records_of n xs ++ rest)
first_records xs units n all =
    let r = read_first xs units n all in
    joined_first (records_of n xs) units (units_from (suc r.spare) (length (records_of n xs)) (after_records n xs)) (sym r.is ∙ all)
