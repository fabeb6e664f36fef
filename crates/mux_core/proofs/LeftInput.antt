-- The input that a run over records leaves
use Rattle.std.proofs.Common.{◌≡◌, ℕ, suc, ◌+◌, List, Option, Some, None, Ok, Err, ap, ◌∙◌, sym, arith}
use Rattle.pes_packet.specs.AccessUnits.{AccessUnit}
use Rattle.unit_records.specs.Records.{after_record, head_size}
use Rattle.mux_core.specs.RecordRuns.{Leaves, after_records}
use Rattle.mux_core.specs.RunSteps.{LeavesAt, ReadsNext, answer_of}
use Rattle.unit_records.specs.declared.reading.UnitFileError.TheVariants.{Cut, Size, Device, Memory}
use Rattle.mux_core.specs.declared.carrying.CarryError.TheVariants.{Memory as NoMemory}
use Rattle.mux_core.specs.declared.carrying.Stop.{Stop}
use Rattle.mux_core.specs.declared.carrying.Stop.TheVariants.{Refused, Unread, OutOfMemory}

after_more : (n : ℕ) (xs : List ℕ) → after_records (n + 1) xs ≡ after_record (after_records n xs)
unfolding after_records
after_more n xs = let next : n + 1 ≡ suc n = omega arith in ap (λ k. after_records k xs) next

pub none_read : (xs : List ℕ) (left : Option (List ℕ)) → left ≡ Some xs → left ≡ Some (after_records 0 xs)
unfolding after_records
none_read xs left e = e

-- One more record is read.
pub one_read : (xs : List ℕ) (index id min_next_dts : ℕ) (left : Option (List ℕ)) (unit : AccessUnit) →
    ReadsNext id min_next_dts (after_records index xs) left (Ok (Some unit)) →
    left ≡ Some (after_records (index + 1) xs)
one_read xs index id min_next_dts left unit r = r.1 ∙ ap Some (sym (after_more index xs))

-- The run stops at the next record.
pub stop_leaves : (xs : List ℕ) (index id min_next_dts : ℕ) (left : Option (List ℕ)) (stop : Stop) →
    ReadsNext id min_next_dts (after_records index xs) left (Err stop) →
    LeavesAt xs left index (Some stop)
stop_leaves xs index id min_next_dts left (Refused cause) r = r.rest ∙ ap Some (sym (after_more index xs))
stop_leaves xs index id min_next_dts left (Unread Cut) r = r.1
stop_leaves xs index id min_next_dts left (Unread Size) r = r.1
stop_leaves xs index id min_next_dts left (Unread Device) r = r
stop_leaves xs index id min_next_dts left (Unread Memory) r = absurd r
stop_leaves xs index id min_next_dts left OutOfMemory r = record { read = head_size; within = omega arith; some = r.0; rest = r.2 }

-- There was no memory for the output.
pub start_leaves : (xs : List ℕ) (left : Option (List ℕ)) → left ≡ Some xs → Leaves xs left (Err (NoMemory 0))
unfolding after_records
start_leaves xs left e = record { read = 0; within = omega arith; some = omega arith; rest = e }

-- The input that is left, by the answer of the run
pub answer_leaves : (xs : List ℕ) (left : Option (List ℕ)) (index sent : ℕ) (stop : Option Stop) → LeavesAt xs left index stop →
    Leaves xs left (answer_of index stop sent)
answer_leaves xs left index sent None l = l
answer_leaves xs left index sent (Some (Refused cause)) l = l
answer_leaves xs left index sent (Some (Unread fault)) l = l
answer_leaves xs left index sent (Some OutOfMemory) l = l
