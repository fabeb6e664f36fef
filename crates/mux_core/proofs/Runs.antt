-- A run over records, record by record
use Rattle.std.proofs.Common.{◌≡◌, ℕ, suc, ◌+◌, ◌-◌, ◌%◌, ◌≤◌, Bool, List, [], ◌∷◌, ◌++◌, length, take, drop, Option, Some, None, Ok, Err, refl, sym, ap, ◌∙◌}
use Rattle.std.proofs.Common.{subst, arith, append_assoc, append-nil, take_at, take_all}
use Rattle.std.proofs.lemmas.List.{length-append, length-drop, take-append-drop}
use Rattle.std.proofs.lemmas.Grind.{flat_map-append}
use Rattle.pes_packet.specs.AccessUnits.{AccessUnit}
use Rattle.mux_core.specs.Buffer.{byte_count, Buffered, IsOutput, Took}
use Rattle.mux_core.specs.PidPackets.{unit_packets, unit_count, stream_packets}
use Rattle.mux_core.specs.Formats.{formatted, formatted_all}
use Rattle.unit_records.specs.Records.{record_at, after_record, size_at}
use Rattle.mux_core.specs.RecordRuns.{Run, Ending, Finished, UnitRefused, FileRefused, judged, run_step, run_from, run_of, carried, Answers, Writes}
use Rattle.mux_core.specs.RunSteps.{HoldsUnit, EndsRun, answer_of}
use Rattle.unit_queue.specs.declared.refusal.FeedError.{FeedError}
use Rattle.unit_records.specs.declared.reading.UnitFileError.{UnitFileError}
use Rattle.unit_records.specs.declared.reading.UnitFileError.TheVariants.{Cut, Size, Device, Memory}
use Rattle.mux_core.proofs.ReadBytes.{StopsAt}
use Rattle.mux_core.specs.declared.carrying.Stop.{Stop}
use Rattle.mux_core.specs.declared.carrying.Stop.TheVariants.{Refused, Unread, OutOfMemory}
use Rattle.std.specs.Io.KnownBytes.{Appends}
use Rattle.std.proofs.KnownBytes.{Appends-nil}
use Rattle.mux_core.proofs.Written.{took_longer}
use Rattle.unit_records.proofs.RecordReading.{record_long}

-- The number of packets of a list of units
abbrev pub packet_number : ℕ → List AccessUnit → ℕ
packet_number id [] = 0
packet_number id (unit ∷ units) = unit_count id unit + packet_number id units

-- A run after earlier units
abbrev pub before : List AccessUnit → Run → Run
before units run = record { units = units ++ run.units; ending = run.ending }

packet_number-append : (id : ℕ) (us vs : List AccessUnit) → packet_number id (us ++ vs) ≡ packet_number id us + packet_number id vs
packet_number-append id [] vs = omega arith
packet_number-append id (u ∷ us) vs = let rest = packet_number-append id us vs in omega (arith, rest)

stream_packets-append : (pid id n : ℕ) (us vs : List AccessUnit)
    → stream_packets pid id n (us ++ vs) ≡ stream_packets pid id n us ++ stream_packets pid id (n + packet_number id us) vs
unfolding stream_packets
stream_packets-append pid id n [] vs = let none : n + 0 ≡ n = omega arith in rw none refl
stream_packets-append pid id n (u ∷ us) vs =
    let place : (n + unit_count id u) + packet_number id us ≡ n + (unit_count id u + packet_number id us) = omega arith in
    ap (λ (t : List (List ℕ)). unit_packets pid id n u ++ t) (stream_packets-append pid id (n + unit_count id u) us vs)
    ∙ sym (append_assoc (unit_packets pid id n u) (stream_packets pid id (n + unit_count id u) us)
    (stream_packets pid id ((n + unit_count id u) + packet_number id us) vs))
    ∙ ap (λ (m : ℕ). (unit_packets pid id n u ++ stream_packets pid id (n + unit_count id u) us) ++ stream_packets pid id m vs) place

stream_packets_one : (pid id n : ℕ) (u : AccessUnit) → stream_packets pid id n (u ∷ []) ≡ unit_packets pid id n u
unfolding stream_packets
stream_packets_one pid id n u = append-nil (unit_packets pid id n u)

-- The output with one more unit
carried_more : (hex : Bool) (pid id : ℕ) (us : List AccessUnit) (u : AccessUnit)
    → carried hex pid id (us ++ u ∷ []) ≡ carried hex pid id us ++ formatted_all hex (unit_packets pid id (packet_number id us) u)
carried_more hex pid id us u =
    ap (formatted_all hex) (stream_packets-append pid id 0 us (u ∷ []))
    ∙ flat_map-append (formatted hex) (stream_packets pid id 0 us) (stream_packets pid id (0 + packet_number id us) (u ∷ []))
    ∙ ap (λ (t : List (List ℕ)). carried hex pid id us ++ formatted_all hex t)
    (stream_packets_one pid id (0 + packet_number id us) u ∙ ap (λ (n : ℕ). unit_packets pid id n u) (omega arith))

-- The output of units begins the output of a longer list.
carried_front : (hex : Bool) (pid id : ℕ) (us vs : List AccessUnit) → (more : List ℕ) × (carried hex pid id (us ++ vs) ≡ carried hex pid id us ++ more)
carried_front hex pid id us vs = (
  formatted_all hex (stream_packets pid id (0 + packet_number id us) vs),
  ap (formatted_all hex) (stream_packets-append pid id 0 us vs)
      ∙ flat_map-append (formatted hex) (stream_packets pid id 0 us) (stream_packets pid id (0 + packet_number id us) vs),
)

carried_none : (hex : Bool) (pid id : ℕ) → carried hex pid id [] ≡ []
unfolding stream_packets
carried_none hex pid id = refl

run_ended : (n id min_next_dts : ℕ) (xs : List ℕ) → record_at xs ≡ Ok None → run_from (suc n) id min_next_dts xs ≡ record { units = []; ending = Finished }
unfolding run_from run_step
run_ended n id min_next_dts xs e = rw e refl

run_unread : (n id min_next_dts : ℕ) (xs : List ℕ) (fault : UnitFileError) → record_at xs ≡ Err fault →
    run_from (suc n) id min_next_dts xs ≡ record { units = []; ending = FileRefused fault }
unfolding run_from run_step
run_unread n id min_next_dts xs fault e = rw e refl

run_refused : (n id min_next_dts : ℕ) (xs : List ℕ) (unit : AccessUnit) (cause : FeedError) → HoldsUnit id min_next_dts xs unit (Some cause)
    → run_from (suc n) id min_next_dts xs ≡ record { units = []; ending = UnitRefused cause }
unfolding run_from run_step judged
run_refused n id min_next_dts xs unit cause h = rw (h.record_is, h.judged_is) refl

run_more : (n id min_next_dts : ℕ) (xs : List ℕ) (unit : AccessUnit) → HoldsUnit id min_next_dts xs unit None
    → run_from (suc n) id min_next_dts xs ≡ before (unit ∷ []) (run_from n id (unit.dts + 1) (after_record xs))
unfolding run_from run_step judged
run_more n id min_next_dts xs unit h = rw (h.record_is, h.judged_is) refl

-- The records of xs that are carried, the bytes that are left, and the output of the carried records
pub record Midway (pid id : ℕ) (hex : Bool) (xs : List ℕ) (min_next_dts index counter : ℕ) (rest : List ℕ) (start now : Option (List ℕ))
    (packets : Buffered) (all : List ℕ) : Type 0 where
  pub done : List AccessUnit
  pub spare : ℕ
  pub enough : length rest ≤ spare
  pub run_is : run_of id xs ≡ before done (run_from (suc spare) id min_next_dts rest)
  pub index_is : index ≡ length done
  pub counter_is : counter ≡ packet_number id done % 16
  pub holds : IsOutput start now packets (all ++ carried hex pid id done)

pub midway_start : (pid id : ℕ) (hex : Bool) (xs : List ℕ) (start now : Option (List ℕ)) (packets : Buffered) (all : List ℕ)
    → IsOutput start now packets all → Midway pid id hex xs 0 0 0 xs start now packets all
midway_start pid id hex xs start now packets all h =
    let fuel : 1 + length xs ≡ suc (length xs) = omega arith in
    record {
      done = [];
      spare = length xs;
      enough = omega arith;
      run_is = ap (λ (n : ℕ). run_from n id 0 xs) fuel;
      index_is = refl;
      counter_is = refl;
      holds = subst (λ (x : List ℕ). IsOutput start now packets x) (sym (append-nil all) ∙ ap (λ (t : List ℕ). all ++ t) (sym (carried_none hex pid id))) h;
    }

before_before : (us : List AccessUnit) (u : AccessUnit) (run : Run) → before us (before (u ∷ []) run) ≡ before (us ++ u ∷ []) run
before_before us u run =
    ap (λ (units : List AccessUnit). let r : Run = record { units = units; ending = run.ending } in r) (sym (append_assoc us (u ∷ []) run.units))

-- One more record is carried.
pub midway_more : (pid id : ℕ) (hex now_hex : Bool) (xs : List ℕ) (min_next_dts index counter next : ℕ) (rest later : List ℕ)
    (start now after : Option (List ℕ)) (packets packets_after : Buffered) (all : List ℕ) (unit : AccessUnit)
    (w : Midway pid id hex xs min_next_dts index counter rest start now packets all)
    → HoldsUnit id min_next_dts rest unit None × (later ≡ after_record rest) → now_hex ≡ hex
    → (next ≡ (packet_number id w.done + unit_count id unit) % 16)
    × IsOutput start after packets_after ((all ++ carried hex pid id w.done) ++ formatted_all now_hex (unit_packets pid id (packet_number id w.done) unit))
    → Midway pid id hex xs (unit.dts + 1) (index + 1) next later start after packets_after all
midway_more pid id hex now_hex xs min_next_dts index counter next rest later start now after packets packets_after all unit w r same pushed =
    let long : 21 + size_at rest ≤ length rest = record_long rest _ r.0.record_is in
    let fewer : length (after_record rest) ≤ w.spare - 1 = omega (arith, w.enough, length-drop (21 + size_at rest) rest) in
    let fuel : w.spare ≡ suc (w.spare - 1) = omega (arith, w.enough) in
    let number : packet_number id (w.done ++ unit ∷ []) ≡ packet_number id w.done + unit_count id unit =
    packet_number-append id w.done (unit ∷ []) ∙ omega arith in
    record {
      done = w.done ++ unit ∷ [];
      spare = w.spare - 1;
      enough = subst (λ (ys : List ℕ). length ys ≤ w.spare - 1) (sym r.1) fewer;
      run_is = w.run_is ∙ ap (before w.done) (run_more w.spare id min_next_dts rest unit r.0)
          ∙ before_before w.done unit (run_from w.spare id (unit.dts + 1) (after_record rest))
          ∙ ap (λ (n : ℕ). before (w.done ++ unit ∷ []) (run_from n id (unit.dts + 1) (after_record rest))) fuel
          ∙ ap (λ (ys : List ℕ). before (w.done ++ unit ∷ []) (run_from (suc (w.spare - 1)) id (unit.dts + 1) ys)) (sym r.1);
      index_is = omega (arith, w.index_is, length-append w.done (unit ∷ []));
      counter_is = pushed.0 ∙ ap (λ (n : ℕ). n % 16) (sym number);
      holds = subst (λ (x : List ℕ). IsOutput start after packets_after x)
          (ap (λ (b : Bool). (all ++ carried hex pid id w.done) ++ formatted_all b (unit_packets pid id (packet_number id w.done) unit)) same
          ∙ append_assoc all (carried hex pid id w.done) (formatted_all hex (unit_packets pid id (packet_number id w.done) unit))
          ∙ ap (λ (t : List ℕ). all ++ t) (sym (carried_more hex pid id w.done unit)))
          pushed.1;
    }

-- The writer fails at a record.
pub midway_failed : (pid id : ℕ) (hex now_hex : Bool) (xs : List ℕ) (min_next_dts index counter sent : ℕ) (rest : List ℕ) (start now after : Option (List ℕ))
    (packets : Buffered) (all : List ℕ) (unit : AccessUnit)
    (w : Midway pid id hex xs min_next_dts index counter rest start now packets all)
    → HoldsUnit id min_next_dts rest unit None → now_hex ≡ hex
    → Took start after sent ((all ++ carried hex pid id w.done) ++ formatted_all now_hex (unit_packets pid id (packet_number id w.done) unit))
    → Took start after sent (all ++ carried hex pid id (run_of id xs).units)
midway_failed pid id hex now_hex xs min_next_dts index counter sent rest start now after packets all unit w r same took =
    let is : run_of id xs ≡ before (w.done ++ unit ∷ []) (run_from w.spare id (unit.dts + 1) (after_record rest)) =
    w.run_is ∙ ap (before w.done) (run_more w.spare id min_next_dts rest unit r)
    ∙ before_before w.done unit (run_from w.spare id (unit.dts + 1) (after_record rest)) in
    let front = carried_front hex pid id (w.done ++ unit ∷ []) (run_from w.spare id (unit.dts + 1) (after_record rest)).units in
    let so_far : Took start after sent (all ++ carried hex pid id (w.done ++ unit ∷ [])) =
    subst (λ (x : List ℕ). Took start after sent x)
    (ap (λ (b : Bool). (all ++ carried hex pid id w.done) ++ formatted_all b (unit_packets pid id (packet_number id w.done) unit)) same
    ∙ append_assoc all (carried hex pid id w.done) (formatted_all hex (unit_packets pid id (packet_number id w.done) unit))
    ∙ ap (λ (t : List ℕ). all ++ t) (sym (carried_more hex pid id w.done unit)))
    took in
    subst (λ (x : List ℕ). Took start after sent x)
    (append_assoc all (carried hex pid id (w.done ++ unit ∷ [])) front.0
    ∙ ap (λ (t : List ℕ). all ++ t) (sym front.1 ∙ ap (λ (r : Run). carried hex pid id r.units) (sym is)))
    (took_longer start after sent (all ++ carried hex pid id (w.done ++ unit ∷ [])) front.0 so_far)

-- The bytes that were written are the output of the records so far.
pub midway_holds : (pid id : ℕ) (hex : Bool) (xs : List ℕ) (min_next_dts index counter : ℕ) (rest : List ℕ) (start now : Option (List ℕ))
    (packets : Buffered) (all : List ℕ)
    → Midway pid id hex xs min_next_dts index counter rest start now packets all
    → (index ≤ length (run_of id xs).units) × IsOutput start now packets (all ++ carried hex pid id (take index (run_of id xs).units))
midway_holds pid id hex xs min_next_dts index counter rest start now packets all w =
    let units : (run_of id xs).units ≡ w.done ++ (run_from (suc w.spare) id min_next_dts rest).units = ap (λ (r : Run). r.units) w.run_is in
    let so_far : take index (run_of id xs).units ≡ w.done =
    ap (take {A = AccessUnit} index) units ∙ take_at w.done (run_from (suc w.spare) id min_next_dts rest).units index (sym w.index_is) in (
      omega (arith, w.index_is, ap (length {A = AccessUnit}) units, length-append w.done (run_from (suc w.spare) id min_next_dts rest).units),
      subst (λ (u : List AccessUnit). IsOutput start now packets (all ++ carried hex pid id u)) (sym so_far) w.holds,
    )

ends : (pid id : ℕ) (hex : Bool) (xs : List ℕ) (min_next_dts index counter : ℕ) (rest : List ℕ) (start now : Option (List ℕ)) (packets : Buffered)
    (all : List ℕ) (ending : Ending)
    (w : Midway pid id hex xs min_next_dts index counter rest start now packets all)
    → run_from (suc w.spare) id min_next_dts rest ≡ record { units = []; ending = ending }
    → ((run_of id xs).ending ≡ ending) × (index ≡ length (run_of id xs).units)
ends pid id hex xs min_next_dts index counter rest start now packets all ending w e =
    let is : run_of id xs ≡ before w.done (record { units = []; ending = ending }) = w.run_is ∙ ap (before w.done) e in
    let units : (run_of id xs).units ≡ w.done = ap (λ (r : Run). r.units) is ∙ append-nil w.done in
    (ap (λ (r : Run). r.ending) is, w.index_is ∙ ap (length {A = AccessUnit}) (sym units))

-- The input is at its end.
pub midway_ended : (pid id : ℕ) (hex : Bool) (xs : List ℕ) (min_next_dts index counter : ℕ) (rest : List ℕ) (start now : Option (List ℕ))
    (packets : Buffered) (all : List ℕ)
    (w : Midway pid id hex xs min_next_dts index counter rest start now packets all)
    → record_at rest ≡ Ok None → EndsRun (run_of id xs) index None
midway_ended pid id hex xs min_next_dts index counter rest start now packets all w e =
    ends pid id hex xs min_next_dts index counter rest start now packets all Finished w (run_ended w.spare id min_next_dts rest e)

-- The next record is not accepted.
pub midway_stopped : (pid id : ℕ) (hex : Bool) (xs : List ℕ) (min_next_dts index counter : ℕ) (rest : List ℕ) (start now : Option (List ℕ))
    (packets : Buffered) (all : List ℕ) (stop : Stop)
    (w : Midway pid id hex xs min_next_dts index counter rest start now packets all)
    → StopsAt id min_next_dts rest stop → EndsRun (run_of id xs) index (Some stop)
midway_stopped pid id hex xs min_next_dts index counter rest start now packets all (Refused cause) w r =
    ends pid id hex xs min_next_dts index counter rest start now packets all (UnitRefused cause) w (run_refused w.spare id min_next_dts rest r.0 cause r.1)
midway_stopped pid id hex xs min_next_dts index counter rest start now packets all (Unread Cut) w r =
    ends pid id hex xs min_next_dts index counter rest start now packets all (FileRefused Cut) w (run_unread w.spare id min_next_dts rest Cut r)
midway_stopped pid id hex xs min_next_dts index counter rest start now packets all (Unread Size) w r =
    ends pid id hex xs min_next_dts index counter rest start now packets all (FileRefused Size) w (run_unread w.spare id min_next_dts rest Size r)
midway_stopped pid id hex xs min_next_dts index counter rest start now packets all (Unread Device) w r =
    (midway_holds pid id hex xs min_next_dts index counter rest start now packets all w).0
midway_stopped pid id hex xs min_next_dts index counter rest start now packets all (Unread Memory) w r = absurd r
midway_stopped pid id hex xs min_next_dts index counter rest start now packets all OutOfMemory w r =
    (midway_holds pid id hex xs min_next_dts index counter rest start now packets all w).0

-- No units have no output.
pub written_none : (hex : Bool) (pid id : ℕ) (a : Option (List ℕ)) → Appends a a (carried hex pid id [])
written_none hex pid id a = rw (carried_none hex pid id) (Appends-nil a)

-- The answer for a run that ended in this way
pub answers_of : (run : Run) (index sent : ℕ) (stop : Option Stop) → EndsRun run index stop → Answers run (answer_of index stop sent)
answers_of run index sent None h = h.0
answers_of run index sent (Some (Refused cause)) h = h
answers_of run index sent (Some (Unread Cut)) h = h
answers_of run index sent (Some (Unread Size)) h = h
answers_of run index sent (Some (Unread Device)) h = h
answers_of run index sent (Some (Unread Memory)) h = absurd h
answers_of run index sent (Some OutOfMemory) h = h

-- The bytes that the writer took
pub writes_of : (out : List AccessUnit → List ℕ) (run : Run) (index sent : ℕ) (old new : Option (List ℕ)) (stop : Option Stop) → EndsRun run index stop
    → (sent ≡ byte_count (length (out (take index run.units)))) × Appends old new (out (take index run.units))
    → Writes out run.units old new (answer_of index stop sent)
writes_of out run index sent old new None h w =
    let whole : take index run.units ≡ run.units = take_all index run.units (omega (arith, h.1)) in
    (w.0 ∙ ap (λ (u : List AccessUnit). byte_count (length (out u))) whole, subst (λ (u : List AccessUnit). Appends old new (out u)) whole w.1)
writes_of out run index sent old new (Some (Refused cause)) h w = w.1
writes_of out run index sent old new (Some (Unread fault)) h w = w.1
writes_of out run index sent old new (Some OutOfMemory) h w = w.1

-- The writer fails after some of the units.
pub took_units : (hex : Bool) (pid id index sent : ℕ) (units : List AccessUnit) (start now : Option (List ℕ))
    → Took start now sent (carried hex pid id (take index units)) → Took start now sent (carried hex pid id units)
took_units hex pid id index sent units start now t =
    let front = carried_front hex pid id (take index units) (drop index units) in
    subst (λ (x : List ℕ). Took start now sent x)
    (sym front.1 ∙ ap (carried hex pid id) (take-append-drop index units))
    (took_longer start now sent (carried hex pid id (take index units)) front.0 t)

-- The output of a fresh start, by the form that it was made with
pub took_new : (hex made : Bool) (pid id sent : ℕ) (units : List AccessUnit) (start now : Option (List ℕ)) → made ≡ hex →
    Took start now sent ([] ++ carried made pid id units) → Took start now sent (carried hex pid id units)
took_new hex made pid id sent units start now e t = subst (λ (x : Bool). Took start now sent (carried x pid id units)) e t

pub wrote_new : (hex made : Bool) (pid id sent : ℕ) (units : List AccessUnit) (start now : Option (List ℕ)) → made ≡ hex →
    (sent ≡ byte_count (length ([] ++ carried made pid id units))) × Appends start now ([] ++ carried made pid id units) →
    (sent ≡ byte_count (length (carried hex pid id units))) × Appends start now (carried hex pid id units)
wrote_new hex made pid id sent units start now e t =
    subst (λ (x : Bool). (sent ≡ byte_count (length (carried x pid id units))) × Appends start now (carried x pid id units)) e t
