-- Bytes of rows that pass one buffer after another
use Rattle.std.proofs.Common.{◌≡◌, ◌∙◌, sym, ℕ, ◌+◌, ◌-◌, ◌*◌, ◌/◌, ◌≤◌, ◌<◌, max, List, [], ◌∷◌, ◌++◌, Result, Ok, Err, refl, ap, ap₂, append_assoc}
use Rattle.std.specs.Prelude.{OnOk}
use Rattle.std.proofs.lemmas.List.{append-nil}
use Rattle.clock27.specs.Departure.{departures, last_left}
use Rattle.clock27.proofs.Departures.{departures-append}
use Rattle.arrival.specs.Rows.{times_in_row}
use Rattle.tstd.specs.declared.queue.Queue.{Queue}
use Rattle.tstd.specs.Queues.{arrived, all_arrived}
use Rattle.tstd.proofs.QueueStates.{passed-step, passed-last}
use Rattle.tstd_rows.proofs.RowEntries.{row_next, row_end}
use Rattle.tstd_rows.specs.Excesses.{excess_after, excesses_ended}
use Rattle.tstd_rows.specs.declared.excess.Excess.{Excess}
use Rattle.tstd_rows.proofs.ExcessBytes.{after-append}
use Rattle.tstd_rows.specs.Limits.{bsys_size, tb_size}
use Rattle.tstd_rows.specs.SystemViewed.{IsSystemViewOf}
use Rattle.tstd_rows.specs.WatchedQueues.{all_entered, empty_queue, ended_by, left_at}
use Rattle.tstd_rows.specs.declared.system_buffers.SystemView.{SystemView}
use Rattle.tstd_rows.specs.declared.watched_queue.WatchedQueue.{WatchedQueue}

-- A buffer that one byte has entered
abbrev pub one_entered : WatchedQueue → ℕ → WatchedQueue
one_entered b t = all_entered b (t ∷ [])

-- More bytes enter after the first byte.
enters_more : (b : WatchedQueue) (t : ℕ) (ts : List ℕ) → all_entered (one_entered b t) ts ≡ all_entered b (t ∷ ts)
unfolding excess_after
enters_more b t ts = refl

leaves_more : (b : WatchedQueue) (t : ℕ) (ts : List ℕ) → left_at b (t ∷ ts) ≡ (max t b.queue.last + b.queue.step) ∷ left_at (one_entered b t) ts
unfolding departures
leaves_more b t ts = refl

ends_more : (b : WatchedQueue) (t : ℕ) (ts : List ℕ) → ended_by b (t ∷ ts) ≡ ended_by b (t ∷ []) ++ ended_by (one_entered b t) ts
unfolding excesses_ended excess_after
ends_more b t ts = rw (append-nil _) refl

-- After byte j, the rest of the row from byte j + 1 enters.
pub next_first : (b : WatchedQueue) (from pace parts n j : ℕ) → j < n →
    all_entered (one_entered b ((from + j * pace) / parts)) (times_in_row (from + (j + 1) * pace) pace parts (n - (j + 1)))
    ≡ all_entered b (times_in_row (from + j * pace) pace parts (n - j))
next_first b from pace parts n j below = rw (row_next from pace parts n j below) (enters_more b _ _)

pub next_second : (b p : WatchedQueue) (from pace parts n j : ℕ) → j < n →
    all_entered (one_entered p (max ((from + j * pace) / parts) b.queue.last + b.queue.step))
    (left_at (one_entered b ((from + j * pace) / parts)) (times_in_row (from + (j + 1) * pace) pace parts (n - (j + 1))))
    ≡ all_entered p (left_at b (times_in_row (from + j * pace) pace parts (n - j)))
next_second b p from pace parts n j below =
    rw (row_next from pace parts n j below, leaves_more b ((from + j * pace) / parts) (times_in_row (from + (j + 1) * pace) pace parts (n - (j + 1))))
    (enters_more p _ _)

pub next_ended : (b : WatchedQueue) (es : List Excess) (from pace parts n j : ℕ) → j < n →
    (es ++ ended_by b ((from + j * pace) / parts ∷ []))
    ++ ended_by (one_entered b ((from + j * pace) / parts)) (times_in_row (from + (j + 1) * pace) pace parts (n - (j + 1)))
    ≡ es ++ ended_by b (times_in_row (from + j * pace) pace parts (n - j))
next_ended b es from pace parts n j below =
    rw (row_next from pace parts n j below, ends_more b ((from + j * pace) / parts) (times_in_row (from + (j + 1) * pace) pace parts (n - (j + 1))))
    (append_assoc es _ _)

pub next_left : (b p : WatchedQueue) (es : List Excess) (from pace parts n j : ℕ) → j < n →
    (es ++ ended_by p ((max ((from + j * pace) / parts) b.queue.last + b.queue.step) ∷ []))
    ++ ended_by (one_entered p (max ((from + j * pace) / parts) b.queue.last + b.queue.step))
    (left_at (one_entered b ((from + j * pace) / parts)) (times_in_row (from + (j + 1) * pace) pace parts (n - (j + 1))))
    ≡ es ++ ended_by p (left_at b (times_in_row (from + j * pace) pace parts (n - j)))
next_left b p es from pace parts n j below =
    let ts = times_in_row (from + (j + 1) * pace) pace parts (n - (j + 1)) in
    let t = (from + j * pace) / parts in
    rw (row_next from pace parts n j below, leaves_more b t ts, ends_more p (max t b.queue.last + b.queue.step) (left_at (one_entered b t) ts))
    (append_assoc es _ _)

-- No byte remains.
none_enters : (b : WatchedQueue) → b ≡ all_entered b []
unfolding excess_after
none_enters b = refl

pub end_first : (b : WatchedQueue) (from pace parts n j : ℕ) → n ≤ j → b ≡ all_entered b (times_in_row (from + j * pace) pace parts (n - j))
end_first b from pace parts n j over = rw (row_end from pace parts n j over) (none_enters b)

pub end_second : (b p : WatchedQueue) (from pace parts n j : ℕ) → n ≤ j → p ≡ all_entered p (left_at b (times_in_row (from + j * pace) pace parts (n - j)))
unfolding departures
end_second b p from pace parts n j over = rw (row_end from pace parts n j over) (none_enters p)

pub end_ended : (b : WatchedQueue) (es : List Excess) (from pace parts n j : ℕ) → n ≤ j →
    es ≡ es ++ ended_by b (times_in_row (from + j * pace) pace parts (n - j))
unfolding excesses_ended
end_ended b es from pace parts n j over = rw (row_end from pace parts n j over) (sym (append-nil es))

pub end_left : (b p : WatchedQueue) (es : List Excess) (from pace parts n j : ℕ) → n ≤ j →
    es ≡ es ++ ended_by p (left_at b (times_in_row (from + j * pace) pace parts (n - j)))
unfolding excesses_ended departures
end_left b p es from pace parts n j over = rw (row_end from pace parts n j over) (sym (append-nil es))

-- Bytes of two lists arrive in turn.
all-append : (q : Queue) (ts us : List ℕ) → all_arrived q (ts ++ us) ≡ all_arrived (all_arrived q ts) us
all-append q [] us = refl
all-append q (t ∷ ts) us = all-append (arrived q t) ts us

entered-append : (b : WatchedQueue) (ts us : List ℕ) → all_entered (all_entered b ts) us ≡ all_entered b (ts ++ us)
entered-append b ts us =
    rw (
      all-append b.queue ts us,
      after-append b.queue.step b.watch.size b.queue.last b.watch.under_way ts us,
      passed-step b.queue ts,
      passed-last b.queue ts,
    )
    refl

pub tables_more : (view view' : SystemView) (step system_step : ℕ) (times ts : List ℕ) → IsSystemViewOf view step system_step times →
    view'.transport ≡ all_entered view.transport ts → view'.system ≡ all_entered view.system (left_at view.transport ts) →
    IsSystemViewOf view' step system_step (times ++ ts)
tables_more view view' step system_step times ts v first second =
    let q = empty_queue (2 * step) tb_size in
    let p = empty_queue system_step bsys_size in
    let steps : view.transport.queue.step ≡ 2 * step = ap (λ (b : WatchedQueue). b.queue.step) v.transport ∙ passed-step q.queue times in
    let last : view.transport.queue.last ≡ last_left (2 * step) 0 times = ap (λ (b : WatchedQueue). b.queue.last) v.transport ∙ passed-last q.queue times in
    record {
      transport = first ∙ ap (λ (b : WatchedQueue). all_entered b ts) v.transport ∙ entered-append q times ts;
      system = second
          ∙ ap₂ (λ (b : WatchedQueue) (ds : List ℕ). all_entered b ds) v.system (ap₂ (λ (s l : ℕ). departures s l ts) steps last)
          ∙ entered-append p (departures (2 * step) 0 times) (departures (2 * step) (last_left (2 * step) 0 times) ts)
          ∙ ap (λ (ds : List ℕ). all_entered p ds) (sym (departures-append (2 * step) 0 times ts));
    }

-- A property that follows from a property of a successful call is a property of this call too.
pub on_ok : {V E A B : Type 0} (r : Result V E) → (A → B) → OnOk r A → OnOk r B
on_ok (Ok v) f a = f a
on_ok (Err e) f a = tt

pub no_tables : (view : SystemView) (step system_step : ℕ) → view.transport ≡ empty_queue (2 * step) tb_size →
    view.system ≡ empty_queue system_step bsys_size → IsSystemViewOf view step system_step []
unfolding departures excess_after
no_tables view step system_step first second = record { transport = first; system = second }
