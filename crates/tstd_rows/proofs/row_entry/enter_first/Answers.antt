use Rattle.std.proofs.Common.{◌≡◌, ◌∙◌, sym, ℕ, ◌+◌, ◌*◌, ◌≤◌, max, List, ◌∷◌, ◌++◌, length, Option, ap, arith}
use Rattle.std.proofs.lemmas.List.Elements.{All-head, All-tail}
use Rattle.clock27.specs.Peak.{greatest_at}
use Rattle.arrival.specs.declared.row.Row.{Row}
use Rattle.arrival.specs.Rows.{other_bytes, times_of}
use Rattle.tstd.specs.BufferState.{fullness_at}
use Rattle.tstd.specs.BufferedUnits.{one_buffered}
use Rattle.tstd_rows.specs.RowEntry.{entered}
use Rattle.tstd_rows.proofs.RowEntries.{entered_one, one_entered}
use Rattle.tstd_rows.proofs.Pieces.{all_first, all_others, divided, others_rise, one_less, in_three, rows_bytes, length-row, fullness_falls, all_there}
use Rattle.tstd_rows.proofs.Pieces.{piece_peak, piece_there}
use Rattle.tstd_rows.specs.Least.{lesser, least_found}
use Rattle.tstd_rows.proofs.Least.{found_first, late_least, late_peak, late_there, piece_least, rises_later}
use Rattle.tstd_rows.proofs.row_entry.enter_first.Goals as goal

pub returns-then-until-moment-clause-later : goal.returns-then-until-moment-clause-later
returns-then-until-moment-clause-later g c = λ x all.
    let apart : times_of c.args.row.now ≡ c.time-moment.result ∷ times_of c.split_at.result.1 =
    divided c.args.row.now c.split_at.result.1 c.time-moment.result c.time-moment.ensures.time c.split_at.ensures.others c.requires.some in
    let both = c.split_at-then-until-moment.ensures.times in
    all_others (λ s. s ≤ x) (times_of c.split_at-then-until-moment.result.0) (times_of c.split_at-then-until-moment.result.1)
    (rw (sym both) at (All-tail (λ s. s ≤ x) c.time-moment.result (times_of c.split_at.result.1) (rw apart at all)))

pub returns-then-until-moment-clause-fewer : goal.returns-then-until-moment-clause-fewer
returns-then-until-moment-clause-fewer g c =
    let fewer = one_less c.args.row.now c.split_at.result.1 c.split_at.ensures.others c.requires.some in
    let two = rows_bytes c.split_at-then-until-moment.result.0 c.split_at-then-until-moment.result.1 c.split_at.result.1
    c.split_at-then-until-moment.ensures.times in
    omega (arith, two, fewer)

pub returns-then-until-moment-clause-fullness : goal.returns-then-until-moment-clause-fullness
returns-then-until-moment-clause-fullness g c =
    let fewer = one_less c.args.row.now c.split_at.result.1 c.split_at.ensures.others c.requires.some in
    let two = rows_bytes c.split_at-then-until-moment.result.0 c.split_at-then-until-moment.result.1 c.split_at.result.1
    c.split_at-then-until-moment.ensures.times in
    omega (arith, two, fewer, c.enter_byte-found.ensures.fullness)

pub returns-then-until-moment-clause-there : goal.returns-then-until-moment-clause-there
returns-then-until-moment-clause-there g c = λ x all.
    let apart : times_of c.args.row.now ≡ c.time-moment.result ∷ times_of c.split_at.result.1 =
    divided c.args.row.now c.split_at.result.1 c.time-moment.result c.time-moment.ensures.time c.split_at.ensures.others c.requires.some in
    let t : ℕ = c.time-moment.result in
    let rest : List ℕ = times_of c.split_at.result.1 in
    let us : List ℕ = times_of c.split_at-then-until-moment.result.1 in
    let le : t ≤ x = All-head (λ s. s ≤ x) t rest (rw apart at all) in
    ap (λ (u : ℕ). fullness_at c.enter_byte-found.new.buffer x + entered u x us) c.enter_byte-found.ensures.until
    ∙ rw apart (late_there (fullness_at c.args.buffer.now) (fullness_at c.enter_byte-found.new.buffer) c.args.buffer.now.current.until t x rest us
    (rw c.enter_byte-found.ensures.until at c.if-until-moment.true) le c.enter_byte-found.ensures.there)

pub returns-then-until-moment-clause-peak : goal.returns-then-until-moment-clause-peak
returns-then-until-moment-clause-peak g c =
    let apart : times_of c.args.row.now ≡ c.time-moment.result ∷ times_of c.split_at.result.1 =
    divided c.args.row.now c.split_at.result.1 c.time-moment.result c.time-moment.ensures.time c.split_at.ensures.others c.requires.some in
    let rising = others_rise c.args.row.now c.split_at.result.1 c.time-moment.result c.time-moment.ensures.time c.split_at.ensures.others
    c.requires.timed.some in
    let t : ℕ = c.time-moment.result in
    let rest : List ℕ = times_of c.split_at.result.1 in
    let ss : List ℕ = times_of c.split_at-then-until-moment.result.0 in
    let us : List ℕ = times_of c.split_at-then-until-moment.result.1 in
    let b = c.enter_byte-found.new.buffer in
    ap (λ (u : ℕ). max b.peak (greatest_at (λ x. fullness_at b x + entered u x us) us)) c.enter_byte-found.ensures.until
    ∙ rw apart (late_peak (fullness_at c.args.buffer.now) (fullness_at b) c.args.buffer.now.current.until c.args.buffer.now.peak b.peak t rest us
    (rw c.enter_byte-found.ensures.until at c.if-until-moment.true) rising (rises_later t ss us (rw (sym c.split_at-then-until-moment.ensures.times) at rising))
    (fullness_falls b.earlier.items b.current) c.enter_byte-found.ensures.there c.enter_byte-found.ensures.peak)

pub returns-then-until-moment-clause-least : goal.returns-then-until-moment-clause-least
returns-then-until-moment-clause-least g c = λ least.
    let apart : times_of c.args.row.now ≡ c.time-moment.result ∷ times_of c.split_at.result.1 =
    divided c.args.row.now c.split_at.result.1 c.time-moment.result c.time-moment.ensures.time c.split_at.ensures.others c.requires.some in
    let rising = others_rise c.args.row.now c.split_at.result.1 c.time-moment.result c.time-moment.ensures.time c.split_at.ensures.others
    c.requires.timed.some in
    let t : ℕ = c.time-moment.result in
    let rest : Row = c.split_at.result.1 in
    let others : Row = c.split_at-then-until-moment.result.1 in
    let b = c.enter_byte-found.new.buffer in
    let old = c.args.buffer.now in
    let sofar : Option ℕ = lesser least c.enter_byte-found.result in
    ap (λ (u : ℕ). least_found (fullness_at b) u 0 sofar (times_of others)) c.enter_byte-found.ensures.until
    ∙ late_least (fullness_at b) old.current.until t sofar rest others (times_of c.split_at-then-until-moment.result.0)
    (rw c.enter_byte-found.ensures.until at c.if-until-moment.true) rising (fullness_falls b.earlier.items b.current)
    (c.split_at-then-until-moment.ensures.others ∙ ap (other_bytes rest) c.saturating_sub.ensures) c.split_at-then-until-moment.ensures.times
    ∙ rw apart (found_first (fullness_at old) (fullness_at b) old.current.until t least c.enter_byte-found.result (times_of rest) rising
    c.enter_byte-found.ensures.found c.enter_byte-found.ensures.there)

pub returns-then-limit-moment-clause-least : goal.returns-then-limit-moment-clause-least
returns-then-limit-moment-clause-least g c = λ least.
    let apart : times_of c.args.row.now ≡ c.time-moment.result ∷ times_of c.split_at.result.1 =
    divided c.args.row.now c.split_at.result.1 c.time-moment.result c.time-moment.ensures.time c.split_at.ensures.others c.requires.some in
    let rising = others_rise c.args.row.now c.split_at.result.1 c.time-moment.result c.time-moment.ensures.time c.split_at.ensures.others
    c.requires.timed.some in
    let t : ℕ = c.time-moment.result in
    let rest : List ℕ = times_of c.split_at.result.1 in
    let b = c.enter_byte-found.new.buffer in
    let old = c.args.buffer.now in
    ap (λ (u : ℕ). least_found (fullness_at b) u 0 (lesser least c.enter_byte-found.result) rest) c.enter_byte-found.ensures.until
    ∙ rw apart (found_first (fullness_at old) (fullness_at b) old.current.until t least c.enter_byte-found.result rest rising
    c.enter_byte-found.ensures.found c.enter_byte-found.ensures.there)

pub returns-then-limit-moment-clause-later : goal.returns-then-limit-moment-clause-later
returns-then-limit-moment-clause-later g c = λ x all.
    let apart : times_of c.args.row.now ≡ c.time-moment.result ∷ times_of c.split_at.result.1 =
    divided c.args.row.now c.split_at.result.1 c.time-moment.result c.time-moment.ensures.time c.split_at.ensures.others c.requires.some in
    All-tail (λ s. s ≤ x) c.time-moment.result (times_of c.split_at.result.1) (rw apart at all)

pub returns-then-limit-moment-clause-there : goal.returns-then-limit-moment-clause-there
returns-then-limit-moment-clause-there g c = λ x all.
    let apart : times_of c.args.row.now ≡ c.time-moment.result ∷ times_of c.split_at.result.1 =
    divided c.args.row.now c.split_at.result.1 c.time-moment.result c.time-moment.ensures.time c.split_at.ensures.others c.requires.some in
    let t : ℕ = c.time-moment.result in
    let rest : List ℕ = times_of c.split_at.result.1 in
    let le : t ≤ x = All-head (λ s. s ≤ x) t rest (rw apart at all) in
    ap (λ (u : ℕ). fullness_at c.enter_byte-found.new.buffer x + entered u x rest) c.enter_byte-found.ensures.until
    ∙ rw apart (omega (arith, c.enter_byte-found.ensures.there x le, one_entered c.args.buffer.now.current.until x t rest le))

pub returns-then-limit-moment-clause-peak : goal.returns-then-limit-moment-clause-peak
returns-then-limit-moment-clause-peak g c =
    let apart : times_of c.args.row.now ≡ c.time-moment.result ∷ times_of c.split_at.result.1 =
    divided c.args.row.now c.split_at.result.1 c.time-moment.result c.time-moment.ensures.time c.split_at.ensures.others c.requires.some in
    let rising = others_rise c.args.row.now c.split_at.result.1 c.time-moment.result c.time-moment.ensures.time c.split_at.ensures.others
    c.requires.timed.some in
    let t : ℕ = c.time-moment.result in
    let rest : List ℕ = times_of c.split_at.result.1 in
    let b = c.enter_byte-found.new.buffer in
    ap (λ (u : ℕ). max b.peak (greatest_at (λ x. fullness_at b x + entered u x rest) rest)) c.enter_byte-found.ensures.until
    ∙ rw apart (entered_one (fullness_at c.args.buffer.now) (fullness_at b) c.args.buffer.now.current.until c.args.buffer.now.peak b.peak t rest
    rising c.enter_byte-found.ensures.there c.enter_byte-found.ensures.peak)

pub returns-then-limit-moment-clause-fewer : goal.returns-then-limit-moment-clause-fewer
returns-then-limit-moment-clause-fewer g c =
    let fewer = one_less c.args.row.now c.split_at.result.1 c.split_at.ensures.others c.requires.some in
    omega (arith, fewer)

pub returns-then-limit-moment-clause-fullness : goal.returns-then-limit-moment-clause-fullness
returns-then-limit-moment-clause-fullness g c =
    let fewer = one_less c.args.row.now c.split_at.result.1 c.split_at.ensures.others c.requires.some in
    omega (arith, fewer, c.enter_byte-found.ensures.fullness)

pub add-requires-clause-room : goal.add-requires-clause-room
add-requires-clause-room g c =
    let fewer = one_less c.args.row.now c.split_at.result.1 c.split_at.ensures.others c.requires.some in
    let two = rows_bytes c.split_before.result.0 c.split_before.result.1 c.split_at.result.1 c.split_before.ensures.times in
    omega (arith, two, fewer, c.enter_byte-found.ensures.fullness, c.requires.room)

pub returns-clause-fewer : goal.returns-clause-fewer
returns-clause-fewer g c =
    let fewer = one_less c.args.row.now c.split_at.result.1 c.split_at.ensures.others c.requires.some in
    let two = rows_bytes c.split_before.result.0 c.split_before.result.1 c.split_at.result.1 c.split_before.ensures.times in
    omega (arith, two, fewer)

pub returns-clause-fullness : goal.returns-clause-fullness
returns-clause-fullness g c =
    let fewer = one_less c.args.row.now c.split_at.result.1 c.split_at.ensures.others c.requires.some in
    let two = rows_bytes c.split_before.result.0 c.split_before.result.1 c.split_at.result.1 c.split_before.ensures.times in
    omega (arith, two, fewer, c.enter_byte-found.ensures.fullness, c.add.ensures.fullness)

pub returns-clause-later : goal.returns-clause-later
returns-clause-later g c = λ x all.
    let apart : times_of c.args.row.now ≡ c.time-moment.result ∷ times_of c.split_at.result.1 =
    divided c.args.row.now c.split_at.result.1 c.time-moment.result c.time-moment.ensures.time c.split_at.ensures.others c.requires.some in
    let three = in_three c.args.row.now c.split_at.result.1 c.split_before.result.0 c.split_before.result.1 c.time-moment.result apart
    c.split_before.ensures.times in
    let ts : List ℕ = times_of c.split_before.result.0 in
    let us : List ℕ = times_of c.split_before.result.1 in
    all_others (λ s. s ≤ x) ts us (All-tail (λ s. s ≤ x) c.time-moment.result (ts ++ us) (rw three at all))

pub returns-clause-there : goal.returns-clause-there
returns-clause-there g c = λ x all.
    let apart : times_of c.args.row.now ≡ c.time-moment.result ∷ times_of c.split_at.result.1 =
    divided c.args.row.now c.split_at.result.1 c.time-moment.result c.time-moment.ensures.time c.split_at.ensures.others c.requires.some in
    let three = in_three c.args.row.now c.split_at.result.1 c.split_before.result.0 c.split_before.result.1 c.time-moment.result apart
    c.split_before.ensures.times in
    let until_same : c.add.new.buffer.current.until ≡ c.args.buffer.now.current.until = c.add.ensures.until ∙ c.enter_byte-found.ensures.until in
    let head : Row = c.split_before.result.0 in
    let more : (x : ℕ) → fullness_at c.add.new.buffer x ≡ fullness_at c.enter_byte-found.new.buffer x
    + length (times_of head) * one_buffered c.args.buffer.now.current.until x =
    λ x. c.add.ensures.there x
    ∙ ap (λ (u : ℕ). fullness_at c.enter_byte-found.new.buffer x + head.bytes * one_buffered u x) c.enter_byte-found.ensures.until
    ∙ ap (λ (n : ℕ). fullness_at c.enter_byte-found.new.buffer x + n * one_buffered c.args.buffer.now.current.until x)
    (sym (length-row head.from head.pace head.parts head.bytes)) in
    let t : ℕ = c.time-moment.result in
    let ts : List ℕ = times_of c.split_before.result.0 in
    let us : List ℕ = times_of c.split_before.result.1 in
    let by = rw three at all in
    ap (λ (u : ℕ). fullness_at c.add.new.buffer x + entered u x us) until_same
    ∙ rw three (piece_there (fullness_at c.args.buffer.now) (fullness_at c.enter_byte-found.new.buffer) (fullness_at c.add.new.buffer)
    c.args.buffer.now.current.until t x ts us
    (All-head (λ s. s ≤ x) t (ts ++ us) by) (all_first (λ s. s ≤ x) ts us (All-tail (λ s. s ≤ x) t (ts ++ us) by)) c.enter_byte-found.ensures.there more)

pub returns-clause-peak : goal.returns-clause-peak
returns-clause-peak g c =
    let apart : times_of c.args.row.now ≡ c.time-moment.result ∷ times_of c.split_at.result.1 =
    divided c.args.row.now c.split_at.result.1 c.time-moment.result c.time-moment.ensures.time c.split_at.ensures.others c.requires.some in
    let three = in_three c.args.row.now c.split_at.result.1 c.split_before.result.0 c.split_before.result.1 c.time-moment.result apart
    c.split_before.ensures.times in
    let rising = others_rise c.args.row.now c.split_at.result.1 c.time-moment.result c.time-moment.ensures.time c.split_at.ensures.others
    c.requires.timed.some in
    let until_same : c.add.new.buffer.current.until ≡ c.args.buffer.now.current.until = c.add.ensures.until ∙ c.enter_byte-found.ensures.until in
    let head : Row = c.split_before.result.0 in
    let more : (x : ℕ) → fullness_at c.add.new.buffer x ≡ fullness_at c.enter_byte-found.new.buffer x
    + length (times_of head) * one_buffered c.args.buffer.now.current.until x =
    λ x. c.add.ensures.there x
    ∙ ap (λ (u : ℕ). fullness_at c.enter_byte-found.new.buffer x + head.bytes * one_buffered u x) c.enter_byte-found.ensures.until
    ∙ ap (λ (n : ℕ). fullness_at c.enter_byte-found.new.buffer x + n * one_buffered c.args.buffer.now.current.until x)
    (sym (length-row head.from head.pace head.parts head.bytes)) in
    let b = c.enter_byte-found.new.buffer in
    let old = c.args.buffer.now in
    let t : ℕ = c.time-moment.result in
    let ts : List ℕ = times_of c.split_before.result.0 in
    let us : List ℕ = times_of c.split_before.result.1 in
    let limit : ℕ = c.min-limit.result in
    let least = c.min-limit.ensures in
    let least' = c.min.ensures in
    let first : Row = c.split_before.result.0 in
    let most : c.add.new.buffer.peak ≡ max b.peak (b.fullness + length ts) = rw (length-row first.from first.pace first.parts first.bytes) c.add.ensures.peak in
    ap (λ (u : ℕ). max c.add.new.buffer.peak (greatest_at (λ x. fullness_at c.add.new.buffer x + entered u x us) us)) until_same
    ∙ rw three (piece_peak (fullness_at old) (fullness_at b) (fullness_at c.add.new.buffer) old.current.until limit old.peak b.peak c.add.new.buffer.peak
    b.fullness t ts us
    (rw (sym c.split_before.ensures.times) at rising) (omega (arith, least, least', c.enter_byte-found.ensures.until)) c.if-limit-moment.false
    c.enter_byte-found.ensures.there c.enter_byte-found.ensures.peak
    (λ x lt. all_there b.earlier.items b.current b.next x (omega (arith, lt, least, least')) (omega (arith, lt, least, least'))
    c.enter_byte-found.ensures.sound.early ∙ sym c.enter_byte-found.ensures.sound.all)
    c.split_before.ensures.before more most)

pub returns-clause-least : goal.returns-clause-least
returns-clause-least g c = λ kept.
    let apart : times_of c.args.row.now ≡ c.time-moment.result ∷ times_of c.split_at.result.1 =
    divided c.args.row.now c.split_at.result.1 c.time-moment.result c.time-moment.ensures.time c.split_at.ensures.others c.requires.some in
    let three = in_three c.args.row.now c.split_at.result.1 c.split_before.result.0 c.split_before.result.1 c.time-moment.result apart
    c.split_before.ensures.times in
    let rising = others_rise c.args.row.now c.split_at.result.1 c.time-moment.result c.time-moment.ensures.time c.split_at.ensures.others
    c.requires.timed.some in
    let until_same : c.add.new.buffer.current.until ≡ c.args.buffer.now.current.until = c.add.ensures.until ∙ c.enter_byte-found.ensures.until in
    let head : Row = c.split_before.result.0 in
    let more : (x : ℕ) → fullness_at c.add.new.buffer x ≡ fullness_at c.enter_byte-found.new.buffer x
    + length (times_of head) * one_buffered c.args.buffer.now.current.until x =
    λ x. c.add.ensures.there x
    ∙ ap (λ (u : ℕ). fullness_at c.enter_byte-found.new.buffer x + head.bytes * one_buffered u x) c.enter_byte-found.ensures.until
    ∙ ap (λ (n : ℕ). fullness_at c.enter_byte-found.new.buffer x + n * one_buffered c.args.buffer.now.current.until x)
    (sym (length-row head.from head.pace head.parts head.bytes)) in
    let b = c.enter_byte-found.new.buffer in
    let old = c.args.buffer.now in
    let t : ℕ = c.time-moment.result in
    let ts : List ℕ = times_of c.split_before.result.0 in
    let us : List ℕ = times_of c.split_before.result.1 in
    let limit : ℕ = c.min-limit.result in
    let least = c.min-limit.ensures in
    let least' = c.min.ensures in
    let found : ℕ = c.enter_byte-found.result in
    ap (λ (u : ℕ). least_found (fullness_at c.add.new.buffer) u 0 (lesser kept found) us) until_same
    ∙ rw three (piece_least (fullness_at old) (fullness_at b) (fullness_at c.add.new.buffer) old.current.until limit b.fullness t kept found ts us
    (rw (sym c.split_before.ensures.times) at rising) c.if-limit-moment.false c.enter_byte-found.ensures.found c.enter_byte-found.ensures.there
    (λ x lt. all_there b.earlier.items b.current b.next x (omega (arith, lt, least, least')) (omega (arith, lt, least, least'))
    c.enter_byte-found.ensures.sound.early ∙ sym c.enter_byte-found.ensures.sound.all)
    c.split_before.ensures.before more)
