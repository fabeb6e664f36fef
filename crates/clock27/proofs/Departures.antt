-- Departures of bytes that arrive in parts, and of bytes in a row
use Rattle.std.proofs.Common.{ℕ, zero, suc, ◌+◌, ◌*◌, ◌≤◌, max, List, [], ◌∷◌, refl, ap, arith}
use Rattle.std.proofs.lemmas.List.Elements.{All-nil, All-cons, All-head, All-tail, All-weaker}
use Rattle.clock27.specs.Arrival.{bytes_from}
use Rattle.clock27.specs.Departure.{departures, last_left}
use Rattle.clock27.specs.Laws.{DeparturesLaw, LastLaw, LengthLaw, PacketLaw, RisingLaw, EarliestLaw, RowLaw}

pub departures-append : DeparturesLaw
unfolding departures last_left
departures-append step prev [] ys = refl
departures-append step prev (t ∷ ts) ys = ap (λ l. (max t prev + step) ∷ l) (departures-append step (max t prev + step) ts ys)

pub last_left-append : LastLaw
unfolding last_left
last_left-append step prev [] ys = refl
last_left-append step prev (t ∷ ts) ys = last_left-append step (max t prev + step) ts ys

pub length-departures : LengthLaw
unfolding departures
length-departures step prev [] = refl
length-departures step prev (t ∷ ts) = ap suc (length-departures step (max t prev + step) ts)

-- One byte, and then the remaining bytes
one_before : (step prev r i n last : ℕ) → last ≤ max ((suc i + n) * r) (max (i * r) prev + step) + n * step →
    last ≤ max ((i + suc n) * r) prev + suc n * step
one_before step prev r i n last h = omega (arith, h)

pub last_packet : PacketLaw
unfolding last_left bytes_from
last_packet step prev r i zero = omega arith
last_packet step prev r i (suc n) = one_before step prev r i n _ (last_packet step (max (i * r) prev + step) r (suc i) n)

-- The last departure is no earlier than the departure before the first byte.
prev_le : (step prev : ℕ) (ts : List ℕ) → prev ≤ last_left step prev ts
unfolding last_left
prev_le step prev [] = omega arith
prev_le step prev (t ∷ ts) = omega (arith, prev_le step (max t prev + step) ts)

pub rising : RisingLaw
unfolding departures last_left
rising step prev [] = All-nil (λ d. d ≤ prev)
rising step prev (t ∷ ts) =
    All-cons (λ d. d ≤ last_left step (max t prev + step) ts) (max t prev + step) (departures step (max t prev + step) ts)
    (prev_le step (max t prev + step) ts) (rising step (max t prev + step) ts)

pub earliest : EarliestLaw
unfolding departures
earliest step prev first [] h = All-nil (λ d. first + step ≤ d)
earliest step prev first (t ∷ ts) h =
    All-cons (λ d. first + step ≤ d) (max t prev + step) (departures step (max t prev + step) ts)
    (omega (arith, All-head (λ s. first ≤ s) t ts h)) (earliest step (max t prev + step) first ts (All-tail (λ s. first ≤ s) t ts h))

pub row : RowLaw
unfolding bytes_from
row r i zero = All-nil (λ t. i * r ≤ t)
row r i (suc n) =
    All-cons (λ t. i * r ≤ t) (i * r) (bytes_from r (suc i) n) (omega arith)
    (All-weaker (λ t. suc i * r ≤ t) (λ t. i * r ≤ t) (λ t h. omega (arith, h)) (bytes_from r (suc i) n) (row r (suc i) n))
