-- Bytes that pass a buffer: its state agrees with the definition of departures.
use Rattle.std.proofs.Common.{◌≡◌, ◌∙◌, ℕ, max, List, [], ◌∷◌, ◌++◌, refl, arith}
use Rattle.clock27.specs.Departure.{last_left}
use Rattle.tstd.specs.declared.queue.Queue.{Queue}
use Rattle.tstd.specs.Queues.{arrived, all_arrived, greatest_residence}

pub passed-step : (q : Queue) (ts : List ℕ) → (all_arrived q ts).step ≡ q.step
passed-step q [] = refl
passed-step q (t ∷ ts) = passed-step (arrived q t) ts

pub passed-last : (q : Queue) (ts : List ℕ) → (all_arrived q ts).last ≡ last_left q.step q.last ts
unfolding last_left
passed-last q [] = refl
passed-last q (t ∷ ts) = passed-last (arrived q t) ts

-- The longest residence of earlier and later bytes.
pub passed-longest : (q : Queue) (ts us : List ℕ) →
    max (all_arrived q ts).longest_residence (greatest_residence q.step (last_left q.step q.last ts) us) ≡ max q.longest_residence
    (greatest_residence q.step q.last (ts ++ us))
unfolding last_left greatest_residence
passed-longest q [] us = refl
passed-longest q (t ∷ ts) us = passed-longest (arrived q t) ts us ∙ omega arith
