-- Bytes of PES packet headers leave MB with the payload byte after them.
use Rattle.std.proofs.Common.{◌≡◌, ℕ, suc, ◌+◌, ◌<◌, ◌≤◌, max, Bool, true, false, cond, nat_lt, List, [], ◌∷◌, inl, inr, arith}
use Rattle.std.proofs.lemmas.Bool.{cases_lt, le-ltb}
use Rattle.std.proofs.lemmas.Bool.Decides.{nat_tests}
use Rattle.clock27.specs.Departure.{departures}
use Rattle.clock27.specs.Fullness.{is_in_buffer, fullness}
use Rattle.unit_timing.specs.VideoBuffers.{NoLater}
use Rattle.unit_timing.specs.PesHeaders.{of_payload, HeadersAtMost, entered_by, fullness_with_headers, HeadersLaw}

-- A byte that has not left by x is there if it has entered.
still_there : (x t d : ℕ) → x < d → (let n : ℕ = cond (is_in_buffer x t d) 1 0 in n) ≡ entered_by x t
still_there x t d lt = grind (arith, nat_tests)

at_most : (b : Bool) (n : ℕ) → cond b n 0 ≤ n
at_most true n = omega arith
at_most false n = omega arith

-- If the byte before these bytes has not left, none of these bytes has.
all_there : (x step last prev waiting : ℕ) (headers : List Bool) (ts : List ℕ) → x < last →
    fullness_with_headers x step prev waiting headers ts ≤ waiting + fullness x ts (departures step last ts)
unfolding fullness_with_headers fullness departures
all_there x step last prev waiting [] ts lt = omega arith
all_there x step last prev waiting (true ∷ headers) [] lt = omega arith
all_there x step last prev waiting (false ∷ headers) [] lt = omega arith
all_there x step last prev waiting (true ∷ headers) (t ∷ ts) lt =
    let later : x < max t last + step = omega (arith, lt) in
    omega (arith, still_there x t (max t last + step) later, all_there x step (max t last + step) prev (waiting + entered_by x t) headers ts later)
all_there x step last prev waiting (false ∷ headers) (t ∷ ts) lt =
    let later : x < max t last + step = omega (arith, lt) in
    omega (
      arith,
      still_there x t (max t last + step) later,
      at_most (nat_lt x (max t prev + step)) (waiting + entered_by x t),
      all_there x step (max t last + step) (max t prev + step) 0 headers ts later,
    )

-- `prev` is when the payload byte before these bytes left, `last` when the byte before them would have left as a payload byte.
one_header : (x step most prev last waiting before : ℕ) (headers : List Bool) (ts : List ℕ) → prev ≤ last → waiting ≤ before → before ≤ most →
    HeadersAtMost most before headers → fullness_with_headers x step prev waiting headers ts ≤ fullness x ts (departures step last ts) + most
unfolding fullness_with_headers fullness departures HeadersAtMost
one_header x step most prev last waiting before [] ts le few within runs = omega (arith, few, within)
one_header x step most prev last waiting before (true ∷ headers) [] le few within runs = omega (arith, few, within)
one_header x step most prev last waiting before (false ∷ headers) [] le few within runs = omega (arith, few, within)
one_header x step most prev last waiting before (true ∷ headers) (t ∷ ts) le few within runs = elim (cases_lt x (max t last + step)) [
  | inl later ↦ omega (
    arith,
    few,
    within,
    still_there x t (max t last + step) later,
    all_there x step (max t last + step) prev (waiting + entered_by x t) headers ts later,
  )
  | inr gone ↦
      let more : waiting + entered_by x t ≤ suc before = omega (arith, few, one x t) in
      let rest = one_header x step most prev (max t last + step) (waiting + entered_by x t) (suc before) headers ts (omega (arith, le)) more runs.0 runs.1 in
      omega (arith, rest)
]
  where
    one : (x t : ℕ) → entered_by x t ≤ 1
    one x t = grind (arith, nat_tests)
one_header x step most prev last waiting before (false ∷ headers) (t ∷ ts) le few within runs =
    let sooner : max t prev + step ≤ max t last + step = omega (arith, le) in
    elim (cases_lt x (max t last + step)) [
      | inl later ↦ omega (
        arith,
        few,
        within,
        still_there x t (max t last + step) later,
        at_most (nat_lt x (max t prev + step)) (waiting + entered_by x t),
        all_there x step (max t last + step) (max t prev + step) 0 headers ts later,
      )
      | inr gone ↦
          let left : nat_lt x (max t prev + step) ≡ false = le-ltb x (max t prev + step) (omega (arith, gone, sooner)) in
          let rest = one_header x step most (max t prev + step) (max t last + step) 0 0 headers ts sooner (omega arith) (omega arith) runs in
          rw left (omega (arith, rest))
    ]

sooner_alone : (step early prev : ℕ) (headers : List Bool) (ts : List ℕ) → early ≤ prev →
    NoLater (departures step early (of_payload headers ts)) (of_payload headers (departures step prev ts))
unfolding of_payload departures NoLater
sooner_alone step early prev [] ts le = tt
sooner_alone step early prev (true ∷ headers) [] le = tt
sooner_alone step early prev (false ∷ headers) [] le = tt
sooner_alone step early prev (true ∷ headers) (t ∷ ts) le = sooner_alone step early (max t prev + step) headers ts (omega (arith, le))
sooner_alone step early prev (false ∷ headers) (t ∷ ts) le =
    let first : max t early + step ≤ max t prev + step = omega (arith, le) in
    (first, sooner_alone step (max t early + step) (max t prev + step) headers ts first)

pub headers_law : HeadersLaw
headers_law = record {
  fuller = λ x step most headers ts runs. one_header x step most 0 0 0 0 headers ts (omega arith) (omega arith) (omega arith) runs;
  sooner = λ step headers ts. sooner_alone step 0 0 headers ts (omega arith);
}
