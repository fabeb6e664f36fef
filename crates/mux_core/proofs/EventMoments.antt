-- What the events of a program say at two moments between which none of them begins or ends.
use Rattle.std.proofs.Common.{◌≡◌, ℕ, ◌+◌, ◌-◌, ◌%◌, ◌<◌, ◌≤◌, ◌&&◌, nat_lt, nat_le, not, Bool, cond, List, [], ◌∷◌, Option, Some, None, slice_get}
use Rattle.std.proofs.Common.{refl, sym, ap, ◌∙◌, arith, inl, inr, lt-ltb, le-ltb}
use Rattle.std.specs.Prelude.{find, ⊤}
use Rattle.std.specs.List.{count_by}
use Rattle.std.proofs.lemmas.Bool.{cases_lt, le-leb, lt-leb}
use Rattle.std.proofs.lemmas.List.Sums.{sum_by-cons}
use Rattle.description_parts.specs.Described.{Described, DescribedProgram, DescribedEvent}
use Rattle.description.specs.SectionBytes.{is_present_event, is_following_event, counted_events, eit_version, section_events}
use Rattle.description.specs.SubTables.{program_number_by, section_of}
use Rattle.description.specs.declared.sub_table.SubTable.TheVariants.{Events}

-- how many of these edges are up to a moment
abbrev up_to : (DescribedEvent → ℕ) → ℕ → List DescribedEvent → ℕ
up_to edge m es = count_by (λ (e : DescribedEvent). nat_le (edge e) m) es

abbrev one_if : Bool → ℕ
one_if b = cond b 1 0

before : (edge m : ℕ) → m < edge → one_if (nat_le edge m) ≡ 0
before edge m lt = ap one_if (lt-leb edge m lt)

after : (edge m : ℕ) → edge ≤ m → one_if (nat_le edge m) ≡ 1
after edge m le = ap one_if (le-leb edge m le)

next_edge : (edge : DescribedEvent → ℕ) (m : ℕ) (e : DescribedEvent) (es : List DescribedEvent) →
    up_to edge m (e ∷ es) ≡ one_if (nat_le (edge e) m) + up_to edge m es
next_edge edge m e es = sum_by-cons (λ (x : DescribedEvent). one_if (nat_le (edge x) m)) e es

-- they are no fewer up to a later moment
more_edges : (edge : DescribedEvent → ℕ) (m n : ℕ) (es : List DescribedEvent) → m ≤ n → up_to edge m es ≤ up_to edge n es
more_edges edge m n [] le = omega arith
more_edges edge m n (e ∷ es) le =
    let rest = more_edges edge m n es le in
    let all = next_edge edge m e es in
    let others = next_edge edge n e es in
    elim (cases_lt m (edge e)) [
      | inl lt ↦ let none = before (edge e) m lt in omega (arith, all, others, none, rest)
      | inr on ↦
          let one = after (edge e) m on in
          let other = after (edge e) n (omega (arith, on, le)) in
          omega (arith, all, others, one, other, rest)
    ]

-- and if they are as many, each is up to both or to none
abbrev SameEdges : (DescribedEvent → ℕ) → ℕ → ℕ → List DescribedEvent → Type 0
SameEdges edge m n [] = ⊤
SameEdges edge m n (e ∷ es) = (nat_le (edge e) m ≡ nat_le (edge e) n) × SameEdges edge m n es

same_edges : (edge : DescribedEvent → ℕ) (m n : ℕ) (es : List DescribedEvent) → m ≤ n → up_to edge n es ≡ up_to edge m es → SameEdges edge m n es
same_edges edge m n [] le same = tt
same_edges edge m n (e ∷ es) le same =
    let all = sym (next_edge edge n e es) ∙ same ∙ next_edge edge m e es in
    let rest = more_edges edge m n es le in
    elim (cases_lt m (edge e)) [
      | inl lt ↦ let none = before (edge e) m lt in elim (cases_lt n (edge e)) [
        | inl still ↦ let no = before (edge e) n still in
            (lt-leb (edge e) m lt ∙ sym (lt-leb (edge e) n still), same_edges edge m n es le (omega (arith, all, none, no)))
        | inr came ↦ let one = after (edge e) n came in absurd (omega (arith, all, none, one, rest))
      ]
      | inr on ↦
          let later : edge e ≤ n = omega (arith, on, le) in
          let one = after (edge e) m on in
          let other = after (edge e) n later in
          (le-leb (edge e) m on ∙ sym (le-leb (edge e) n later), same_edges edge m n es le (omega (arith, all, one, other)))
    ]

-- The present event and the following one

not_yet_at : (edge m : ℕ) → nat_lt m edge ≡ not (nat_le edge m)
not_yet_at edge m = elim (cases_lt m edge) [
  | inl lt ↦ lt-ltb m edge lt ∙ sym (ap not (lt-leb edge m lt))
  | inr on ↦ le-ltb m edge on ∙ sym (ap not (le-leb edge m on))
]

lt_same : (edge m n : ℕ) → nat_le edge m ≡ nat_le edge n → nat_lt m edge ≡ nat_lt n edge
lt_same edge m n same = not_yet_at edge m ∙ ap not same ∙ sym (not_yet_at edge n)

present_same : (m n : ℕ) (es : List DescribedEvent) → SameEdges (λ e. e.start) m n es → SameEdges (λ e. e.start + e.duration) m n es →
    find (is_present_event m) es ≡ find (is_present_event n) es
present_same m n [] begun ended = refl
present_same m n (e ∷ es) begun ended =
    ap (λ (b : Bool). cond (b && nat_lt m (e.start + e.duration)) (Some e) (find (is_present_event m) es)) begun.0
    ∙ ap (λ (b : Bool). cond (nat_le e.start n && b) (Some e) (find (is_present_event m) es)) (lt_same (e.start + e.duration) m n ended.0)
    ∙ ap (λ (o : Option DescribedEvent). cond (is_present_event n e) (Some e) o) (present_same m n es begun.1 ended.1)

following_same : (m n : ℕ) (es : List DescribedEvent) → SameEdges (λ e. e.start) m n es → find (is_following_event m) es ≡ find (is_following_event n) es
following_same m n [] begun = refl
following_same m n (e ∷ es) begun =
    ap (λ (b : Bool). cond b (Some e) (find (is_following_event m) es)) (lt_same e.start m n begun.0)
    ∙ ap (λ (o : Option DescribedEvent). cond (is_following_event n e) (Some e) o) (following_same m n es begun.1)

-- The sections, and the version

pub more_counted : (m n : ℕ) (o : Option DescribedProgram) → m ≤ n → program_number_by (counted_events m) o ≤ program_number_by (counted_events n) o
more_counted m n None le = omega arith
more_counted m n (Some p) le =
    let begun = more_edges (λ e. e.start) m n p.events le in
    let ended = more_edges (λ e. e.start + e.duration) m n p.events le in
    omega (arith, begun, ended)

events_same : (m n number : ℕ) (p : DescribedProgram) → m ≤ n → counted_events n p ≡ counted_events m p → section_events m p number ≡ section_events n p number
events_same m n number p le same =
    let begun = more_edges (λ e. e.start) m n p.events le in
    let ended = more_edges (λ e. e.start + e.duration) m n p.events le in
    let all : up_to (λ e. e.start) n p.events + up_to (λ e. e.start + e.duration) n p.events
    ≡ up_to (λ e. e.start) m p.events + up_to (λ e. e.start + e.duration) m p.events = same in
    let a = same_edges (λ e. e.start) m n p.events le (omega (arith, all, begun, ended)) in
    let b = same_edges (λ e. e.start + e.duration) m n p.events le (omega (arith, all, begun, ended)) in
    rw (section_events, present_same m n p.events a b, following_same m n p.events a) refl

pub sections_same : (d : Described) (p version number m n : ℕ) (o : Option DescribedProgram) → slice_get d.programs p ≡ o → m ≤ n →
    program_number_by (counted_events n) o ≡ program_number_by (counted_events m) o →
    section_of d (Events p) version number m ≡ section_of d (Events p) version number n
sections_same d p version number m n None is le same = rw (section_of, is) refl
sections_same d p version number m n (Some q) is le same = rw (section_of, is, events_same m n number q le same) refl

counted_on : (count a b : ℕ) → a ≤ b → (count + b) % 32 ≡ ((count + a) % 32 + (b - a)) % 32
counted_on count a b le = omega (arith, le)

pub version_on : (o : Option DescribedProgram) (m n : ℕ) → m ≤ n → program_number_by (eit_version n) o
    ≡ (program_number_by (eit_version m) o + (program_number_by (counted_events n) o - program_number_by (counted_events m) o)) % 32
version_on None m n le = refl
version_on (Some p) m n le = counted_on p.eit_count (counted_events m p) (counted_events n p) (more_counted m n (Some p) le)
