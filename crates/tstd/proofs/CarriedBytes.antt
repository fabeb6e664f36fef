-- The payload bytes of a PID agree with the PES packets of its units.
use Rattle.std.proofs.Common.{◌≡◌, ℕ, zero, suc, ◌+◌, ◌≤◌, ◌<◌, ◌==◌, ◌||◌, not, nat_eq, Bool, true, false, Option, Some, None, List, [], ◌∷◌, ◌++◌, length}
use Rattle.std.proofs.Common.{drop, get_or, sum_by, refl, sym, arith, add-one, is_some}
use Rattle.std.specs.List.{starts_with, concat, list_all}
use Rattle.std.proofs.Math.Seq.{drop-cons}
use Rattle.std.proofs.lemmas.Bool.{and_parts}
use Rattle.std.proofs.lemmas.List.{drop_all, length-append}
use Rattle.std.proofs.lemmas.List.Sums.{sum_by-cons}
use Rattle.pes_packet.specs.AccessUnits.{AccessUnit}
use Rattle.pes_packet.specs.declared.marks.Marks.{Marks}
use Rattle.pes_packet.specs.Encoding.{on_wire, pes_header_bytes, pes_packet_bytes}
use Rattle.tstd.specs.DepartureWalk.{given}
use Rattle.pes_packet.specs.Units.{units_of, pes_packets_of}
use Rattle.pes_packet.specs.Marks.{field_size}
use Rattle.tstd.specs.Carried.{timed_pes_packets}

-- Reducing a time stamp to 33 bits a second time does not change it.
wire_again : (a : ℕ) → on_wire (on_wire a) ≡ on_wire a
wire_again a = omega arith

pub header_wire : (id size : ℕ) (marks : Marks) (pts dts : ℕ) →
    pes_header_bytes id size marks (on_wire pts) (on_wire dts) ≡ pes_header_bytes id size marks pts dts
unfolding pes_header_bytes
header_wire id size marks pts dts = rw (wire_again pts, wire_again dts) refl

-- The PES packets of a stream from unit i on, if unit i belongs to the stream.
pub texts_first : (id base0 number i : ℕ) (units : List (ℕ × AccessUnit)) (u : ℕ × AccessUnit) → i < length units → u ≡ get_or units i u →
    (u.0 == number) ≡ true →
    concat (pes_packets_of id base0 (units_of number (drop i units))) ≡ pes_packet_bytes id base0 u.1
    ++ concat (pes_packets_of id base0 (units_of number (drop (i + 1) units)))
texts_first id base0 number i units u below at own = rw (drop-cons units i u below, add-one i, sym at, own) refl

pub texts_past : (id base0 number i : ℕ) (units : List (ℕ × AccessUnit)) (u : ℕ × AccessUnit) → i < length units → u ≡ get_or units i u →
    (u.0 == number) ≡ false →
    concat (pes_packets_of id base0 (units_of number (drop i units))) ≡ concat (pes_packets_of id base0 (units_of number (drop (i + 1) units)))
texts_past id base0 number i units u below at other = rw (drop-cons units i u below, add-one i, sym at, other) refl

pub texts_none : (id base0 number i : ℕ) (units : List (ℕ × AccessUnit)) → length units ≤ i →
    concat (pes_packets_of id base0 (units_of number (drop i units))) ≡ []
texts_none id base0 number i units over = rw (drop_all i units over) refl

-- If a test is true for all elements, it is true for each element.
pub all_at : {X : Type 0} (p : X → Bool) (xs : List X) (i : ℕ) (d : X) → i < length xs → list_all p xs ≡ true → p (get_or xs i d) ≡ true
all_at p [] i d below all = absurd (omega (arith, below))
all_at p (x ∷ xs) zero d below all = (and_parts (p x) (list_all p xs) all).0
all_at p (x ∷ xs) (suc i) d below all = all_at p xs i d (omega (arith, below)) (and_parts (p x) (list_all p xs) all).1

-- A unit of the stream fits into a PES packet.
pub own_fits : (own fits : Bool) → own ≡ true → (not own || fits) ≡ true → fits ≡ true
own_fits own fits is either = rw is at either

-- A beginning is no longer than the whole list.
pub beginning_few : (expected part : List ℕ) → starts_with nat_eq expected part ≡ true → length part ≤ length expected
beginning_few expected [] e = omega arith
beginning_few [] (x ∷ part) e = absurd (let no : ⊥ = cc in no)
beginning_few (b ∷ expected) (x ∷ part) e =
    let rest = beginning_few expected part (and_parts (nat_eq x b) (starts_with nat_eq expected part) e).1 in omega (arith, rest)

-- The PES packets of units are as long as the timing model says.
pub sizes_joined : (id base0 : ℕ) (units : List AccessUnit) →
    length (concat (pes_packets_of id base0 units)) ≡ sum_by (λ t. t.size) (timed_pes_packets id base0 units)
sizes_joined id base0 [] = refl
sizes_joined id base0 (u ∷ units) =
    rw (sum_by-cons (λ t. t.size) (record { dts = u.dts; size = length (pes_packet_bytes id base0 u); front = field_size u.marks.random_access })
    (timed_pes_packets id base0 units))
    (omega (arith, length-append (pes_packet_bytes id base0 u) (concat (pes_packets_of id base0 units)), sizes_joined id base0 units))

-- After the last PES packet, the payloads agree if and only if they end too.
pub end_agrees : (o : Option ℕ) (b : Bool) (ahead rest : List ℕ) → ahead ≡ given o rest → is_some o ≡ not b → starts_with nat_eq [] ahead ≡ b
end_agrees None true ahead rest is ends = rw is refl
end_agrees None false ahead rest is ends = cc
end_agrees (Some x) true ahead rest is ends = cc
end_agrees (Some x) false ahead rest is ends = rw is refl
