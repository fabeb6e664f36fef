-- Counts over units, from the first unit on
use Rattle.std.proofs.Common.{◌≡◌, ◌≤◌, ◌<◌, ℕ, ◌+◌, ◌*◌, ◌==◌, ◌-◌, min, max, Bool, true, false, cond, List, [], ◌∷◌, length, drop, get_or, refl, sym, arith}
use Rattle.std.proofs.Common.{add-one}
use Rattle.std.specs.Int.{div_ceil}
use Rattle.std.proofs.Math.Seq.{drop-cons}
use Rattle.std.proofs.lemmas.Grind.{div_ceil_times}
use Rattle.std.proofs.lemmas.List.{drop_all, length-append}
use Rattle.pes_packet.specs.AccessUnits.{AccessUnit}
use Rattle.pes_packet.specs.Encoding.{pes_packet_bytes, pes_header_bytes, on_wire, header_size}
use Rattle.pes_packet.specs.Marks.{extension_size, field_size, marks_size}
use Rattle.pes_packet.specs.declared.marks.Marks.{Marks}
use Rattle.pes_packet.proofs.Written.{header_sizes}
use Rattle.es_moments.specs.Stamps.{distance, min_distance}
use Rattle.clock27.specs.Units.{slot_units_at_1bps}
use Rattle.es_moments.specs.Declaration.{interval_after, min_interval, max_pts_after, max_unit_size}

pub size_more : (i : ℕ) (us : List AccessUnit) (u : AccessUnit) → i < length us → u ≡ get_or us i u →
    max_unit_size (drop i us) ≡ max (length u.bytes + marks_size u.marks) (max_unit_size (drop (i + 1) us))
unfolding max_unit_size
size_more i us u below at = rw (drop-cons us i u below, add-one i, sym at) refl

pub pts_more : (i : ℕ) (us : List AccessUnit) (u : AccessUnit) → i < length us → u ≡ get_or us i u →
    max_pts_after (drop i us) ≡ max (u.pts - u.dts) (max_pts_after (drop (i + 1) us))
unfolding max_pts_after
pts_more i us u below at = rw (drop-cons us i u below, sym at, add-one i) refl

pub pts_end : (i : ℕ) (us : List AccessUnit) → length us ≤ i → max_pts_after (drop i us) ≡ 0
unfolding max_pts_after
pts_end i us over = rw (drop_all i us over) refl

pub size_end : (i : ℕ) (us : List AccessUnit) → length us ≤ i → max_unit_size (drop i us) ≡ 0
unfolding max_unit_size
size_end i us over = rw (drop_all i us over) refl

pub interval_more : (i last : ℕ) (us : List AccessUnit) (u : AccessUnit) → i < length us → u ≡ get_or us i u →
    interval_after last (drop i us) ≡ min (u.dts - last) (interval_after u.dts (drop (i + 1) us))
unfolding interval_after
interval_more i last us u below at = rw (drop-cons us i u below, add-one i, sym at) refl

pub interval_end : (i last : ℕ) (us : List AccessUnit) → length us ≤ i → interval_after last (drop i us) ≡ 90_000
unfolding interval_after
interval_end i last us over = rw (drop_all i us over) refl

pub interval_most : (last : ℕ) (us : List AccessUnit) → interval_after last us ≤ 90_000
unfolding interval_after
interval_most last [] = omega arith
interval_most last (u ∷ us) = omega (arith, interval_most u.dts us)

pub after_more : (from least i stamp : ℕ) (stamps : List ℕ) → i < length stamps → stamp ≡ get_or stamps i 0 →
    min_distance from least (drop i stamps) ≡ min_distance from (min least (distance from stamp)) (drop (i + 1) stamps)
unfolding min_distance
after_more from least i stamp stamps below at = rw (drop-cons stamps i 0 below, add-one i, sym at) refl

pub after_end : (from least i : ℕ) (stamps : List ℕ) → length stamps ≤ i → min_distance from least (drop i stamps) ≡ least
unfolding min_distance
after_end from least i stamps over = rw (drop_all i stamps over) refl

pub least_none : (us : List AccessUnit) → length us ≡ 0 → min_interval us ≡ 90_000
unfolding min_interval
least_none [] is = refl
least_none (u ∷ us) is = absurd (let no : ⊥ = omega (arith, is) in no)

pub least_some : (us rest : List AccessUnit) (u : AccessUnit) → us ≡ u ∷ rest → min_interval us ≡ interval_after u.dts rest
unfolding min_interval
least_some us rest u is = rw is refl

header_by : (long same : Bool) (more : ℕ) → cond long 45 (cond same 14 19 + more) ≤ 19 + cond long 26 more
header_by true same more = omega arith
header_by false true more = omega arith
header_by false false more = omega arith

header_most : (marks : Marks) (pts dts : ℕ) → field_size marks.random_access + header_size marks pts dts ≤ 19 + marks_size marks
header_most marks pts dts = omega (arith, header_by marks.long (on_wire pts == on_wire dts) (extension_size marks))

-- A header has at most 19 bytes besides the bytes of the marks, including the field before it.
pub bytes_most : (id base0 size : ℕ) (u : AccessUnit) → length u.bytes + marks_size u.marks ≤ size →
    field_size u.marks.random_access + length (pes_packet_bytes id base0 u) ≤ 19 + size
unfolding pes_packet_bytes
bytes_most id base0 size u le =
    let head = pes_header_bytes id (length u.bytes) u.marks (u.pts + base0) (u.dts + base0) in
    omega (
      arith,
      le,
      length-append head u.bytes,
      header_sizes id (length u.bytes) u.marks (u.pts + base0) (u.dts + base0),
      header_most u.marks (u.pts + base0) (u.dts + base0),
    )

-- Levels

-- A level above `most` packets needs more than `most` packets.
pub over_most : (level most : ℕ) → most * slot_units_at_1bps < level → most < div_ceil level slot_units_at_1bps
over_most level most lt = omega (arith, lt, (div_ceil_times level slot_units_at_1bps (omega arith)).0)

pub at_most : (level most : ℕ) → level ≤ most * slot_units_at_1bps → div_ceil level slot_units_at_1bps ≤ most
at_most level most le = omega (arith, le, (div_ceil_times level slot_units_at_1bps (omega arith)).1)

-- A level that needs at most `burst` packets is at most the level of `burst` packets.
pub within_burst : (level burst : ℕ) → div_ceil level slot_units_at_1bps ≤ burst → level ≤ burst * slot_units_at_1bps
within_burst level burst le = omega (arith, le, (div_ceil_times level slot_units_at_1bps (omega arith)).0)
