-- Stamps and moments
use Rattle.std.proofs.Common.{◌≡◌, ◌≤◌, ◌<◌, ℕ, ◌+◌, ◌-◌, ◌%◌, ◌^◌, Option, Some, None, [], ◌∷◌, refl, arith}
use Rattle.pes_packet.specs.Encoding.{on_wire}
use Rattle.es_moments.specs.Stamps.{distance, dts_at, unit_at, moved, min_distance, MovedByOneConstant, ConstantIsLeast}

-- At the moment of a stamp, the clock shows the stamp.
pub shows : (a w : ℕ) → (a + distance a w) % 2 ^ 33 ≡ w % 2 ^ 33
unfolding distance
shows a w = omega arith

pub shows_dts : (base : ℕ) (before : Option ℕ) (w : ℕ) → on_wire (dts_at base before w + base) ≡ on_wire w
unfolding distance dts_at
shows_dts base None w = omega arith
shows_dts base (Some d) w = omega arith

shows_pts : (base dts w : ℕ) → on_wire (dts + distance (dts + base) w + base) ≡ on_wire w
unfolding distance
shows_pts base dts w = omega arith

pub moved_by_one : MovedByOneConstant
unfolding moved unit_at
moved_by_one base before [] = (refl, refl, refl, refl)
moved_by_one base before (u ∷ us) =
    let rest = moved_by_one base (Some (dts_at base before u.dts)) us in (
      rw (shows_dts base before u.dts, rest.0) refl,
      rw (shows_pts base (dts_at base before u.dts) u.pts, rest.1) refl,
      rw rest.2 refl,
      rw rest.3 refl,
    )

between : (e from least w : ℕ) → e < 2 ^ 33 → least ≤ distance from w → distance from w - least + e < 2 ^ 33 →
    distance (distance e (from + least)) w ≡ distance from w - least + e
unfolding distance
between e from least w early le near = omega arith

pub constant_least : ConstantIsLeast
constant_least earliest first others stamp early least near =
    between earliest (first + 2 ^ 32) (min_distance (first + 2 ^ 32) (2 ^ 32) others) stamp early least near
