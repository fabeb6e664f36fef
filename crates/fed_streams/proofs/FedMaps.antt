-- The map whose version a finding has
use Rattle.std.proofs.Common.{◌≡◌, ◌∙◌, ◌<◌, ◌≤◌, ℕ, ◌+◌, Bool, if◌then◌else◌, true, false, Option, Some, None, List, length, drop, get_or, slice_get}
use Rattle.std.proofs.Common.{slice_set, refl, sym, ap, add-one, inl, inr, ◌⊎◌, arith}
use Rattle.std.specs.Prelude.{is_some}
use Rattle.std.proofs.Math.Seq.{drop-cons}
use Rattle.std.proofs.lemmas.List.{drop_all}
use Rattle.std.proofs.lemmas.Option.{slice_get_cases}
use Rattle.pid_findings.specs.Views.{FindingView}
use Rattle.fed_streams.specs.declared.feed_fault.NewMap.{NewMap}
use Rattle.psi_tables.specs.ProgramMap.{StreamView}
use Rattle.fed_streams.specs.declared.fed_map.NamedStream.{NamedStream}
use Rattle.fed_streams.specs.Maps.{MapView}
use Rattle.fed_streams.specs.Maps.{change_of, change_place, map_change, map_from, map_with, maps_after, new_map, set_at, set_place, current_found, first_other}
use Rattle.fed_streams.specs.Maps.{is_named}

map_step : (f : FindingView) (k : ℕ) (ms : List MapView) (other : MapView) → k < length ms →
    map_from f k (drop k ms) ≡ (if is_some (current_found (get_or ms k other).program_number f) then Some k else map_from f (k + 1) (drop (k + 1) ms))
unfolding map_from
map_step f k ms other below = rw (drop-cons ms k other below, add-one k) refl

pub map_at : (other : MapView) (f : FindingView) (k : ℕ) (ms : List MapView) (has own : Bool) → k < length ms →
    has ≡ is_some (current_found (get_or ms k other).program_number f) → has ≡ own →
    map_from f k (drop k ms) ≡ (if own then Some k else map_from f (k + 1) (drop (k + 1) ms))
map_at other f k ms has own below is so =
    map_step f k ms other below ∙ ap (λ (b : Bool). if b then Some k else map_from f (k + 1) (drop (k + 1) ms)) (sym is ∙ so)

pub map_end : (f : FindingView) (k : ℕ) (ms : List MapView) → length ms ≤ k → map_from f k (drop k ms) ≡ None
unfolding map_from
map_end f k ms over = rw (drop_all k ms over) refl

there : (ms : List MapView) (k : ℕ) → k < length ms →
    ((x : MapView) × (k < length ms) × (slice_get ms k ≡ Some x) × (get_or ms k x ≡ x)) ⊎ ((length ms ≤ k) × (slice_get ms k ≡ None)) →
    (m : MapView) × (slice_get ms k ≡ Some m)
there ms k below (inl one) = (one.0, one.2)
there ms k below (inr none) = absurd (let no : ⊥ = omega (arith, below, none.0) in no)

pub no_map_after : (f : FindingView) (ms : List MapView) → None ≡ map_from f 0 ms → ms ≡ maps_after f ms
unfolding set_place
no_map_after f ms none = rw (sym none) refl

pub no_map_new : (f : FindingView) (ms : List MapView) → None ≡ map_from f 0 ms → None ≡ new_map f ms
unfolding change_place
no_map_new f ms none = rw (sym none) refl

after_is : (f : FindingView) (ms : List MapView) (k : ℕ) (m : MapView) → Some k ≡ map_from f 0 ms → slice_get ms k ≡ Some m →
    maps_after f ms ≡ slice_set ms k (map_with m (current_found m.program_number f))
unfolding set_place set_at
after_is f ms k m at is = rw (sym at) (rw is refl)

new_is : (f : FindingView) (ms : List MapView) (k : ℕ) (m : MapView) → Some k ≡ map_from f 0 ms → slice_get ms k ≡ Some m →
    new_map f ms ≡ map_change m f.packet (current_found m.program_number f)
unfolding change_place change_of
new_is f ms k m at is = rw (sym at) (rw is refl)

pub map_after : (f : FindingView) (ms next : List MapView) (k : ℕ) → Some k ≡ map_from f 0 ms → k < length ms →
    ((m : MapView) → slice_get ms k ≡ Some m → next ≡ slice_set ms k (map_with m (current_found m.program_number f))) → next ≡ maps_after f ms
map_after f ms next k at below sets =
    let m = there ms k below (slice_get_cases ms k).1 in
    sets m.0 m.1 ∙ sym (after_is f ms k m.0 at m.1)

pub map_new : (f : FindingView) (ms : List MapView) (k : ℕ) (change : Option NewMap) → Some k ≡ map_from f 0 ms → k < length ms →
    ((m : MapView) → slice_get ms k ≡ Some m → change ≡ map_change m f.packet (current_found m.program_number f)) → change ≡ new_map f ms
map_new f ms k change at below gives =
    let m = there ms k below (slice_get_cases ms k).1 in
    gives m.0 m.1 ∙ sym (new_is f ms k m.0 at m.1)

-- The streams of a description, one after another

other_step : (streams : List StreamView) (i : ℕ) (ns : List NamedStream) (d : NamedStream) → i < length ns →
    first_other streams (drop i ns) ≡ (if is_named streams (get_or ns i d) then first_other streams (drop (i + 1) ns) else Some (get_or ns i d))
unfolding first_other
other_step streams i ns d below = rw (drop-cons ns i d below, add-one i) refl

pub other_here : (d : NamedStream) (streams : List StreamView) (i : ℕ) (ns : List NamedStream) → i < length ns → is_named streams (get_or ns i d) ≡ false →
    first_other streams (drop i ns) ≡ Some (get_or ns i d)
other_here d streams i ns below other =
    other_step streams i ns d below ∙ ap (λ (b : Bool). if b then first_other streams (drop (i + 1) ns) else Some (get_or ns i d)) other

pub other_later : (d : NamedStream) (streams : List StreamView) (i : ℕ) (ns : List NamedStream) → i < length ns → is_named streams (get_or ns i d) ≡ true →
    first_other streams (drop i ns) ≡ first_other streams (drop (i + 1) ns)
other_later d streams i ns below is =
    other_step streams i ns d below ∙ ap (λ (b : Bool). if b then first_other streams (drop (i + 1) ns) else Some (get_or ns i d)) is

pub other_end : (streams : List StreamView) (i : ℕ) (ns : List NamedStream) → length ns ≤ i → first_other streams (drop i ns) ≡ None
unfolding first_other
other_end streams i ns over = rw (drop_all i ns over) refl
