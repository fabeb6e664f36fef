-- The greatest number of a main buffer in a line `held` is its greatest fullness from the first payload byte of the window's packets on.
use Rattle.std.proofs.Common.{◌≡◌, ◌∙◌, sym, ℕ, ◌+◌, ◌-◌, ◌*◌, ◌<◌, is_some, max, Bool, true, false, List, [], ◌∷◌, ◌++◌, length, map, Option, Some, None}
use Rattle.std.proofs.Common.{if◌then◌else◌, refl, ap, subst, inl, inr, arith}
use Rattle.std.proofs.lemmas.Bool.{cases_lt}
use Rattle.std.proofs.lemmas.Bool.Decides.{eqb_tells}
use Rattle.tstd_rows.specs.Least.{least_found}
use Rattle.arrival.specs.Arrivals.{times_at}
use Rattle.arrival.specs.declared.arrival.Arrival.{Arrival}
use Rattle.tstd_rows.specs.Held.{Held, main_found, main_least_found}
use Rattle.tstd_rows.specs.Entering.{EnteredView, after, after_unit, ended_with, entered, lead_in, nothing, payload_main_least, payload_main_most}
use Rattle.tstd_rows.specs.Entering.{size_of, takes_in}
use Rattle.tstd_rows.specs.declared.arriving.Arriving.{Arriving}
use Rattle.tstd_rows.specs.History.{Part, left_after, main_fullness, row_least, until_of}
use Rattle.tstd_rows.specs.History.Part.{Passes, Carries, Begins}
use Rattle.tstd_rows.specs.Lows.{least_of, least_of_both}
use Rattle.tstd_rows.specs.declared.unit_seen.UnitSeen.{UnitSeen}
use Rattle.es_events.specs.Tallies.{tally_after}
use Rattle.es_events.specs.Tallies.{in_window, with_excesses, with_packet as with_tallied, with_unit_if}
use Rattle.es_events.specs.declared.tally.Tally.{Tally}
use Rattle.laws_view.specs.TimedStreams.{Entering, entered_by}
use Rattle.laws_view.specs.WindowLows.{HasPayload, counted_each, least_after}
use Rattle.laws_view.specs.WindowHighs.{HighWithoutLaw, IsHighWith, WholeHighLaw, WindowHighLaw, WindowMostLaw, most_after}
use Rattle.laws_view.proofs.MainHighs.{entries_of, is_high}
use Rattle.laws_view.proofs.WindowLows.{each_comes, in_that_window, is_nothing, least_some, none_has, nothing_comes, same_window, window_without_law}

-- Packets with a byte that enters

append_none : (es ds : List ℕ) → es ++ ds ≡ [] → (es ≡ []) × (ds ≡ [])
append_none [] ds none = (refl, none)
append_none (e ∷ es) ds none = let no : ⊥ = cc in absurd no

-- Parts without a payload byte that enters have no least.
none_least : (step : ℕ) (recent before : List Part) → entries_of step recent before ≡ [] → least_of step recent before ≡ None
unfolding entries_of least_of least_of_both least_found
none_least step [] before none = refl
none_least step (Passes ts ∷ recent) before none = none_least step recent before none
none_least step (Carries ts ∷ recent) before none =
    let p = recent ++ before in
    let both = append_none (entries_of step recent before) (left_after step p ts) none in
    ap (λ (o : Option ℕ). least_of_both o (row_least step p ts)) (none_least step recent before both.0)
    ∙ ap (λ (ds : List ℕ). least_found (main_fullness step p) (until_of p) 0 None ds) both.1
none_least step (Begins due ∷ recent) before none = none_least step recent before none

first_of : (ds : List ℕ) → (ds ≡ [] → ⊥) → (d : ℕ) × (es : List ℕ) × (ds ≡ d ∷ es)
first_of [] some = absurd (some refl)
first_of (d ∷ ds) some = (d, ds, refl)

pub window_high_law : WindowHighLaw
window_high_law h xs pos has =
    let come = each_comes h h None 0 xs (nothing_comes h) in
    let some : is_some (least_of h.rate come.recent h.parts) ≡ true = ap is_some come.found ∙ least_some None h xs has in
    let first = first_of (entries_of h.rate come.recent h.parts)
    (λ none. is_nothing (least_of h.rate come.recent h.parts) (none_least h.rate come.recent h.parts none) some) in
    let high = is_high h.rate first.0 first.1 come.recent h.parts pos first.2 in
    subst (λ (n : ℕ). IsHighWith h xs n) come.most_found (record { recent = come.recent; come = come.parts; high = high })

-- The counts of a window

unit_most : (t : Tally) (window : ℕ) (unit : Option UnitSeen) → t.window ≡ window →
    ((with_unit_if t window unit).window_main ≡ t.window_main) × ((with_unit_if t window unit).window ≡ window)
unfolding with_unit_if
unit_most t window None is = (refl, is)
unit_most t window (Some u) is = (ap (λ (k : Tally). k.window_main) (same_window t window is), ap (λ (k : Tally). k.window) (same_window t window is) ∙ is)

pub packet_most : (t : Tally) (window : ℕ) (unread : Bool) (v : EnteredView) →
    ((tally_after t window unread v).window_main ≡ max (in_window t window).window_main v.main_most) × ((tally_after t window unread v).window ≡ window)
packet_most t window unread v =
    unit_most (with_excesses (with_tallied t window v) (length v.transport) (length v.main) unread) window v.unit (in_that_window t window)

pub each_most : (t : Tally) (window : ℕ) (vs : List (Bool × EnteredView)) → t.window ≡ window →
    (counted_each t window vs).window_main ≡ most_after t.window_main (map (λ w. w.1) vs)
unfolding counted_each most_after
each_most t window [] is = refl
each_most t window (v ∷ vs) is =
    let one = packet_most t window v.0 v.1 in
    let same = ap (λ (k : Tally). max k.window_main v.1.main_most) (same_window t window is) in
    each_most (tally_after t window v.0 v.1) window vs one.1
    ∙ ap (λ (n : ℕ). most_after n (map (λ w. w.1) vs)) (one.0 ∙ same)

pub window_most_law : WindowMostLaw
unfolding counted_each most_after
window_most_law t window v vs none =
    let one = packet_most t window v.0 v.1 in
    each_most (tally_after t window v.0 v.1) window vs one.1
    ∙ ap (λ (n : ℕ). most_after n (map (λ w. w.1) vs)) (one.0 ∙ ap (λ (n : ℕ). max n v.1.main_most) none)

pub whole_high_law : WholeHighLaw
whole_high_law t window h xs [] pos none same has = absurd (none_has h xs same has)
whole_high_law t window h xs (v ∷ vs) pos none same has =
    let most = window_most_law t window v vs none ∙ ap (λ (l : List EnteredView). most_after 0 l) same in
    subst (λ (n : ℕ). IsHighWith h xs n) (sym most) (window_high_law h xs pos has)

-- Packets without a byte that enters

above : (n : ℕ) → (n ≡ 0 → ⊥) → 0 < n
above n not = elim (cases_lt 0 n) [
  | inl some ↦ some
  | inr few ↦ let none : n ≡ 0 = omega (arith, few) in absurd (not none)
]

payload_none : (h : Held) (enters : Bool) (size : ℕ) (times : List ℕ) → (enters ≡ true → 0 < size → ⊥) →
    (payload_main_most h enters size times ≡ 0) × (payload_main_least h enters size times ≡ None)
unfolding payload_main_most payload_main_least
payload_none h enters size times none = elim (eqb_tells size 0) [
  | inl nought ↦ rw nought.0 (refl, refl)
  | inr other ↦ rw other.0 (goes (above size other.1) enters refl)
]
  where
    goes : 0 < size → (b : Bool) → enters ≡ b →
        ((let n : ℕ = if b then main_found h times else 0 in n) ≡ 0) × ((let o : Option ℕ = if b then main_least_found h times else None in o) ≡ None)
    goes some true is = absurd (none is some)
    goes some false is = (refl, refl)

entered_none : (h : Held) (arrival : Arrival) (p : Arriving) → ((takes_in h arrival p ≡ true) × (p.enters ≡ true) × (0 < size_of p) → ⊥) →
    ((entered h arrival p).main_most ≡ 0) × ((entered h arrival p).main_least ≡ None)
unfolding entered
entered_none h arrival p none = by (takes_in h arrival p) refl
  where
    by : (b : Bool) → takes_in h arrival p ≡ b →
        ((if b then ended_with h arrival p (size_of p) (lead_in arrival p) else nothing).main_most ≡ 0)
        × ((if b then ended_with h arrival p (size_of p) (lead_in arrival p) else nothing).main_least ≡ None)
    by true takes =
        let c : Held = after_unit h arrival p (size_of p) (lead_in arrival p) in
        payload_none c p.enters (size_of p) (times_at arrival c.rx (188 * p.index + (188 - size_of p)) (size_of p)) (λ enters some. none (takes, enters, some))
    by false takes = (refl, refl)

pub after_none : (h : Held) (xs : List Entering) → (HasPayload h xs → ⊥) →
    (most_after 0 (entered_by h xs) ≡ 0) × (least_after None (entered_by h xs) ≡ None)
unfolding entered_by most_after least_after least_of_both HasPayload
after_none h [] none = (refl, refl)
after_none h (x ∷ xs) none =
    let now = entered_none h x.arrival x.packet (λ has. none (inl has)) in
    let most : max 0 (entered h x.arrival x.packet).main_most ≡ 0 = omega (arith, now.0) in
    let later = after_none (after h x.arrival x.packet) xs (λ has. none (inr has)) in
    let vs : List EnteredView = entered_by (after h x.arrival x.packet) xs in
    (ap (λ (n : ℕ). most_after n vs) most ∙ later.0, ap (λ (o : Option ℕ). least_after o vs) now.1 ∙ later.1)

pub high_without_law : HighWithoutLaw
high_without_law t window h xs v vs zero_before none_before same none =
    let both = after_none h xs none in (
      window_most_law t window v vs zero_before ∙ ap (λ (l : List EnteredView). most_after 0 l) same ∙ both.0,
      window_without_law t window h xs v vs none_before same both.1,
    )
