-- Findings and references one after another
use Rattle.std.proofs.Common.{◌≡◌, ◌≤◌, ◌<◌, ℕ, ◌+◌, ◌++◌, nat_eq, List, [], ◌∷◌, length, map, drop, get_or, refl, sym, ap, ◌∙◌}
use Rattle.std.specs.Map.{lookup}
use Rattle.std.proofs.lemmas.Bool.{le-leb, lt-leb}
use Rattle.std.proofs.lemmas.List.{append_assoc, append-nil, drop_all, drop_more}
use Rattle.pid_findings.specs.Views.{FindingView}
use Rattle.packet_pcr.specs.declared.pcr_reading.FoundPcr.{FoundPcr}
use Rattle.stamp_repair.specs.DataTimes.{Clocks, LineView, SeenStamps, TimesView, data_pts, first_shown, moment_on, passed, passed_by, seen_after, seen_by}
use Rattle.stamp_repair.specs.DataTimes.{shown_if, timed_finding, timed_from, with_shown}

-- 1. Stamps that are seen

seen_more : (seen next : SeenStamps) (f : FindingView) (fs : List FindingView) → next ≡ seen_by seen f.pid (data_pts f.what) →
    seen_after seen (f ∷ fs) ≡ seen_after next fs
unfolding seen_after
seen_more seen next f fs made = rw made refl

seen_none : (seen : SeenStamps) → seen_after seen [] ≡ seen
unfolding seen_after
seen_none seen = refl

pub seen_next : {X : Type 0} (view : X → FindingView) (seen next : SeenStamps) (xs : List X) (i : ℕ) (x : X) → i < length xs → x ≡ get_or xs i x →
    next ≡ seen_by seen (view x).pid (data_pts (view x).what) → seen_after seen (map view (drop i xs)) ≡ seen_after next (map view (drop (i + 1) xs))
seen_next {X = X} view seen next xs i x within at made =
    let left : drop i xs ≡ x ∷ drop (i + 1) xs = drop_more xs i x within ∙ ap (λ (z : X). z ∷ drop (i + 1) xs) (sym at) in
    ap (λ (l : List X). seen_after seen (map view l)) left ∙ seen_more seen next (view x) (map view (drop (i + 1) xs)) made

pub seen_all : {X : Type 0} (view : X → FindingView) (seen whole : SeenStamps) (xs : List X) (i : ℕ) → length xs ≤ i →
    whole ≡ seen_after seen (map view (drop i xs)) →
    seen ≡ whole
seen_all {X = X} view seen whole xs i all is =
    sym (is ∙ ap (λ (l : List X). seen_after seen (map view l)) (drop_all i xs all) ∙ seen_none seen)

-- 2. Clocks

pub shown_more : (clocks next : Clocks) (r : FoundPcr) (rs all : List FoundPcr) → all ≡ r ∷ rs →
    next ≡ shown_if (lookup (nat_eq r.pid) clocks) clocks r → first_shown clocks all ≡ first_shown next rs
unfolding first_shown
shown_more clocks next r rs all first made = rw (first, made) refl

pub shown_end : (clocks : Clocks) (rs : List FoundPcr) → length rs ≡ 0 → first_shown clocks rs ≡ clocks
unfolding first_shown
shown_end clocks [] none = refl
shown_end clocks (r ∷ rs) none = absurd cc

pub pass_more : (packet : ℕ) (clocks next : Clocks) (r : FoundPcr) (rs all : List FoundPcr) → all ≡ r ∷ rs → r.packet ≤ packet →
    next ≡ with_shown clocks r →
    passed_by packet clocks all ≡ passed_by packet next rs
unfolding passed_by
pass_more packet clocks next r rs all first before made = rw (first, le-leb r.packet packet before, made) refl

pub pass_stop : (packet : ℕ) (clocks : Clocks) (r : FoundPcr) (rs all : List FoundPcr) → all ≡ r ∷ rs → packet < r.packet →
    passed_by packet clocks all ≡ record { clocks = clocks; later = all }
unfolding passed_by
pass_stop packet clocks r rs all first after = rw (first, lt-leb r.packet packet after) refl

pub pass_end : (packet : ℕ) (clocks : Clocks) (rs : List FoundPcr) → length rs ≡ 0 → passed_by packet clocks rs ≡ record { clocks = clocks; later = rs }
unfolding passed_by
pass_end packet clocks [] none = refl
pass_end packet clocks (r ∷ rs) none = absurd cc

-- 3. Findings at their moments

pub timed_more : (t : TimesView) (line next : LineView) (f g : FindingView) (fs all out more : List FindingView) → all ≡ f ∷ fs →
    next ≡ passed f.packet line → g ≡ timed_finding (moment_on t next.clocks f.pid) f → more ≡ out ++ g ∷ [] →
    out ++ timed_from t line all ≡ more ++ timed_from t next fs
unfolding timed_from
timed_more t line next f g fs all out more first went made grown =
    rw (first, grown, made, went)
    (sym (append_assoc out (timed_finding (moment_on t (passed f.packet line).clocks f.pid) f ∷ []) (timed_from t (passed f.packet line) fs)))

pub timed_end : (t : TimesView) (line : LineView) (fs out whole : List FindingView) → fs ≡ [] → whole ≡ out ++ timed_from t line fs → out ≡ whole
unfolding timed_from
timed_end t line fs out whole none is = sym (is ∙ ap (λ (l : List FindingView). out ++ timed_from t line l) none ∙ append-nil out)
