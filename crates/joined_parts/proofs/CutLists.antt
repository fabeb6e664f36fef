-- References, cuts and findings, one after another
use Rattle.std.proofs.Common.{◌≡◌, ◌≤◌, ◌<◌, ℕ, ◌+◌, ◌++◌, nat_eq, List, [], ◌∷◌, length, map, drop, get_or, refl, sym, ap, ◌∙◌}
use Rattle.std.specs.Map.{lookup}
use Rattle.std.proofs.lemmas.List.{drop_all, drop_more}
use Rattle.pid_findings.specs.Views.{FindingView}
use Rattle.stream_programs.specs.Programs.{FoundProgramsView}
use Rattle.packet_pcr.specs.declared.pcr_reading.FoundPcr.{FoundPcr}
use Rattle.joined_parts.specs.Cuts.{LastReferences, cut_between, cuts_after, with_cut, with_last}
use Rattle.joined_parts.specs.Joins.{join_of, joins_after}
use Rattle.joined_parts.specs.UnitStamps.{stamp_of, stamps_after, with_stamp}
use Rattle.joined_parts.specs.declared.cuts.Cut.{Cut}
use Rattle.joined_parts.specs.declared.joins.Join.{Join}
use Rattle.joined_parts.specs.declared.stamps.UnitStamp.{UnitStamp}

-- 1. Cuts

pub cut_more : (last next : LastReferences) (cuts more : List Cut) (r : FoundPcr) (rs all : List FoundPcr) → all ≡ r ∷ rs →
    next ≡ with_last last r → more ≡ with_cut cuts (cut_between (lookup (nat_eq r.pid) last) r) → cuts_after last cuts all ≡ cuts_after next more rs
unfolding cuts_after
cut_more last next cuts more r rs all first went made = rw (first, went, made) refl

pub cut_end : (last : LastReferences) (cuts : List Cut) (rs : List FoundPcr) → length rs ≡ 0 → cuts_after last cuts rs ≡ cuts
unfolding cuts_after
cut_end last cuts [] none = refl
cut_end last cuts (r ∷ rs) none = absurd cc

-- 2. Joins

pub join_more : (stamps : List UnitStamp) (joins more : List Join) (c : Cut) (cs all : List Cut) → all ≡ c ∷ cs →
    more ≡ joins ++ join_of stamps joins c cs ∷ [] →
    joins_after stamps joins all ≡ joins_after stamps more cs
unfolding joins_after
join_more stamps joins more c cs all first made = rw (first, made) refl

pub join_end : (stamps : List UnitStamp) (joins : List Join) (cs : List Cut) → length cs ≡ 0 → joins_after stamps joins cs ≡ joins
unfolding joins_after
join_end stamps joins [] none = refl
join_end stamps joins (c ∷ cs) none = absurd cc

-- 3. Stamps

stamp_more : (found : FoundProgramsView) (stamps next : List UnitStamp) (f : FindingView) (fs : List FindingView) →
    next ≡ with_stamp stamps (stamp_of found f) →
    stamps_after found stamps (f ∷ fs) ≡ stamps_after found next fs
unfolding stamps_after
stamp_more found stamps next f fs made = rw made refl

stamp_none : (found : FoundProgramsView) (stamps : List UnitStamp) → stamps_after found stamps [] ≡ stamps
unfolding stamps_after
stamp_none found stamps = refl

pub stamp_next : {X : Type 0} (view : X → FindingView) (found : FoundProgramsView) (stamps next : List UnitStamp) (xs : List X) (i : ℕ) (x : X) →
    i < length xs → x ≡ get_or xs i x → next ≡ with_stamp stamps (stamp_of found (view x)) →
    stamps_after found stamps (map view (drop i xs)) ≡ stamps_after found next (map view (drop (i + 1) xs))
stamp_next {X = X} view found stamps next xs i x within at made =
    let left : drop i xs ≡ x ∷ drop (i + 1) xs = drop_more xs i x within ∙ ap (λ (z : X). z ∷ drop (i + 1) xs) (sym at) in
    ap (λ (l : List X). stamps_after found stamps (map view l)) left ∙ stamp_more found stamps next (view x) (map view (drop (i + 1) xs)) made

pub stamp_all : {X : Type 0} (view : X → FindingView) (found : FoundProgramsView) (stamps whole : List UnitStamp) (xs : List X) (i : ℕ) → length xs ≤ i →
    whole ≡ stamps_after found stamps (map view (drop i xs)) → stamps ≡ whole
stamp_all {X = X} view found stamps whole xs i all is =
    sym (is ∙ ap (λ (l : List X). stamps_after found stamps (map view l)) (drop_all i xs all) ∙ stamp_none found stamps)
