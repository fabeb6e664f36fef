-- The versions that follow those of another line-up
use Rattle.std.proofs.Common.{◌≡◌, ℕ, zero, suc, ◌+◌, ◌%◌, ◌<◌, ◌-◌, Bool, true, false, List, [], ◌∷◌, slice_get, slice_index_or, Option, None, Some, All}
use Rattle.std.proofs.Common.{ap, ◌∙◌, arith, if◌then◌else◌}
use Rattle.std.proofs.lemmas.List.Elements.{All-head, All-tail}
use Rattle.description_parts.specs.Described.{Described, DescribedProgram}
use Rattle.description_parts.specs.Ranges.{IsInRange, IsProgram}
use Rattle.description.specs.SubTables.{numbered_sub_table, program_number_by, count_of, version_of}
use Rattle.description.specs.Versions.{without_versions, CountedLaw, CountLaw, SameTablesLaw}
use Rattle.description.specs.declared.sub_table.SubTable.{SubTable}
use Rattle.description.specs.declared.sub_table.SubTable.TheVariants.{Pat, Nit, Sdt, Map, Events}
use Rattle.changed_texts.specs.Versions.{with_counts}
use Rattle.changed_texts.proofs.Counts.{alike_counts, same_counts, range_counts, has_place, numbered_number, count_set}
use Rattle.changed_texts.proofs.VersionLaws.{shown, version_below, text_alike}
use Rattle.line_ups.specs.Versions.{sub_table_before, keeps_version, followed_count, follows, count_after, follow_versions}
use Rattle.line_ups.specs.Versions.{SameFollowedLaw, FollowedRangeLaw, FollowedTextLaw, FollowedVersionLaw}

-- Numbers are below 32.
number_below : (f : DescribedProgram → ℕ) (ps : List DescribedProgram) (i : ℕ) → ((p : DescribedProgram) → IsProgram p → f p < 32) → All IsProgram ps →
    program_number_by f (slice_get ps i) < 32
number_below f [] i low h = omega arith
number_below f (p ∷ ps) zero low h = low p (All-head IsProgram p ps h)
number_below f (p ∷ ps) (suc i) low h = number_below f ps i low (All-tail IsProgram p ps h)

count_below : (d : Described) (y : SubTable) → IsInRange d → count_of d y < 32
count_below d Pat r = r.versions.pat
count_below d Nit r = r.versions.nit
count_below d Sdt r = r.versions.sdt
count_below d (Map p) r = number_below (λ q. q.pmt_version) d.programs p (λ q is. is.pmt_version) r.programs
count_below d (Events p) r = number_below (λ q. q.eit_count) d.programs p (λ q is. is.eit_count) r.programs

one_more_below : (c : ℕ) (b : Bool) → c < 32 → (if b then c else (c + 1) % 32) < 32
one_more_below c true h = h
one_more_below c false h = omega arith

follows_below : (old : Described) (x : SubTable) (new : Described) (y : SubTable) (moment : ℕ) (sent : ℕ → Bool) → follows old x new y moment sent < 32
follows_below old x new y moment sent =
    one_more_below (followed_count old x new y moment) (keeps_version old x new y moment sent) (omega arith)

after_below : (old new : Described) (moment : ℕ) (sent : ℕ → Bool) (y : SubTable) (o : Option SubTable) → IsInRange new →
    elim o [ None ↦ count_of new y | Some x ↦ follows old x new y moment sent ] < 32
after_below old new moment sent y None r = count_below new y r
after_below old new moment sent y (Some x) r = follows_below old x new y moment sent

pub below_32 : (old new : Described) (moment : ℕ) (sent : ℕ → Bool) → IsInRange new → (i : ℕ) → count_after old new moment sent (numbered_sub_table i) < 32
below_32 old new moment sent r i =
    after_below old new moment sent (numbered_sub_table i) (sub_table_before old new (numbered_sub_table i)) r

-- The listed numbers make the description with the versions that follow.
pub counts_set : (old new e : Described) (moment : ℕ) (sent : ℕ → Bool) (counts : List ℕ)
    → ((i : ℕ) → i < 131 → slice_index_or counts i 0 ≡ count_after old new moment sent (numbered_sub_table i))
    → e ≡ with_counts new (λ n. slice_index_or counts n 0) → e ≡ follow_versions old new moment sent
counts_set old new e moment sent counts each set =
    set ∙ alike_counts (λ n. slice_index_or counts n 0) (λ n. count_after old new moment sent (numbered_sub_table n)) new each

-- Nothing else changes.
pub same_followed : CountedLaw → SameFollowedLaw
same_followed counted old new moment sent = same_counts counted (λ n. count_after old new moment sent (numbered_sub_table n)) new

pub range_followed : CountedLaw → FollowedRangeLaw
range_followed counted old new moment sent r =
    range_counts counted (λ n. count_after old new moment sent (numbered_sub_table n)) (below_32 old new moment sent r) new r

pub text_followed : CountedLaw → SameTablesLaw → FollowedTextLaw
text_followed counted tables frame old new moment sent text =
    let next = follow_versions old new moment sent in
    let same = same_followed counted old new moment sent in
    text_alike frame new next same (tables next new same) text

-- The version that a sub-table shows
no_other : (v c : ℕ) → v < 32 → c < 32 → c ≡ (v + c + 32 - v) % 32
no_other v c low few = omega (arith, low, few)

version_by : (old new next : Described) (moment : ℕ) (sent : ℕ → Bool) (y : SubTable) (o : Option SubTable) → IsInRange old → IsInRange new →
    without_versions next ≡ without_versions new → count_of next y ≡ (elim o [ None ↦ count_of new y | Some x ↦ follows old x new y moment sent ]) →
    version_of next y moment ≡ (elim o [
      | None ↦ version_of new y moment
      | Some x ↦ if keeps_version old x new y moment sent then version_of old x moment else (version_of old x moment + 1) % 32
    ])
version_by old new next moment sent y None r r' same is =
    shown new next y (version_of new y moment) moment true (version_below new y moment r') same
    (is ∙ no_other (version_of new y moment) (count_of new y) (version_below new y moment r') (count_below new y r'))
version_by old new next moment sent y (Some x) r r' same is =
    shown new next y (version_of old x moment) moment (keeps_version old x new y moment sent) (version_below old x moment r) same is

pub version_followed : CountedLaw → CountLaw → SameTablesLaw → FollowedVersionLaw
version_followed counted law tables old new t section y moment sent r r' within of =
    let place = has_place law new t section y r' within of in
    let count = λ (n : ℕ). count_after old new moment sent (numbered_sub_table n) in
    let set = count_set counted law tables count new t section y place within of in
    version_by old new (follow_versions old new moment sent) moment sent y (sub_table_before old new y) r r' (same_counts counted count new)
    (set ∙ ap (λ z. count_after old new moment sent z) (numbered_number y place))
