-- Which packets a change of texts leaves as they are.
use Rattle.std.proofs.Common.{◌≡◌, ◌⊎◌, ℕ, zero, suc, ◌+◌, ◌<◌, ◌≤◌, Bool, false, cond, List, ◌∷◌, length, get_or, Option, Some, None, slice_get, option_map, refl, ap}
use Rattle.std.proofs.Common.{sym, subst, ◌∙◌, arith, inl, inr}
use Rattle.std.proofs.lemmas.Bool.{cases_Bool, cases_eq, cases_lt, le-leb, lt-ltb, le-ltb}
use Rattle.std.proofs.lemmas.Option.{slice_get_within}
use Rattle.pes_packet.specs.AccessUnits.{AccessUnit}
use Rattle.ts_packet.specs.PidList.{Entry, is_of_pid, pid_list}
use Rattle.slot_contents.specs.Contents.{Content, Piece, view_of, run_bytes, entry_at, entries_in}
use Rattle.slot_contents.specs.RunLaws.{Fits}
use Rattle.slot_contents.proofs.Runs.{run_pid_list}
use Rattle.description_parts.specs.Described.{Described}
use Rattle.description_parts.specs.Ranges.{IsInRange}
use Rattle.description_parts.specs.Tables.{table_kinds, table_kind, table_pid, section_count, section_lengths, section_packets}
use Rattle.description_parts.specs.declared.table_kind.TableKind.{TableKind}
use Rattle.description.specs.SectionBytes.{table_bytes}
use Rattle.description.proofs.SectionBounds.{table_bytes_fit}
use Rattle.slot_plan.specs.declared.slot.Slot.{Slot}
use Rattle.slot_plan.specs.declared.slot.Slot.TheVariants.{Stream, Pcr, Table, Null}
use Rattle.slot_plan.specs.Schedule.{slot_of}
use Rattle.slot_plan.specs.SlotPids.{slot_pid}
use Rattle.table_rounds.specs.Parts.{places_of, part_of, part_content}
use Rattle.table_rounds.specs.Tables.{place_at, begin_before, moment_before, not_yet, bytes_at, part_at, one_if_some, payloads_before}
use Rattle.mux_core.specs.Scheduled.{Scheduled}
use Rattle.mux_core.specs.Histories.{Past, TextsSoFar, FirstTexts, NextTexts, unchanged, past_of, from_of, by_past, first_texts, text_at, bytes_over}
use Rattle.mux_core.specs.Histories.{table_of, table_over, table_in, content_in, content_at, content_over}
use Rattle.mux_core.specs.TextChanges.{FirstFit, ChangesFit}
use Rattle.mux_core.specs.Headline.{UnitsKept}
use Rattle.mux_core.specs.TextLaws.{IsOfNoTable, OthersUntouchedLaw, SameTableLaw, WholeSectionsLaw}
use Rattle.mux_core.proofs.ContentPids.{names_over, silent}
use Rattle.mux_core.proofs.TablesRead.{there}
use Rattle.mux_core.proofs.TextChanges.{text_before}
use Rattle.mux_core.proofs.Whole.{contents_fit_over}

-- Two slots have the same packet on a PID, or none.
abbrev pub SameOn : ℕ → Content → Content → Type 0
SameOn pid a b = (a ≡ b) ⊎ ((is_of_pid pid (view_of a) ≡ false) × (is_of_pid pid (view_of b) ≡ false))

one_same : (pid s : ℕ) (a b : Content) (rest : List Entry) → SameOn pid a b →
    cond (is_of_pid pid (view_of a)) (entry_at s a ∷ rest) rest ≡ cond (is_of_pid pid (view_of b)) (entry_at s b ∷ rest) rest
one_same pid s a b rest (inl same) = ap (λ (c : Content). cond (is_of_pid pid (view_of c)) (entry_at s c ∷ rest) rest) same
one_same pid s a b rest (inr none) =
    ap (λ (x : Bool). cond x (entry_at s a ∷ rest) rest) none.0 ∙ sym (ap (λ (x : Bool). cond x (entry_at s b ∷ rest) rest) none.1)

same_entries : (pid : ℕ) (f g : ℕ → Content) (s n : ℕ) → ((t : ℕ) → t < s + n → SameOn pid (f t) (g t)) → entries_in pid f s n ≡ entries_in pid g s n
unfolding entries_in
same_entries pid f g s zero same = refl
same_entries pid f g s (suc n) same =
    ap (λ (rest : List Entry). cond (is_of_pid pid (view_of (f s))) (entry_at s (f s) ∷ rest) rest)
    (same_entries pid f g (suc s) n (λ t lt. same t (omega (arith, lt))))
    ∙ one_same pid s (f s) (g s) (entries_in pid g (suc s) n) (same s (omega arith))

pub same_lists : (slots pid : ℕ) (f g : ℕ → Content) → Fits f → Fits g → ((s : ℕ) → s < slots → SameOn pid (f s) (g s)) →
    pid_list pid (run_bytes f 0 slots) ≡ pid_list pid (run_bytes g 0 slots)
same_lists slots pid f g fits others same =
    run_pid_list pid slots f fits ∙ same_entries pid f g 0 slots (λ t lt. same t (omega (arith, lt))) ∙ sym (run_pid_list pid slots g others)

same_over : (d : Scheduled) (changes : TextsSoFar) (units : ℕ → List AccessUnit) (slots pid : ℕ) → IsInRange d.description →
    UnitsKept d units → ((t : ℕ) → SameOn pid (content_over d changes units t) (content_at d units t)) →
    pid_list pid (run_bytes (content_over d changes units) 0 slots) ≡ pid_list pid (run_bytes (content_at d units) 0 slots)
same_over d changes units slots pid r kept same =
    same_lists slots pid (content_over d changes units) (content_at d units) (contents_fit_over d changes units r kept)
    (contents_fit_over d unchanged units r kept) (λ t lt. same t)

-- A PID of no table

not_named : (d : Scheduled) (t pid : ℕ) (o : Option TableKind) → table_kind d.description t ≡ o → IsOfNoTable d.description pid →
    option_map (λ k. table_pid d.description t) o ≡ Some pid → ⊥
not_named d t pid None is none e = absurd (cc)
not_named d t pid (Some kind) is none e =
    let same : table_pid d.description t ≡ pid = cc in none t (slice_get_within (table_kinds d.description) t kind is) same

table_silent : (d : Scheduled) (changes : TextsSoFar) (units : ℕ → List AccessUnit) (s t pid : ℕ) → slot_of d.schedule s ≡ Table t → pid < 8191 →
    IsOfNoTable d.description pid → is_of_pid pid (view_of (content_over d changes units s)) ≡ false
unfolding slot_pid
table_silent d changes units s t pid is below none = elim (cases_Bool (is_of_pid pid (view_of (content_over d changes units s)))) [
  | inl y ↦ absurd (not_named d t pid (table_kind d.description t) refl none
      (sym (ap (slot_pid d.description) is) ∙ names_over d changes units s pid below y))
  | inr n ↦ n
]

slot_same : (d : Scheduled) (changes : TextsSoFar) (units : ℕ → List AccessUnit) (s pid : ℕ) (slot : Slot) → slot_of d.schedule s ≡ slot → pid < 8191 →
    IsOfNoTable d.description pid → SameOn pid (content_over d changes units s) (content_at d units s)
unfolding content_over content_in
slot_same d changes units s pid (Stream k) is below none = inl (ap (content_in d changes units s) is ∙ sym (ap (content_in d unchanged units s) is))
slot_same d changes units s pid (Pcr p) is below none = inl (ap (content_in d changes units s) is ∙ sym (ap (content_in d unchanged units s) is))
slot_same d changes units s pid (Table t) is below none =
    inr (table_silent d changes units s t pid is below none, table_silent d unchanged units s t pid is below none)
slot_same d changes units s pid Null is below none = inl (ap (content_in d changes units s) is ∙ sym (ap (content_in d unchanged units s) is))

pub others_untouched : OthersUntouchedLaw
others_untouched d changes units slots pid r kept below none =
    same_over d changes units slots pid r kept (λ s. slot_same d changes units s pid (slot_of d.schedule s) refl below none)

-- A table with the same sections

pub record SameSections (d : Scheduled) (changes : TextsSoFar) (t : ℕ) : Type 0 where
  pub first : from_of (past_of changes) t ≡ None
  pub same : (b s j : ℕ) → bytes_over d.description changes t b j (moment_before (table_over d changes t) s)
      ≡ table_bytes d.description t j (moment_before (table_of d t) s)

part_same : (d : Scheduled) (changes : TextsSoFar) (t s : ℕ) → SameSections d changes t → part_at (table_over d changes t) s ≡ part_at (table_of d t) s
part_same d changes t s same =
    ap (λ (from : Option ℕ). cond (not_yet from (begin_before (table_over d changes t) (suc s))) None
    (part_of (bytes_at (table_over d changes t) s) (place_at (table_of d t) s).part)) same.first
    ∙ ap (λ (l : List ℕ). part_of l (place_at (table_of d t) s).part)
    (same.same (begin_before (table_over d changes t) (suc s)) (suc s) (place_at (table_of d t) s).section)

payloads_same : (d : Scheduled) (changes : TextsSoFar) (t s : ℕ) → SameSections d changes t →
    payloads_before (table_over d changes t) s ≡ payloads_before (table_of d t) s
unfolding payloads_before
payloads_same d changes t zero same = refl
payloads_same d changes t (suc s) same =
    ap (λ (n : ℕ). n + cond ((table_of d t).own s) (one_if_some (part_at (table_over d changes t) s)) 0) (payloads_same d changes t s same)
    ∙ ap (λ (o : Option Piece). payloads_before (table_of d t) s + cond ((table_of d t).own s) (one_if_some o) 0) (part_same d changes t s same)

table_slot_same : (d : Scheduled) (changes : TextsSoFar) (s t : ℕ) (o : Option TableKind) → SameSections d changes t →
    table_in d changes s t o ≡ table_in d unchanged s t o
unfolding table_in
table_slot_same d changes s t None same = refl
table_slot_same d changes s t (Some kind) same =
    ap (λ (n : ℕ). part_content (table_of d t).pid n (part_at (table_over d changes t) s)) (payloads_same d changes t s same)
    ∙ ap (λ (o : Option Piece). part_content (table_of d t).pid (payloads_before (table_of d t) s) o) (part_same d changes t s same)

own_same : (d : Scheduled) (changes : TextsSoFar) (units : ℕ → List AccessUnit) (s t : ℕ) → slot_of d.schedule s ≡ Table t →
    SameSections d changes t → content_over d changes units s ≡ content_at d units s
unfolding content_over content_in
own_same d changes units s t is same =
    ap (content_in d changes units s) is ∙ table_slot_same d changes s t (slice_get (table_kinds d.description) t) same
    ∙ sym (ap (content_in d unchanged units s) is)

named : (d : Scheduled) (t : ℕ) (kind : TableKind) → table_kind d.description t ≡ Some kind →
    slot_pid d.description (Table t) ≡ Some (table_pid d.description t)
unfolding slot_pid
named d t kind is = rw is refl

is_table : (t : ℕ) (slot : Slot) → (slot ≡ Table t) ⊎ (slot ≡ Table t → ⊥)
is_table t (Stream k) = inr (λ e. absurd (cc))
is_table t (Pcr p) = inr (λ e. absurd (cc))
is_table t (Table u) = elim (cases_eq u t) [ inl e ↦ inl (ap Table e) | inr ne ↦ inr (λ e. let same : u ≡ t = cc in ne same) ]
is_table t Null = inr (λ e. absurd (cc))

pub same_table : SameTableLaw
same_table d changes units slots t r kept lt first same =
    let k = there (table_kinds d.description) t lt in
    let name = named d t k.0 k.1 in
    same_over d changes units slots (table_pid d.description t) r kept (λ s. elim (is_table t (slot_of d.schedule s)) [
      | inl is ↦ inl (own_same d changes units s t is (record { first = first; same = same }))
      | inr other ↦ inr (
        silent d changes units s (table_pid d.description t) (Table t) r name other,
        silent d unchanged units s (table_pid d.description t) (Table t) r name other,
      )
    ])

-- The places of a section

shorter : (l most : ℕ) → l ≤ most → places_of l ≤ places_of most
shorter l most le = omega (arith, le)

fits_by : (d e : Described) (t j moment : ℕ) → IsInRange e → j < section_count e t → section_packets e t j ≤ section_packets d t j →
    places_of (length (table_bytes e t j moment)) ≤ places_of (get_or (section_lengths d t) j 0)
fits_by d e t j moment r lt fewer =
    let fit : places_of (length (table_bytes e t j moment)) ≤ section_packets e t j =
    shorter (length (table_bytes e t j moment)) (get_or (section_lengths e t) j 0) (table_bytes_fit e t j moment r lt) in
    omega (arith, fit, fewer)

abbrev IsWhole : Described → ℕ → ℕ → List ℕ → Type 0
IsWhole d t j bytes = places_of (length bytes) ≤ places_of (get_or (section_lengths d t) j 0)

first_whole : (d : Described) (slot t j moment : ℕ) (past : Option Past) → IsInRange d → FirstFit d slot past → j < section_count d t →
    IsWhole d t j (table_bytes (first_texts past d) t j moment)
first_whole d slot t j moment None r fit lt = fits_by d d t j moment r lt (omega arith)
first_whole d slot t j moment (Some past) r fit lt =
    let count : section_count (past.texts d) t ≡ section_count d t = fit.texts.counts t in
    fits_by d (past.texts d) t j moment fit.ranges (omega (arith, lt, count)) (fit.texts.packets t j)

whole_texts : (d : Described) (changes : TextsSoFar) (slots t j s moment : ℕ) → IsInRange d → ChangesFit d slots changes → j < section_count d t →
    IsWhole d t j (table_bytes (text_at d changes s) t j moment)
whole_texts d (FirstTexts past) slots t j s moment r fit lt = first_whole d slots t j moment past r fit lt
whole_texts d (NextTexts change earlier) slots t j s moment r fit lt = elim (cases_lt s change.from) [
  | inl before ↦ subst (λ (e : Described). IsWhole d t j (table_bytes e t j moment)) (sym (text_before d change earlier s before))
      (whole_texts d earlier change.from t j s moment r fit.1 lt)
  | inr on ↦ subst (λ (e : Described). IsWhole d t j (table_bytes e t j moment))
      (sym (ap (λ (b : Bool). cond b change.texts (text_at d earlier s)) (le-leb change.from s on)))
      (let count : section_count change.texts t ≡ section_count d t = fit.0.texts.counts t in
      fits_by d change.texts t j moment fit.0.ranges (omega (arith, lt, count)) (fit.0.texts.packets t j))
]

past_whole : (d : Described) (slot t s j moment : ℕ) (past : Option Past) (now : List ℕ) → FirstFit d slot past → j < section_count d t →
    IsWhole d t j now → IsWhole d t j (by_past past s (λ p. p.bytes t s j moment) now)
past_whole d slot t s j moment None now fit lt whole = whole
past_whole d slot t s j moment (Some past) now fit lt whole = elim (cases_lt s past.until) [
  | inl before ↦ subst (λ (b : Bool). IsWhole d t j (cond b (past.bytes t s j moment) now)) (sym (lt-ltb s past.until before))
      (fit.places t s j moment before lt)
  | inr on ↦ subst (λ (b : Bool). IsWhole d t j (cond b (past.bytes t s j moment) now)) (sym (le-ltb s past.until on)) whole
]

past_fit : (d : Described) (slot : ℕ) (changes : TextsSoFar) → ChangesFit d slot changes → (first : ℕ) × FirstFit d first (past_of changes)
past_fit d slot (FirstTexts past) fit = (slot, fit)
past_fit d slot (NextTexts change earlier) fit = past_fit d change.from earlier fit.1

pub whole_sections : WholeSectionsLaw
whole_sections d changes slots t j s moment r fit lt =
    let first = past_fit d.description slots changes fit in
    past_whole d.description first.0 t s j moment (past_of changes) (table_bytes (text_at d.description changes s) t j moment) first.1 lt
    (whole_texts d.description changes slots t j s moment r fit lt)
