-- Each section of a table is whole; if no ready-made section of the table is mistaken, each is distinguishable from PES packets and stuffing.
use Rattle.std.proofs.Common.{◌≡◌, ℕ, suc, ◌+◌, ◌<◌, ◌≤◌, ◌==◌, ◌&&◌, ◌||◌, Bool, true, false, List, [], ◌∷◌, length, map, get_or, slice_get, Option, None}
use Rattle.std.proofs.Common.{Some, Result, Ok, Err, refl, sym, ap, subst, ◌∙◌, arith, All, inl, inr, eqb-true}
use Rattle.std.specs.Option.{option_to_list}
use Rattle.std.proofs.lemmas.Bool.{cases_Bool, false≢true}
use Rattle.std.proofs.lemmas.List.{length-map}
use Rattle.std.proofs.lemmas.List.Elements.{All-nil, All-cons, All-append, All-get_or}
use Rattle.std.proofs.lemmas.List.Concat.{flat_map-cons}
use Rattle.std.specs.List.{flat_map}
use Rattle.psi_tables.specs.Views.{SectionView}
use Rattle.psi_tables.specs.Reading.{section_at}
use Rattle.psi_tables.specs.declared.error.SectionError.{SectionError}
use Rattle.description_parts.specs.Described.{Described, DescribedTable}
use Rattle.description_parts.specs.Ranges.{IsInRange, IsTable}
use Rattle.description_values.specs.Values.{is_one_section}
use Rattle.description_parts.specs.Tables.{table_kinds, table_kind, table_count, section_count, section_lengths}
use Rattle.description.specs.SectionBytes.{table_bytes}
use Rattle.description_parts.specs.declared.table_kind.TableKind.{TableKind}
use Rattle.description_parts.specs.declared.table_kind.TableKind.TheVariants.{Pat, Pmt, Nit, Sdt, Eit, Tdt, Private}
use Rattle.pid_findings.specs.Roles.{may_begin_pes}
use Rattle.table_rounds.specs.Tables.{Table, moment_of}
use Rattle.laws_run.specs.Sections.{IsRecognized}
use Rattle.laws_run.specs.Rounds.{sections_from, round_sections}
use Rattle.laws_run.specs.CleanPids.{IsWhole}
use Rattle.laws_run.proofs.SectionPrefixes.{read_fits}
use Rattle.laws_run.proofs.WrittenSections.{written_are_given}
use Rattle.laws_run.specs.Distinguishable.{is_mistaken, private_sections, ready_made, IsDistinguishable}
use Rattle.laws_run.proofs.DescribedSections.{IsWritten}
use Rattle.laws_run.proofs.TablesWritten.{IsMade, at_most_one, text_written}
use Rattle.mux_core.proofs.TablesRead.{there as kind_there}

-- One section

whole_by : (text : List ℕ) (r : Result (SectionView × ℕ) SectionError) → section_at text ≡ r →
    elim r as (λ _. Bool) [ Ok section ↦ section.1 == length text | Err e ↦ false ] ≡ true → IsWhole text
whole_by text (Ok (view, n)) e h = record { view = view; read = e ∙ ap (λ (m : ℕ). Ok (view, m)) (eqb-true n (length text) h) }
whole_by text (Err error) e h = absurd cc

one_whole : (text : List ℕ) → is_one_section text ≡ true → IsWhole text
one_whole text h = whole_by text (section_at text) refl h

both_true : (a b : Bool) → (a && (b && true)) ≡ true → (a ≡ true) × (b ≡ true)
both_true true true h = (refl, refl)
both_true true false h = absurd cc
both_true false b h = absurd cc

first_false : (a b : Bool) → (a || b) ≡ false → a ≡ false
first_false false b h = refl
first_false true b h = absurd cc

starts_pes : (a b : ℕ) (rest : List ℕ) → may_begin_pes (0 ∷ a ∷ b ∷ rest) ≡ true → is_mistaken (a ∷ b ∷ rest) ≡ true
starts_pes a b rest h =
    let t = both_true (0 == a) (1 == b) h in
    let first : 0 ≡ a = eqb-true 0 a t.0 in
    let second : 1 ≡ b = eqb-true 1 b t.1 in
    rw (sym first, sym second) refl

no_pes_of : (a b : ℕ) (rest : List ℕ) → is_mistaken (a ∷ b ∷ rest) ≡ false → may_begin_pes (0 ∷ a ∷ b ∷ rest) ≡ false
no_pes_of a b rest h = elim (cases_Bool (may_begin_pes (0 ∷ a ∷ b ∷ rest))) [
  | inl y ↦ absurd (false≢true (sym h ∙ starts_pes a b rest y))
  | inr n ↦ n
]

given_of : (text : List ℕ) → IsWhole text → 3 ≤ length text → is_mistaken text ≡ false → IsRecognized text
given_of [] w some h = absurd (omega (arith, some))
given_of (a ∷ []) w some h = absurd (omega (arith, some))
given_of (a ∷ b ∷ rest) w some h =
    record { view = w.view; read = w.read; no_fill = first_false (a == 0xFF) ((a == 0) && (b == 1)) h; no_pes = no_pes_of a b rest h }

whole_given : (text : List ℕ) → IsWhole text → is_mistaken text ≡ false → IsRecognized text
whole_given text w h = given_of text w (read_fits text (w.view, length text) w.read).some h

whole_of : (text : List ℕ) → IsRecognized text → IsWhole text
whole_of text g = record { view = g.view; read = g.read }

-- The sections of a table

-- A section is whole; if its table is known to be distinguishable, so is the section.
record IsSent (reported : Type 0) (text : List ℕ) : Type 0 where
  whole : IsWhole text
  given : reported → IsRecognized text

written_sent : (reported : Type 0) (text : List ℕ) → IsWritten text → IsSent reported text
written_sent reported text w =
    let given : IsRecognized text = subst IsRecognized (sym w.is) (written_are_given w.view w.writable w.no_stuffing) in
    record { whole = whole_of text given; given = λ t. given }

abbrev private_text : Option DescribedTable → ℕ → List ℕ
private_text o j = elim o as (λ _. List ℕ) [ None ↦ [] | Some private ↦ get_or private.sections j [] ]

abbrev private_lengths : Option DescribedTable → List ℕ
private_lengths o = elim o as (λ _. List ℕ) [ None ↦ [] | Some private ↦ map length private.sections ]

private_sent : (o : Option DescribedTable) (j : ℕ) → All IsTable (option_to_list o) → j < length (private_lengths o) →
    IsSent (All (λ text. is_mistaken text ≡ false) (private_sections o)) (private_text o j)
private_sent None j is within = absurd (omega (arith, within))
private_sent (Some table) j is within =
    let inside : j < length table.sections = omega (arith, within, length-map table.sections (length {A = ℕ})) in
    let one = All-get_or IsTable (table ∷ []) 0 table (omega arith) is in
    let whole : IsWhole (get_or table.sections j []) =
    one_whole (get_or table.sections j []) (All-get_or (λ (text : List ℕ). is_one_section text ≡ true) table.sections j [] inside one.whole_sections) in
    record {
      whole = whole;
      given =
          λ reported. whole_given (get_or table.sections j []) whole
          (All-get_or (λ (text : List ℕ). is_mistaken text ≡ false) table.sections j [] inside reported);
    }

made_sent : (d : Described) (t j moment : ℕ) (k : TableKind) → IsInRange d → table_kind d t ≡ Some k → IsMade k → j < section_count d t →
    IsSent (IsDistinguishable d t) (table_bytes d t j moment)
made_sent d t j moment k r is made within = written_sent (IsDistinguishable d t) (table_bytes d t j moment) (text_written d t j moment k r is made within)

kind_sent : (d : Described) (t j moment : ℕ) (k : TableKind) → IsInRange d → table_kind d t ≡ Some k → j < section_count d t →
    IsSent (IsDistinguishable d t) (table_bytes d t j moment)
kind_sent d t j moment Pat r is within = made_sent d t j moment Pat r is tt within
kind_sent d t j moment (Pmt p) r is within = made_sent d t j moment (Pmt p) r is tt within
kind_sent d t j moment Nit r is within = made_sent d t j moment Nit r is tt within
kind_sent d t j moment Sdt r is within = made_sent d t j moment Sdt r is tt within
kind_sent d t j moment Eit r is within = made_sent d t j moment Eit r is tt within
kind_sent d t j moment Tdt r is within = made_sent d t j moment Tdt r is tt within
kind_sent d t j moment (Private i) r is within =
    let o : Option DescribedTable = slice_get d.tables i in
    let lengths : section_lengths d t ≡ private_lengths (slice_get d.tables i) = rw is refl in
    let text : table_bytes d t j moment ≡ private_text (slice_get d.tables i) j = rw is refl in
    let ready : ready_made d (table_kind d t) ≡ private_sections (slice_get d.tables i) = rw is refl in
    let inside : j < length (private_lengths (slice_get d.tables i)) = subst (λ (ls : List ℕ). j < length ls) lengths within in
    let sent = private_sent (slice_get d.tables i) j (at_most_one IsTable d.tables i (slice_get d.tables i) r.tables refl) inside in
    record {
      whole = subst IsWhole (sym text) sent.whole;
      given = λ reported. subst IsRecognized (sym text) (sent.given (subst (All (λ (bytes : List ℕ). is_mistaken bytes ≡ false)) ready reported));
    }

pub section_whole : (d : Described) (t j moment : ℕ) → IsInRange d → t < table_count d → j < section_count d t → IsWhole (table_bytes d t j moment)
section_whole d t j moment r lt within = let k = kind_there (table_kinds d) t lt in (kind_sent d t j moment k.0 r k.1 within).whole

pub section_distinguishable : (d : Described) (t j moment : ℕ) → IsInRange d → t < table_count d → IsDistinguishable d t → j < section_count d t →
    IsRecognized (table_bytes d t j moment)
section_distinguishable d t j moment r lt reported within = let k = kind_there (table_kinds d) t lt in (kind_sent d t j moment k.0 r k.1 within).given reported

-- All sections of a table's rounds

texts_all : (P : List ℕ → Type 0) (text : ℕ → List ℕ) (j : ℕ) (ls : List ℕ) → ((i : ℕ) → i < length ls → P (text (j + i))) → All P (sections_from text j ls)
unfolding sections_from
texts_all P text j [] h = All-nil P
texts_all P text j (l ∷ ls) h =
    let here : j + 0 ≡ j = omega arith in
    All-cons P (text j) (sections_from text (suc j) ls) (subst (λ (n : ℕ). P (text n)) here (h 0 (omega arith)))
    (texts_all P text (suc j) ls (λ i lt. let same : j + suc i ≡ suc j + i = omega arith in subst (λ (n : ℕ). P (text n)) same (h (suc i) (omega (arith, lt)))))

pub rounds_all : (P : List ℕ → Type 0) (table : Table) (slots : List ℕ) → ((s j moment : ℕ) → j < length table.lengths → P (table.bytes s j moment)) →
    All P (flat_map (round_sections table) slots)
rounds_all P table [] h = All-nil P
rounds_all P table (s ∷ slots) h =
    subst (All P) (sym (flat_map-cons (round_sections table) s slots))
    (All-append P (round_sections table s) (flat_map (round_sections table) slots)
    (texts_all P (λ j. table.bytes s j (moment_of table s)) 0 table.lengths
    (λ i lt. let same : i ≡ 0 + i = omega arith in subst (λ (n : ℕ). P (table.bytes s n (moment_of table s))) same (h s i (moment_of table s) lt)))
    (rounds_all P table slots h))
