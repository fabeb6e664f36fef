-- A sub-table in texts of a frame: it has its place in each of them, and from one moment to another its version rises as its events begin and end.
use Rattle.std.proofs.Common.{◌≡◌, ◌⊎◌, ℕ, zero, suc, ◌+◌, ◌/◌, ◌%◌, ◌<◌, ◌≤◌, ◌||◌, nat_lt, Bool, true, false, cond, List, [], ◌∷◌, length, map, filter}
use Rattle.std.proofs.Common.{Option, Some, None, slice_get, refl, sym, ap, subst, ◌∙◌, arith, inl, inr, if◌then◌else◌}
use Rattle.std.specs.Prelude.{option_and_then, option_map}
use Rattle.std.proofs.lemmas.Bool.{cases_lt, eq-eqb, lt-ltb, le-leb}
use Rattle.std.proofs.lemmas.List.{length-map}
use Rattle.std.proofs.lemmas.Option.{slice_get_within}
use Rattle.description_parts.specs.Described.{Described, DescribedProgram}
use Rattle.description_parts.specs.Ranges.{IsInRange}
use Rattle.description_parts.specs.Tables.{is_scheduled, scheduled_programs, eit_place, table_kinds, table_kind, table_count, section_count}
use Rattle.description_parts.specs.declared.table_kind.TableKind.{TableKind}
use Rattle.description_parts.specs.declared.table_kind.TableKind.TheVariants as kind
use Rattle.description.specs.SectionBytes.{table_bytes, counted_events}
use Rattle.description.specs.SubTables.{sub_table_number, places_where, scheduled_places, sub_table_in, sub_table_of, number_in, number_of, program_number_by}
use Rattle.description.specs.SubTables.{version_of, section_of}
use Rattle.description.specs.declared.sub_table.SubTable.{SubTable}
use Rattle.description.specs.declared.sub_table.SubTable.TheVariants.{Pat, Nit, Sdt, Map, Events}
use Rattle.description.proofs.Versions.{numbered_law}
use Rattle.changed_texts.specs.Fixed.{FixedProgram, fixed_program}
use Rattle.changed_texts.specs.TextFaults.{IsTextOf}
use Rattle.slot_plan.specs.Schedule.{slot_of}
use Rattle.mux_core.specs.Scheduled.{Scheduled}
use Rattle.mux_core.specs.Histories.{Change, Past, TextsSoFar, FirstTexts, NextTexts, past_of, by_past, first_texts, text_at, last_texts}
use Rattle.mux_core.specs.TextChanges.{FirstFit, ChangesFit, sub_table_there, is_numbered, begins_at, begins_in, began_at, began_since}
use Rattle.mux_core.specs.TextLaws.{is_timeless, SectionBegins, edges_of}
use Rattle.mux_core.proofs.TextChanges.{text_before}
use Rattle.mux_core.proofs.SentMarks.{began_step, or_true}
use Rattle.mux_core.proofs.EventMoments.{more_counted, sections_same, version_on}

-- The place of a sub-table: it has no moments, or each program has its events.
abbrev pub Placed : SubTable → Described → Type 0
Placed x e = (is_timeless x ≡ true) ⊎ (e.has_eit ≡ true)

no_events : (o : Option ℕ) (x : SubTable) → is_timeless x ≡ true → option_map Events o ≡ Some x → ⊥
no_events None x still is = cc
no_events (Some p) x still is =
    let same : Events p ≡ x = cc in
    let both : false ≡ true = ap is_timeless same ∙ still in
    cc

-- Where each program has its events, they are in the same places.
places_alike : (xs ys : List DescribedProgram) → length xs ≡ length ys → places_where (is_scheduled true) xs ≡ places_where (is_scheduled true) ys
places_alike [] [] same = refl
places_alike [] (y ∷ ys) same = absurd (omega (arith, same))
places_alike (x ∷ xs) [] same = absurd (omega (arith, same))
places_alike (x ∷ xs) (y ∷ ys) same = ap (λ (l : List ℕ). 0 ∷ map suc l) (places_alike xs ys (omega (arith, same)))

all_scheduled : (xs : List DescribedProgram) → length (filter (is_scheduled true) xs) ≡ length xs
all_scheduled [] = refl
all_scheduled (x ∷ xs) = ap suc (all_scheduled xs)

has_places : (e : Described) → e.has_eit ≡ true → scheduled_places e ≡ places_where (is_scheduled true) e.programs
has_places e has = ap (λ (b : Bool). places_where (is_scheduled b) e.programs) has

has_programs : (e : Described) → e.has_eit ≡ true → length (scheduled_programs e) ≡ length e.programs
has_programs e has = ap (λ (b : Bool). length (filter (is_scheduled b) e.programs)) has ∙ all_scheduled e.programs

abbrev place_by : Bool → ℕ → ℕ → ℕ × ℕ
place_by b n j = if b then (j % n, j / n) else (j / 2, j % 2)

eit_alike : (d e : Described) (j : ℕ) → e.is_transponder ≡ d.is_transponder → length e.programs ≡ length d.programs → d.has_eit ≡ true → e.has_eit ≡ true →
    eit_place e j ≡ eit_place d j
eit_alike d e j transponder programs has_d has_e =
    ap (λ (b : Bool). place_by b (length (scheduled_programs e)) j) transponder
    ∙ ap (λ (n : ℕ). place_by d.is_transponder n j) (has_programs e has_e ∙ programs ∙ sym (has_programs d has_d))

abbrev numbered : Described → ℕ → Option TableKind → ℕ
numbered e j o = elim o [ None ↦ j | Some k ↦ number_in e k j ]

-- Another description with the same tables has it in the same place.
same_place : (d e : Described) (o : Option TableKind) (j : ℕ) (x : SubTable) → e.is_transponder ≡ d.is_transponder → length e.programs ≡ length d.programs →
    Placed x d → Placed x e → option_and_then (λ k. sub_table_in d k j) o ≡ Some x →
    (option_and_then (λ k. sub_table_in e k j) o ≡ Some x) × (numbered e j o ≡ numbered d j o)
same_place d e None j x transponder programs in_d in_e is = absurd (cc)
same_place d e (Some kind.Pat) j x transponder programs in_d in_e is = (is, refl)
same_place d e (Some (kind.Pmt p)) j x transponder programs in_d in_e is = (is, refl)
same_place d e (Some kind.Nit) j x transponder programs in_d in_e is = (is, refl)
same_place d e (Some kind.Sdt) j x transponder programs in_d in_e is = (is, refl)
same_place d e (Some kind.Eit) j x transponder programs (inl still) in_e is =
    absurd (no_events (slice_get (scheduled_places d) (eit_place d j).0) x still is)
same_place d e (Some kind.Eit) j x transponder programs (inr has) (inl still) is =
    absurd (no_events (slice_get (scheduled_places d) (eit_place d j).0) x still is)
same_place d e (Some kind.Eit) j x transponder programs (inr has_d) (inr has_e) is =
    let place = eit_alike d e j transponder programs has_d has_e in
    let places : scheduled_places e ≡ scheduled_places d =
    has_places e has_e ∙ places_alike e.programs d.programs programs ∙ sym (has_places d has_d) in (
      ap (λ (q : ℕ × ℕ). option_map Events (slice_get (scheduled_places e) q.0)) place
          ∙ ap (λ (l : List ℕ). option_map Events (slice_get l (eit_place d j).0)) places ∙ is,
      ap (λ (q : ℕ × ℕ). q.1) place,
    )
same_place d e (Some kind.Tdt) j x transponder programs in_d in_e is = absurd (cc)
same_place d e (Some (kind.Private i)) j x transponder programs in_d in_e is = absurd (cc)

kind_within : (d : Described) (o : Option TableKind) (t j : ℕ) (x : SubTable) → table_kind d t ≡ o → option_and_then (λ k. sub_table_in d k j) o ≡ Some x →
    t < table_count d
kind_within d None t j x is of = absurd (cc)
kind_within d (Some k) t j x is of = slice_get_within (table_kinds d) t k is

-- From one moment to a later one: its version rises by the edges in between, and without one its bytes are the same.
pub record Step (e : Described) (t j : ℕ) (x : SubTable) (from to : ℕ) : Type 0 where
  pub version : version_of e x to ≡ (version_of e x from + edges_of e x from to) % 32
  pub bytes : edges_of e x from to ≡ 0 → table_bytes e t j from ≡ table_bytes e t j to

below_stays : (v : ℕ) → v < 32 → v ≡ (v + 0) % 32
below_stays v lt = omega (arith, lt)

bytes_by : (e : Described) (t j : ℕ) (x : SubTable) (from to : ℕ) → sub_table_of e t j ≡ Some x → version_of e x from ≡ version_of e x to →
    section_of e x (version_of e x to) (number_of e t j) from ≡ section_of e x (version_of e x to) (number_of e t j) to →
    table_bytes e t j from ≡ table_bytes e t j to
bytes_by e t j x from to of version same =
    (numbered_law e t j from x of).bytes ∙ ap (λ (v : ℕ). section_of e x v (number_of e t j) from) version ∙ same ∙ sym (numbered_law e t j to x of).bytes

still_step : (e : Described) (t j : ℕ) (x : SubTable) (from to : ℕ) → IsInRange e → sub_table_of e t j ≡ Some x → edges_of e x from to ≡ 0 →
    version_of e x from ≡ version_of e x to →
    section_of e x (version_of e x to) (number_of e t j) from ≡ section_of e x (version_of e x to) (number_of e t j) to → Step e t j x from to
still_step e t j x from to ranges of none version same = record {
  version = sym version ∙ below_stays (version_of e x from) ((numbered_law e t j from x of).below ranges)
      ∙ ap (λ (n : ℕ). (version_of e x from + n) % 32) (sym none);
  bytes = λ zero_edges. bytes_by e t j x from to of version same;
}

no_more : (v a b : ℕ) → v < 32 → b ≡ (v + a) % 32 → a ≡ 0 → v ≡ b
no_more v a b lt is none = omega (arith, lt, is, none)

pub step_of : (e : Described) (t j : ℕ) (x : SubTable) (from to : ℕ) → IsInRange e → sub_table_of e t j ≡ Some x → (is_timeless x ≡ true) ⊎ (from ≤ to) →
    Step e t j x from to
step_of e t j Pat from to ranges of later = still_step e t j Pat from to ranges of refl refl refl
step_of e t j Nit from to ranges of later = still_step e t j Nit from to ranges of refl refl refl
step_of e t j Sdt from to ranges of later = still_step e t j Sdt from to ranges of refl refl refl
step_of e t j (Map p) from to ranges of later = still_step e t j (Map p) from to ranges of refl refl refl
step_of e t j (Events p) from to ranges of (inl still) = absurd (cc)
step_of e t j (Events p) from to ranges of (inr le) =
    let o = slice_get e.programs p in
    let version : version_of e (Events p) to ≡ (version_of e (Events p) from + edges_of e (Events p) from to) % 32 = version_on o from to le in
    let more : program_number_by (counted_events from) o ≤ program_number_by (counted_events to) o = more_counted from to o le in
    record {
      version = version;
      bytes = λ none.
          let same : program_number_by (counted_events to) o ≡ program_number_by (counted_events from) o = omega (arith, none, more) in
          bytes_by e t j (Events p) from to of
          (no_more (version_of e (Events p) from) (edges_of e (Events p) from to) (version_of e (Events p) to)
          ((numbered_law e t j from (Events p) of).below ranges) version none)
          (sections_same e p (version_of e (Events p) to) (number_of e t j) from to o refl le same);
    }

-- Texts that are texts of a frame

pub record IsLike (frame e : Described) : Type 0 where
  pub ranges : IsInRange e
  pub kinds : table_kinds e ≡ table_kinds frame
  pub counts : (t : ℕ) → section_count e t ≡ section_count frame t
  pub transponder : e.is_transponder ≡ frame.is_transponder
  pub programs : length e.programs ≡ length frame.programs

pub like_of : (frame e : Described) → IsInRange e → IsTextOf frame e → IsLike frame e
like_of frame e ranges texts = record {
  ranges = ranges;
  kinds = texts.kinds;
  counts = texts.counts;
  transponder = texts.is_transponder;
  programs = sym (length-map e.programs fixed_program) ∙ ap (length {A = FixedProgram}) texts.programs ∙ length-map frame.programs fixed_program;
}

pub text_from : (d : Described) (change : Change) (earlier : TextsSoFar) (s : ℕ) → change.from ≤ s → text_at d (NextTexts change earlier) s ≡ change.texts
text_from d change earlier s le = ap (λ (b : Bool). cond b change.texts (text_at d earlier s)) (le-leb change.from s le)

like_first : (d : Described) (slot : ℕ) (past : Option Past) → IsInRange d → FirstFit d slot past → IsLike d (first_texts past d)
like_first d slot None ranges fit = record { ranges = ranges; kinds = refl; counts = λ t. refl; transponder = refl; programs = refl }
like_first d slot (Some past) ranges fit = like_of d (past.texts d) fit.ranges fit.texts

pub like_at : (d : Described) (slot s : ℕ) (changes : TextsSoFar) → IsInRange d → ChangesFit d slot changes → IsLike d (text_at d changes s)
like_at d slot s (FirstTexts past) ranges fit = like_first d slot past ranges fit
like_at d slot s (NextTexts change earlier) ranges fit = elim (cases_lt s change.from) [
  | inl before ↦ subst (λ (e : Described). IsLike d e) (sym (text_before d change earlier s before)) (like_at d change.from s earlier ranges fit.1)
  | inr on ↦ subst (λ (e : Described). IsLike d e) (sym (text_from d change earlier s on)) (like_of d change.texts fit.0.ranges fit.0.texts)
]

pub like_last : (d : Described) (slot : ℕ) (changes : TextsSoFar) → IsInRange d → ChangesFit d slot changes → IsLike d (last_texts d changes)
like_last d slot (FirstTexts past) ranges fit = like_first d slot past ranges fit
like_last d slot (NextTexts change earlier) ranges fit = like_of d change.texts fit.0.ranges fit.0.texts

-- Each of them has the sub-table in its place.
abbrev pub AllPlaced : Described → TextsSoFar → SubTable → Type 0
AllPlaced d (FirstTexts past) x = Placed x d × Placed x (first_texts past d)
AllPlaced d (NextTexts change earlier) x = Placed x change.texts × AllPlaced d earlier x

pub placed_frame : (d : Described) (changes : TextsSoFar) (x : SubTable) → AllPlaced d changes x → Placed x d
placed_frame d (FirstTexts past) x all = all.0
placed_frame d (NextTexts change earlier) x all = placed_frame d earlier x all.1

pub placed_last : (d : Described) (changes : TextsSoFar) (x : SubTable) → AllPlaced d changes x → Placed x (last_texts d changes)
placed_last d (FirstTexts past) x all = all.1
placed_last d (NextTexts change earlier) x all = all.0

pub placed_at : (d : Described) (changes : TextsSoFar) (x : SubTable) (s : ℕ) → AllPlaced d changes x → Placed x (text_at d changes s)
placed_at d (FirstTexts past) x s all = all.1
placed_at d (NextTexts change earlier) x s all = elim (cases_lt s change.from) [
  | inl before ↦ subst (Placed x) (sym (text_before d change earlier s before)) (placed_at d earlier x s all.1)
  | inr on ↦ subst (Placed x) (sym (text_from d change earlier s on)) all.0
]

-- They have the sub-table there.
pub record IsThere (frame e : Described) (t j : ℕ) (x : SubTable) : Type 0 where
  pub of : sub_table_of e t j ≡ Some x
  pub number : number_of e t j ≡ number_of frame t j
  pub table : t < table_count e
  pub section : j < section_count e t

pub there : (frame e : Described) (t j : ℕ) (x : SubTable) → IsLike frame e → j < section_count frame t → sub_table_of frame t j ≡ Some x →
    Placed x frame → Placed x e → IsThere frame e t j x
there frame e t j x like within of in_frame in_e =
    let same : table_kind e t ≡ table_kind frame t = ap (λ (l : List TableKind). slice_get l t) like.kinds in
    let place = same_place frame e (table_kind frame t) j x like.transponder like.programs in_frame in_e of in
    let of_e : sub_table_of e t j ≡ Some x = ap (λ (o : Option TableKind). option_and_then (λ k. sub_table_in e k j) o) same ∙ place.0 in
    let number : number_of e t j ≡ number_of frame t j =
    ap (numbered e j) same ∙ place.1 in
    record {
      of = of_e;
      number = number;
      table = kind_within e (table_kind e t) t j x refl of_e;
      section = omega (arith, within, like.counts t);
    }

-- A section of it begins in the slot, by these texts.
is_there : (frame e : Described) (t j : ℕ) (x : SubTable) → IsThere frame e t j x → sub_table_there e t j ≡ Some x
is_there frame e t j x at =
    ap (λ (b : Bool). cond b (cond (nat_lt j (section_count e t)) (sub_table_of e t j) None) None) (lt-ltb t (table_count e) at.table)
    ∙ ap (λ (b : Bool). cond b (sub_table_of e t j) None) (lt-ltb j (section_count e t) at.section) ∙ at.of

pub begins_there : (d : Scheduled) (changes : TextsSoFar) (t j s : ℕ) (x : SubTable) → SectionBegins d t j s → IsThere d.description (text_at d.description changes s) t j x →
    begins_in d changes (sub_table_number x) s (slot_of d.schedule s) ≡ true
unfolding begins_in
begins_there d changes t j s x begins at =
    ap (begins_in d changes (sub_table_number x) s) begins.table
    ∙ ap (begins_at (text_at d.description changes s) (sub_table_number x) t) begins.place
    ∙ ap (λ (o : Option SubTable). is_numbered (sub_table_number x) o) (is_there d.description (text_at d.description changes s) t j x at)
    ∙ eq-eqb (sub_table_number x) (sub_table_number x) refl

true_over : (past : Option Past) (slot : ℕ) → by_past past slot (λ p. true) true ≡ true
true_over None slot = refl
true_over (Some past) slot = by (nat_lt slot past.until)
  where
    by : (b : Bool) → cond b true true ≡ true
    by true = refl
    by false = refl

pub began_there : (d : Scheduled) (changes : TextsSoFar) (n since s slot : ℕ) → since ≤ s → begins_in d changes n s (slot_of d.schedule s) ≡ true → s < slot →
    began_since d changes n since slot ≡ true
began_there d changes n since s zero le begins lt = absurd (omega (arith, lt))
began_there d changes n since s (suc slot) le begins lt =
    began_step d changes n since slot (omega (arith, le, lt)) ∙ elim (cases_lt s slot) [
      | inl before ↦ ap (λ (b : Bool). b || began_at d changes n slot) (began_there d changes n since s slot le begins before)
      | inr at ↦ (
          let same : s ≡ slot = omega (arith, lt, at) in
          ap (λ (b : Bool). began_since d changes n since slot || by_past (past_of changes) slot (λ past. true) b)
          (subst (λ (k : ℕ). begins_in d changes n k (slot_of d.schedule k) ≡ true) same begins)
          ∙ ap (λ (b : Bool). began_since d changes n since slot || b) (true_over (past_of changes) slot)
          ∙ or_true (began_since d changes n since slot))
    ]
