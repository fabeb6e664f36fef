-- What becomes of a sub-table over changes and moments: its bytes and its version stay, or its version rises.
use Rattle.std.proofs.Common.{◌≡◌, ◌⊎◌, ℕ, ◌+◌, ◌%◌, ◌<◌, ◌≤◌, ◌||◌, not, Bool, true, false, cond}
use Rattle.std.proofs.Common.{refl, sym, ap, ◌∙◌, arith, inl, inr, if◌then◌else◌}
use Rattle.std.proofs.lemmas.Bool.{cases_lt}
use Rattle.description_parts.specs.Described.{Described}
use Rattle.description.specs.SectionBytes.{table_bytes}
use Rattle.description.specs.SubTables.{sub_table_number}
use Rattle.description.specs.SubTables.{version_of}
use Rattle.description.specs.declared.sub_table.SubTable.{SubTable}
use Rattle.mux_core.specs.Scheduled.{Scheduled}
use Rattle.mux_core.specs.Histories.{Change, TextsSoFar, NextTexts, text_at, last_texts}
use Rattle.mux_core.specs.TextChanges.{since_of}
use Rattle.mux_core.specs.TextLaws.{edges_of}
use Rattle.mux_core.proofs.PlacedTables.{Step}

-- What became of a sub-table since a section of it began in slot s, at the moment `from`, by the moment `to`

-- It has no other bytes, under its version.
pub record Kept (d : Scheduled) (changes : TextsSoFar) (t j s : ℕ) (x : SubTable) (from to : ℕ) : Type 0 where
  pub since : since_of changes (sub_table_number x) ≤ s
  pub bytes : table_bytes (text_at d.description changes s) t j from ≡ table_bytes (last_texts d.description changes) t j to
  pub version : version_of (text_at d.description changes s) x from ≡ version_of (last_texts d.description changes) x to

-- Its version rose, at most so often.
pub record Rose (d : Scheduled) (changes : TextsSoFar) (s : ℕ) (x : SubTable) (from to most : ℕ) : Type 0 where
  pub rises : ℕ
  pub some : 1 ≤ rises
  pub few : rises ≤ most
  pub version : version_of (last_texts d.description changes) x to ≡ (version_of (text_at d.description changes s) x from + rises) % 32

abbrev pub Went : Scheduled → TextsSoFar → ℕ → ℕ → ℕ → SubTable → ℕ → ℕ → ℕ → Type 0
Went d changes t j s x from to most = Kept d changes t j s x from to ⊎ Rose d changes s x from to most

rises_on : (v w r n : ℕ) → w ≡ (v + r) % 32 → (w + n) % 32 ≡ (v + (r + n)) % 32
rises_on v w r n is = omega (arith, is)

no_rise : (v n : ℕ) → v < 32 → n ≡ 0 → (v + n) % 32 ≡ v
no_rise v n below none = omega (arith, below, none)

-- A later moment by the last texts

later_kept : (d : Scheduled) (changes : TextsSoFar) (t j s : ℕ) (x : SubTable) (from at to : ℕ) → version_of (last_texts d.description changes) x at < 32 →
    Step (last_texts d.description changes) t j x at to → Kept d changes t j s x from at →
    Went d changes t j s x from to (0 + edges_of (last_texts d.description changes) x at to)
later_kept d changes t j s x from at to below step kept =
    elim (cases_lt 0 (edges_of (last_texts d.description changes) x at to)) [
      | inl some ↦ inr (record {
        rises = edges_of (last_texts d.description changes) x at to;
        some = some;
        few = omega arith;
        version = step.version ∙ ap (λ (v : ℕ). (v + edges_of (last_texts d.description changes) x at to) % 32) (sym kept.version);
      })
      | inr none ↦
          let zero : edges_of (last_texts d.description changes) x at to ≡ 0 = omega (arith, none) in
          inl (record {
            since = kept.since;
            bytes = kept.bytes ∙ step.bytes zero;
            version = kept.version
                ∙ sym (step.version ∙ no_rise (version_of (last_texts d.description changes) x at) (edges_of (last_texts d.description changes) x at to) below zero);
          })
    ]

pub later : (d : Scheduled) (changes : TextsSoFar) (t j s : ℕ) (x : SubTable) (from at to most : ℕ) → version_of (last_texts d.description changes) x at < 32 →
    Step (last_texts d.description changes) t j x at to → Went d changes t j s x from at most →
    Went d changes t j s x from to (most + edges_of (last_texts d.description changes) x at to)
later d changes t j s x from at to most below step (inl kept) = more (later_kept d changes t j s x from at to below step kept)
  where
    more : Went d changes t j s x from to (0 + edges_of (last_texts d.description changes) x at to) →
        Went d changes t j s x from to (most + edges_of (last_texts d.description changes) x at to)
    more (inl stays) = inl stays
    more (inr rose) = inr (record { rises = rose.rises; some = rose.some; few = omega (arith, rose.few); version = rose.version })
later d changes t j s x from at to most below step (inr rose) = inr (record {
  rises = rose.rises + edges_of (last_texts d.description changes) x at to;
  some = omega (arith, rose.some);
  few = omega (arith, rose.few);
  version = step.version
      ∙ rises_on (version_of (text_at d.description changes s) x from) (version_of (last_texts d.description changes) x at) rose.rises
      (edges_of (last_texts d.description changes) x at to) rose.version;
})

-- One more change: whether the sub-table says what it said, and whether a section of it was sent since it changed last
pub record Next (d : Scheduled) (change : Change) (earlier : TextsSoFar) (t j s : ℕ) (x : SubTable) (at : ℕ) (same sent : Bool) : Type 0 where
  pub first : text_at d.description (NextTexts change earlier) s ≡ text_at d.description earlier s
  pub version : version_of change.texts x at
      ≡ (if same || not sent then version_of (last_texts d.description earlier) x at else (version_of (last_texts d.description earlier) x at + 1) % 32)
  pub bytes : same ≡ true → table_bytes (last_texts d.description earlier) t j at ≡ table_bytes change.texts t j at
  pub since : change.since (sub_table_number x) ≡ cond (not same) change.from (since_of earlier (sub_table_number x))
  pub began : since_of earlier (sub_table_number x) ≤ s → sent ≡ true

rose_as : (d : Scheduled) (change : Change) (earlier : TextsSoFar) (s : ℕ) (x : SubTable) (from at most : ℕ) →
    text_at d.description (NextTexts change earlier) s ≡ text_at d.description earlier s →
    version_of change.texts x at ≡ version_of (last_texts d.description earlier) x at → Rose d earlier s x from at most →
    Rose d (NextTexts change earlier) s x from at (most + 1)
rose_as d change earlier s x from at most first same rose = record {
  rises = rose.rises;
  some = rose.some;
  few = omega (arith, rose.few);
  version = same ∙ rose.version ∙ ap (λ (e : Described). (version_of e x from + rose.rises) % 32) (sym first);
}

rose_more : (d : Scheduled) (change : Change) (earlier : TextsSoFar) (s : ℕ) (x : SubTable) (from at most : ℕ) →
    text_at d.description (NextTexts change earlier) s ≡ text_at d.description earlier s →
    version_of change.texts x at ≡ (version_of (last_texts d.description earlier) x at + 1) % 32 → Rose d earlier s x from at most →
    Rose d (NextTexts change earlier) s x from at (most + 1)
rose_more d change earlier s x from at most first more rose = record {
  rises = rose.rises + 1;
  some = omega arith;
  few = omega (arith, rose.few);
  version = more
      ∙ rises_on (version_of (text_at d.description earlier s) x from) (version_of (last_texts d.description earlier) x at) rose.rises 1 rose.version
      ∙ ap (λ (e : Described). (version_of e x from + (rose.rises + 1)) % 32) (sym first);
}

rose_first : (d : Scheduled) (change : Change) (earlier : TextsSoFar) (t j s : ℕ) (x : SubTable) (from at most : ℕ) →
    text_at d.description (NextTexts change earlier) s ≡ text_at d.description earlier s →
    version_of change.texts x at ≡ (version_of (last_texts d.description earlier) x at + 1) % 32 → Kept d earlier t j s x from at →
    Rose d (NextTexts change earlier) s x from at (most + 1)
rose_first d change earlier t j s x from at most first more kept = record {
  rises = 1;
  some = omega arith;
  few = omega arith;
  version = more ∙ ap (λ (v : ℕ). (v + 1) % 32) (sym kept.version) ∙ ap (λ (e : Described). (version_of e x from + 1) % 32) (sym first);
}

kept_as : (d : Scheduled) (change : Change) (earlier : TextsSoFar) (t j s : ℕ) (x : SubTable) (from at : ℕ) →
    text_at d.description (NextTexts change earlier) s ≡ text_at d.description earlier s →
    version_of change.texts x at ≡ version_of (last_texts d.description earlier) x at →
    table_bytes (last_texts d.description earlier) t j at ≡ table_bytes change.texts t j at →
    change.since (sub_table_number x) ≡ since_of earlier (sub_table_number x) → Kept d earlier t j s x from at →
    Kept d (NextTexts change earlier) t j s x from at
kept_as d change earlier t j s x from at first same bytes since kept = record {
  since = omega (arith, since, kept.since);
  bytes = ap (λ (e : Described). table_bytes e t j from) first ∙ kept.bytes ∙ bytes;
  version = ap (λ (e : Described). version_of e x from) first ∙ kept.version ∙ sym same;
}

pub went_on : (d : Scheduled) (change : Change) (earlier : TextsSoFar) (t j s : ℕ) (x : SubTable) (from at most : ℕ) (same sent : Bool) →
    Next d change earlier t j s x at same sent → Went d earlier t j s x from at most → Went d (NextTexts change earlier) t j s x from at (most + 1)
went_on d change earlier t j s x from at most true sent next (inl kept) =
    inl (kept_as d change earlier t j s x from at next.first next.version (next.bytes refl) next.since kept)
went_on d change earlier t j s x from at most false true next (inl kept) =
    inr (rose_first d change earlier t j s x from at most next.first next.version kept)
went_on d change earlier t j s x from at most false false next (inl kept) = absurd (let no : false ≡ true = next.began kept.since in cc)
went_on d change earlier t j s x from at most true sent next (inr rose) = inr (rose_as d change earlier s x from at most next.first next.version rose)
went_on d change earlier t j s x from at most false true next (inr rose) = inr (rose_more d change earlier s x from at most next.first next.version rose)
went_on d change earlier t j s x from at most false false next (inr rose) = inr (rose_as d change earlier s x from at most next.first next.version rose)
