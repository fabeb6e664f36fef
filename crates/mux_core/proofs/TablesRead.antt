-- The tables in the finished bytes.
use Rattle.std.proofs.Common.{◌≡◌, ℕ, ◌<◌, true, List, Some, slice_get, length, refl, ap, sym, ◌∙◌, arith, eq-eqb, zero, suc, [], ◌∷◌}
use Rattle.std.proofs.lemmas.Bool.{false≢true, eqb-true}
use Rattle.pes_packet.specs.AccessUnits.{AccessUnit}
use Rattle.slot_contents.specs.Contents.{run_bytes}
use Rattle.slot_contents.specs.RunLaws.{Fits}
use Rattle.description_parts.specs.Ranges.{IsInRange}
use Rattle.description_parts.specs.Tables.{table_kinds, table_kind, table_count, table_pid}
use Rattle.description_parts.specs.declared.table_kind.TableKind.{TableKind}
use Rattle.slot_plan.specs.declared.slot.Slot.{Slot}
use Rattle.slot_plan.specs.declared.slot.Slot.TheVariants.{Stream, Pcr, Table, Null}
use Rattle.slot_plan.specs.declared.slot.Item.TheVariants.{Table as TableItem}
use Rattle.slot_plan.specs.Items.{is_own}
use Rattle.slot_plan.specs.Schedule.{slot_of}
use Rattle.slot_plan.specs.SlotPids.{slot_pid}
use Rattle.slot_plan.specs.Promised.{Promised}
use Rattle.table_rounds.specs.Tables.{table_content}
use Rattle.table_rounds.specs.Payloads.{TableIsAlone}
use Rattle.table_rounds.proofs.CarriedBytes.{table_carried}
use Rattle.table_rounds.proofs.SectionStarts.{begins}
use Rattle.mux_core.specs.Scheduled.{Scheduled}
use Rattle.mux_core.specs.Histories.{table_of, table_over, table_in, content_in, content_at, content_over, TextsSoFar, unchanged}
use Rattle.mux_core.specs.Headline.{TableKeptOver}
use Rattle.mux_core.proofs.ContentPids.{silent, not_null}

-- A table's own slot is a slot of the table.
own_is : (t : ℕ) (slot : Slot) → is_own (TableItem t) slot ≡ true → slot ≡ Table t
own_is t (Stream k) e = absurd (false≢true e)
own_is t (Pcr i) e = absurd (false≢true e)
own_is t (Table u) e = ap Table (sym (eqb-true t u e))
own_is t Null e = absurd (false≢true e)

is_own_of : (t : ℕ) (slot : Slot) → slot ≡ Table t → is_own (TableItem t) slot ≡ true
is_own_of t slot e = ap (is_own (TableItem t)) e ∙ eq-eqb t t refl

table_named : (d : Scheduled) (t : ℕ) (kind : TableKind) → table_kind d.description t ≡ Some kind →
    slot_pid d.description (Table t) ≡ Some (table_pid d.description t)
unfolding slot_pid
table_named d t kind is = rw is refl

table_at : (d : Scheduled) (changes : TextsSoFar) (units : ℕ → List AccessUnit) (s t : ℕ) (kind : TableKind) → table_kind d.description t ≡ Some kind → slot_of d.schedule s ≡ Table t
    → content_over d changes units s ≡ table_content (table_over d changes t) s
unfolding content_over content_in table_in
table_at d changes units s t kind is e = ap (content_in d changes units s) e ∙ ap (table_in d changes s t) is

pub table_alone_over : (d : Scheduled) (changes : TextsSoFar) (units : ℕ → List AccessUnit) (t : ℕ) (kind : TableKind) → IsInRange d.description → Fits (content_over d changes units) →
    table_kind d.description t ≡ Some kind
    → TableIsAlone (table_over d changes t) (content_over d changes units)
table_alone_over d changes units t kind r fits is = record {
  fits = fits;
  no_null = not_null d (table_pid d.description t) (Table t) r (table_named d t kind is);
  own = λ s y. table_at d changes units s t kind is (own_is t (slot_of d.schedule s) y);
  others = λ s n. silent d changes units s (table_pid d.description t) (Table t) r (table_named d t kind is)
      (λ e. false≢true (sym n ∙ is_own_of t (slot_of d.schedule s) e));
}

pub table_alone : (d : Scheduled) (units : ℕ → List AccessUnit) (t : ℕ) (kind : TableKind) → IsInRange d.description → Fits (content_at d units) →
    table_kind d.description t ≡ Some kind → TableIsAlone (table_of d t) (content_at d units)
table_alone d units t kind r fits is = table_alone_over d unchanged units t kind r fits is

-- A table with a valid index has a kind.
pub there : (ks : List TableKind) (t : ℕ) → t < length ks → (kind : TableKind) × (slice_get ks t ≡ Some kind)
there [] t lt = absurd (omega (arith, lt))
there (k ∷ ks) zero lt = (k, refl)
there (k ∷ ks) (suc t) lt = there ks t (omega (arith, lt))

pub table_kept : (d : Scheduled) (changes : TextsSoFar) (units : ℕ → List AccessUnit) (slots t : ℕ) → IsInRange d.description → Promised d.description d.schedule →
    Fits (content_over d changes units) → t < table_count d.description
    → TableKeptOver d changes t slots (run_bytes (content_over d changes units) 0 slots)
table_kept d changes units slots t r p fits lt =
    let k = there (table_kinds d.description) t lt in
    record {
      sections = table_carried (table_over d changes t) slots (content_over d changes units) (table_alone_over d changes units t k.0 r fits k.1);
      begins = λ j s within on_air before e. begins (table_over d changes t) slots j s (content_over d changes units) (table_alone_over d changes units t k.0 r fits k.1) within on_air before e;
      sections_recur = λ j within. p.sections t j slots lt within;
      sections_apart = λ spaced. p.sections_apart t lt spaced;
    }
