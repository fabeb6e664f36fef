-- Versions of the events: from a section to a later one, over the moments at which texts changed.
use Rattle.std.proofs.Common.{◌≡◌, ℕ, suc, ◌-◌, ◌<◌, ◌≤◌, true, Option, Some, None, slice_get, refl, sym, ap, subst, ◌∙◌, arith, inl, inr}
use Rattle.std.specs.Prelude.{option_and_then}
use Rattle.std.proofs.lemmas.Bool.{cases_lt, eq-eqb}
use Rattle.own_slots.proofs.Counts.{own_before_lt}
use Rattle.description_parts.specs.Described.{Described}
use Rattle.description_parts.specs.Tables.{table_kinds, table_kind}
use Rattle.description_parts.specs.declared.table_kind.TableKind.{TableKind}
use Rattle.description.specs.SubTables.{sub_table_in, sub_table_of}
use Rattle.description.specs.declared.sub_table.SubTable.{SubTable}
use Rattle.description.specs.declared.sub_table.SubTable.TheVariants.{Events}
use Rattle.slot_plan.specs.declared.slot.Item.TheVariants.{Table as TableItem}
use Rattle.slot_plan.specs.Items.{is_own}
use Rattle.slot_plan.specs.Schedule.{owned}
use Rattle.table_rounds.specs.Tables.{round_places, last_moment}
use Rattle.table_rounds.proofs.CarouselSteps.{last_is}
use Rattle.mux_core.specs.Scheduled.{Scheduled}
use Rattle.mux_core.specs.Histories.{Change, TextsSoFar, FirstTexts, NextTexts, table_over}
use Rattle.mux_core.specs.TextChanges.{ChangesFit, events_table, events_moment}
use Rattle.mux_core.specs.TextLaws.{SectionBegins, MomentsRise, round_moment, HaveEvents, EventVersionLaw}
use Rattle.mux_core.proofs.TextChanges.{round_within, moment_stays}
use Rattle.mux_core.proofs.PlacedTables.{AllPlaced}
use Rattle.mux_core.proofs.SentVersions.{MovesOn, UpTo, up_to, one_section}

events_placed : (d : Described) (changes : TextsSoFar) (p : ℕ) → HaveEvents d changes → AllPlaced d changes (Events p)
events_placed d (FirstTexts past) p have = (inr have.0, inr have.1)
events_placed d (NextTexts change earlier) p have = (inr have.0, events_placed d earlier p have.1)

-- The moment of a section that begins before a change
moment_earlier : (d : Scheduled) (change : Change) (earlier : TextsSoFar) (t s : ℕ) → s < change.from →
    round_moment d (NextTexts change earlier) t s ≡ round_moment d earlier t s
moment_earlier d change earlier t s lt =
    let within = round_within (table_over d earlier t).own (round_places (table_over d earlier t).lengths) s in
    moment_stays d change earlier t (suc s) (omega (arith, within, lt))

rise_earlier : (d : Scheduled) (change : Change) (earlier : TextsSoFar) (t s b : ℕ) → b < change.from → MomentsRise d (NextTexts change earlier) t s b →
    MomentsRise d earlier t s b
rise_earlier d change earlier t s b lt rise i k from up within =
    let le = rise i k from up within in
    let a = moment_earlier d change earlier t i (omega (arith, up, within, lt)) in
    let c = moment_earlier d change earlier t k (omega (arith, within, lt)) in
    omega (arith, le, a, c)

-- The moment at which a change counts versions, past a section of the events
some_kind : (d : Described) (o : Option TableKind) (j : ℕ) (x : SubTable) → option_and_then (λ k. sub_table_in d k j) o ≡ Some x → (k : TableKind) × (o ≡ Some k)
some_kind d None j x is = absurd (cc)
some_kind d (Some k) j x is = (k, refl)

events_at : (d : Scheduled) (changes : TextsSoFar) (t j s b : ℕ) (x : SubTable) → t ≡ events_table d.description → sub_table_of d.description t j ≡ Some x →
    SectionBegins d t j s → s ≤ b → events_moment d changes (suc b) ≡ round_moment d changes t b
events_at d changes t j s b x table of begins le =
    let kind = some_kind d.description (table_kind d.description t) j x of in
    let own : owned d.schedule (TableItem t) s ≡ true = ap (is_own (TableItem t)) begins.table ∙ eq-eqb t t refl in
    let had = own_before_lt (owned d.schedule (TableItem t)) s (suc b) own (omega (arith, le)) in
    ap (λ (u : ℕ). of_kind u (slice_get (table_kinds d.description) u)) (sym table)
    ∙ ap (of_kind t) kind.1
    ∙ last_is (table_over d changes t) (suc b) (omega (arith, had))
  where
    of_kind : ℕ → Option TableKind → ℕ
    of_kind u o = elim o [ None ↦ d.description.start | Some kind ↦ last_moment (table_over d changes u) (suc b) ]

moves_to : (d : Scheduled) (changes : TextsSoFar) (slot t j s b last to : ℕ) (x : SubTable) → t ≡ events_table d.description →
    sub_table_of d.description t j ≡ Some x → SectionBegins d t j s → s ≤ b → ChangesFit d.description slot changes → UpTo changes (suc b) → UpTo changes last →
    MomentsRise d changes t s b → round_moment d changes t b ≤ to → MovesOn d changes s last (round_moment d changes t s) to
moves_to d (FirstTexts past) slot t j s b last to x table of begins le fit up within rise end =
    let first = rise s b (omega arith) le (omega arith) in omega (arith, first, end)
moves_to d (NextTexts change earlier) slot t j s b last to x table of begins le fit up within rise end = elim (cases_lt s change.from) [
  | inl lt ↦
      let c = change.from - 1 in
      let next : change.from ≡ suc c = omega (arith, lt) in
      let before : c < change.from = omega (arith, lt) in
      let since : s ≤ c = omega (arith, lt) in
      let at : events_moment d earlier change.from ≡ round_moment d earlier t c =
      ap (events_moment d earlier) next ∙ events_at d earlier t j s c x table of begins since in
      let rest = moves_to d earlier change.from t j s c last (events_moment d earlier change.from) x table of begins since fit.1
      (up_to d.description change.from (suc c) earlier fit.1 (omega (arith, next))) (up_to d.description change.from last earlier fit.1 within)
      (rise_earlier d change earlier t s c before (λ i k from up_k le_k. rise i k from up_k (omega (arith, le_k, next, up)))) (omega (arith, at)) in
      let here = moment_earlier d change earlier t c before in
      let onward = rise c b since (omega (arith, next, up)) (omega arith) in
      inr (
        within,
        inr (
          lt,
          subst (λ (m : ℕ). MovesOn d earlier s last m (events_moment d earlier change.from)) (sym (moment_earlier d change earlier t s lt)) rest,
          omega (arith, at, here, onward, end),
        ),
      )
  | inr since ↦ let first = rise s b (omega arith) le (omega arith) in inr (within, inl (since, omega (arith, first, end)))
]

moves : (d : Scheduled) (changes : TextsSoFar) (slot t j s last : ℕ) (x : SubTable) → t ≡ events_table d.description →
    sub_table_of d.description t j ≡ Some x → SectionBegins d t j s → s ≤ last → ChangesFit d.description slot changes → MomentsRise d changes t s last →
    MovesOn d changes s last (round_moment d changes t s) (round_moment d changes t last)
moves d (FirstTexts past) slot t j s last x table of begins le fit rise = rise s last (omega arith) le (omega arith)
moves d (NextTexts change earlier) slot t j s last x table of begins le fit rise = elim (cases_lt last change.from) [
  | inl before ↦
      let rest = moves d earlier change.from t j s last x table of begins le fit.1 (rise_earlier d change earlier t s last before rise) in
      let first = moment_earlier d change earlier t s (omega (arith, le, before)) in
      let end = moment_earlier d change earlier t last before in
      inl (
        before,
        subst (λ (m : ℕ). MovesOn d earlier s last m (round_moment d (NextTexts change earlier) t last)) (sym first)
            (subst (MovesOn d earlier s last (round_moment d earlier t s)) (sym end) rest),
      )
  | inr on ↦ moves_to d (NextTexts change earlier) slot t j s last last (round_moment d (NextTexts change earlier) t last) x table of begins le fit
      (omega (arith, on)) on rise (omega arith)
]

pub event_version_law : EventVersionLaw
event_version_law d changes slots t j first last p ranges fit made have table within of begins over le rise =
    one_section d changes slots t j first last (Events p) ranges fit made (events_placed d.description changes p have) within of begins over le
    (inr (moves d changes slots t j first last (Events p) table of begins le fit rise))
