-- Lines about a loss are reported, whether or not all lines are reported.
use Rattle.std.proofs.Common.{◌≡◌, ◌∙◌, ◌&&◌, ◌||◌, Bool, true, false, List, [], ◌∷◌, length, if◌then◌else◌, ap, refl, sym}
use Rattle.std.specs.Prelude.{◌==◌, filter, not}
use Rattle.std.specs.List.{list_any}
use Rattle.other_tables.specs.OtherTables.{other_tables}
use Rattle.other_tables.specs.TableKinds.{is_loss}
use Rattle.other_tables.specs.declared.tables.OtherTable.{OtherTable}
use Rattle.packet_sync.specs.Fields.{is_loss as is_field_loss}
use Rattle.packet_sync.specs.declared.left_out.FieldLeftOut.{FieldLeftOut}
use Rattle.job_inputs.specs.JobInput.{carries_table}
use Rattle.job_programs.specs.Warnings.{is_damage}
use Rattle.job_programs.specs.declared.warning.Warning.{Warning}
use Rattle.job_run.specs.FieldLines as fields
use Rattle.job_run.specs.GapLines.{any_gap}
use Rattle.job_run.specs.Laws.{StatusStays}
use Rattle.job_run.specs.WarningLines.{is_note, is_open_ended, is_reported}

-- One element, and the kept elements after it
one_kept : {A : Type 0} (lost : A → Bool) (keep all is_lost : Bool) (x : A) (more kept : List A) → lost x ≡ is_lost → list_any lost more ≡ list_any lost kept →
    list_any lost (if keep && (all || is_lost) then x ∷ more else more) ≡ list_any lost (if keep then x ∷ kept else kept)
one_kept lost false all is_lost x more kept is same = same
one_kept lost true true is_lost x more kept is same = ap (λ (b : Bool). lost x || b) same
one_kept lost true false true x more kept is same = ap (λ (b : Bool). lost x || b) same
one_kept lost true false false x more kept is same = same ∙ sym (ap (λ (b : Bool). b || list_any lost kept) is)

-- The kept elements have a loss exactly if the reported elements among them have one.
pub any_kept : {A : Type 0} (keep lost all : A → Bool) (xs : List A) →
    list_any lost (filter (λ x. keep x && (all x || lost x)) xs) ≡ list_any lost (filter keep xs)
any_kept keep lost all [] = refl
any_kept keep lost all (x ∷ xs) =
    one_kept lost (keep x) (all x) (lost x) x (filter (λ y. keep y && (all y || lost y)) xs) (filter keep xs) refl (any_kept keep lost all xs)

four : (s a b c d e f : Bool) → a ≡ d → b ≡ e → c ≡ f → (s || a || b || c) ≡ (s || d || e || f)
four s a b c d e f p q r = rw (p, q, r) refl

pub stays : StatusStays
unfolding is_reported
stays whole quiet all other_quiet other_all notes findings m =
    let fields_kept : FieldLeftOut → Bool = λ f. fields.is_carried m f in
    let fields_lost : FieldLeftOut → Bool = λ f. is_field_loss f.field in
    let tables_kept : OtherTable → Bool = λ t. not (carries_table m t.pid) in
    let tables_lost : OtherTable → Bool = λ t. is_loss t.kind in
    let warnings_kept : Warning → Bool = λ w. not (whole && is_open_ended w) in
    ap (λ (b : Bool). any_gap m notes.gaps || b)
    (four (not (length notes.slips == 0)) _ _ _ _ _ _
    (any_kept fields_kept fields_lost (λ f. all) notes.fields ∙ sym (any_kept fields_kept fields_lost (λ f. other_all) notes.fields))
    (any_kept tables_kept tables_lost (λ t. all) (other_tables findings) ∙ sym (any_kept tables_kept tables_lost (λ t. other_all) (other_tables findings)))
    (any_kept warnings_kept is_damage (λ w. all || is_note w) m.warnings
    ∙ sym (any_kept warnings_kept is_damage (λ w. other_all || is_note w) m.warnings)))
