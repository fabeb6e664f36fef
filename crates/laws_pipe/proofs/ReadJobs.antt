-- A written job as `mux` reads it.
use Rattle.std.proofs.Common.{◌≡◌, ◌≤◌, ℕ, ◌+◌, Bool, true, false, if◌then◌else◌, List, ◌++◌, length, take, drop, take_at, drop_at, Option, Some, None, is_some}
use Rattle.std.proofs.Common.{Result, Ok, Err, IsUtf8, option_map, refl, sym, ap, ap₂, ◌∙◌, subst, arith, append_assoc, length-append}
use Rattle.std.specs.Option.{option_or}
use Rattle.std.proofs.lemmas.List.Elements.{All-weaker}
use Rattle.std.proofs.lemmas.Str.{is_utf8-from_IsUtf8}
use Rattle.toml.specs.Parse.{parse_document}
use Rattle.toml.specs.Data.{Data, Members, table}
use Rattle.pes_packet.specs.AccessUnits.{AccessUnit}
use Rattle.description_parts.specs.Consistency.{joint_fault}
use Rattle.description_parts.specs.Contents.{described as described_by}
use Rattle.description_parts.specs.Described.{Described}
use Rattle.description_parts.specs.Ranges.{IsInRange}
use Rattle.changed_texts.specs.Reading.{description_in}
use Rattle.description.specs.Reading.{description_of, fault, read_document}
use Rattle.description_keys.specs.Refusals.{key_fault}
use Rattle.description_parts.specs.Tables.{has_events_table, only_if, service_tables, table_count}
use Rattle.description_parts.specs.declared.table_kind.TableKind.TheVariants.{Eit, Nit, Sdt, Tdt}
use Rattle.description_keys.specs.declared.fault.DescError.{DescError}
use Rattle.description_keys.specs.declared.fault.DescError.TheVariants as refused_by
use Rattle.description_keys.specs.declared.fault.DescFault.{DescFault}
use Rattle.description_keys.specs.declared.fault.DescFault.TheVariants as desc
use Rattle.description_parts.proofs.TableNumbers.{table_count-is}
use Rattle.description_parts.proofs.WholeInRange.{described-in_range}
use Rattle.slot_plan.specs.Conditions.{IsServing}
use Rattle.slot_plan.specs.Entries.{Entry}
use Rattle.slot_plan.specs.Planned.{Planned, plan_error}
use Rattle.slot_plan.specs.Plans.{IsByteSlot, IsPlan}
use Rattle.slot_plan.specs.ServingLaws.{IsNamed}
use Rattle.slot_plan.specs.Text.{plan_text}
use Rattle.slot_plan.specs.declared.slot.Slot.{Slot}
use Rattle.slot_plan.specs.declared.slot.Slot.TheVariants.{Stream, Pcr, Table, Null}
use Rattle.slot_plan.proofs.NamedSlots.{named_law}
use Rattle.slot_plan.proofs.TextPlans.{plan-complete}
use Rattle.stream_jobs.specs.Rates.{IsText}
use Rattle.es_feed.specs.Records.{records_of, written}
use Rattle.checked_jobs.specs.Jobs.{Fails, described, job, job_of, of_parts, unless_failed, with_description, with_plan}
use Rattle.job_parts.specs.Parts.{fault_of, parts_of, plan_offset, planned}
use Rattle.checked_jobs.specs.MuxJobs.{mux_job_of, served, with_records, with_units}
use Rattle.checked_jobs.specs.UnitList.{units_in}
use Rattle.laws_pipe.proofs.PlainLines.{Passes}

-- 1. A description that is read is in its ranges

unfaulty : (d : Described) (o : Option DescFault) (x : Described) →
    ◌≡◌ {A = Result Described DescError} (Ok x) (elim o as (λ _. Result Described DescError) [ None ↦ Ok d | Some f ↦ Err (refused_by.Refused f) ]) →
    (o ≡ None) × (x ≡ d)
unfaulty d None x e = let same : x ≡ d = cc in (refl, same)
unfaulty d (Some f) x e = absurd cc

first_none : (a b : Option DescFault) → option_or a b ≡ None → (a ≡ None) × (b ≡ None)
first_none None b e = (refl, e)
first_none (Some f) b e = absurd cc

of_document : (document : Data) (d : Described) → Ok d ≡ read_document document → IsInRange d
of_document document d e =
    let none = unfaulty (described_by document) (fault document) d e in
    let both = first_none (key_fault document) (joint_fault (described_by document) document) none.0 in
    subst IsInRange (sym none.1) (described-in_range document both.0 both.1)

of_members : (o : Option Members) (d : Described) → Ok d ≡ description_of o → IsInRange d
of_members None d e = absurd cc
of_members (Some members) d e = of_document (table members) d e

pub text_in_range : (d : Described) (text : List ℕ) → IsText d text → IsInRange d
text_in_range d text is = of_members (parse_document text) d is

-- 2. A plan that serves a description has numbers in range

only_one : {X : Type 0} (b : Bool) (x : X) → length (only_if b x) ≤ 1
only_one true x = omega arith
only_one false x = omega arith

both_lists : {X : Type 0} (a b : List X) (m n : ℕ) → length a ≤ m → length b ≤ n → length (a ++ b) ≤ m + n
both_lists a b m n p q = omega (arith, length-append a b, p, q)

few_tables : (d : Described) → IsInRange d → table_count d ≤ 133
few_tables d ranges =
    let two = both_lists (only_if (is_some d.network) Nit) (only_if d.has_sdt Sdt) 1 1 (only_one (is_some d.network) Nit) (only_one d.has_sdt Sdt) in
    let three =
    both_lists (only_if (is_some d.network) Nit ++ only_if d.has_sdt Sdt) (only_if (has_events_table d) Eit) 2 1 two
    (only_one (has_events_table d) Eit) in
    let four : length (service_tables d) ≤ 4 =
    both_lists (only_if (is_some d.network) Nit ++ only_if d.has_sdt Sdt ++ only_if (has_events_table d) Eit) (only_if d.has_tdt Tdt) 3 1 three
    (only_one d.has_tdt Tdt) in
    omega (arith, table_count-is d, ranges.most_programs, ranges.most_tables, four)

small_slot : (d : Described) (slot : Slot) → IsInRange d → IsNamed d slot → IsByteSlot slot
small_slot d (Stream n) ranges named = omega (arith, named, ranges.most_streams)
small_slot d (Pcr n) ranges named = omega (arith, named.0, ranges.most_programs)
small_slot d (Table n) ranges named = omega (arith, named, few_tables d ranges)
small_slot d Null ranges named = tt

pub plan_is : (d : Described) (p : Planned) → IsInRange d → IsServing d p → plan_error p.slots p.certificate ≡ None → IsPlan p
plan_is d p ranges serving within = record {
  numbers = All-weaker (IsNamed d) IsByteSlot (λ slot named. small_slot d slot ranges named) p.slots (named_law d p serving);
  within = within;
}

-- 3. The parts of a job

-- The plan begins where its text begins.
begins : (i : ℕ) (p : Planned) (rest : List ℕ) → plan_offset i true (plan_text p ++ rest) ≡ Some i
begins i p rest = refl

place : (text rest : List ℕ) (p : Planned) → Passes text → plan_offset 0 true ((text ++ plan_text p) ++ rest) ≡ Some (length text)
place text rest p passes =
    let size : 0 + length text ≡ length text = omega arith in
    ap (plan_offset 0 true) (append_assoc text (plan_text p) rest) ∙ passes 0 (plan_text p ++ rest) ∙ begins (0 + length text) p rest ∙ ap Some size

abbrev cut_at : List ℕ → ℕ → List ℕ × List ℕ
cut_at xs i = (take i xs, drop i xs)

abbrev both_parts : List ℕ → List ℕ → Option (List ℕ × List ℕ)
both_parts front back = Some (front, back)

cut : (text rest : List ℕ) (p : Planned) → Passes text → parts_of ((text ++ plan_text p) ++ rest) ≡ Some (text, plan_text p ++ rest)
cut text rest p passes =
    let whole = append_assoc text (plan_text p) rest in
    let front : take (length text) ((text ++ plan_text p) ++ rest) ≡ text =
    ap (take (length text)) whole ∙ take_at text (plan_text p ++ rest) (length text) refl in
    let back : drop (length text) ((text ++ plan_text p) ++ rest) ≡ plan_text p ++ rest =
    ap (drop (length text)) whole ∙ drop_at text (plan_text p ++ rest) (length text) refl in
    ap (option_map (cut_at ((text ++ plan_text p) ++ rest))) (place text rest p passes) ∙ ap₂ both_parts front back

described_again : (d : Described) (text : List ℕ) → IsUtf8 text → IsText d text → described text ≡ Ok d
unfolding description_in
described_again d text utf8 is =
    ap (λ (b : Bool). if b then description_of (parse_document text) else Err (refused_by.Refused desc.Text)) (is_utf8-from_IsUtf8 text utf8) ∙ sym is

planned_again : (p : Planned) (rest : List ℕ) → IsPlan p → planned (plan_text p ++ rest) ≡ Ok (p, rest)
unfolding planned
planned_again p rest is = plan-complete p rest is

no_fault : (d : Described) (p : Planned) → IsServing d p → fault_of d p ≡ None
unfolding fault_of
no_fault d p serving = serving

-- 4. The whole job

pub plans_again : (d : Described) (p : Planned) (text rest : List ℕ) → Passes text → IsUtf8 text → IsText d text → IsServing d p →
    plan_error p.slots p.certificate ≡ None →
    job_of false ((text ++ plan_text p) ++ rest) ≡ Ok (job d p None rest)
unfolding job_of
plans_again d p text rest passes utf8 is serving within =
    ap (of_parts false) (cut text rest p passes)
    ∙ ap (with_description false (plan_text p ++ rest)) (described_again d text utf8 is)
    ∙ ap (with_plan false d) (planned_again p rest (plan_is d p (text_in_range d text is) serving within))
    ∙ ap (λ (o : Option Entry). unless_failed Fails o (Ok (job d p None rest))) (no_fault d p serving)

pub job_again : (d : Described) (p : Planned) (text : List ℕ) (units : List (ℕ × AccessUnit)) → Passes text → IsUtf8 text → IsText d text → IsServing d p →
    plan_error p.slots p.certificate ≡ None → units_in (records_of units) ≡ Ok units →
    mux_job_of false (written text (plan_text p) units) ≡ Ok (served (job d p None (records_of units)) units)
unfolding with_records with_units
job_again d p text units passes utf8 is serving within read =
    ap with_records (plans_again d p text (records_of units) passes utf8 is serving within) ∙ ap (with_units (job d p None (records_of units))) read
