-- The record that puts new texts on air
use Rattle.std.proofs.Common.{◌≡◌, ◌⊎◌, ◌≤◌, ◌∙◌, ◌++◌, ℕ, Bool, true, false, List, [], append-nil, append_assoc, length, Ok, Err, Result, ap, inl, inr, sym}
use Rattle.pes_packet.specs.Marks.{no_marks}
use Rattle.unit_records.specs.Records.{record_bytes, record_head}
use Rattle.description_parts.specs.Described.{Described}
use Rattle.description_keys.specs.declared.fault.DescError.{DescError}
use Rattle.description_keys.specs.declared.fault.DescError.TheVariants.{Memory}
use Rattle.changed_texts.specs.Reading.{description_in}
use Rattle.job_parts.specs.Parts.{parts_of}
use Rattle.explained_jobs.specs.JobWords.{description_part}
use Rattle.explained_jobs.specs.TextRecords.{IsTextsRecord, due_at, texts_unit, tick_before}

pub record_is : (stream due : ℕ) (texts bytes head before between all : List ℕ) → bytes ≡ texts →
    head ≡ record_head stream no_marks (length bytes) due due → between ≡ before ++ head → all ≡ between ++ bytes →
    all ≡ before ++ record_bytes stream (texts_unit due texts)
record_is stream due texts bytes head before between all same is first joined =
    joined ∙ ap (λ (l : List ℕ). l ++ bytes) (first ∙ ap (λ (h : List ℕ). before ++ h) is)
    ∙ append_assoc before (record_head stream no_marks (length bytes) due due) bytes
    ∙ ap (λ (b : List ℕ). before ++ (record_head stream no_marks (length b) due due ++ b)) same

pub no_tick : (is_front : Bool) (due : ℕ) (all : List ℕ) → is_front ≡ false → all ≡ all ++ tick_before is_front due
no_tick is_front due all none = sym (append-nil all) ∙ ap (λ (b : Bool). all ++ tick_before b due) (sym none)

pub one_tick : (is_front : Bool) (due : ℕ) (before all : List ℕ) → is_front ≡ true → all ≡ before ++ record_bytes 255 (texts_unit due []) →
    all ≡ before ++ tick_before is_front due
one_tick is_front due before all some is = is ∙ ap (λ (b : Bool). before ++ tick_before b due) (sym some)

pub both_records : (is_front : Bool) (due : ℕ) (texts empty tick all : List ℕ) → empty ≡ [] → tick ≡ empty ++ tick_before is_front due →
    all ≡ tick ++ record_bytes 254 (texts_unit due texts) → all ≡ tick_before is_front due ++ record_bytes 254 (texts_unit due texts)
both_records is_front due texts empty tick all none first joined =
    joined ∙ ap (λ (l : List ℕ). l ++ record_bytes 254 (texts_unit due texts)) (first ∙ ap (λ (l : List ℕ). l ++ tick_before is_front due) none)

pub made : (is_front : Bool) (job texts part bytes : List ℕ) (at wait due : ℕ) (frame : Described) → part ≡ description_part job (parts_of job) →
    (◌≡◌ {A = Result Described DescError} (Ok frame) (Err Memory)) ⊎ (◌≡◌ {A = Result Described DescError} (Ok frame) (description_in part)) →
    length texts ≤ 4000000 → due ≡ due_at frame at wait → bytes ≡ tick_before is_front due ++ record_bytes 254 (texts_unit due texts) →
    IsTextsRecord is_front job texts at wait bytes
made is_front job texts part bytes at wait due frame same (inl lack) short is filled = absurd cc
made is_front job texts part bytes at wait due frame same (inr read) short is filled = record {
  frame = frame;
  read = read ∙ ap description_in same;
  size = short;
  is = filled ∙ ap (λ (n : ℕ). tick_before is_front n ++ record_bytes 254 (texts_unit n texts)) is;
}
