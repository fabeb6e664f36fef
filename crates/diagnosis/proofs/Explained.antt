-- What the report says of the parts of a text, by the reader of each part
use Rattle.std.proofs.Common.{◌≡◌, ◌∙◌, ℕ, List, [], Bool, true, false, Option, Result, Ok, Err, drop, sym, ap, subst}
use Rattle.std.specs.Prelude.{if◌then◌else◌}
use Rattle.std.specs.Str.{IsUtf8, is_utf8}
use Rattle.std.proofs.lemmas.Str.{IsUtf8-from_is_utf8, is_utf8-from_IsUtf8}
use Rattle.description_parts.specs.Described.{Described}
use Rattle.slot_plan.specs.Planned.{Planned}
use Rattle.slot_plan.specs.PlanTexts.{BeginsWithPlan, Refuses}
use Rattle.slot_plan.specs.declared.reader.PlanTextError.{PlanTextError}
use Rattle.slot_plan.specs.declared.reader.PlanTextError.TheVariants as bad_text
use Rattle.job_parts.specs.Parts.{planned}
use Rattle.job_parts.proofs.PlanReaders.{names_line, planned_front}
use Rattle.diagnosis.specs.Explained.{bad_line_words, plan_words, served_words, text_lines}
use Rattle.diagnosis.specs.KeyPlaces.{lines_of}
use Rattle.diagnosis.specs.UnknownWords.{named_words, unnamed_words, word_words}
use Rattle.description_keys.specs.declared.key_row.KeyPart.{KeyPart}

-- 1. The lines of a description

pub lines_text : (bytes text : List ℕ) → text ≡ bytes → IsUtf8 bytes → lines_of text ≡ text_lines bytes
lines_text bytes text e u = ap lines_of e ∙ sym (ap (λ (b : Bool). if b then lines_of bytes else []) (is_utf8-from_IsUtf8 bytes u))

not_utf8 : (bytes : List ℕ) (b : Bool) → is_utf8 bytes ≡ b → ¬ (IsUtf8 bytes) → b ≡ false
not_utf8 bytes true e n = absurd (n (IsUtf8-from_is_utf8 bytes e))
not_utf8 bytes false e n = cc

pub no_lines : (bytes : List ℕ) → ¬ (IsUtf8 bytes) → [] ≡ text_lines bytes
no_lines bytes n =
    sym (ap (λ (b : Bool). if b then lines_of bytes else []) (not_utf8 bytes (is_utf8 bytes) (let same : is_utf8 bytes ≡ is_utf8 bytes = cc in same) n))

-- The words of a line

pub named_text : (part : Option KeyPart) (bytes word : List ℕ) → word ≡ bytes → IsUtf8 bytes → named_words part word ≡ word_words part bytes
named_text part bytes word e u =
    ap (named_words part) e ∙ sym (ap (λ (b : Bool). if b then named_words part bytes else unnamed_words) (is_utf8-from_IsUtf8 bytes u))

pub unnamed_bytes : (part : Option KeyPart) (bytes : List ℕ) → ¬ (IsUtf8 bytes) → unnamed_words ≡ word_words part bytes
unnamed_bytes part bytes n =
    sym (ap (λ (b : Bool). if b then named_words part bytes else unnamed_words)
    (not_utf8 bytes (is_utf8 bytes) (let same : is_utf8 bytes ≡ is_utf8 bytes = cc in same) n))

-- 2. The words of a plan

words_read : (d : Described) (r : Result (Planned × List ℕ) ℕ) (p : Planned) (rest : List ℕ) → r ≡ Ok (p, rest) → served_words d p ≡ plan_words d r
unfolding plan_words
words_read d r p rest e = sym (ap (plan_words d) e)

words_bad : (d : Described) (r : Result (Planned × List ℕ) ℕ) (line : ℕ) → r ≡ Err line → bad_line_words line ≡ plan_words d r
unfolding plan_words
words_bad d r line e = sym (ap (plan_words d) e)

pub of_plan : (d : Described) (text : List ℕ) (p : Planned) (size : ℕ) → BeginsWithPlan text p size → served_words d p ≡ plan_words d (planned text)
of_plan d text p size b = words_read d (planned text) p (drop size text) (planned_front text p size b)

pub of_bad_line : (d : Described) (text : List ℕ) (error : PlanTextError) (line reported : ℕ) → error ≡ bad_text.Line line → line ≡ reported →
    Refuses text error →
    bad_line_words reported ≡ plan_words d (planned text)
of_bad_line d text error line reported e same r =
    ap bad_line_words (sym same) ∙ words_bad d (planned text) line (names_line text (bad_text.Line line) (subst (λ (x : PlanTextError). Refuses text x) e r))
