-- Whether a description may take the place of the texts of a job on air, in words.
use Rattle.std.specs.Prelude.{List, ℕ, [], ◌++◌, Option, Some, None, Result, Ok, Err, codes}
use Rattle.job_parts.specs.Parts.{parts_of}
use Rattle.description_parts.specs.Described.{Described}
use Rattle.description_keys.specs.declared.fault.DescError.{DescError}
use Rattle.description_keys.specs.declared.fault.DescError.TheVariants.{Refused, Memory}
use Rattle.changed_texts.specs.Reading.{description_in}
use Rattle.changed_texts.specs.TextFaults.{text_fault}
use Rattle.changed_texts.specs.declared.fault.TextFault.{TextFault}
use Rattle.on_air.specs.declared.refusals.TextsRefusal.TheVariants.{Unread}
use Rattle.explained_jobs.specs.JobWords.{description_part}
use Rattle.explained_jobs.specs.TextWords.{text_words}
use Rattle.explained_jobs.specs.UnitWords.{refused_texts_words}

-- a description that is refused, after these words
unfoldable pub refused_words : List ℕ → DescError → List ℕ
refused_words front (Refused fault) = front ++ refused_texts_words (Unread fault)
refused_words front Memory = []

unfoldable pub fault_words : Option TextFault → List ℕ
fault_words None = codes "texts: yes\n"
fault_words (Some fault) = text_words fault

-- the answer to new texts, if the first description is also the texts on air
unfoldable pub texts_words : Described → Result Described DescError → List ℕ
texts_words frame (Ok texts) = fault_words (text_fault frame frame texts)
texts_words frame (Err error) = refused_words (codes "") error

unfoldable pub answer_words : Result Described DescError → Result Described DescError → List ℕ
answer_words (Ok frame) texts = texts_words frame texts
answer_words (Err error) texts = refused_words (codes "first ") error

-- the answer to the bytes of a job or a description, and of new texts
abbrev pub text_answer : List ℕ → List ℕ → List ℕ
text_answer job texts = answer_words (description_in (description_part job (parts_of job))) (description_in texts)
