-- What the laws of this crate say.
use Rattle.std.specs.Prelude.{◌≡◌, List, ℕ, ◌++◌, length, Ok, Err}
use Rattle.psi_tables.specs.CheckWord.{check_word}
use Rattle.psi_tables.specs.Views.{SectionView}
use Rattle.psi_tables.specs.Syntax.{IsSection}
use Rattle.psi_tables.specs.Reading.{section_at}
use Rattle.psi_tables.specs.Encoding.{IsWritable, check_word_bytes, section_bytes}
use Rattle.psi_tables.specs.ProgramAssociation.{PatView, IsPat, PatFits, pat_at, pat_section}
use Rattle.psi_tables.specs.ProgramMap.{PmtView, IsPmt, PmtFits, pmt_at, pmt_section}
use Rattle.psi_tables.specs.declared.error.SectionError.TheVariants.{Short}

-- over a message with its check word after it the register ends 0
abbrev pub CheckWordEnds : Type 0
CheckWordEnds = (message : List ℕ) → check_word (message ++ check_word_bytes (check_word message)) ≡ 0

-- further bytes make no difference, unless the bytes are too short for the section
abbrev pub LongerReadsTheSame : Type 0
LongerReadsTheSame = (bytes more : List ℕ) → (section_at bytes ≡ Err Short → ⊥) → section_at (bytes ++ more) ≡ section_at bytes

-- a section that can be written is encoded by its written bytes, and reading them returns it, whatever bytes follow
pub record WrittenIsRead (s : SectionView) : Type 0 where
  pub section : IsSection (section_bytes s) s
  pub read : (rest : List ℕ) → section_at (section_bytes s ++ rest) ≡ Ok (s, length (section_bytes s))

abbrev pub SectionsAreReadAgain : Type 0
SectionsAreReadAgain = (s : SectionView) → IsWritable s → WrittenIsRead s

-- the section of a PAT can be written, is a PAT with the same content, and is read again as it
pub record PatIsRead (p : PatView) : Type 0 where
  pub writable : IsWritable (pat_section p)
  pub table : IsPat (pat_section p) p
  pub read : pat_at (pat_section p) ≡ Ok p

abbrev pub PatsAreReadAgain : Type 0
PatsAreReadAgain = (p : PatView) → PatFits p → PatIsRead p

-- the section of a PMT can be written, is a PMT with the same content, and is read again as it
pub record PmtIsRead (p : PmtView) : Type 0 where
  pub writable : IsWritable (pmt_section p)
  pub table : IsPmt (pmt_section p) p
  pub read : pmt_at (pmt_section p) ≡ Ok p

abbrev pub PmtsAreReadAgain : Type 0
PmtsAreReadAgain = (p : PmtView) → PmtFits p → PmtIsRead p
