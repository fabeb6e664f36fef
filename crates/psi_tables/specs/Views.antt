-- A section as its header and its body, a list of bytes.
use Rattle.std.specs.Prelude.{ℕ, List}
use Rattle.psi_tables.specs.declared.section.SectionHeader.{SectionHeader}
use Rattle.psi_tables.specs.declared.section.Section.{Section}

-- the header of a section and its body
pub record SectionView : Type 0 where
  pub header : SectionHeader
  pub body : List ℕ

-- the content of a section
abbrev pub section_view : Section → SectionView
section_view s = record { header = s.header; body = s.body.now }

-- the content of a section, with the number of bytes that it takes
abbrev pub sized_view : Section × ℕ → SectionView × ℕ
sized_view p = (section_view p.0, p.1)
