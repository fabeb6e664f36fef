-- What the laws of this crate say.
use Rattle.std.specs.Prelude.{◌≡◌, ℕ, ◌+◌, ◌*◌, ◌^◌, ◌<◌, List, ◌++◌, length}
use Rattle.bit_fields.specs.Fields.{number, fields, width, IsBytes}

-- bytes after bytes, and the bound of a number of bytes
pub record BytesJoin : Type 0 where
  pub joined : (a b : List ℕ) → number (a ++ b) ≡ number a * 256 ^ length b + number b
  pub below : (a : List ℕ) → IsBytes a → number a < 256 ^ length a

-- fields after fields
abbrev pub FieldsJoin : Type 0
FieldsJoin = (a b : List (ℕ × ℕ)) → fields (a ++ b) ≡ fields a * 2 ^ width b + fields b
