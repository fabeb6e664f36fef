-- What a text is read as: the description, or the refusal of the least code and, within it, of the least item.
use Rattle.std.specs.Prelude.{Option, None, Some, Result, Ok, Err}
use Rattle.std.specs.Option.{option_or}
use Rattle.toml.specs.Data.{Data, Members, table}
use Rattle.description_parts.specs.Described.{Described}
use Rattle.description_parts.specs.Contents.{described}
use Rattle.description_keys.specs.Refusals.{key_fault}
use Rattle.description_parts.specs.Consistency.{joint_fault}
use Rattle.description_keys.specs.declared.fault.DescFault.{DescFault}
use Rattle.description_keys.specs.declared.fault.DescFault.TheVariants.{Text}
use Rattle.description_keys.specs.declared.fault.DescError.{DescError}
use Rattle.description_keys.specs.declared.fault.DescError.TheVariants.{Refused}

-- the first refusal of a document
abbrev pub fault : Data → Option DescFault
fault document = option_or (key_fault document) (joint_fault (described document) document)

-- what a document is read as
abbrev pub read_document : Data → Result Described DescError
read_document document = elim (fault document) [ None ↦ Ok (described document) | Some f ↦ Err (Refused f) ]

-- what a text is read as that is TOML with these members, or no TOML at all
abbrev pub description_of : Option Members → Result Described DescError
description_of None = Err (Refused Text)
description_of (Some members) = read_document (table members)
