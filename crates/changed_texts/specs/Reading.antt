-- What bytes are read as: a description, or its refusal.
use Rattle.std.specs.Prelude.{ℕ, List, Result, Err, if◌then◌else◌}
use Rattle.std.specs.Str.{is_utf8}
use Rattle.toml.specs.Parse.{parse_document}
use Rattle.description_parts.specs.Described.{Described}
use Rattle.description_keys.specs.declared.fault.DescError.{DescError}
use Rattle.description_keys.specs.declared.fault.DescError.TheVariants.{Refused}
use Rattle.description_keys.specs.declared.fault.DescFault.TheVariants.{Text}
use Rattle.description.specs.Reading.{description_of}

-- bytes that are no UTF-8 are no TOML
unfoldable pub description_in : List ℕ → Result Described DescError
description_in bytes = if is_utf8 bytes then description_of (parse_document bytes) else Err (Refused Text)
