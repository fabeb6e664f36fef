use Rattle.std.proofs.Common.{rules}
use Rattle.std.proofs.lemmas.Str.{chars_from_encodes}
use Rattle.dvb_texts.proofs.texts.utf8_characters.Goals as goal

pub returns : goal.returns
returns g c = search (rules, chars_from_encodes)
