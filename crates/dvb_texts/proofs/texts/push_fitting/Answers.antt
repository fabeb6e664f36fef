use Rattle.std.proofs.Common.{◌≡◌, length, string_bytes, encode_utf8, rules}
use Rattle.std.proofs.lemmas.Str.{IsUtf8-encode, IsCharBoundary-at_seam}
use Rattle.dvb_texts.proofs.texts.push_fitting.Goals as goal

pub truncate-requires : goal.truncate-requires
truncate-requires g c within =
    let seam = IsCharBoundary-at_seam (string_bytes c.push.new.self) (string_bytes c.args.text.now) (encode_utf8 c.args.character)
    c.in_ok-push.ensures.bytes (IsUtf8-encode c.args.character c.ranges.character.0) in
    let before : c.len-before.result ≡ length (string_bytes c.args.text.now) = search rules in
    rw before (seam.0, λ some. seam.1)
