use Rattle.std.proofs.Common.{◌≡◌, ◌++◌, ◌∙◌, sym, true, false, encode_utf8, string_bytes, rules}
use Rattle.std.specs.Char.{is_control}
use Rattle.dvb_texts.specs.Texts.{fits}
use Rattle.dvb_texts.proofs.FittingText.{past_control, with_room, without_room, all_added}
use Rattle.dvb_texts.proofs.texts.fitting.Goals as goal

pub loop-character-preserved-then-is_control : goal.loop-character-preserved-then-is_control
loop-character-preserved-then-is_control g c =
    let control : is_control c.character-item.result ≡ true = search rules in
    c.loop-character.invariant
    ∙ past_control c.args.max_bytes c.loop-character.character-index (string_bytes c.loop-character.text) c.args.characters.now c.character-item.result
    c.loop-character-test.true c.character-item.is control

pub loop-character-preserved : goal.loop-character-preserved
loop-character-preserved g c =
    let shown : is_control c.character-item.result ≡ false = search rules in
    let room : fits c.args.max_bytes (string_bytes c.loop-character.text ++ encode_utf8 c.character-item.result) ≡ true = search rules in
    let made : string_bytes c.push_fitting.new.text ≡ string_bytes c.loop-character.text ++ encode_utf8 c.character-item.result = search rules in
    c.loop-character.invariant
    ∙ with_room c.args.max_bytes c.loop-character.character-index (string_bytes c.loop-character.text) (string_bytes c.push_fitting.new.text)
    c.args.characters.now
    c.character-item.result c.loop-character-test.true c.character-item.is shown room made

pub returns-then-not-branch : goal.returns-then-not-branch
returns-then-not-branch g c =
    let shown : is_control c.character-item.result ≡ false = search rules in
    let full : fits c.args.max_bytes (string_bytes c.loop-character.text ++ encode_utf8 c.character-item.result) ≡ false = search rules in
    let kept : string_bytes c.push_fitting.new.text ≡ string_bytes c.loop-character.text = search rules in
    kept
    ∙ sym (c.loop-character.invariant
    ∙ without_room c.args.max_bytes c.loop-character.character-index (string_bytes c.loop-character.text) c.args.characters.now
    c.character-item.result c.loop-character-test.true c.character-item.is shown full)

pub returns : goal.returns
returns g c =
    sym (c.loop-character.invariant
    ∙ all_added c.args.max_bytes c.loop-character.character-index (string_bytes c.loop-character.text) c.args.characters.now c.loop-character-test.false)
