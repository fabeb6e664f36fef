use Rattle.std.proofs.Common.{◌≡◌, ◌++◌, ◌∷◌, [], ◌∙◌, List, ℕ, sym, ap, append-nil, rules}
use Rattle.dvb_texts.specs.CharacterTables.{in_doubles}
use Rattle.dvb_texts.proofs.CharacterSteps.{doubles_more, doubles_end}
use Rattle.dvb_texts.proofs.character_sets.in_doubles.Goals as goal

pub loop-first-preserved : goal.loop-first-preserved
loop-first-preserved g c =
    c.loop-first.invariant
    ∙ doubles_more c.args.wide c.loop-first.left.now c.in-Some.rest.now c.loop-first.characters.items c.push.new.self.items c.in-Some.first.now
    (c.next_character-next.result.0, c.next_character-next.result.1.now) c.in-Some.ensures.cases.0 c.next_character-next.ensures.value
    c.in_ok-push.ensures.items

pub returns : goal.returns
returns g c =
    sym (c.loop-first.invariant
    ∙ ap (λ (cs : List ℕ). c.loop-first.characters.items ++ cs) (doubles_end c.args.wide c.loop-first.left.now c.in_default.ensures.cases)
    ∙ append-nil c.loop-first.characters.items)
