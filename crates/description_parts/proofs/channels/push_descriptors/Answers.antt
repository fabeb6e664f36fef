use Rattle.std.proofs.Common.{sym, ◌∙◌, ◌-◌, refl, length, drop, arith}
use Rattle.std.proofs.lemmas.List.{length-drop, take_all}
use Rattle.description_parts.proofs.ChannelRanges.{descriptors_pushed}
use Rattle.description_parts.proofs.channels.push_descriptors.Goals as goal

pub returns : goal.returns
returns c =
    let entries = c.args.entries.now in
    let first = c.min-first.result in
    descriptors_pushed entries first c.args.out.now.items c.append.new.out.items c.push_descriptor.new.out.items _ _ _
    (sym c.is_empty.ensures ∙ c.if-is_empty.false) c.min-first.ensures c.append.ensures c.push_descriptor.ensures.value
    c.push_descriptor-2.ensures.value refl (take_all (length entries - first) (drop first entries) (omega (arith, length-drop first entries)))
