use Rattle.std.proofs.Common.{arith, length-append, ap, length, ◌≡◌, ◌∙◌, ◌≤◌, ◌++◌, refl}
use Rattle.description.specs.SectionBytes.{tag_bytes, language_bytes, stream_descriptors}
use Rattle.description.proofs.LoopLengths.{stream_descriptors-length, tag-most, language-most}
use Rattle.description.proofs.program_map.stream_descriptors.Goals as goal

pub push_language-requires : goal.push_language-requires
push_language-requires c =
    let is : length c.push_tag.new.out.items ≡ length (tag_bytes c.args.stream.now.tag) = ap length (rw c.new-bytes.ensures at c.push_tag.ensures) in
    let most = tag-most c.args.stream.now.tag in
    omega (arith, is, most)

pub append-requires : goal.append-requires
append-requires c =
    let tag : length c.push_tag.new.out.items ≡ length (tag_bytes c.args.stream.now.tag) = ap length (rw c.new-bytes.ensures at c.push_tag.ensures) in
    let both : length c.push_language.new.out.items ≡ length (c.push_tag.new.out.items ++ language_bytes c.args.stream.now.language) =
    ap length c.push_language.ensures in
    let sum = length-append c.push_tag.new.out.items (language_bytes c.args.stream.now.language) in
    let few = tag-most c.args.stream.now.tag in
    let some = language-most c.args.stream.now.language c.requires.language in
    let own : length c.as_bytes.result.now ≤ 700 = rw c.as_bytes.ensures.value c.as_bytes.ensures.fits in
    (omega arith, omega (arith, tag, both, sum, few, some, own))

pub returns-clause-length : goal.returns-clause-length
returns-clause-length c =
    let items : length c.append.new.out.items ≡ length (stream_descriptors c.args.stream.now) =
    ap length (c.append.ensures.items ∙ rw (c.push_language.ensures, c.push_tag.ensures, c.new-bytes.ensures, c.as_bytes.ensures.value) refl) in
    items ∙ stream_descriptors-length c.args.stream.now c.requires
