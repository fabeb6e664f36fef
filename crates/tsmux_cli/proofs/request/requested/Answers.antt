use Rattle.std.proofs.Common.{Bool, false, ◌==◌, [], ◌∷◌, ◌≡◌, ◌<◌, ℕ, List, length, map, sym, ◌∙◌, ap, arith, eqb-true, inl, inr}
use Rattle.std.proofs.lemmas.Bool.{false≢true}
use Rattle.std.proofs.lemmas.List.{length-map}
use Rattle.std.proofs.Common.{Bor}
use Rattle.clap.specs.Words.{Text, fault_of, subcommand_of}
use Rattle.tsmux_cli.specs.CommandLine.{tsmux_app}
use Rattle.tsmux_cli.specs.Request.{requested_of, subcommand_request}
use Rattle.tsmux_cli.proofs.Subcommands.{faultless, faulty, without_words}
use Rattle.tsmux_cli.proofs.request.requested.Goals as goal

abbrev texts : List (Bor (List ℕ)) → List Text
texts words = map (λ s. s.now) words

count : (words : List (Bor (List ℕ))) → length (texts words) ≡ length words
count words = length-map words (λ s. s.now)

some_text : (words : List (Bor (List ℕ))) (b : Bool) → b ≡ false → b ≡ (length words == 0) → 0 < length (texts words)
some_text [] b e h = absurd (false≢true (sym e ∙ h))
some_text (w ∷ words) b e h = omega (arith, count (w ∷ words))

pub returns-then-is_empty-clause-value : goal.returns-then-is_empty-clause-value
unfolding requested_of
returns-then-is_empty-clause-value c =
    let none : length c.args.words.now ≡ 0 = eqb-true _ _ (sym c.is_empty.ensures ∙ c.if-is_empty.true) in
    let t = texts c.args.words.now in
    sym (without_words t (fault_of tsmux_app t) (subcommand_of tsmux_app t) (count c.args.words.now ∙ none))

pub returns-in-Ok-clause-value : goal.returns-in-Ok-clause-value
returns-in-Ok-clause-value c =
    let t = texts c.args.words.now in
    c.subcommand_request.ensures.value ∙ ap subcommand_request c.in-Ok.ensures.ok
    ∙ sym (faultless t (fault_of tsmux_app t) (subcommand_of tsmux_app t) (some_text c.args.words.now c.is_empty.result c.if-is_empty.false c.is_empty.ensures)
    c.in-Ok.ensures.fault)

pub returns-clause-value : goal.returns-clause-value
returns-clause-value c =
    let t = texts c.args.words.now in
    elim c.in-Err.ensures.fault [
      | inl e ↦ absurd (c.in_default.not-OutOfMemory (c.kind.ensures ∙ e))
      | inr i ↦ sym
          (faulty _ t (fault_of tsmux_app t) (subcommand_of tsmux_app t) (some_text c.args.words.now c.is_empty.result c.if-is_empty.false c.is_empty.ensures)
          i)
    ]
