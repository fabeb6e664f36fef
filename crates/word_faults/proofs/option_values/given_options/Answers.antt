use Rattle.std.proofs.Common.{◌∙◌, List, ℕ, Bor, Some, inl, inr, ap, map, sym}
use Rattle.clap.specs.Words.{fault_of, matches_of}
use Rattle.word_faults.specs.GivenOptions.{app_of_options}
use Rattle.word_faults.specs.OptionRows.{view}
use Rattle.word_faults.proofs.GivenOptions.{faultless, refused}
use Rattle.word_faults.proofs.option_values.given_options.Goals as goal

pub returns-in-Ok : goal.returns-in-Ok
returns-in-Ok c =
    let app = app_of_options c.args.program.now (map view c.args.options.now) in
    let words = map (λ (s : Bor (List ℕ)). s.now) c.args.words.now in
    ap Some c.in-Ok.ensures.ok ∙ faultless (fault_of app words) (matches_of app words) c.in-Ok.ensures.fault

pub returns : goal.returns
returns c =
    let app = app_of_options c.args.program.now (map view c.args.options.now) in
    let words = map (λ (s : Bor (List ℕ)). s.now) c.args.words.now in
    elim c.in-Err.ensures.fault [
      | inl e ↦ absurd (c.in_default.not-OutOfMemory (c.kind.ensures ∙ e))
      | inr i ↦ sym (refused _ (fault_of app words) (matches_of app words) i)
    ]
