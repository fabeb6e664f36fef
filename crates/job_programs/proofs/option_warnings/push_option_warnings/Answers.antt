use Rattle.std.proofs.Common.{◌≡◌, ◌++◌, ◌∙◌, List, ap, append_assoc}
use Rattle.job_programs.specs.Warnings.{option_warnings}
use Rattle.job_programs.specs.declared.warning.Warning.{Warning}
use Rattle.job_programs.proofs.option_warnings.push_option_warnings.Goals as goal

-- Three lists are appended in order.
three : (old a b c one two all : List Warning) → one ≡ old ++ a → two ≡ one ++ b → all ≡ two ++ c → all ≡ old ++ ((a ++ b) ++ c)
three old a b c one two all first second third =
    rw (third, second, first) (ap (λ (ws : List Warning). ws ++ c) (append_assoc old a b) ∙ append_assoc old (a ++ b) c)

four : (old a b c d one two more all : List Warning) → one ≡ old ++ a → two ≡ one ++ b → more ≡ two ++ c → all ≡ more ++ d → all ≡ old ++ (((a ++ b) ++ c) ++ d)
four old a b c d one two more all first second third fourth =
    fourth ∙ ap (λ (ws : List Warning). ws ++ d) (three old a b c one two more first second third) ∙ append_assoc old ((a ++ b) ++ c) d

five : (old a b c d e one two more last all : List Warning) → one ≡ old ++ a → two ≡ one ++ b → more ≡ two ++ c → last ≡ more ++ d → all ≡ last ++ e →
    all ≡ old ++ ((((a ++ b) ++ c) ++ d) ++ e)
five old a b c d e one two more last all first second third fourth fifth =
    fifth ∙ ap (λ (ws : List Warning). ws ++ e) (four old a b c d one two more last first second third fourth) ∙ append_assoc old (((a ++ b) ++ c) ++ d) e

pub returns : goal.returns
unfolding option_warnings
returns c =
    five _ _ _ _ _ _ _ _ _ _ _
    c.in_ok-push_selections.ensures c.in_ok-push_pids.ensures c.in_ok-push_buffers.ensures c.in_ok-push_names.ensures c.in_ok-push_pids-2.ensures
