-- The lines of warnings, one after another
use Rattle.std.proofs.Common.{◌≡◌, ◌∙◌, ◌<◌, ◌≤◌, ◌+◌, ℕ, Bool, List, [], ◌++◌, length, drop, slice_index_or, Option, ap, sym, refl, add-one, append_assoc}
use Rattle.std.proofs.Common.{append-nil}
use Rattle.std.proofs.Math.Seq.{drop-cons}
use Rattle.std.proofs.lemmas.List.{drop_all}
use Rattle.job_programs.specs.declared.warning.Warning.{Warning}
use Rattle.job_run.specs.WarningLines.{line_after, lines_after, run_of}

from_here : (falling : List ℕ) (before : Option (ℕ × Bool)) (warnings : List Warning) (i : ℕ) (d : Warning) → i < length warnings →
    lines_after falling before (drop i warnings) ≡ line_after falling before (slice_index_or warnings i d)
    ++ lines_after falling (run_of (slice_index_or warnings i d)) (drop (i + 1) warnings)
unfolding lines_after
from_here falling before warnings i d h = rw (add-one, drop-cons warnings i d h) refl

pub warnings_more : (falling : List ℕ) (before next : Option (ℕ × Bool)) (warnings : List Warning) (i : ℕ) (d : Warning) (text new whole : List ℕ) → i < length warnings →
    new ≡ text ++ line_after falling before (slice_index_or warnings i d) → next ≡ run_of (slice_index_or warnings i d) →
    text ++ lines_after falling before (drop i warnings) ≡ whole → new ++ lines_after falling next (drop (i + 1) warnings) ≡ whole
warnings_more falling before next warnings i d text new whole h e n w =
    let t = slice_index_or warnings i d in
    let rest = lines_after falling (run_of t) (drop (i + 1) warnings) in
    ap (λ (x : List ℕ). x ++ lines_after falling next (drop (i + 1) warnings)) e
    ∙ ap (λ (o : Option (ℕ × Bool)). (text ++ line_after falling before t) ++ lines_after falling o (drop (i + 1) warnings)) n
    ∙ append_assoc text (line_after falling before t) rest
    ∙ ap (λ (x : List ℕ). text ++ x) (sym (from_here falling before warnings i d h))
    ∙ w

none_left : (falling : List ℕ) (before : Option (ℕ × Bool)) → lines_after falling before [] ≡ []
unfolding lines_after
none_left falling before = refl

pub warnings_all : (falling : List ℕ) (before : Option (ℕ × Bool)) (warnings : List Warning) (i : ℕ) (text whole : List ℕ) → length warnings ≤ i →
    text ++ lines_after falling before (drop i warnings) ≡ whole → text ≡ whole
warnings_all falling before warnings i text whole h w =
    sym (append-nil text) ∙ ap (λ (x : List ℕ). text ++ x) (sym (ap (lines_after falling before) (drop_all i warnings h) ∙ none_left falling before)) ∙ w
