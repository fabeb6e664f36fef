-- The program that has the stream of a PID.
use Rattle.std.proofs.Common.{◌≡◌, ◌≤◌, ◌<◌, ℕ, ◌+◌, ◌==◌, true, false, List, length, drop, get_or, Some, None, refl, sym, add-one}
use Rattle.std.proofs.Math.Seq.{drop-cons}
use Rattle.std.proofs.lemmas.List.{drop_all}
use Rattle.stream_programs.specs.Streams.{FoundStreamView, holder}

pub holder_other : (pid i : ℕ) (ss : List FoundStreamView) (s : FoundStreamView) → i < length ss → s ≡ get_or ss i s → (s.pid == pid) ≡ false →
    holder pid (drop i ss) ≡ holder pid (drop (i + 1) ss)
unfolding holder
holder_other pid i ss s below at other = rw (drop-cons ss i s below, add-one i, sym at, other) refl

pub holder_here : (pid i : ℕ) (ss : List FoundStreamView) (s : FoundStreamView) → i < length ss → s ≡ get_or ss i s → (s.pid == pid) ≡ true →
    holder pid (drop i ss) ≡ Some s.program
unfolding holder
holder_here pid i ss s below at own = rw (drop-cons ss i s below, sym at, own) refl

pub holder_end : (pid i : ℕ) (ss : List FoundStreamView) → length ss ≤ i → holder pid (drop i ss) ≡ None
unfolding holder
holder_end pid i ss over = rw (drop_all i ss over) refl
