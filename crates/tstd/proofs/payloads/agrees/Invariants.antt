use Rattle.std.proofs.Common.{◌≡◌, ℕ, List, ◌++◌, drop, nat_eq}
use Rattle.std.specs.List.{starts_with}
use Rattle.tstd.specs.PayloadWalk.{bytes_ahead}
use Rattle.tstd.proofs.payloads.agrees.Given as goal

abbrev pub invariant-loop-byte : goal.invariant-loop-byte
invariant-loop-byte l = (more : List ℕ) →
    starts_with nat_eq (l.expected ++ more) (bytes_ahead l.fn.payloads) ≡ starts_with nat_eq (drop l.byte-index l.expected ++ more) (bytes_ahead l.payloads)
