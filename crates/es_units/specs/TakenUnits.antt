-- The findings that remain after units are moved out of them.
use Rattle.std.specs.Prelude.{◌≡◌, ℕ, ◌==◌, false, List, []}
use Rattle.pid_findings.specs.Views.{WhatView, IsPes, FindingView}
use Rattle.demux.specs.Laws.{found_of}

-- the body of a PES packet
unfoldable pub body_of : WhatView → List ℕ
body_of (IsPes header unended body) = body
body_of _ = []

-- the findings of every other PID are unchanged
abbrev pub OthersStay : ℕ → List FindingView → List FindingView → Type 0
OthersStay pid old new = (other : ℕ) → (pid == other) ≡ false → found_of other new ≡ found_of other old
