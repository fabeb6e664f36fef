-- The first finding of a stream that a test passes.
use Rattle.std.specs.Prelude.{ℕ, ◌==◌, Bool, false, if◌then◌else◌, List, [], ◌∷◌, Option, Some, None}
use Rattle.pid_findings.specs.Views.{WhatView, IsSection, FindingView}

-- the packet at which it is found
unfoldable pub first_packet : (FindingView → Bool) → List FindingView → Option ℕ
first_packet passes [] = None
first_packet passes (finding ∷ findings) = if passes finding then Some finding.packet else first_packet passes findings

-- a section with a table_id
unfoldable pub has_table_id : ℕ → WhatView → Bool
has_table_id id (IsSection []) = false
has_table_id id (IsSection (table_id ∷ bytes)) = table_id == id
has_table_id id _ = false
