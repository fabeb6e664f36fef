-- A refusal, as the condition that fails.
use Rattle.std.specs.Prelude.{Option, Some, None, Result, Ok, Err}
use Rattle.slot_plan.specs.Entries.{Entry}
use Rattle.plan_checker.specs.declared.refusal.Refusal.{Refusal}

-- the condition that a refusal names, with its two numbers
abbrev pub entry_of : Refusal → Entry
entry_of r = record { condition = r.condition; part = r.part; item = r.item; relation = r.relation; left = r.left; right = r.right }

-- the condition that failed, if one did
abbrev pub failed : {V : Type 0} → Result V Refusal → Option Entry
failed (Ok v) = None
failed (Err r) = Some (entry_of r)

-- the same for an answer that hands its inputs back
abbrev pub refusal_of : {V D P : Type 0} → Result V (Refusal × D × P) → Option Entry
refusal_of (Ok v) = None
refusal_of (Err e) = Some (entry_of e.0)
