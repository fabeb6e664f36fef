use Rattle.std.proofs.Common.{◌≡◌, ℕ, ◌≤◌, ◌<◌, [], ◌∷◌, List, length, Option, None, Some, option_map, IfSome, IfNone, is_some, true, false, sym, ap, arith}
use Rattle.std.specs.Borrow.{Bor}
use Rattle.psi_tables.specs.Loops.{EntryView, entry_at, loop_at, entries_in, entry_view}
use Rattle.psi_tables.specs.declared.entries.Entry.{Entry}
use Rattle.psi_tables.proofs.LoopParts.{whole-step, entries-step, entries-end, loop_at-stop}
use Rattle.psi_tables.proofs.entries.entry_at.Goals as goal

abbrev Read : ℕ → List ℕ → Option (Entry × Bor (List ℕ)) → Type 0
Read k bytes r = option_map (λ p. (entry_view p.0, p.1.now)) r ≡ entry_at k bytes

whole_of : (k : ℕ) (bytes : List ℕ) (r : Option (Entry × Bor (List ℕ))) → 2 ≤ k → Read k bytes r
    → IfSome r (λ p. is_some (loop_at k bytes) ≡ is_some (loop_at k p.1.now))
whole_of k bytes None h e = tt
whole_of k bytes (Some p) h e = whole-step k bytes (entry_view p.0, p.1.now) (omega arith) (sym e)

next_of : (k : ℕ) (bytes : List ℕ) (r : Option (Entry × Bor (List ℕ))) → 2 ≤ k → Read k bytes r
    → IfSome r (λ p. is_some (loop_at k bytes) ≡ true → entries_in k bytes ≡ entry_view p.0 ∷ entries_in k p.1.now)
next_of k bytes None h e = tt
next_of k bytes (Some p) h e = entries-step k bytes (entry_view p.0, p.1.now) (omega arith) (sym e)

stop_of : (k : ℕ) (bytes : List ℕ) (r : Option (Entry × Bor (List ℕ))) → Read k bytes r
    → IfNone r (0 < length bytes → is_some (loop_at k bytes) ≡ false)
stop_of k bytes None e = λ some. ap (λ (o : Option (List EntryView)). is_some o) (loop_at-stop k bytes some (sym e))
stop_of k bytes (Some p) e = tt

end_of : (k : ℕ) (bytes : List ℕ) (r : Option (Entry × Bor (List ℕ))) → Read k bytes r
    → IfNone r (is_some (loop_at k bytes) ≡ true → entries_in k bytes ≡ [])
end_of k bytes None e = λ h. entries-end k bytes (sym e) h
end_of k bytes (Some p) e = tt

pub returns-clause-end : goal.returns-clause-end
returns-clause-end c = end_of c.args.head_length c.args.bytes.now c.first_entry.result c.first_entry.ensures.exact

pub returns-clause-whole : goal.returns-clause-whole
returns-clause-whole c = whole_of c.args.head_length c.args.bytes.now c.first_entry.result c.requires c.first_entry.ensures.exact

pub returns-clause-next : goal.returns-clause-next
returns-clause-next c = next_of c.args.head_length c.args.bytes.now c.first_entry.result c.requires c.first_entry.ensures.exact

pub returns-clause-stop : goal.returns-clause-stop
returns-clause-stop c = stop_of c.args.head_length c.args.bytes.now c.first_entry.result c.first_entry.ensures.exact
