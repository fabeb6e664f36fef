use Rattle.std.proofs.Common.{rules, length, ◌≡◌, ◌∙◌, sym, ℕ, List, [], ◌∷◌, ◌++◌, ap₂, subst, nat_eq}
use Rattle.indexmap.specs.IndexMap.{insert_entry}
use Rattle.es_view.specs.declared.stream_entry.StreamEntry.{StreamEntry}
use Rattle.ts_report.specs.StreamTables.{AreEntries}
use Rattle.ts_report.proofs.Entries.{one_more, same_length}
use Rattle.ts_report.proofs.stream_table.StreamTable.add.Goals as goal

pub returns : goal.returns
returns c = λ t e k i.
    let len : c.len.result ≡ length c.args.self.now.entries.items = search rules in
    record {
      choice = k.choice;
      places = c.in_ok-insert.ensures.entries
          ∙ ap₂ (λ (m : List (ℕ × ℕ)) (n : ℕ). insert_entry nat_eq m c.args.pid n) k.places
          (len ∙ same_length c.args.self.now.entries.items t.entries k.entries);
      entries = subst (λ (bs : List StreamEntry). AreEntries bs (t.entries ++ e ∷ [])) (sym c.in_ok-push.ensures.items)
          (one_more c.args.self.now.entries.items t.entries c.args.entry e k.entries i);
    }
