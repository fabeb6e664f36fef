-- The unit that is open after a packet, from the unit that is open before it.
use Rattle.std.proofs.Common.{◌≡◌, ℕ, Bool, true, false, List, [], ◌∷◌, ◌++◌, Option, Some, None, refl, sym, ap, ◌∙◌, append_assoc}
use Rattle.std.specs.Prelude.{option_and_then, option_map, ◌||◌, is_some}
use Rattle.std.proofs.lemmas.List.{append-nil}
use Rattle.pid_findings.specs.Views.{WhatView}
use Rattle.pid_findings.specs.Marks.{Marked}
use Rattle.pid_findings.specs.Roles.{Role, NoPayload, ScrambledPayload, PesStart, SectionStart, PointerPastEnd, Continuation, role, role_divides}
use Rattle.pid_findings.specs.OpenUnits.{OpenUnit, decided, appended, section, last_in}
use Rattle.pid_findings.specs.declared.open_unit.UnitKind.TheVariants as unit_kinds
use Rattle.pid_findings.specs.Findings.{begins, continuing, divider, divides, joined, open_after, stretch, undecided, unless_decided}
use Rattle.pid_findings.specs.Machine.{next_open, unbroken}
use Rattle.pid_findings.proofs.DecidedBytes.{last_undecided, undecided_before}

some_is_not_none : (w : WhatView) → ◌≡◌ {A = Option WhatView} (Some w) None → ⊥
some_is_not_none w e = absurd cc

-- A unit that begins with more bytes after it is the unit with these bytes appended.
begins_more : (packet : ℕ) (r : Role) (a b : List ℕ) → begins packet r (a ++ b) ≡ option_map (λ p. appended p b) (begins packet r a)
unfolding begins
begins_more packet NoPayload a b = refl
begins_more packet ScrambledPayload a b = refl
begins_more packet (PesStart access payload) a b =
    ap (λ (x : List ℕ). Some (record { packet = packet; kind = unit_kinds.Pes; access = access; bytes = x })) (sym (append_assoc payload a b))
begins_more packet (SectionStart before bytes) a b = by_rest (last_in 0 bytes)
  where
    by_rest : (o : Option (List ℕ)) →
        option_map (λ rest. section packet (rest ++ (a ++ b))) o ≡ option_map (λ p. appended p b) (option_map (λ rest. section packet (rest ++ a)) o)
    by_rest None = refl
    by_rest (Some rest) = ap (λ (x : List ℕ). Some (section packet x)) (sym (append_assoc rest a b))
begins_more packet PointerPastEnd a b = refl
begins_more packet (Continuation payload) a b = refl

-- The unit that begins with no bytes after it is open, if it is undecided.
begins_new : (packet : ℕ) (r : Role) (open_unit : Option OpenUnit) → role_divides r ≡ true →
    option_and_then undecided (begins packet r []) ≡ next_open packet r open_unit
unfolding begins next_open undecided unless_decided
begins_new packet NoPayload open_unit d = absurd cc
begins_new packet ScrambledPayload open_unit d = refl
begins_new packet (PesStart access payload) open_unit d =
    ap (λ (x : List ℕ). undecided (record { packet = packet; kind = unit_kinds.Pes; access = access; bytes = x })) (append-nil payload)
begins_new packet (SectionStart before bytes) open_unit d = by_rest (last_in 0 bytes) refl
  where
    by_rest : (o : Option (List ℕ)) → last_in 0 bytes ≡ o →
        option_and_then undecided (option_map (λ rest. section packet (rest ++ [])) o) ≡ option_map (section packet) o
    by_rest None e = refl
    by_rest (Some rest) e = rw (append-nil rest, last_undecided 0 bytes rest e) refl
begins_new packet PointerPastEnd open_unit d = refl
begins_new packet (Continuation payload) open_unit d = absurd cc

-- After a break only a unit that begins is open.
begins_broken : (packet : ℕ) (r : Role) → option_and_then undecided (begins packet r []) ≡ next_open packet r None
unfolding begins next_open
begins_broken packet NoPayload = refl
begins_broken packet ScrambledPayload = refl
begins_broken packet (PesStart access payload) = begins_new packet (PesStart access payload) None refl
begins_broken packet (SectionStart before bytes) = begins_new packet (SectionStart before bytes) None refl
begins_broken packet PointerPastEnd = refl
begins_broken packet (Continuation payload) = refl

-- A continued unit is decided with its new bytes exactly if it was decided before or the new bytes decide it.
grows : (packet : ℕ) (c : List ℕ) (p : OpenUnit) → undecided (appended p c) ≡ next_open packet (Continuation c) (undecided p)
unfolding next_open undecided unless_decided
grows packet c p = by_before (decided p.kind p.bytes) refl
  where
    by_after : (w : WhatView) → decided p.kind p.bytes ≡ Some w → (d : Option WhatView) → decided p.kind (p.bytes ++ c) ≡ d →
        unless_decided (appended p c) d ≡ None
    by_after w e None f = absurd (some_is_not_none w (sym e ∙ undecided_before p.kind p.bytes c f))
    by_after w e (Some v) f = refl

    by_before : (d : Option WhatView) → decided p.kind p.bytes ≡ d →
        unless_decided (appended p c) (decided p.kind (p.bytes ++ c)) ≡ next_open packet (Continuation c) (unless_decided p d)
    by_before None e = refl
    by_before (Some w) e = by_after w e (decided p.kind (p.bytes ++ c)) refl

stays : (packet : ℕ) (r : Role) (p : OpenUnit) → role_divides r ≡ false → undecided (appended p (continuing r)) ≡ next_open packet r (undecided p)
unfolding next_open
stays packet NoPayload p d = ap (λ (x : List ℕ). undecided (record p { bytes = x })) (append-nil p.bytes)
stays packet (Continuation c) p d = grows packet c p
stays packet ScrambledPayload p d = absurd cc
stays packet (PesStart access payload) p d = absurd cc
stays packet (SectionStart before bytes) p d = absurd cc
stays packet PointerPastEnd p d = absurd cc

stays_none : (packet : ℕ) (r : Role) → role_divides r ≡ false → None ≡ next_open packet r None
unfolding next_open
stays_none packet NoPayload d = refl
stays_none packet (Continuation c) d = refl
stays_none packet ScrambledPayload d = absurd cc
stays_none packet (PesStart access payload) d = absurd cc
stays_none packet (SectionStart before bytes) d = absurd cc
stays_none packet PointerPastEnd d = absurd cc

-- The unit that is open after a packet that divides
divided : (m : Marked) (before : List Marked) → divides m ≡ true → open_after (m ∷ before) ≡ option_and_then undecided (begins m.entry.index (role m) [])
unfolding open_after stretch divider joined
divided m before d = rw d refl

-- The units after a packet that does not divide
stretch_more : (m : Marked) (before : List Marked) → divides m ≡ false →
    stretch (m ∷ before) ≡ option_map (λ p. appended p (continuing (role m))) (stretch before)
unfolding stretch divider joined
stretch_more m before d = rw d (by_divider (divider before))
  where
    by_divider : (o : Option Marked) → option_and_then (λ k. begins k.entry.index (role k) (joined before ++ continuing (role m))) o
        ≡ option_map (λ p. appended p (continuing (role m))) (option_and_then (λ k. begins k.entry.index (role k) (joined before)) o)
    by_divider None = refl
    by_divider (Some k) = begins_more k.entry.index (role k) (joined before) (continuing (role m))

undivided : (m : Marked) (before : List Marked) → divides m ≡ false → role_divides (role m) ≡ false →
    open_after (m ∷ before) ≡ next_open m.entry.index (role m) (open_after before)
unfolding open_after
undivided m before d r = rw (stretch_more m before d) (by_stretch (stretch before))
  where
    by_stretch : (o : Option OpenUnit) →
        option_and_then undecided (option_map (λ p. appended p (continuing (role m))) o) ≡ next_open m.entry.index (role m) (option_and_then undecided o)
    by_stretch None = stays_none m.entry.index (role m) r
    by_stretch (Some p) = stays m.entry.index (role m) p r

broken_divides : (m : Marked) (b : ℕ × ℕ) → m.broken ≡ Some b → divides m ≡ true
unfolding divides
broken_divides m b e = rw e refl

role_decides : (m : Marked) (t : Bool) → m.broken ≡ None → role_divides (role m) ≡ t → divides m ≡ t
unfolding divides
role_decides m t e r = ap (λ (b : Option (ℕ × ℕ)). is_some b || role_divides (role m)) e ∙ r

-- The unit that is open after a packet
pub open_more : (m : Marked) (before : List Marked) → open_after (m ∷ before) ≡ next_open m.entry.index (role m) (unbroken m.broken (open_after before))
unfolding unbroken
open_more m before = by_break m.broken refl
  where
    by_role : m.broken ≡ None → (t : Bool) → role_divides (role m) ≡ t → open_after (m ∷ before) ≡ next_open m.entry.index (role m) (open_after before)
    by_role e true r = divided m before (role_decides m true e r) ∙ begins_new m.entry.index (role m) (open_after before) r
    by_role e false r = undivided m before (role_decides m false e r) r

    by_break : (b : Option (ℕ × ℕ)) → m.broken ≡ b → open_after (m ∷ before) ≡ next_open m.entry.index (role m) (unbroken b (open_after before))
    by_break None e = by_role e (role_divides (role m)) refl
    by_break (Some b) e = divided m before (broken_divides m b e) ∙ begins_broken m.entry.index (role m)
