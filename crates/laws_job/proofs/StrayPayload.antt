-- Payload continues the open unit, or follows nothing, a loss or an end, and is found as stray.
use Rattle.std.proofs.Common.{◌≡◌, ◌∙◌, ◌⊎◌, inl, inr, ℕ, ◌++◌, ◌||◌, Bool, true, false, if◌then◌else◌, List, [], ◌∷◌, Option, Some, None, is_some}
use Rattle.std.proofs.Common.{option_map, refl, sym, ap, ap₂}
use Rattle.std.proofs.lemmas.List.{append_assoc}
use Rattle.pid_findings.specs.Views.{BreaksCounter, Found, IsDuplicate, WhatView}
use Rattle.pid_findings.specs.Marks.{Marked}
use Rattle.pid_findings.specs.Roles.{Role, NoPayload, ScrambledPayload, PesStart, SectionStart, PointerPastEnd, Continuation, role, role_divides}
use Rattle.pid_findings.specs.OpenUnits.{OpenUnit, appended, decided, last_in, plain, section}
use Rattle.pid_findings.specs.declared.open_unit.UnitKind.TheVariants as unit_kinds
use Rattle.pid_findings.specs.Findings.{begins, by_break, by_role, cut_short, divider, divides, found_appended, found_at, joined, open_after, stray, stretch}
use Rattle.pid_findings.specs.Findings.{undecided}
use Rattle.pid_findings.specs.Findings.{unless_decided}
use Rattle.laws_job.specs.StrayPayload.{FollowsEnd, FollowsLoss, GoesOn, IsFoundStray, LostPayloadLaw, StrayPayloadLaw, Waits}

-- 1. The last packet that could begin a unit

picked : (here : Bool) (m d : Marked) (rest : Option Marked) → divides m ≡ here → (rest ≡ Some d → divides d ≡ true) →
    (if here then Some m else rest) ≡ Some d → divides d ≡ true
picked true m d rest is later at = let same : m ≡ d = cc in ap divides (sym same) ∙ is
picked false m d rest is later at = later at

it_divides : (before : List Marked) (d : Marked) → divider before ≡ Some d → divides d ≡ true
unfolding divider
it_divides [] d at = absurd (cc)
it_divides (m ∷ before) d at = picked (divides m) m d (divider before) refl (it_divides before d) at

-- A packet that continues a unit does not begin one.
not_divides : (m : Marked) (payload : List ℕ) → role m ≡ Continuation payload → m.broken ≡ None → divides m ≡ false
unfolding divides
not_divides m payload is whole = ap₂ (λ (b : Option (ℕ × ℕ)) (r : Role). is_some b || role_divides r) whole is

-- 2. A unit that begins, with more bytes

section_more : (packet : ℕ) (more payload : List ℕ) (rest : Option (List ℕ)) (unit : OpenUnit) →
    option_map (λ bs. section packet (bs ++ more)) rest ≡ Some unit →
    option_map (λ bs. section packet (bs ++ (more ++ payload))) rest ≡ Some (appended unit payload)
section_more packet more payload None unit is = absurd (cc)
section_more packet more payload (Some bs) unit is =
    let same : section packet (bs ++ more) ≡ unit = cc in
    ap (λ (x : List ℕ). Some (section packet x)) (sym (append_assoc bs more payload)) ∙ ap (λ (u : OpenUnit). Some (appended u payload)) same

begins_more : (packet : ℕ) (r : Role) (more payload : List ℕ) (unit : OpenUnit) → begins packet r more ≡ Some unit →
    begins packet r (more ++ payload) ≡ Some (appended unit payload)
unfolding begins
begins_more packet NoPayload more payload unit is = absurd (cc)
begins_more packet ScrambledPayload more payload unit is = absurd (cc)
begins_more packet PointerPastEnd more payload unit is = absurd (cc)
begins_more packet (Continuation bytes) more payload unit is = absurd (cc)
begins_more packet (SectionStart front bytes) more payload unit is = section_more packet more payload (last_in 0 bytes) unit is
begins_more packet (PesStart access bytes) more payload unit is =
    let first = λ (bs : List ℕ). (let u : OpenUnit = record { packet = packet; kind = unit_kinds.Pes; access = access; bytes = bs } in u) in
    let same : first (bytes ++ more) ≡ unit = cc in
    ap (λ (bs : List ℕ). Some (first bs)) (sym (append_assoc bytes more payload)) ∙ ap (λ (u : OpenUnit). Some (appended u payload)) same

-- 3. No unit begins

by_broken : (before : List Marked) (d : Marked) (broken : Option (ℕ × ℕ)) → divider before ≡ Some d → d.broken ≡ broken → (is_some broken || false) ≡ true →
    FollowsLoss before
by_broken before d None at is splits = absurd (cc)
by_broken before d (Some b) at is splits = record { packet = d; last = at; why = inl (b, is) }

no_start : (before : List Marked) (d : Marked) (more : List ℕ) (r : Role) → divider before ≡ Some d → role d ≡ r → begins d.entry.index r more ≡ None →
    (is_some d.broken || role_divides r) ≡ true → FollowsLoss before
unfolding begins
no_start before d more NoPayload at is none splits = by_broken before d d.broken at refl splits
no_start before d more (Continuation bytes) at is none splits = by_broken before d d.broken at refl splits
no_start before d more ScrambledPayload at is none splits = record { packet = d; last = at; why = inr (inl is) }
no_start before d more PointerPastEnd at is none splits = record { packet = d; last = at; why = inr (inr (inl is)) }
no_start before d more (SectionStart front rest) at is none splits = record { packet = d; last = at; why = inr (inr (inr (front, rest, is))) }
no_start before d more (PesStart access bytes) at is none splits = absurd (cc)

-- 4. No unit is open

-- A duplicate has no payload.
not_twice : (m : Marked) (payload : List ℕ) (twice : Bool) → m.duplicate ≡ twice → role m ≡ Continuation payload → m.duplicate ≡ false
unfolding role
not_twice m payload true twice is = let no : NoPayload ≡ Continuation payload = rw twice at is in absurd (cc)
not_twice m payload false twice is = twice

none_open : (packet : ℕ) (r : Role) (payload : List ℕ) (open_unit : Option OpenUnit) → r ≡ Continuation payload → open_unit ≡ None →
    by_role packet r open_unit ≡ stray payload
unfolding by_role found_appended
none_open packet r payload open_unit is none = rw (is, none) refl

-- A packet with payload is not a duplicate, and its findings follow from its break and its role.
at_broken : (m : Marked) (payload : List ℕ) (broken : Option (ℕ × ℕ)) (open_unit : Option OpenUnit) → role m ≡ Continuation payload → m.broken ≡ broken →
    found_at m open_unit ≡ by_break m.entry.index broken (role m) open_unit
unfolding found_at
at_broken m payload broken open_unit is at =
    ap₂ (λ (twice : Bool) (b : Option (ℕ × ℕ)). if twice then plain IsDuplicate ∷ [] else by_break m.entry.index b (role m) open_unit)
    (not_twice m payload m.duplicate refl is) at

found_none : (m : Marked) (payload : List ℕ) (open_unit : Option OpenUnit) → role m ≡ Continuation payload → m.broken ≡ None → open_unit ≡ None →
    found_at m open_unit ≡ stray payload
unfolding by_break
found_none m payload open_unit is whole none = at_broken m payload None open_unit is whole ∙ none_open m.entry.index (role m) payload open_unit is none

found_stray : (before : List Marked) (m : Marked) (payload : List ℕ) → role m ≡ Continuation payload → m.broken ≡ None → open_after before ≡ None →
    IsFoundStray before m payload
found_stray before m payload is whole none = record { none = none; found = found_none m payload (open_after before) is whole none }

none_divides : (before : List Marked) → divider before ≡ None → open_after before ≡ None
unfolding open_after stretch
none_divides before at = rw at refl

none_began : (before : List Marked) (d : Marked) → divider before ≡ Some d → begins d.entry.index (role d) (joined before) ≡ None → open_after before ≡ None
unfolding open_after stretch
none_began before d at none = rw (at, none) refl

over : (before : List Marked) (unit : OpenUnit) (what : WhatView) → stretch before ≡ Some unit → decided unit.kind unit.bytes ≡ Some what →
    open_after before ≡ None
unfolding open_after undecided unless_decided
over before unit what began ends = rw (began, ends) refl

pub lost : LostPayloadLaw
unfolding by_break
lost before m payload b is broken =
    at_broken m payload (Some b) (open_after before) is broken
    ∙ ap (λ (found : List Found). plain (BreaksCounter b.0 b.1) ∷ cut_short (open_after before) ++ found)
    (none_open m.entry.index (role m) payload None is refl)

-- 5. All payload

-- Payload continues the open unit.
goes_on : (before : List Marked) (m : Marked) (payload : List ℕ) (d : Marked) (unit : OpenUnit) → role m ≡ Continuation payload → m.broken ≡ None →
    divider before ≡ Some d → begins d.entry.index (role d) (joined before) ≡ Some unit → undecided unit ≡ Some unit → GoesOn before m payload
unfolding open_after stretch divider joined
goes_on before m payload d unit is whole at began undone =
    let no = not_divides m payload is whole in
    record {
      unit = unit;
      open_is = rw (at, began) undone;
      longer = rw (no, at, is) (begins_more d.entry.index (role d) (joined before) payload unit began);
    }

by_end : (before : List Marked) (m : Marked) (payload : List ℕ) (d : Marked) (unit : OpenUnit) (what : Option WhatView) → role m ≡ Continuation payload →
    m.broken ≡ None → divider before ≡ Some d → begins d.entry.index (role d) (joined before) ≡ Some unit → decided unit.kind unit.bytes ≡ what →
    GoesOn before m payload ⊎ (IsFoundStray before m payload × Waits before)
unfolding stretch undecided unless_decided
by_end before m payload d unit None is whole at began ends = inl (goes_on before m payload d unit is whole at began (rw ends refl))
by_end before m payload d unit (Some what) is whole at began ends =
    let here : stretch before ≡ Some unit = rw (at, began) refl in
    inr (
      found_stray before m payload is whole (over before unit what here ends),
      inr (inr (record { unit = unit; began = here; what = what; ends = ends })),
    )

by_start : (before : List Marked) (m : Marked) (payload : List ℕ) (d : Marked) (begun : Option OpenUnit) → role m ≡ Continuation payload →
    m.broken ≡ None → divider before ≡ Some d → begins d.entry.index (role d) (joined before) ≡ begun →
    GoesOn before m payload ⊎ (IsFoundStray before m payload × Waits before)
unfolding divides
by_start before m payload d None is whole at none =
    inr (
      found_stray before m payload is whole (none_began before d at none),
      inr (inl (no_start before d (joined before) (role d) at refl none (it_divides before d at))),
    )
by_start before m payload d (Some unit) is whole at began = by_end before m payload d unit (decided unit.kind unit.bytes) is whole at began refl

by_divider : (before : List Marked) (m : Marked) (payload : List ℕ) (d : Option Marked) → role m ≡ Continuation payload → m.broken ≡ None →
    divider before ≡ d → GoesOn before m payload ⊎ (IsFoundStray before m payload × Waits before)
by_divider before m payload None is whole at = inr (found_stray before m payload is whole (none_divides before at), inl at)
by_divider before m payload (Some d) is whole at =
    by_start before m payload d (begins d.entry.index (role d) (joined before)) is whole at refl

pub stray_law : StrayPayloadLaw
stray_law before m payload is whole = by_divider before m payload (divider before) is whole refl
