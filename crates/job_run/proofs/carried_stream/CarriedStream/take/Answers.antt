use Rattle.std.proofs.Common.{◌≡◌, ◌≤◌, ◌-◌, ◌++◌, ◌∙◌, ℕ, List, drop, length, refl, sym, ap, append-nil, arith}
use Rattle.job_run.proofs.Carrying.{carried_as, front_taken, rest_is}
use Rattle.job_run.proofs.carried_stream.CarriedStream.take.Goals as goal

pub returns-then-at-before : goal.returns-then-at-before
returns-then-at-before c = λ stream so.
    let piece = c.args.piece.now in
    let front = c.split_at.result.0.now in
    let later = c.split_at.result.1.now in
    let held = c.self.inside.held.items in
    let joined = c.deref.result.now in
    let at = c.in_ok-at.at in
    let join : joined ≡ held ++ front = c.deref.ensures.value ∙ c.in_ok-extend_from_slice.ensures.items
    ∙ ap (λ (r : List ℕ). r ++ front) (c.in_ok-held.ensures.items ∙ c.as_slice.ensures.value) in
    let taken = front_taken stream piece held front later joined at c.min.result c.args.self.now c.self.inside.packets c.take_decided.new.self c.self.view_is
    c.split_at.ensures.front c.split_at.ensures.back
    join (c.in_ok-at.ensures.carried (stream ++ front)) so in
    let left : drop at joined ++ later ≡ c.hold.new.self.held = sym (c.in_ok-hold.ensures.held
    ∙ ap (λ (r : List ℕ). r ++ later)
    (c.split_at-then-at-before.ensures.back ∙ ap (λ (r : List ℕ). drop at r) (c.as_slice-then-at-before.ensures.value ∙ sym c.deref.ensures.value))) in
    carried_as (stream ++ piece) (stream ++ piece) _ _ c.hold.new.self refl left (sym c.in_ok-hold.ensures.packets) taken

pub returns : goal.returns
returns c = λ stream so.
    let piece = c.args.piece.now in
    let front = c.split_at.result.0.now in
    let later = c.split_at.result.1.now in
    let held = c.self.inside.held.items in
    let joined = c.deref.result.now in
    let at = c.in_ok-at.at in
    let rest = c.split_at-2.result.1.now in
    let join : joined ≡ held ++ front = c.deref.ensures.value ∙ c.in_ok-extend_from_slice.ensures.items
    ∙ ap (λ (r : List ℕ). r ++ front) (c.in_ok-held.ensures.items ∙ c.as_slice.ensures.value) in
    let taken = front_taken stream piece held front later joined at c.min.result c.args.self.now c.self.inside.packets c.take_decided.new.self c.self.view_is
    c.split_at.ensures.front c.split_at.ensures.back
    join (c.in_ok-at.ensures.carried (stream ++ front)) so in
    let size : c.len-before.result ≡ length held = omega (arith, c.len-before.ensures, c.as_slice.ensures.len, ap (length {A = ℕ}) c.as_slice.ensures.value) in
    let past : length held ≤ at = omega (arith, c.if-at-before.false, size) in
    let is : drop at joined ++ later ≡ rest =
    rest_is piece held front later joined at c.min.result c.split_at.ensures.front c.split_at.ensures.back join past c.in_ok-at.ensures.within
    ∙ ap (λ (n : ℕ). drop (at - n) piece) (sym size) ∙ sym c.split_at-2.ensures.back in
    let more = c.in_ok-at-2.ensures.carried (stream ++ piece)
    (carried_as (stream ++ piece) (stream ++ piece) _ _ (record { held = rest; packets = c.take_decided.new.self }) refl is refl taken) in
    let left : drop c.in_ok-at-2.at rest ≡ c.hold-2.new.self.held =
    sym (c.in_ok-hold-2.ensures.held ∙ append-nil c.split_at-3.result.1.now ∙ c.split_at-3.ensures.back) in
    carried_as (stream ++ piece) (stream ++ piece) _ _ c.hold-2.new.self refl left (sym c.in_ok-hold-2.ensures.packets) more
