use Rattle.std.proofs.Common.{Some, None, refl, sym, ap, ◌∙◌, subst, arith}
use Rattle.mux_core.specs.MuxStates.{MuxState, Represents}
use Rattle.on_air.specs.declared.options.Terms.{Terms}
use Rattle.on_air.specs.Airing.{job_of, limit_of}
use Rattle.on_air.specs.AirStates.{AirState}
use Rattle.on_air.specs.Hearing.{HearsRecord}
use Rattle.on_air.proofs.Courses.{alone_stays, fails_in}
use Rattle.on_air.proofs.airing.OnAir.hear.Goals as goal

pub returns-then-now-limit-clause-heard : goal.returns-then-now-limit-clause-heard
returns-then-now-limit-clause-heard g c = λ run a start h.
    let represents = subst (λ (m : MuxState). Represents (job_of a) m) (sym (ap (λ (x : AirState). x.mux) c.self.view_is)) h.mux.represents in
    let terms = ap (λ (x : AirState). limit_of x.terms) c.self.view_is ∙ ap (λ (t : Terms). limit_of t) h.terms in
    ((omega (arith, c.if-now-limit.true, c.now.ensures (job_of a) represents, c.limit.ensures.value, terms), refl), h)

pub returns-in-Ok-clause-heard : goal.returns-in-Ok-clause-heard
returns-in-Ok-clause-heard g c = λ run a start h.
    let represents = subst (λ (m : MuxState). Represents (job_of a) m) (sym (ap (λ (x : AirState). x.mux) c.self.view_is)) h.mux.represents in
    let terms = ap (λ (x : AirState). limit_of x.terms) c.self.view_is ∙ ap (λ (t : Terms). limit_of t) h.terms in
    let t = rw c.in-Ok-Accepted.field-0-is at (c.in-Ok-Accepted.ensures.takes run a start h) in
    let read : HearsRecord run a (g.R.Read.remaining c.args.input.now) (g.R.Read.remaining c.read_unit.new.from) None = record {
      slots_left = omega (arith, c.if-now-limit.false, c.now.ensures (job_of a) represents, c.limit.ensures.value, terms);
      entry = (c.in-Ok-Some.stream, c.in-Ok-Some.unit);
      cause = t.0;
      bytes = (rw c.in-Ok-Some.field-0-is at c.in-Ok-Some.ensures.found).0;
      is_record = (rw c.in-Ok-Some.field-0-is at c.in-Ok-Some.ensures.found).1;
      known = λ xs e. rw c.in-Ok-Some.field-0-is at (c.in-Ok-Some.ensures.known xs e);
    } in
    (read, (t.1.0, c.in-Ok.ensures.ok run _ start t.1.1))

pub returns-in-Ok-TextsFrom-clause-heard : goal.returns-in-Ok-TextsFrom-clause-heard
returns-in-Ok-TextsFrom-clause-heard g c = λ run a start h.
    let represents = subst (λ (m : MuxState). Represents (job_of a) m) (sym (ap (λ (x : AirState). x.mux) c.self.view_is)) h.mux.represents in
    let terms = ap (λ (x : AirState). limit_of x.terms) c.self.view_is ∙ ap (λ (t : Terms). limit_of t) h.terms in
    let t = rw c.in-Ok-TextsFrom.field-0-is at (c.in-Ok-TextsFrom.ensures.takes run a start h) in
    let read : HearsRecord run a (g.R.Read.remaining c.args.input.now) (g.R.Read.remaining c.read_unit.new.from) None = record {
      slots_left = omega (arith, c.if-now-limit.false, c.now.ensures (job_of a) represents, c.limit.ensures.value, terms);
      entry = (c.in-Ok-Some.stream, c.in-Ok-Some.unit);
      cause = t.0;
      bytes = (rw c.in-Ok-Some.field-0-is at c.in-Ok-Some.ensures.found).0;
      is_record = (rw c.in-Ok-Some.field-0-is at c.in-Ok-Some.ensures.found).1;
      known = λ xs e. rw c.in-Ok-Some.field-0-is at (c.in-Ok-Some.ensures.known xs e);
    } in (
      read,
      (
        record { texts = t.1.0; index_is = ap (λ (x : AirState). x.records) c.self.view_is ∙ h.records; slot_is = t.1.1.0 },
        t.1.1.1,
      ),
    )

pub returns-in-Ok-LineUpFrom-clause-heard : goal.returns-in-Ok-LineUpFrom-clause-heard
returns-in-Ok-LineUpFrom-clause-heard g c = λ run a start h.
    let represents = subst (λ (m : MuxState). Represents (job_of a) m) (sym (ap (λ (x : AirState). x.mux) c.self.view_is)) h.mux.represents in
    let terms = ap (λ (x : AirState). limit_of x.terms) c.self.view_is ∙ ap (λ (t : Terms). limit_of t) h.terms in
    let t = rw c.in-Ok-LineUpFrom.field-0-is at (c.in-Ok-LineUpFrom.ensures.takes run a start h) in
    let read : HearsRecord run a (g.R.Read.remaining c.args.input.now) (g.R.Read.remaining c.read_unit.new.from) None = record {
      slots_left = omega (arith, c.if-now-limit.false, c.now.ensures (job_of a) represents, c.limit.ensures.value, terms);
      entry = (c.in-Ok-Some.stream, c.in-Ok-Some.unit);
      cause = t.0;
      bytes = (rw c.in-Ok-Some.field-0-is at c.in-Ok-Some.ensures.found).0;
      is_record = (rw c.in-Ok-Some.field-0-is at c.in-Ok-Some.ensures.found).1;
      known = λ xs e. rw c.in-Ok-Some.field-0-is at (c.in-Ok-Some.ensures.known xs e);
    } in (
      read,
      (
        record { line_up = t.1.0; index_is = ap (λ (x : AirState). x.records) c.self.view_is ∙ h.records; slot_is = t.1.1.0 },
        t.1.1.1,
      ),
    )

pub returns-in-Ok-RefusedFor-clause-heard : goal.returns-in-Ok-RefusedFor-clause-heard
returns-in-Ok-RefusedFor-clause-heard g c = λ run a start h.
    let represents = subst (λ (m : MuxState). Represents (job_of a) m) (sym (ap (λ (x : AirState). x.mux) c.self.view_is)) h.mux.represents in
    let terms = ap (λ (x : AirState). limit_of x.terms) c.self.view_is ∙ ap (λ (t : Terms). limit_of t) h.terms in
    let t = rw c.in-Ok-RefusedFor.field-0-is at (c.in-Ok-RefusedFor.ensures.takes run a start h) in
    let read : HearsRecord run a (g.R.Read.remaining c.args.input.now) (g.R.Read.remaining c.read_unit.new.from) (Some c.in-Ok-RefusedFor.cause) = record {
      slots_left = omega (arith, c.if-now-limit.false, c.now.ensures (job_of a) represents, c.limit.ensures.value, terms);
      entry = (c.in-Ok-Some.stream, c.in-Ok-Some.unit);
      cause = t.0;
      bytes = (rw c.in-Ok-Some.field-0-is at c.in-Ok-Some.ensures.found).0;
      is_record = (rw c.in-Ok-Some.field-0-is at c.in-Ok-Some.ensures.found).1;
      known = λ xs e. rw c.in-Ok-Some.field-0-is at (c.in-Ok-Some.ensures.known xs e);
    } in
    (ap (λ (x : AirState). x.records) c.self.view_is ∙ h.records, (read, t.1))

pub returns-in-Ok-NoMemory-clause-heard : goal.returns-in-Ok-NoMemory-clause-heard
returns-in-Ok-NoMemory-clause-heard g c = λ run a start h.
    let t = rw c.in-Ok-NoMemory.field-0-is at (c.in-Ok-NoMemory.ensures.takes run a start h) in (
      record {
        entry = (c.in-Ok-Some.stream, c.in-Ok-Some.unit);
        texts = t.0;
        known = λ xs e. rw c.in-Ok-Some.field-0-is at (c.in-Ok-Some.ensures.known xs e);
      },
      t.1,
    )

pub returns-in-Err-let_out-clause-heard : goal.returns-in-Err-let_out-clause-heard
returns-in-Err-let_out-clause-heard g c = λ run a start h.
    let represents = subst (λ (m : MuxState). Represents (job_of a) m) (sym (ap (λ (x : AirState). x.mux) c.self.view_is)) h.mux.represents in
    let terms = ap (λ (x : AirState). limit_of x.terms) c.self.view_is ∙ ap (λ (t : Terms). limit_of t) h.terms in
    let t = rw c.in-Ok-Accepted.field-0-is at (c.in-Ok-Accepted.ensures.takes run a start h) in
    let read : HearsRecord run a (g.R.Read.remaining c.args.input.now) (g.R.Read.remaining c.read_unit.new.from) None = record {
      slots_left = omega (arith, c.if-now-limit.false, c.now.ensures (job_of a) represents, c.limit.ensures.value, terms);
      entry = (c.in-Ok-Some.stream, c.in-Ok-Some.unit);
      cause = t.0;
      bytes = (rw c.in-Ok-Some.field-0-is at c.in-Ok-Some.ensures.found).0;
      is_record = (rw c.in-Ok-Some.field-0-is at c.in-Ok-Some.ensures.found).1;
      known = λ xs e. rw c.in-Ok-Some.field-0-is at (c.in-Ok-Some.ensures.known xs e);
    } in (
      read,
      fails_in run a (c.in-Ok-Some.stream, c.in-Ok-Some.unit) start _ _ t.0 (alone_stays run a (c.in-Ok-Some.stream, c.in-Ok-Some.unit) t.1.0)
          (c.in-Err-let_out.ensures.err run _ start t.1.1),
    )

pub returns-in-Err-take-clause-heard : goal.returns-in-Err-take-clause-heard
returns-in-Err-take-clause-heard g c = λ run a start h.
    let represents = subst (λ (m : MuxState). Represents (job_of a) m) (sym (ap (λ (x : AirState). x.mux) c.self.view_is)) h.mux.represents in
    let terms = ap (λ (x : AirState). limit_of x.terms) c.self.view_is ∙ ap (λ (t : Terms). limit_of t) h.terms in
    let t = c.in-Err-take.ensures.takes run a start h in
    let read : HearsRecord run a (g.R.Read.remaining c.args.input.now) (g.R.Read.remaining c.read_unit.new.from) None = record {
      slots_left = omega (arith, c.if-now-limit.false, c.now.ensures (job_of a) represents, c.limit.ensures.value, terms);
      entry = (c.in-Ok-Some.stream, c.in-Ok-Some.unit);
      cause = t.0;
      bytes = (rw c.in-Ok-Some.field-0-is at c.in-Ok-Some.ensures.found).0;
      is_record = (rw c.in-Ok-Some.field-0-is at c.in-Ok-Some.ensures.found).1;
      known = λ xs e. rw c.in-Ok-Some.field-0-is at (c.in-Ok-Some.ensures.known xs e);
    } in
    (read, t.1)
