-- A job that is read while its bytes arrive.
use Rattle.std.proofs.Common.{◌≡◌, ◌∙◌, ℕ, Bool, true, List, [], ◌++◌, drop, ap, append-nil, append_assoc, subst, sym, Result, Ok, Err}
use Rattle.std.specs.Prelude.{OnOk}
use Rattle.devices.specs.declared.halt.Halt.{Halt}
use Rattle.checked_jobs.specs.JobFaults.{IsJobAtFront, fault_view, is_final, plans_view}
use Rattle.checked_jobs.specs.Jobs.{job_of}
use Rattle.checked_jobs.specs.JobTaking.{ConcludesPlans, TakesJob}
use Rattle.checked_jobs.specs.declared.job_fault.JobFault.{JobFault}
use Rattle.checked_jobs.specs.declared.job_taker.FrontState.{FrontState}
use Rattle.checked_jobs.specs.declared.job_taker.FrontState.TheVariants.{Open, Plans, Fault}
use Rattle.checked_jobs.specs.declared.jobs.JobPlans.{JobPlans}
use Rattle.checked_jobs.proofs.LongerJobs.{fault_stays, plans_stay}

-- 1. The text of the plans

-- No byte has arrived.
pub none_came : (Taken : List ℕ → Type 0) (switch has : Bool) (text : List ℕ) (state : FrontState) → has ≡ switch → text ≡ [] → state ≡ Open → Taken [] →
    TakesJob Taken switch [] has text state
none_came Taken switch has text Open s t e k = record { same = s; state_is = (t, k) }
none_came Taken switch has text (Plans plans) s t e k = absurd cc
none_came Taken switch has text (Fault fault) s t e k = absurd cc

-- More bytes of the text arrive.
pub text_longer : (Taken : List ℕ → Type 0) (switch has : Bool) (before bytes text now : List ℕ) (state : FrontState) → state ≡ Open →
    TakesJob Taken switch before has text state →
    now ≡ text ++ bytes → TakesJob Taken switch (before ++ bytes) has now state
text_longer Taken switch has before bytes text now Open e t n =
    record { same = t.same; state_is = (n ∙ ap (λ (xs : List ℕ). xs ++ bytes) t.state_is.0, t.state_is.1) }
text_longer Taken switch has before bytes text now (Plans plans) e t n = absurd cc
text_longer Taken switch has before bytes text now (Fault fault) e t n = absurd cc

-- While reading is in the text, the job at its front is the job of all bytes.
at_front : (Taken : List ℕ → Type 0) (switch has : Bool) (bytes text : List ℕ) (plans : JobPlans) (place : ℕ) → TakesJob Taken switch bytes has text Open →
    IsJobAtFront (job_of has text) text (Ok (plans, place)) → IsJobAtFront (job_of switch bytes) bytes (Ok (plans, place))
at_front Taken switch has bytes text plans place t p =
    subst (λ (xs : List ℕ). IsJobAtFront (job_of switch xs) xs (Ok (plans, place))) t.state_is.0
    (subst (λ (b : Bool). IsJobAtFront (job_of b text) text (Ok (plans, place))) t.same p)

fault_at : (Taken : List ℕ → Type 0) (switch has : Bool) (bytes text : List ℕ) (fault : JobFault) → TakesJob Taken switch bytes has text Open →
    Err (fault_view fault) ≡ job_of has text → Err (fault_view fault) ≡ job_of switch bytes
fault_at Taken switch has bytes text fault t p =
    subst (λ (xs : List ℕ). Err (fault_view fault) ≡ job_of switch xs) t.state_is.0 (subst (λ (b : Bool). Err (fault_view fault) ≡ job_of b text) t.same p)

-- The plans in the text are complete, and the bytes after them are taken.
pub plans_read : (Taken Then : List ℕ → Type 0) (switch has : Bool) (bytes text now : List ℕ) (state : FrontState) (plans : JobPlans) (place : ℕ)
    (r : Result (Unit {0}) Halt) → state ≡ Open →
    TakesJob Taken switch bytes has text state → IsJobAtFront (job_of has text) text (Ok (plans, place)) →
    ((before : List ℕ) → Taken before → OnOk r (Then (before ++ drop place text))) →
    OnOk r (TakesJob Then switch bytes has now (Plans plans))
plans_read Taken Then switch has bytes text now Open plans place (Ok x) e t p k =
    let front = at_front Taken switch has bytes text plans place t p in
    record {
      same = t.same;
      state_is = record {
        after = drop place bytes;
        plans_are = λ more. plans_stay switch bytes more plans place front;
        taken = subst (λ (xs : List ℕ). Then (drop place xs)) t.state_is.0 (k [] t.state_is.1);
      };
    }
plans_read Taken Then switch has bytes text now Open plans place (Err halt) e t p k = tt
plans_read Taken Then switch has bytes text now (Plans first) plans place r e t p k = absurd cc
plans_read Taken Then switch has bytes text now (Fault fault) plans place r e t p k = absurd cc

-- The text has a fault that further bytes do not change.
pub fault_read : (Taken : List ℕ → Type 0) (switch has : Bool) (bytes text : List ℕ) (state : FrontState) (fault : JobFault) → state ≡ Open →
    TakesJob Taken switch bytes has text state →
    Err (fault_view fault) ≡ job_of has text → is_final (fault_view fault) ≡ true → TakesJob Taken switch bytes has text (Fault fault)
fault_read Taken switch has bytes text Open fault e t p f = record {
  same = t.same;
  state_is = λ more. fault_stays switch bytes more (fault_view fault) f (fault_at Taken switch has bytes text fault t p);
}
fault_read Taken switch has bytes text (Plans plans) fault e t p f = absurd cc
fault_read Taken switch has bytes text (Fault first) fault e t p f = absurd cc

-- 2. Bytes after the plans, and bytes after a fault

pub plans_longer : (Taken Then : List ℕ → Type 0) (switch has : Bool) (bytes piece text : List ℕ) (state : FrontState) (plans : JobPlans)
    (r : Result (Unit {0}) Halt) → state ≡ Plans plans →
    TakesJob Taken switch bytes has text state → ((before : List ℕ) → Taken before → OnOk r (Then (before ++ piece))) →
    OnOk r (TakesJob Then switch (bytes ++ piece) has text state)
plans_longer Taken Then switch has bytes piece text (Plans found) plans (Ok x) e t k =
    let after = t.state_is.after in
    record {
      same = t.same;
      state_is = record {
        after = after ++ piece;
        plans_are = λ more.
            ap (λ (xs : List ℕ). Ok (plans_view found xs)) (append_assoc after piece more) ∙ t.state_is.plans_are (piece ++ more)
            ∙ ap (job_of switch) (sym (append_assoc bytes piece more));
        taken = k after t.state_is.taken;
      };
    }
plans_longer Taken Then switch has bytes piece text (Plans found) plans (Err halt) e t k = tt
plans_longer Taken Then switch has bytes piece text Open plans r e t k = absurd cc
plans_longer Taken Then switch has bytes piece text (Fault fault) plans r e t k = absurd cc

pub fault_longer : (Taken : List ℕ → Type 0) (switch has : Bool) (bytes piece text : List ℕ) (state : FrontState) (fault : JobFault) → state ≡ Fault fault →
    TakesJob Taken switch bytes has text state → TakesJob Taken switch (bytes ++ piece) has text state
fault_longer Taken switch has bytes piece text (Fault found) fault e t = record {
  same = t.same;
  state_is = λ more. t.state_is (piece ++ more) ∙ ap (job_of switch) (sym (append_assoc bytes piece more));
}
fault_longer Taken switch has bytes piece text Open fault e t = absurd cc
fault_longer Taken switch has bytes piece text (Plans plans) fault e t = absurd cc

-- 3. The end of the input

pub plans_concluded : (Taken : List ℕ → Type 0) (switch has : Bool) (bytes text : List ℕ) (state : FrontState) (plans : JobPlans) → state ≡ Plans plans →
    TakesJob Taken switch bytes has text state →
    ConcludesPlans Taken (job_of switch bytes) plans
plans_concluded Taken switch has bytes text (Plans found) plans e t =
    let same : found ≡ plans = cc in
    let after = t.state_is.after in
    record {
      after = after;
      plans_are = ap (λ (p : JobPlans). Ok (plans_view p after)) (sym same) ∙ ap (λ (xs : List ℕ). Ok (plans_view found xs)) (sym (append-nil after))
          ∙ t.state_is.plans_are [] ∙ ap (job_of switch) (append-nil bytes);
      taken = t.state_is.taken;
    }
plans_concluded Taken switch has bytes text Open plans e t = absurd cc
plans_concluded Taken switch has bytes text (Fault fault) plans e t = absurd cc

pub fault_concluded : (Taken : List ℕ → Type 0) (switch has : Bool) (bytes text : List ℕ) (state : FrontState) (fault : JobFault) → state ≡ Fault fault →
    TakesJob Taken switch bytes has text state →
    Err (fault_view fault) ≡ job_of switch bytes
fault_concluded Taken switch has bytes text (Fault found) fault e t =
    let same : fault ≡ found = cc in
    ap (λ (f : JobFault). Err (fault_view f)) same ∙ t.state_is [] ∙ ap (job_of switch) (append-nil bytes)
fault_concluded Taken switch has bytes text Open fault e t = absurd cc
fault_concluded Taken switch has bytes text (Plans plans) fault e t = absurd cc

-- The input ends within the text.
pub text_concluded : (Taken Then : List ℕ → Type 0) (switch has : Bool) (bytes text : List ℕ) (state : FrontState) (plans : JobPlans) (place : ℕ) →
    state ≡ Open →
    TakesJob Taken switch bytes has text state → IsJobAtFront (job_of has text) text (Ok (plans, place)) →
    ((before : List ℕ) → Taken before → Then (before ++ drop place text)) →
    ConcludesPlans Then (job_of switch bytes) plans
text_concluded Taken Then switch has bytes text Open plans place e t p k = record {
  after = drop place bytes;
  plans_are = (at_front Taken switch has bytes text plans place t p).1;
  taken = subst (λ (xs : List ℕ). Then (drop place xs)) t.state_is.0 (k [] t.state_is.1);
}
text_concluded Taken Then switch has bytes text (Plans first) plans place e t p k = absurd cc
text_concluded Taken Then switch has bytes text (Fault fault) plans place e t p k = absurd cc

pub text_faulty : (Taken : List ℕ → Type 0) (switch has : Bool) (bytes text : List ℕ) (state : FrontState) (fault : JobFault) → state ≡ Open →
    TakesJob Taken switch bytes has text state →
    Err (fault_view fault) ≡ job_of has text → Err (fault_view fault) ≡ job_of switch bytes
text_faulty Taken switch has bytes text Open fault e t p = fault_at Taken switch has bytes text fault t p
text_faulty Taken switch has bytes text (Plans plans) fault e t p = absurd cc
text_faulty Taken switch has bytes text (Fault found) fault e t p = absurd cc
