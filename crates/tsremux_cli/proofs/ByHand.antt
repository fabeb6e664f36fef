-- A service by hand.
use Rattle.std.proofs.Common.{◌≡◌, ◌<◌, ℕ, List, [], ◌∷◌, Option, Some, None, Result, Ok, Err, refl, inl, inr, subst}
use Rattle.devices.specs.Devices.{Device, IsUntouched, Port, between}
use Rattle.devices.specs.Files.{Files}
use Rattle.devices.specs.Runs.{Performs}
use Rattle.tsjob_cli.specs.ReadFiles.{ReadsAll}
use Rattle.tsmux_cli.specs.Planning.{MakesPlan}
use Rattle.word_faults.specs.CommandLine.{Text}
use Rattle.tsremux_cli.specs.ByHand.{Hand, Joins, MuxesByHand, PlansFor, Reads, ReadsJob, ReadsPlan, ReadsRecords, SaysWhy, hand}
use Rattle.tsremux_cli.specs.Muxing.{MuxesBytes}
use Rattle.tsremux_cli.specs.Packets.{WritesBy, WritesFor}
use Rattle.tsremux_cli.specs.Remuxing.{Remuxes}
use Rattle.tsremux_cli.specs.Words.{description_of, plan_of, records_of}
use Rattle.tsremux_cli.specs.declared.figures.Figures.{Figures}
use Rattle.tsremux_cli.specs.declared.figures.Remuxed.{Remuxed}
use Rattle.tsremux_cli.specs.declared.figures.Remuxed.TheVariants.{Whole, Ended}

-- A plan is made, or no plan is made.
pub plan_made : (description plan : List ℕ) (input written faults : Device) (status : ℕ) → input.before.bytes ≡ Some description →
    written.before.bytes ≡ Some [] → written.after.bytes ≡ Some plan → Performs MakesPlan input written faults status → status ≡ 0 →
    PlansFor description faults (Ok plan)
plan_made description plan input written faults status begins empty are runs is = record {
  written = written;
  runs = record { input = input; begins = begins; empty = empty; runs = subst (λ (n : ℕ). Performs MakesPlan input written faults n) is runs };
  is = are;
}

pub none_made : (description : List ℕ) (input written : Device) (p0 p1 p2 : Port) (status : ℕ) → input.before.bytes ≡ Some description →
    written.before.bytes ≡ Some [] → Performs MakesPlan input written (between p0 p1) status → 0 < status → SaysWhy description status (between p1 p2) →
    PlansFor description (between p0 p2) (Err status)
none_made description input written p0 p1 p2 status begins empty runs fails why =
    record { written = written; so_far = p1; runs = record { input = input; begins = begins; empty = empty; runs = runs }; fails = fails; why = why }

-- There is no description.
pub no_description : (h : Hand) (files : Files) (input faults : Device) (status : ℕ) → ReadsAll files (h.description ∷ []) faults (Err status) →
    IsUntouched input → ReadsJob h files input faults (Err status)
no_description h files input faults status stops unread = inr (inl (record { stops = stops; unread = unread }))

-- There is no plan.
pub no_plan : (h : Hand) (files : Files) (input : Device) (p0 p1 p2 : Port) (description lent : List ℕ) (status : ℕ) →
    ReadsAll files (h.description ∷ []) (between p0 p1) (Ok description) → lent ≡ description → ReadsPlan files h.plan lent (between p1 p2) (Err status) →
    IsUntouched input → ReadsJob h files input (between p0 p2) (Err status)
no_plan h files input p0 p1 p2 description lent status described same stops unread =
    inr (inr (inl (record {
      description = description;
      first = p1;
      described = described;
      stops = subst (λ (d : List ℕ). ReadsPlan files h.plan d (between p1 p2) (Err status)) same stops;
      unread = unread;
    })))

-- There are no records.
pub no_records : (h : Hand) (files : Files) (input : Device) (p0 p1 p2 p3 : Port) (description lent plan : List ℕ) (status : ℕ) →
    ReadsAll files (h.description ∷ []) (between p0 p1) (Ok description) → lent ≡ description → ReadsPlan files h.plan lent (between p1 p2) (Ok plan) →
    ReadsRecords files h.records input (between p2 p3) (Err status) → ReadsJob h files input (between p0 p3) (Err status)
no_records h files input p0 p1 p2 p3 description lent plan status described same planned stops =
    inr (inr (inr (record {
      description = description;
      plan = plan;
      first = p1;
      second = p2;
      described = described;
      planned = subst (λ (d : List ℕ). ReadsPlan files h.plan d (between p1 p2) (Ok plan)) same planned;
      stops = stops;
    })))

-- The description, the plan and the records are read.
all_read : (h : Hand) (files : Files) (input : Device) (p0 p1 p2 p3 p4 : Port) (description lent plan records shown : List ℕ) (result : Result (List ℕ) ℕ) →
    ReadsAll files (h.description ∷ []) (between p0 p1) (Ok description) → lent ≡ description → ReadsPlan files h.plan lent (between p1 p2) (Ok plan) →
    ReadsRecords files h.records input (between p2 p3) (Ok records) → shown ≡ records → Joins description plan shown (between p3 p4) result →
    Reads h files input (between p0 p4) result
all_read h files input p0 p1 p2 p3 p4 description lent plan records shown result described same planned recorded lends joins = record {
  description = description;
  plan = plan;
  records = records;
  first = p1;
  second = p2;
  third = p3;
  described = described;
  planned = subst (λ (d : List ℕ). ReadsPlan files h.plan d (between p1 p2) (Ok plan)) same planned;
  recorded = recorded;
  joins = subst (λ (rs : List ℕ). Joins description plan rs (between p3 p4) result) lends joins;
}

pub has_job : (h : Hand) (files : Files) (input : Device) (p0 p1 p2 p3 p4 : Port) (description lent plan records shown job : List ℕ) →
    ReadsAll files (h.description ∷ []) (between p0 p1) (Ok description) → lent ≡ description → ReadsPlan files h.plan lent (between p1 p2) (Ok plan) →
    ReadsRecords files h.records input (between p2 p3) (Ok records) → shown ≡ records → Joins description plan shown (between p3 p4) (Ok job) →
    ReadsJob h files input (between p0 p4) (Ok job)
has_job h files input p0 p1 p2 p3 p4 description lent plan records shown job described same planned recorded lends joins =
    all_read h files input p0 p1 p2 p3 p4 description lent plan records shown (Ok job) described same planned recorded lends joins

pub no_room : (h : Hand) (files : Files) (input : Device) (p0 p1 p2 p3 p4 : Port) (description lent plan records shown : List ℕ) (status : ℕ) →
    ReadsAll files (h.description ∷ []) (between p0 p1) (Ok description) → lent ≡ description → ReadsPlan files h.plan lent (between p1 p2) (Ok plan) →
    ReadsRecords files h.records input (between p2 p3) (Ok records) → shown ≡ records → Joins description plan shown (between p3 p4) (Err status) →
    ReadsJob h files input (between p0 p4) (Err status)
no_room h files input p0 p1 p2 p3 p4 description lent plan records shown status described same planned recorded lends joins =
    inl (all_read h files input p0 p1 p2 p3 p4 description lent plan records shown (Err status) described same planned recorded lends joins)

-- The packets of the job
pub none_muxed : (h : Hand) (files : Files) (input packets faults : Device) (status : ℕ) → ReadsJob h files input faults (Err status) → IsUntouched packets →
    MuxesByHand h files input packets faults (Ended status)
none_muxed h files input packets faults status reads unwritten = inl (record { reads = reads; unwritten = unwritten })

pub not_all_muxed : (h : Hand) (files : Files) (input packets : Device) (p0 p1 p2 p3 : Port) (job shown : List ℕ) (status : ℕ) →
    ReadsJob h files input (between p0 p1) (Ok job) → shown ≡ job → MuxesBytes shown packets (between p1 p2) (Err status) →
    SaysWhy shown status (between p2 p3) → MuxesByHand h files input packets (between p0 p3) (Ended status)
not_all_muxed h files input packets p0 p1 p2 p3 job shown status reads same muxed why =
    inr (record {
      job = job;
      so_far = p1;
      later = p2;
      reads = reads;
      muxed = subst (λ (xs : List ℕ). MuxesBytes xs packets (between p1 p2) (Err status)) same muxed;
      why = subst (λ (xs : List ℕ). SaysWhy xs status (between p2 p3)) same why;
    })

pub all_muxed : (h : Hand) (files : Files) (input packets : Device) (p0 p1 p2 : Port) (job shown : List ℕ) (figures : Figures) →
    ReadsJob h files input (between p0 p1) (Ok job) → shown ≡ job → MuxesBytes shown packets (between p1 p2) (Ok figures) →
    MuxesByHand h files input packets (between p0 p2) (Whole figures 0)
all_muxed h files input packets p0 p1 p2 job shown figures reads same muxed = record {
  job = job;
  so_far = p1;
  reads = reads;
  muxed = subst (λ (xs : List ℕ). MuxesBytes xs packets (between p1 p2) (Ok figures)) same muxed;
  status_is = refl;
}

-- The service that words request
pub by_hand : (words : List Text) (description : Text) (plan records : Option Text) (files : Files) (input packets faults : Device) (result : Remuxed) →
    Some description ≡ description_of words → plan ≡ plan_of words → records ≡ records_of words →
    MuxesByHand (hand description plan records) files input packets faults result → WritesFor words files input packets faults result
by_hand words description plan records files input packets faults result named planned recorded muxes =
    subst (λ (d : Option Text). WritesBy d words files input packets faults result) named
    (subst (λ (p : Option Text). MuxesByHand (hand description p (records_of words)) files input packets faults result) planned
    (subst (λ (r : Option Text). MuxesByHand (hand description plan r) files input packets faults result) recorded muxes))

pub of_streams : (words : List Text) (files : Files) (input packets faults : Device) (result : Remuxed) → None ≡ description_of words →
    Remuxes words files input packets faults result → WritesFor words files input packets faults result
of_streams words files input packets faults result none remuxes = subst (λ (d : Option Text). WritesBy d words files input packets faults result) none remuxes
