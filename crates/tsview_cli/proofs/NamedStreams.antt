-- The answer to a request, from the input or from a file.
use Rattle.std.proofs.Common.{◌≡◌, ◌∙◌, ℕ, Option, Some, None, inl, inr, refl, subst}
use Rattle.std.specs.Prelude.{[], codes}
use Rattle.clap.specs.Words.{Text}
use Rattle.devices.specs.Devices.{Device, IsUntouched}
use Rattle.devices.specs.Files.{Files, IsOpened, IsUnopened}
use Rattle.devices.specs.Lines.{Reports, line_text}
use Rattle.devices.specs.Runs.{LacksMemory}
use Rattle.tsview_cli.specs.Answers.{Answers}
use Rattle.tsview_cli.specs.Arguments.{AskedView, asked_for}
use Rattle.tsview_cli.specs.NamedStream.{OfFile}
use Rattle.tsview_cli.specs.declared.request.Request.{Request}

-- 1. The request and the file are exactly as requested

same_asked : (x : Option AskedView) (a b : AskedView) → Some a ≡ x → x ≡ Some b → a ≡ b
same_asked x a b e f = let both : Some a ≡ Some b = e ∙ f in cc

pub of_input : (x : Option AskedView) (a : AskedView) (request : Request) (input output faults : Device) (status : ℕ) → Some a ≡ x →
    x ≡ Some (asked_for request None) →
    (a.file ≡ None → Answers a.request input output faults status) → Answers request input output faults status
of_input x a request input output faults status e f h =
    subst (λ (b : AskedView). b.file ≡ None → Answers b.request input output faults status) (same_asked x a (asked_for request None) e f) h refl

pub of_file : (x : Option AskedView) (a : AskedView) (request : Request) (name : Text) (files : Files) (input output faults : Device) (status : ℕ) →
    Some a ≡ x →
    x ≡ Some (asked_for request (Some name)) → ((n : Text) → a.file ≡ Some n → OfFile files n (Answers a.request) input output faults status) →
    OfFile files name (Answers request) input output faults status
of_file x a request name files input output faults status e f h =
    subst (λ (b : AskedView). (n : Text) → b.file ≡ Some n → OfFile files n (Answers b.request) input output faults status)
    (same_asked x a (asked_for request (Some name)) e f) h name refl

-- 2. The file

pub of_opened : (files : Files) (name : Text) (request : Request) (input file output faults : Device) (status : ℕ) → IsOpened files name →
    file.before.bytes ≡ files.contents name →
    Answers request file output faults status → IsUntouched input → OfFile files name (Answers request) input output faults status
of_opened files name request input file output faults status opened begins does unread =
    inl (record { opened = opened; file = file; begins = begins; does = does; unread = unread })

pub of_unopened : (files : Files) (name : Text) (request : Request) (input output faults : Device) (status : ℕ) → IsUnopened files name → IsUntouched input →
    IsUntouched output →
    Reports faults (line_text (codes "open") []) → status ≡ 3 → OfFile files name (Answers request) input output faults status
of_unopened files name request input output faults status unopened unread unwritten reports is =
    inr (inl (record { unopened = unopened; unread = unread; unwritten = unwritten; reports = reports; status_is = is }))

pub of_no_memory : (files : Files) (name : Text) (request : Request) (input output faults : Device) (status : ℕ) → LacksMemory input output faults status →
    OfFile files name (Answers request) input output faults status
of_no_memory files name request input output faults status m = inr (inr m)
