-- Output that is written part by part, with its last bytes pending
use Rattle.std.proofs.Common.{◌≡◌, ℕ, ◌+◌, ◌<◌, ◌≤◌, List, [], ◌++◌, length, take, refl, sym, ap, subst, ◌∙◌, append_assoc, get_or, drop, Result, Ok, Err}
use Rattle.std.proofs.KnownBytes.{Appends-nil, Appends-trans}
use Rattle.std.specs.Prelude.{OnOk}
use Rattle.std.proofs.Math.Seq.{take-append_seam}
use Rattle.std.specs.List.{flat_map}
use Rattle.std.proofs.lemmas.List.{append-nil, at_drop_more, drop_all, take-append-drop}
use Rattle.counted_io.specs.Device.{Failed}
use Rattle.devices.specs.Devices.{Device, Port, Takes, between}
use Rattle.devices.specs.Lines.{WritesLine}
use Rattle.devices.specs.declared.halt.Halt.{Halt}
use Rattle.devices.specs.declared.halt.Halt.TheVariants.{Read, Write, Memory}
use Rattle.es_feed.specs.Records.{Puts, Sends}

-- Nothing is written.
pub puts_none : (port : Port) (pending : List ℕ) → Puts (between port port) pending pending (Ok tt)
puts_none port pending = (record { sent = []; takes = Appends-nil port.bytes; is = refl }, refl)

-- One more part is written.
sends_more : (old mid new : Port) (one pending two left : List ℕ) → Sends (between old mid) one pending → Sends (between mid new) (pending ++ two) left →
    Sends (between old new) (one ++ two) left
sends_more old mid new one pending two left a b = record {
  sent = a.sent ++ b.sent;
  takes = Appends-trans old.bytes mid.bytes new.bytes a.sent b.sent a.takes b.takes;
  is = ap (λ (x : List ℕ). x ++ two) a.is ∙ append_assoc a.sent pending two ∙ ap (λ (x : List ℕ). a.sent ++ x) b.is ∙ sym (append_assoc a.sent b.sent left);
}

pub puts_more : (old mid new : Port) (one pending two after : List ℕ) (r : Result (Unit {0}) Halt) →
    Puts (between old mid) one pending (Ok tt) → Puts (between mid new) (pending ++ two) after r → Puts (between old new) (one ++ two) after r
puts_more old mid new one pending two after (Ok x) a b = (sends_more old mid new one pending two after a.0 b.0, b.1 ∙ a.1)
puts_more old mid new one pending two after (Err Read) a b = absurd b
puts_more old mid new one pending two after (Err Write) a b =
    (b.0, sends_more old mid new one pending two b.0 a.0 b.1, subst (λ (x : ℕ). Failed x new.failed) a.1 b.2)
puts_more old mid new one pending two after (Err Memory) a b = absurd b

-- If writing a part fails, writing the part with more text after it fails in the same way.
pub puts_failed : (output : Device) (one pending two other : List ℕ) (halt : Halt) → Puts output one pending (Err halt) →
    Puts output (one ++ two) other (Err halt)
puts_failed output one pending two other Read a = absurd a
puts_failed output one pending two other Write a = (
  a.0 ++ two,
  record {
    sent = a.1.sent;
    takes = a.1.takes;
    is = ap (λ (x : List ℕ). x ++ two) a.1.is ∙ append_assoc a.1.sent a.0 two;
  },
  a.2,
)
puts_failed output one pending two other Memory a = absurd a

-- A text without pending bytes is written whole.
pub puts_whole : (output : Device) (text pending : List ℕ) (r : Result (Unit {0}) Halt) → (r ≡ Ok tt → pending ≡ []) → Puts output text pending r →
    WritesLine text output r
puts_whole output text pending (Ok x) n a =
    let whole : text ≡ a.0.sent = a.0.is ∙ ap (λ (y : List ℕ). a.0.sent ++ y) (n refl) ∙ append-nil a.0.sent in
    (subst (λ (y : List ℕ). Takes output y) (sym whole) a.0.takes, a.1)
puts_whole output text pending (Err Read) n a = absurd a
puts_whole output text pending (Err Write) n a =
    let front : take (length a.1.sent) text ≡ a.1.sent = ap (take (length a.1.sent)) a.1.is ∙ take-append_seam a.1.sent a.0 in
    (record { taken = length a.1.sent; appends = subst (λ (y : List ℕ). Takes output y) (sym front) a.1.takes }, a.2)
puts_whole output text pending (Err Memory) n a = absurd a

-- A text that is written whole, or only its front is written
pub puts_written : (output : Device) (text pending : List ℕ) (r : Result (Unit {0}) Halt) → (r ≡ Ok tt → pending ≡ []) → WritesLine text output r →
    Puts output text pending r
puts_written output text pending (Ok x) n w =
    (record { sent = text; takes = w.0; is = sym (append-nil text) ∙ ap (λ (y : List ℕ). text ++ y) (sym (n refl)) }, w.1)
puts_written output text pending (Err Read) n w = absurd w
puts_written output text pending (Err Write) n w =
    (drop w.0.taken text, record { sent = take w.0.taken text; takes = w.0.appends; is = sym (take-append-drop w.0.taken text) }, w.1)
puts_written output text pending (Err Memory) n w = absurd w

-- One more part, if nothing is pending
pub puts_first : (old mid new : Port) (one pending two after : List ℕ) (r : Result (Unit {0}) Halt) → pending ≡ [] →
    Puts (between old mid) one pending (Ok tt) → Puts (between mid new) two after r → Puts (between old new) (one ++ two) after r
puts_first old mid new one pending two after r n a b =
    puts_more old mid new one pending two after r a (subst (λ (x : List ℕ). Puts (between mid new) (x ++ two) after r) (sym n) b)

-- Three parts, grouped differently
pub puts_grouped : (output : Device) (one two three after : List ℕ) (r : Result (Unit {0}) Halt) → Puts output ((one ++ two) ++ three) after r →
    Puts output (one ++ (two ++ three)) after r
puts_grouped output one two three after r p = subst (λ (x : List ℕ). Puts output x after r) (append_assoc one two three) p

-- The texts of the entries from entry i on
texts_step : {T : Type 0} (f : T → List ℕ) (entries : List T) (i : ℕ) (t : T) → i < length entries → t ≡ get_or entries i t →
    flat_map f (drop i entries) ≡ f t ++ flat_map f (drop (i + 1) entries)
texts_step {T = T} f entries i t s e = at_drop_more (λ (xs : List T). flat_map f xs) entries i t s
    ∙ ap (λ (x : T). f x ++ flat_map f (drop (i + 1) entries)) (sym e)

-- The texts of the entries before entry i are written, then the text of entry i.
pub record SendsFront {T : Type 0} (f : T → List ℕ) (old now : Port) (first pending : List ℕ) (entries : List T) (i : ℕ) : Type 0 where
  pub text : List ℕ
  pub puts : Puts (between old now) text pending (Ok tt)
  pub left : text ++ flat_map f (drop i entries) ≡ first ++ flat_map f entries

pub front_none : {T : Type 0} (f : T → List ℕ) (port : Port) (first : List ℕ) (entries : List T) → SendsFront f port port first first entries 0
front_none f port first entries = record { text = first; puts = puts_none port first; left = refl }

left_more : {T : Type 0} (f : T → List ℕ) (text first : List ℕ) (entries : List T) (i : ℕ) (t : T) → i < length entries → t ≡ get_or entries i t →
    text ++ flat_map f (drop i entries) ≡ first ++ flat_map f entries → (text ++ f t) ++ flat_map f (drop (i + 1) entries) ≡ first ++ flat_map f entries
left_more f text first entries i t s e l = append_assoc text (f t) (flat_map f (drop (i + 1) entries))
    ∙ ap (λ (x : List ℕ). text ++ x) (sym (texts_step f entries i t s e)) ∙ l

pub front_more : {T : Type 0} (f : T → List ℕ) (old mid new : Port) (first pending after : List ℕ) (entries : List T) (i : ℕ) (t : T) → i < length entries →
    t ≡ get_or entries i t →
    SendsFront f old mid first pending entries i → Puts (between mid new) (pending ++ f t) after (Ok tt) → SendsFront f old new first after entries (i + 1)
front_more f old mid new first pending after entries i t s e so p = record {
  text = so.text ++ f t;
  puts = puts_more old mid new so.text pending (f t) after (Ok tt) so.puts p;
  left = left_more f so.text first entries i t s e so.left;
}

pub front_failed : {T : Type 0} (f : T → List ℕ) (old mid new : Port) (first pending after : List ℕ) (entries : List T) (i : ℕ) (t : T) (halt : Halt) →
    i < length entries → t ≡ get_or entries i t →
    SendsFront f old mid first pending entries i → Puts (between mid new) (pending ++ f t) after (Err halt) →
    Puts (between old new) (first ++ flat_map f entries) after (Err halt)
front_failed f old mid new first pending after entries i t halt s e so p =
    let here = puts_more old mid new so.text pending (f t) after (Err halt) so.puts p in
    subst (λ (x : List ℕ). Puts (between old new) x after (Err halt)) (left_more f so.text first entries i t s e so.left)
    (puts_failed (between old new) (so.text ++ f t) after (flat_map f (drop (i + 1) entries)) after halt here)

pub front_whole : {T : Type 0} (f : T → List ℕ) (old now : Port) (first pending : List ℕ) (entries : List T) (i : ℕ) → length entries ≤ i →
    SendsFront f old now first pending entries i → Puts (between old now) (first ++ flat_map f entries) pending (Ok tt)
front_whole {T = T} f old now first pending entries i s so =
    let none : flat_map f (drop i entries) ≡ [] = ap (λ (xs : List T). flat_map f xs) (drop_all i entries s) in
    let all : so.text ≡ first ++ flat_map f entries = sym (append-nil so.text) ∙ ap (λ (x : List ℕ). so.text ++ x) (sym none) ∙ so.left in
    subst (λ (x : List ℕ). Puts (between old now) x pending (Ok tt)) all so.puts

-- The pending bytes are written last.
none_if : (r : Result (Unit {0}) Halt) (pending : List ℕ) → OnOk r (pending ≡ []) → r ≡ Ok tt → pending ≡ []
none_if (Ok x) pending n e = n
none_if (Err halt) pending n e = absurd cc

pub puts_then_whole : (old mid new : Port) (text pending after : List ℕ) (r : Result (Unit {0}) Halt) →
    Puts (between old mid) text pending (Ok tt) → Puts (between mid new) pending after r → OnOk r (after ≡ []) → WritesLine text (between old new) r
puts_then_whole old mid new text pending after r a b n =
    let last : Puts (between mid new) (pending ++ []) after r = subst (λ (x : List ℕ). Puts (between mid new) x after r) (sym (append-nil pending)) b in
    let all : Puts (between old new) (text ++ []) after r = puts_more old mid new text pending [] after r a last in
    puts_whole (between old new) text after r (none_if r after n) (subst (λ (x : List ℕ). Puts (between old new) x after r) (append-nil text) all)

pub puts_failed_whole : (output : Device) (text pending : List ℕ) (halt : Halt) → Puts output text pending (Err halt) →
    WritesLine {V = Unit {0}} text output (Err halt)
puts_failed_whole output text pending halt p = puts_whole output text pending (Err halt) (λ e. absurd cc) p
