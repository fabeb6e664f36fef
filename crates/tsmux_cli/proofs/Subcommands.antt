-- The subcommand that parsing found, by the two results of its call, and the request of the words.
use Rattle.std.proofs.Common.{◌≡◌, ◌<◌, List, [], ◌∷◌, length, Option, Some, None, refl, arith}
use Rattle.std.specs.Prelude.{option_map}
use Rattle.clap.specs.Words.{IsAmong, Kinds, Row, Text}
use Rattle.clap.specs.declared.error.kind.ErrorKind.{ErrorKind}
use Rattle.tsmux_cli.specs.Request.{requested_of, subcommand_request, unless_faulty}

pub none_of : {A B : Type 0} (o : Option (A × B)) → option_map {T = A × B} (λ p. p.1) o ≡ None → o ≡ None
none_of None e = refl
none_of (Some p) e = absurd cc

value_is : {A : Type 0} (x y : A) → ◌≡◌ {A = Option A} (Some x) (Some y) → x ≡ y
value_is x y e = cc

pub some_of : {A B : Type 0} (o : Option (A × B)) (a : A) (b : B) → option_map {T = A × B} (λ p. p.0) o ≡ Some a →
    option_map {T = A × B} (λ p. p.1) o ≡ Some b → o ≡ Some (a, b)
some_of None a b e f = absurd cc
some_of (Some p) a b e f =
    let x : p.0 ≡ a = value_is p.0 a e in
    let y : p.1 ≡ b = value_is p.1 b f in
    rw (← x, ← y) refl

pub in_two : {X A B : Type 0} (o : Option X) (f : X → A) (g : X → B) →
    option_map f o ≡ option_map {T = A × B} (λ p. p.0) (option_map {U = A × B} (λ x. (f x, g x)) o)
in_two None f g = refl
in_two (Some x) f g = refl

pub without_words : (words : List Text) (faults : Kinds) (named : Option (Text × List Row)) → length words ≡ 0 →
    requested_of words faults named ≡ requested_of [] faults named
without_words [] faults named e = refl
without_words (w ∷ words) faults named e = absurd (omega arith)

pub faultless : (words : List Text) (faults : Kinds) (named : Option (Text × List Row)) → 0 < length words → faults ≡ [] →
    requested_of words faults named ≡ subcommand_request named
unfolding requested_of unless_faulty
faultless [] faults named h e = absurd (omega arith)
faultless (w ∷ words) faults named h e = rw e refl

faulted : (k : ErrorKind) (faults : Kinds) (w : Text) (words : List Text) (named : Option (Text × List Row)) → IsAmong k faults →
    requested_of (w ∷ words) faults named ≡ None
unfolding requested_of unless_faulty
faulted k [] w words named i = absurd i
faulted k (f ∷ faults) w words named i = refl

pub faulty : (k : ErrorKind) (words : List Text) (faults : Kinds) (named : Option (Text × List Row)) → 0 < length words → IsAmong k faults →
    requested_of words faults named ≡ None
faulty k [] faults named h i = absurd (omega arith)
faulty k (w ∷ words) faults named h i = faulted k faults w words named i
