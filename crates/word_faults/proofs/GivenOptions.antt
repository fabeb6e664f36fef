-- `clap` reads the command line of a table as its contracts describe.
use Rattle.std.proofs.Common.{◌≡◌, ◌&&◌, Bool, true, false, List, [], ◌∷◌, refl, sym, subst, Some, None, Result, Ok, Err}
use Rattle.std.specs.Prelude.{IfOk}
use Rattle.clap.specs.Words.{App, FailsBy, HasMatchesOf, IsAmong, Kinds, Row, fault_of, found_of, is_simple, is_simple_and_free, matches_of, rows_of}
use Rattle.clap.specs.declared.error.Error.{Error}
use Rattle.clap.specs.declared.error.kind.ErrorKind.{ErrorKind}
use Rattle.clap.specs.declared.parser.matches.ArgMatches.{ArgMatches}
use Rattle.word_faults.specs.CommandLine.{Text}
use Rattle.word_faults.specs.GivenOptions.{unless_faulty}

first_holds : (a b : Bool) → a && b ≡ true → a ≡ true
first_holds true b e = refl
first_holds false b e = e

pub matched : {E : Type 0} (app : App) (words : List Text) (r : Result ArgMatches E) → is_simple_and_free app ≡ true → IfOk r (HasMatchesOf app words) →
    IfOk r (λ m. rows_of (found_of m) ≡ matches_of app words)
matched app words (Ok m) s h = (h (first_holds (is_simple app) _ s)).0
matched app words (Err e) s h = tt

pub faulty : {T : Type 0} (app declared : App) (words : List Text) (r : Result T Error) → app ≡ declared → is_simple_and_free declared ≡ true →
    (is_simple_and_free app ≡ true → FailsBy (fault_of app words) r) → FailsBy (fault_of declared words) r
faulty app declared words r e s h = subst (λ (a : App). FailsBy (fault_of a words) r) e (h (subst (λ (a : App). is_simple_and_free a ≡ true) (sym e) s))

-- Words without a fault, and words with a fault
pub faultless : (faults : Kinds) (given : List Row) → faults ≡ [] → Some given ≡ unless_faulty faults given
unfolding unless_faulty
faultless faults given e = rw e refl

pub refused : (k : ErrorKind) (faults : Kinds) (given : List Row) → IsAmong k faults → unless_faulty faults given ≡ None
unfolding unless_faulty
refused k [] given i = absurd i
refused k (f ∷ faults) given i = refl
