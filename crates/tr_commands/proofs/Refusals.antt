-- What clap's kinds of error come to.
use Rattle.std.proofs.Common.{◌≡◌, ◌∙◌, ap, subst, sym, inl, inr, refl, true, List, [], Result, Ok, Err}
use Rattle.clap.specs.Words.{App, HasKind, HasMatchesOf, Text, fault_of, is_simple, is_simple_and_free, kind_of, subcommand_of, subcommand_rows_of}
use Rattle.clap.specs.declared.parser.matches.ArgMatches.{ArgMatches}
use Rattle.clap.specs.declared.error.Error.{Error}
use Rattle.tr_commands.specs.declared.asking.Ask.{Ask}
use Rattle.tr_commands.specs.declared.asking.AskFault.{AskFault}
use Rattle.tr_commands.specs.Asks.{Answers, Blames, asked_by, fault_at}
use Rattle.tr_commands.specs.CommandLine.{tracebox}

pub simple : is_simple_and_free tracebox ≡ true
simple = refl

simple_alone : is_simple tracebox ≡ true
simple_alone = refl

told : (words : List Text) (r : Result Ask AskFault) → r ≡ asked_by (subcommand_of tracebox words) → Answers words r
told words (Ok a) h = sym h
told words (Err e) h = λ fits. inr (sym h)

pub answered : (words : List Text) (app : App) (m : ArgMatches) (r : Result Ask AskFault) → app ≡ tracebox → HasMatchesOf app words m → r ≡ asked_by (subcommand_rows_of m) → Answers words r
answered words app m r same has h =
    told words r (h ∙ ap asked_by ((has (ap is_simple same ∙ simple_alone)).1 ∙ ap (λ (a : App). subcommand_of a words) same))

pub taken : (words : List Text) (r : Result Ask AskFault) → fault_of tracebox words ≡ [] → Blames words r
taken words (Ok a) h = h
taken words (Err e) h = inr (inl h)

kinds_fault : (words : List Text) (error : Error) (e : AskFault) → e ≡ fault_at (kind_of error) → HasKind (fault_of tracebox words) error → Blames words (Err e)
kinds_fault words error e h (inl m) = inl (h ∙ ap fault_at m)
kinds_fault words error e h (inr k) = inr (inr (kind_of error, k, h))

pub refused : (app : App) (words : List Text) (error : Error) (e : AskFault) → app ≡ tracebox → e ≡ fault_at (kind_of error) → HasKind (fault_of app words) error → Blames words (Err e)
refused app words error e same h k = kinds_fault words error e h (subst (λ (a : App). HasKind (fault_of a words) error) same k)
