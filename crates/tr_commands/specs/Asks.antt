-- What the words of a command line ask for.
use Rattle.std.specs.Prelude.{◌≡◌, ◌⊎◌, ◌≤◌, ℕ, Bool, true, false, ◌&&◌, List, [], length, nat_le, codes, if◌then◌else◌, Option, Some, None, option_and_then, Result, Ok, Err}
use Rattle.std.specs.Char.{is_ascii_hexdigit}
use Rattle.std.specs.List.{list_all}
use Rattle.std.specs.Str.{bytes_eq}
use Rattle.std.specs.Str.Parse.{digits_value, without_leading_plus}
use Rattle.clap.specs.ValueTests.{is_unsigned_in}
use Rattle.clap.specs.Words.{IsAmong, Kinds, Row, Text, fault_of, first_of, subcommand_of, takes}
use Rattle.clap.specs.declared.error.kind.ErrorKind.{ErrorKind}
use Rattle.clap.specs.declared.error.kind.ErrorKind.TheVariants as kind
use Rattle.tr_commands.specs.declared.asking.Ask.{Ask}
use Rattle.tr_commands.specs.declared.asking.Ask.TheVariants.{Serial, Threads, Explore, Replay, Explain, Draw, Live, Compare, Decode}
use Rattle.tr_commands.specs.declared.asking.AskFault.{AskFault}
use Rattle.tr_commands.specs.declared.asking.AskFault.TheVariants.{Help, Usage, NoMemory}
use Rattle.tr_commands.specs.declared.asking.Declined.{Declined}
use Rattle.tr_commands.specs.CommandLine.{tracebox}

-- one to eight hexadecimal digits, and nothing else
abbrev pub is_numeral : Text → Bool
is_numeral t = nat_le 1 (length t) && (nat_le (length t) 8 && list_all is_ascii_hexdigit t)

-- what it is read as
abbrev pub numeral_value : Text → Option ℕ
numeral_value t = if is_numeral t then Some (digits_value 16 t) else None

-- a number asks for the status of its word
abbrev pub decode_asked : Option ℕ → Result Ask AskFault
decode_asked None = Err Usage
decode_asked (Some n) = Ok (Decode (record { 0 = n }))

-- what WORD asks for
abbrev pub word_asked : Option Text → Result Ask AskFault
word_asked None = Err Usage
word_asked (Some t) = decode_asked (numeral_value t)

-- a whole number from 1 to 100,000,000
abbrev pub count_value : Text → Option ℕ
count_value t = if is_unsigned_in 1 100000000 t then Some (digits_value 10 (without_leading_plus t)) else None

-- turns ask for a run by threads
abbrev pub threads_asked : Option ℕ → Result Ask AskFault
threads_asked None = Err Usage
threads_asked (Some n) = Ok (Threads n)

-- what N asks for
abbrev pub turns_asked : Option Text → Result Ask AskFault
turns_asked None = Err Usage
turns_asked (Some t) = threads_asked (count_value t)

-- the number of an end asks for it
abbrev pub replay_asked : ℕ → Option ℕ → Result Ask AskFault
replay_asked n None = Err Usage
replay_asked n (Some k) = Ok (Replay n k)

-- a flag was given
abbrev pub is_set : Option Text → Bool
is_set None = false
is_set (Some t) = bytes_eq t (codes "true")

-- states ask for all ends, where no end is asked for; one end isn't sought among free schedules
abbrev pub explore_asked : Option ℕ → Bool → Option Text → Result Ask AskFault
explore_asked None free end = Err Usage
explore_asked (Some n) free None = Ok (Explore free n)
explore_asked (Some n) true (Some t) = Err Usage
explore_asked (Some n) false (Some t) = replay_asked n (count_value t)

-- what N, the flag and K ask for
abbrev pub search_asked : Option Text → Option Text → Option Text → Result Ask AskFault
search_asked states free end = explore_asked (option_and_then count_value states) (is_set free) end

-- what a subcommand asks for, by its name and the rows of its matches
abbrev pub named : Text → List Row → Result Ask AskFault
named name rows =
    if bytes_eq name (codes "serial") then Ok Serial
    else (if bytes_eq name (codes "threads") then turns_asked (first_of (codes "turns") rows)
    else (if bytes_eq name (codes "explore") then search_asked (first_of (codes "states") rows) (first_of (codes "free") rows) (first_of (codes "end") rows)
    else (if bytes_eq name (codes "explain") then Ok Explain
    else (if bytes_eq name (codes "draw") then Ok Draw
    else (if bytes_eq name (codes "live") then Ok Live
    else (if bytes_eq name (codes "compare") then Ok Compare
    else (if bytes_eq name (codes "decode") then word_asked (first_of (codes "WORD") rows) else Err Usage)))))))

-- the turns of a run by threads, the states of a search and the number of an end are 1 to 100,000,000
abbrev pub HasCount : Ask → Type 0
HasCount (Threads n) = (1 ≤ n) × (n ≤ 100000000)
HasCount (Explore free n) = (1 ≤ n) × (n ≤ 100000000)
HasCount (Replay n k) = (1 ≤ n) × (n ≤ 100000000) × (1 ≤ k) × (k ≤ 100000000)
HasCount _ = Unit {0}

-- what the subcommand asks for; without one it is Usage
abbrev pub asked_by : Option (Text × List Row) → Result Ask AskFault
asked_by None = Err Usage
asked_by (Some m) = named m.0 m.1

-- an answer without its text
abbrev pub answer_of : Result Ask Declined → Result Ask AskFault
answer_of (Ok a) = Ok a
answer_of (Err d) = Err d.fault

-- what the matches of the words ask for, where clap takes the words; memory may be refused
abbrev pub Answers : List Text → Result Ask AskFault → Type 0
Answers words (Ok a) = asked_by (subcommand_of tracebox words) ≡ Ok a
Answers words (Err e) = takes tracebox words ≡ true → (e ≡ NoMemory) ⊎ (asked_by (subcommand_of tracebox words) ≡ Err e)

-- what clap's refusal comes to
abbrev pub fault_at : ErrorKind → AskFault
fault_at kind.OutOfMemory = NoMemory
fault_at kind.DisplayHelp = Help
fault_at kind.DisplayVersion = Help
fault_at _ = Usage

-- one of the kinds has this fault
abbrev pub IsFaultOf : Kinds → AskFault → Type 0
IsFaultOf kinds e = (k : ErrorKind) × IsAmong k kinds × (e ≡ fault_at k)

-- by the kinds of error that clap has for the words: none, or one of them is the fault. Memory may be refused
abbrev pub Blames : List Text → Result Ask AskFault → Type 0
Blames words (Ok a) = fault_of tracebox words ≡ []
Blames words (Err e) = (e ≡ NoMemory) ⊎ ((fault_of tracebox words ≡ []) ⊎ IsFaultOf (fault_of tracebox words) e)
