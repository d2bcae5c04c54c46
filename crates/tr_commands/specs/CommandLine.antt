-- The command line of the program, as clap's own model has commands.
use Rattle.std.specs.Prelude.{true, codes, Some, [], ◌∷◌}
use Rattle.clap.specs.Words.{App, Rule, new_app, new_rule, with_rule, with_subcommand}
use Rattle.clap.specs.declared.builder.action.ArgAction.TheVariants.{Set, SetTrue}
use Rattle.clap.specs.declared.builder.value_parser.ValueParser.TheVariants.{Unsigned}

-- the command by itself, which has a version and wants one of its subcommands
abbrev pub bare : App
bare = let a = new_app (codes "tracebox") in record a { top = record a.top { has_version = true; subcommand_required = true } }

-- `serial` has no argument
abbrev pub serial_app : App
serial_app = new_app (codes "serial")

-- `--turns N`, 1 to 100,000,000, or else 100,000
abbrev pub turns_rule : Rule
turns_rule = record (new_rule (codes "turns")) { long = Some (codes "turns"); action = Some Set; value_names = 1; defaults = codes "100000" ∷ []; parser = Some (Unsigned 1 100000000) }

-- `threads` may have turns
abbrev pub threads_app : App
threads_app = with_rule (new_app (codes "threads")) turns_rule

-- `--states N`, 1 to 100,000,000, or else 1,000,000
abbrev pub states_rule : Rule
states_rule = record (new_rule (codes "states")) { long = Some (codes "states"); action = Some Set; value_names = 1; defaults = codes "1000000" ∷ []; parser = Some (Unsigned 1 100000000) }

-- `--end K`, 1 to 100,000,000
abbrev pub end_rule : Rule
end_rule = record (new_rule (codes "end")) { long = Some (codes "end"); action = Some Set; value_names = 1; parser = Some (Unsigned 1 100000000) }

-- `--free`
abbrev pub free_rule : Rule
free_rule = record (new_rule (codes "free")) { long = Some (codes "free"); action = Some SetTrue }

-- `explore` may have states
abbrev pub bounded_app : App
bounded_app = with_rule (new_app (codes "explore")) states_rule

-- be free
abbrev pub free_app : App
free_app = with_rule bounded_app free_rule

-- and have an end
abbrev pub explore_app : App
explore_app = with_rule free_app end_rule

-- `explain` has no argument
abbrev pub explain_app : App
explain_app = new_app (codes "explain")

-- `draw` has no argument
abbrev pub draw_app : App
draw_app = new_app (codes "draw")

-- `live` has no argument
abbrev pub live_app : App
live_app = new_app (codes "live")

-- `compare` has no argument
abbrev pub compare_app : App
compare_app = new_app (codes "compare")

-- WORD has to be there
abbrev pub word_rule : Rule
word_rule = record (new_rule (codes "WORD")) { action = Some Set; required = true }

-- `decode` has a WORD
abbrev pub decode_app : App
decode_app = with_rule (new_app (codes "decode")) word_rule

-- with the words that run a scenario
abbrev pub runs_app : App
runs_app = with_subcommand (with_subcommand bare serial_app.top) threads_app.top

-- and with the word that explores schedules
abbrev pub scenarios_app : App
scenarios_app = with_subcommand runs_app explore_app.top

-- and with the words that explain and draw a run
abbrev pub drawing_app : App
drawing_app = with_subcommand (with_subcommand scenarios_app explain_app.top) draw_app.top

-- and with the word that holds a dialogue
abbrev pub telling_app : App
telling_app = with_subcommand drawing_app live_app.top

-- and with the word that compares a record
abbrev pub readers_app : App
readers_app = with_subcommand telling_app compare_app.top

-- and with the word that tells a status
abbrev pub tracebox : App
tracebox = with_subcommand readers_app decode_app.top
