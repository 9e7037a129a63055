-- The command line of the program, in clap's words.
use Rattle.std.specs.Borrow.{Bor}
use Rattle.std.specs.Prelude.{◌≡◌, ◌⊎◌, ◌∷◌, [], List, Result, Ok, Err, Some, codes, false, true}
use Rattle.clap.specs.Faults.{fault_of}
use Rattle.clap.specs.Kinds.{IsAmong, Kinds}
use Rattle.clap.specs.Lexer.{usize_max}
use Rattle.clap.specs.Matches.{found_of}
use Rattle.clap.specs.Simple.{App, matches_of, new_rule, new_shape}
use Rattle.clap.specs.Values.{kind_of}
use Rattle.clap.specs.Walk.{Row, Rule, Text, rows_of, rule_of, texts}
use Rattle.clap.specs.declared.builder.action.ArgAction.TheVariants.{SetTrue}
use Rattle.clap.specs.declared.builder.arg.Arg.{Arg}
use Rattle.clap.specs.declared.builder.value_parser.ValueParser.{ValueParser}
use Rattle.clap.specs.declared.builder.value_parser.ValueParser.TheVariants as parsers
use Rattle.clap.specs.declared.error.Error.{Error}
use Rattle.clap.specs.declared.error.kind.ErrorKind.TheVariants.{OutOfMemory}
use Rattle.clap.specs.declared.parser.matches.ArgMatches.{ArgMatches}

-- what can be asked for
abbrev pub actions : List Text
actions = codes "encode" ∷ codes "decode" ∷ codes "recode" ∷ codes "set" ∷ []

-- the parser takes these words, and no others
abbrev pub TakesActions : ValueParser → Type 0
TakesActions parser = (names : Bor (List (Bor Text))) × (parser ≡ parsers.Names names)
    × (texts names.now ≡ actions)

-- the argument has this rule, and is read where it stands
abbrev pub HasRule : Rule → Arg → Type 0
HasRule rule a = (rule_of a ≡ rule) × (a.global ≡ false)

-- what is asked for; it has to be there
abbrev pub action_rule : ValueParser → Rule
action_rule parser = record (new_rule (codes "action")) {
  value_names = 1;
  parser = Some parser;
  required = true;
}

-- `--name VALUE`
abbrev pub option_rule : Text → Rule
option_rule name = record (new_rule name) { long = Some name; value_names = 1 }

-- the folder of the sources, this one where none is named
abbrev pub root_rule : Rule
root_rule = record (option_rule (codes "root")) { defaults = codes "." ∷ [] }

abbrev pub hex_rule : Rule
hex_rule = record (new_rule (codes "hex")) { long = Some (codes "hex"); action = Some SetTrue }

-- the sources, as many as there are
abbrev pub names_rule : Rule
names_rule = record (new_rule (codes "names")) {
  range = Some (record { start_inclusive = 0; end_inclusive = usize_max });
  value_names = 1;
}

-- no word is the program's name, and there is a version to be told
abbrev pub app_with : ValueParser → Rule → App
app_with parser type_rule = record {
  top = record (new_shape (codes "schema")) {
    rules = action_rule parser ∷ option_rule (codes "descriptor") ∷ option_rule (codes "set")
        ∷ type_rule ∷ root_rule ∷ hex_rule ∷ names_rule ∷ [];
    no_binary_name = true;
    has_version = true;
  };
  subs = [];
}

-- the command line; whether a type is wanted is asked of what was found
abbrev pub app : ValueParser → App
app parser = app_with parser (option_rule (codes "type"))

-- the kinds of fault of the words, of which there are none where they are taken; help and the
-- version are told as faults
abbrev pub faults : ValueParser → List Text → Kinds
faults parser words = fault_of (app parser) words

-- what is found in words that are taken
abbrev pub found_in : ValueParser → List Text → List Row
found_in parser words = matches_of (app parser) words

-- the words are taken, and this is found in them; or memory runs out, or they are refused for their
-- first fault
abbrev pub AreRead : List Text → Result ArgMatches Error → Type 0
AreRead words (Ok m) = (parser : ValueParser) × TakesActions parser × (faults parser words ≡ [])
    × (rows_of (found_of m) ≡ found_in parser words)
AreRead words (Err e) = (kind_of e ≡ OutOfMemory)
    ⊎ ((parser : ValueParser) × TakesActions parser × IsAmong (kind_of e) (faults parser words))
