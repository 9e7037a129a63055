-- The command line is one of those of which clap tells what it takes.
use Rattle.std.proofs.Common.{◌≡◌, List, Result, Ok, Err, IfOk, inl, inr, refl, subst, true}
use Rattle.clap.specs.Faults.{fault_of, is_simple_and_free}
use Rattle.clap.specs.Kinds.{FailsBy}
use Rattle.clap.specs.Simple.{App, HasMatchesOf, Shape, is_simple, on_top}
use Rattle.clap.specs.Walk.{Text}
use Rattle.clap.specs.declared.builder.value_parser.ValueParser.{ValueParser}
use Rattle.clap.specs.declared.error.Error.{Error}
use Rattle.clap.specs.declared.parser.matches.ArgMatches.{ArgMatches}
use Rattle.clap.proofs.OnLiterals.{clap_on_literals}
use Rattle.schema_words.specs.CommandLine.{AreRead, TakesActions, app, faults}

abbrev pub without_name : App → App
without_name a = on_top (λ (s : Shape). record s { no_binary_name = true }) a

abbrev pub with_version : App → App
with_version a = on_top (λ (s : Shape). record s { has_version = true }) a

pub simple : (parser : ValueParser) → is_simple (app parser) ≡ true
unfolding clap_on_literals
simple parser = refl

pub free : (parser : ValueParser) → is_simple_and_free (app parser) ≡ true
unfolding clap_on_literals
free parser = refl

-- what clap tells of a parse by it
tells : (words : List Text) (parser : ValueParser) → TakesActions parser → (r : Result ArgMatches Error) → FailsBy (faults parser words) r
    → IfOk r (HasMatchesOf (app parser) words) → AreRead words r
tells words parser takes (Ok m) fails found = (parser, takes, fails, (found (simple parser)).0)
tells words parser takes (Err e) (inl memory) found = inl memory
tells words parser takes (Err e) (inr among) found = inr (parser, takes, among)

pub read : (a : App) (words : List Text) (parser : ValueParser) → TakesActions parser → a ≡ app parser → (r : Result ArgMatches Error)
    → (is_simple_and_free a ≡ true → FailsBy (fault_of a words) r) → IfOk r (HasMatchesOf a words) → AreRead words r
read a words parser takes is r fails found =
    tells words parser takes r
    (subst (λ (x : App). is_simple_and_free x ≡ true → FailsBy (fault_of x words) r) is fails (free parser))
    (subst (λ (x : App). IfOk r (HasMatchesOf x words)) is found)
