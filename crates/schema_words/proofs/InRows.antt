-- What is read of matches stands in their rows, and what rows ask for that lack a value.
use Rattle.std.proofs.Common.{◌≡◌, ◌≢◌, List, Option, None, Some, IfNone, codes, sym, ap, ◌∙◌, true≢false}
use Rattle.std.specs.Option.{is_some}
use Rattle.clap.specs.Matches.{first_value}
use Rattle.clap.specs.Walk.{Row, Text, first_of, rows_of}
use Rattle.clap.specs.declared.parser.matches.Found.{Found}
use Rattle.clap.proofs.WalkLemmas.{first_value-rows}
use Rattle.schema_words.specs.Asked.{AsksTask, word_of}
use Rattle.schema_words.specs.declared.request.Action.{Action}
use Rattle.schema_words.specs.declared.request.Action.TheVariants.{Encode, Decode, Recode}
use Rattle.schema_words.specs.declared.request.Task.{Task}
use Rattle.schema_words.specs.declared.request.Task.TheVariants.{Payload, Set}

pub row : (f : Found) (id : Text) (o : Option Text) → first_value f id ≡ o → first_of id (rows_of f) ≡ o
row f id o e = sym (first_value-rows f id) ∙ e

pub if_none : {X : Type 0} (o : Option X) (P : Type 0) → P → IfNone o P
if_none None P p = p
if_none (Some x) P p = tt

nothing : {X : Type 0} (o : Option X) (x : X) → o ≡ None → o ≡ Some x → ⊥
nothing o x none some = true≢false (ap is_some (sym some ∙ none))

-- without a word for what is done there is no task
pub no_action : (found : List Row) → first_of (codes "action") found ≡ None → (task : Task) → AsksTask found task → ⊥
no_action found none (Payload action type) asks = nothing (first_of (codes "action") found) (word_of action) none asks.0
no_action found none Set asks = nothing (first_of (codes "action") found) (codes "set") none asks

some_word : (found : List Row) (w v : Text) → first_of (codes "action") found ≡ Some w → first_of (codes "action") found ≡ Some v → w ≡ v
some_word found w v e f = let is : Some w ≡ Some v = sym e ∙ f in cc is

-- nor with another word
pub no_such_action : (found : List Row) (w : Text) → first_of (codes "action") found ≡ Some w
    → w ≢ codes "encode" → w ≢ codes "decode" → w ≢ codes "recode" → w ≢ codes "set" → (task : Task) → AsksTask found task → ⊥
no_such_action found w is a b c d (Payload Encode type) asks = a (some_word found w (codes "encode") is asks.0)
no_such_action found w is a b c d (Payload Decode type) asks = b (some_word found w (codes "decode") is asks.0)
no_such_action found w is a b c d (Payload Recode type) asks = c (some_word found w (codes "recode") is asks.0)
no_such_action found w is a b c d Set asks = d (some_word found w (codes "set") is asks)

not_set : (action : Action) → word_of action ≢ codes "set"
not_set Encode e = cc e
not_set Decode e = cc e
not_set Recode e = cc e

-- nor is a payload asked for without a type
pub no_type : (found : List Row) (action : Action) → first_of (codes "action") found ≡ Some (word_of action)
    → first_of (codes "type") found ≡ None → (task : Task) → AsksTask found task → ⊥
no_type found action is none (Payload other type) asks = nothing (first_of (codes "type") found) type.now none asks.1
no_type found action is none Set asks = not_set action (some_word found (word_of action) (codes "set") is asks)
