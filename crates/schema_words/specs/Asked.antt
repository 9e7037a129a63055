-- What words ask for, by what is found in them of each id.
use Rattle.std.specs.Prelude.{◌≡◌, ◌⊎◌, List, [], Option, Some, None, Bool, true, false, codes, map, option_map, unwrap_or}
use Rattle.clap.specs.Walk.{Row, Text, all_of, first_of, one_of}
use Rattle.schema_words.specs.declared.request.Action.{Action}
use Rattle.schema_words.specs.declared.request.Action.TheVariants.{Encode, Decode, Recode}
use Rattle.schema_words.specs.declared.request.Request.{Request}
use Rattle.schema_words.specs.declared.request.Task.{Task}
use Rattle.schema_words.specs.declared.request.Task.TheVariants.{Payload, Set}

-- the word of what is done with a payload
abbrev pub word_of : Action → Text
word_of Encode = codes "encode"
word_of Decode = codes "decode"
word_of Recode = codes "recode"

-- a payload is translated by the type that is named, or the set is written
abbrev pub AsksTask : List Row → Task → Type 0
AsksTask found (Payload action type) = (first_of (codes "action") found ≡ Some (word_of action))
    × (first_of (codes "type") found ≡ Some type.now)
AsksTask found Set = first_of (codes "action") found ≡ Some (codes "set")

-- the flag's value tells whether it stands there, and where it has none it does not
abbrev pub IsFlag : Option Text → Bool → Type 0
IsFlag value flag = (value ≡ Some (codes "true") → flag ≡ true)
    × (value ≡ Some (codes "false") → flag ≡ false) × (value ≡ None → flag ≡ false)

-- each part is the value of its own id
pub record Asks (found : List Row) (wanted : Request) : Type 0 where
  pub task : AsksTask found wanted.task
  pub descriptor : option_map (λ s. s.now) wanted.descriptor ≡ first_of (codes "descriptor") found
  pub set : option_map (λ s. s.now) wanted.set ≡ first_of (codes "set") found
  pub root : first_of (codes "root") found ≡ Some wanted.root.now
  pub hex : IsFlag (one_of (codes "hex") found) wanted.is_hex
  pub names : map (λ s. s.now) wanted.names.now ≡ unwrap_or (all_of (codes "names") found) []

-- no task is asked for, as none is of a payload without a type, or there is no root
abbrev pub AsksNothing : List Row → Type 0
AsksNothing found = ((task : Task) → AsksTask found task → ⊥)
    ⊎ (first_of (codes "root") found ≡ None)
