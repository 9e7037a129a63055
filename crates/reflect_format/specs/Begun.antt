-- Fields of a text that a message has in part or not at all, since memory ran out while it took
-- them.
use Rattle.std.specs.Prelude.{◌≡◌, ◌⊎◌, true, List}
use Rattle.protox_lex.specs.Class.{Text}
use Rattle.protobuf_model.specs.Values.{text}
use Rattle.reflect_any.specs.Any.{IsAny}
use Rattle.reflect_message.specs.Names.{DynamicMessage, Value}
use Rattle.reflect_pool.specs.Kinds.{IsKind}
use Rattle.reflect_pool.specs.declared.kind.Kind.{Kind}
use Rattle.text_model.specs.Tree.{FieldName, plain, extension, expansion, Given}
use Rattle.text_model.specs.Value.{written}
use Rattle.reflect_format.specs.Filled.{AreGiven, Filling, ListOfKind, url_of}
use Rattle.reflect_format.specs.Named.{NamesField, NamesExtension}
use Rattle.reflect_format.specs.Steps.{AddsPart, Leaves, LeavesNumber, SetsNumber}
use Rattle.reflect_format.specs.Takes.{holds_many, target_pool, target_type}
use Rattle.reflect_format.specs.declared.target.Target.{Target}

-- a list or a map has a part of the values that are given to it
abbrev pub AddsSome : Target → ListOfKind → Filling
AddsSome t all old new =
    (k : Kind) × IsKind (target_pool t) k (target_type t).kind × (holds_many t ≡ true)
    × (vs : List Value) × all k vs × AddsPart t vs old new

-- the target is left, or, as a list or a map, has a part of the values
abbrev pub BeginsTarget : Target → ListOfKind → Filling
BeginsTarget t all old new = Leaves t old new ⊎ AddsSome t all old new

-- a google.protobuf.Any is left, or has the URL of a type, and not yet a message's bytes
abbrev pub BeginsAny : Text → Filling
BeginsAny url old new = IsAny old.descriptor
    × (LeavesNumber 1 old new
    ⊎ ((between : DynamicMessage) × (between.descriptor ≡ old.descriptor)
    × SetsNumber 1 (text url) old between × LeavesNumber 2 between new))

-- so it is of what is given under a name
abbrev pub Begins : FieldName → Given → Filling
Begins (plain w) given old new =
    (t : Target) × NamesField old.descriptor w t × BeginsTarget t (AreGiven given) old new
Begins (extension n) given old new =
    (t : Target) × NamesExtension old.descriptor (written n) t
    × BeginsTarget t (AreGiven given) old new
Begins (expansion domain n) given old new =
    BeginsAny (url_of (written domain) (written n)) old new
