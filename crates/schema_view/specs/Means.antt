-- What a name means where it stands: a statement over all prefixes of its scope (protobuf.dev,
-- "Packages and Name Resolution").
use Rattle.std.specs.Prelude.{◌≡◌, ◌<◌, ℤ, pos, List, [], ◌∷◌, ◌⊎◌, length, Bool, true, false, ◌||◌, ◌==◌, cond, MatchBool, Contains, None, Some}
use Rattle.descriptor_records.specs.Content.{Text}
use Rattle.schema_view.specs.Files.{join}
use Rattle.schema_view.specs.References.{Want, a_message, a_type, Reference, Target}
use Rattle.schema_view.specs.Outlines.{Sort, message_sort, enum_sort, service_sort, other_sort, Head, Outline, IsScope, IsDeclared, Sees, IsPackage}

abbrev pub has_dot : Text → Bool
has_dot [] = false
has_dot (b ∷ bs) = (b == 46) || has_dot bs

-- what stands before the first dot
abbrev pub first_part : Text → Text
first_part [] = []
first_part (b ∷ bs) = cond (b == 46) [] (b ∷ first_part bs)

abbrev pub is_type : Sort → Bool
is_type (message_sort extensions reserved) = true
is_type (enum_sort values) = true
is_type service_sort = false
is_type other_sort = false

abbrev pub is_message : Sort → Bool
is_message (message_sort extensions reserved) = true
is_message (enum_sort values) = false
is_message service_sort = false
is_message other_sort = false

abbrev pub is_wanted : Want → Sort → Bool
is_wanted a_message s = is_message s
is_wanted (a_type n) s = is_type s

-- packages, messages, enums and services hold names
abbrev pub is_holder : Sort → Bool
is_holder (message_sort extensions reserved) = true
is_holder (enum_sort values) = true
is_holder service_sort = true
is_holder other_sort = false

-- a definition of a wanted sort, which the file sees
abbrev pub IsWanted : List Outline → Outline → Want → Text → Type 0
IsWanted os from w full =
    (o : Outline) × (h : Head) × Contains os o × Contains o.heads h
    × (h.name ≡ full) × (is_wanted w h.sort ≡ true) × Sees os from o.name

-- a package or a definition that holds names, seen or not
abbrev pub HoldsNames : List Outline → Text → Type 0
HoldsNames os n =
    IsPackage os n
    ⊎ ((o : Outline) × (h : Head) × Contains os o × Contains o.heads h × (h.name ≡ n)
    × (is_holder h.sort ≡ true))

-- by which definitions are wanted, and which names hold others
module _ (Wanted Holding : Text → Type 0) where
  -- the innermost wanted one
  abbrev pub MeansUndotted : Text → Text → Text → Type 0
  MeansUndotted scope name full =
      (p : Text) × IsScope scope p × (full ≡ join p name) × Wanted full
      × ((q : Text) → IsScope scope q → length p < length q → Wanted (join q name) → ⊥)

  -- the whole name where its first part is settled, at the innermost scope that has it
  abbrev pub MeansDotted : Text → Text → Text → Type 0
  MeansDotted scope name full =
      (p : Text) × IsScope scope p × (full ≡ join p name) × Wanted full
      × Holding (join p (first_part name))
      × ((q : Text) → IsScope scope q → length p < length q → Holding (join q (first_part name))
      → ⊥)

  abbrev pub MeansPlain : Text → Text → Text → Type 0
  MeansPlain scope name full = MatchBool (has_dot name) (MeansDotted scope name full)
      (MeansUndotted scope name full)

  -- with a leading dot, or without
  abbrev pub MeansBy : Text → Text → Text → Type 0
  MeansBy scope [] full = MeansPlain scope [] full
  MeansBy scope (b ∷ name) full =
      MatchBool (b == 46) ((full ≡ name) × Wanted name) (MeansPlain scope (b ∷ name) full)

-- the number of a type of the sort (descriptor.proto, FieldDescriptorProto.Type): a message's or an
-- enum's
abbrev pub HasType : Sort → ℤ → Type 0
HasType (message_sort extensions reserved) n = n ≡ pos 11
HasType (enum_sort values) n = n ≡ pos 14
HasType service_sort n = ⊥
HasType other_sort n = ⊥

-- the number of a message where one is wanted; of a type, where a number is given, this one, or
-- that of a group where the target is a message
abbrev pub SuitsWant : Want → ℤ → Type 0
SuitsWant a_message type = type ≡ pos 11
SuitsWant (a_type None) type = Unit {0}
SuitsWant (a_type (Some n)) type = (n ≡ type) ⊎ ((n ≡ pos 10) × (type ≡ pos 11))

-- the reference in a file means the definition of the target
pub record ReferenceMeans (os : List Outline) (from : Outline) (r : Reference) (t : Target)
    : Type 0 where
  pub named : MeansBy (IsWanted os from r.want) (HoldsNames os) r.scope r.name t.name
  pub typed : (s : Sort) × IsDeclared os t.name s × HasType s t.type
  pub suits : SuitsWant r.want t.type
