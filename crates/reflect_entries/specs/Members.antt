-- The members of oneofs.
use Rattle.std.specs.Prelude.{ℕ, ◌==◌, cond, List, [], ◌∷◌, Option, Some, None}
use Rattle.std.specs.Option.{option_and_then}
use Rattle.reflect_tables.specs.Types.{FieldType}
use Rattle.reflect_pool.specs.FieldsLeft.{field_type}
use Rattle.reflect_pool.specs.Parts.{members_of}
use Rattle.reflect_pool.specs.declared.field.FieldDescriptor.{FieldDescriptor}

-- the number that is there, if it is another
abbrev pub other_than : ℕ → Option ℕ → Option ℕ
other_than n None = None
other_than n (Some m) = cond (m == n) None (Some m)

-- the number of the first of the fields
abbrev pub first_number : List FieldType → Option ℕ
first_number [] = None
first_number (f ∷ _) = Some f.number

-- the number of the first member of the oneof that a field is in, if it is in one
abbrev pub first_member_of : FieldDescriptor → Option ℕ
first_member_of f = option_and_then
    (λ oneof. first_number (members_of f.message.pool.now f.message.index oneof))
    (field_type f).oneof
