-- How the tables grow.
use Rattle.std.specs.Prelude.{◌≡◌, ◌++◌, ◌+◌, take, length}
use Rattle.reflect_tables.specs.declared.tables.Counts.{Counts}
use Rattle.reflect_tables.specs.declared.tables.Tables.{Tables}

-- each list has the further entries behind
pub record Appended (old more new : Tables) : Type 0 where
  pub files : new.files.items ≡ old.files.items ++ more.files.items
  pub messages : new.messages.items ≡ old.messages.items ++ more.messages.items
  pub enums : new.enums.items ≡ old.enums.items ++ more.enums.items
  pub extensions : new.extensions.items ≡ old.extensions.items ++ more.extensions.items
  pub services : new.services.items ≡ old.services.items ++ more.services.items

pub record SameItems (old new : Tables) : Type 0 where
  pub files : new.files.items ≡ old.files.items
  pub messages : new.messages.items ≡ old.messages.items
  pub enums : new.enums.items ≡ old.enums.items
  pub extensions : new.extensions.items ≡ old.extensions.items
  pub services : new.services.items ≡ old.services.items

-- the first entries are the old ones
pub record Fronts (old new : Tables) : Type 0 where
  pub files : take (length old.files.items) new.files.items ≡ old.files.items
  pub messages : take (length old.messages.items) new.messages.items ≡ old.messages.items
  pub enums : take (length old.enums.items) new.enums.items ≡ old.enums.items
  pub extensions : take (length old.extensions.items) new.extensions.items ≡ old.extensions.items
  pub services : take (length old.services.items) new.services.items ≡ old.services.items

-- the counts of both together
pub record Together (old more : Tables) (c : Counts) : Type 0 where
  pub files : c.files ≡ length old.files.items + length more.files.items
  pub messages : c.messages ≡ length old.messages.items + length more.messages.items
  pub enums : c.enums ≡ length old.enums.items + length more.enums.items
  pub extensions : c.extensions ≡ length old.extensions.items + length more.extensions.items
  pub services : c.services ≡ length old.services.items + length more.services.items
