-- The parts of a pool.
use Rattle.std.specs.Prelude.{◌≡◌, length, Result, OnOk, OnErr}
use Rattle.reflect_declarations.specs.declared.offsets.Offsets.{Offsets}
use Rattle.reflect_growth.specs.Cut.{cut_to}
use Rattle.reflect_tables.specs.Types.{PoolType}
use Rattle.reflect_tables.specs.Views.{pool_of}
use Rattle.reflect_pool.specs.Imports.{StandsAlone}
use Rattle.reflect_pool.specs.Linked.{IsLinked}
use Rattle.reflect_pool.specs.declared.parts.PoolParts.{PoolParts}
use Rattle.reflect_build.specs.Refusals.{Linking, linking}

-- the entries that they hold
abbrev pub holds_of : PoolParts → PoolType
holds_of p = pool_of p.tables

-- they fit together as those of a pool do
abbrev pub AreParts : PoolParts → Type 0
AreParts p = IsLinked (pool_of p.tables) p.names p.file_names p.extension_numbers p.links.items
    p.tables.messages.items

-- how much a pool has
abbrev pub offsets_of : PoolType → Offsets
offsets_of p = record {
  messages = length p.messages;
  enums = length p.enums;
  extensions = length p.extensions;
  services = length p.services;
}

-- what files are linked with that are added to them
abbrev pub linking_of : PoolParts → Linking
linking_of p =
    linking p.file_names p.names p.links.items p.tables p.extension_numbers
    (offsets_of (holds_of p)) (length p.tables.files.items)

-- a refusal leaves the entries of a pool; else they stand in front of the new ones, and name none
-- of these
pub record StaysOrGrows {T E : Type 0} (result : Result T E) (old new : PoolType) : Type 0 where
  pub unchanged : OnErr result (new ≡ old)
  pub grown : OnOk result (cut_to new (length old.files) ≡ old)
  pub can_cut : OnOk result (StandsAlone (cut_to new (length old.files)))
