-- Options in the records of a pool that sources made.
use Rattle.std.specs.Prelude.{◌≡◌, ◌⊎◌, ℕ, map}
use Rattle.descriptor_records.specs.Content.{OptionsContent, file_view}
use Rattle.texts_view.specs.ReadOptions.{read_file}
use Rattle.message_view.specs.Types.{types_of}
use Rattle.option_parts.specs.OptionTypes.{IsNamedType}
use Rattle.option_parts.specs.declared.option_scope.OptionScope.{OptionScope}
use Rattle.plain_records.specs.PlainRecords.{ArePlainFiles}
use Rattle.plain_records.specs.SaidOptions.{IsSettled}
use Rattle.plain_records.specs.SourceOptions.{AreGiven}
use Rattle.protobuf_model.specs.Values.{Message}
use Rattle.reflect_tables.specs.Types.{PoolType}
use Rattle.reflect_wire.specs.Written.{AreBytes}
use Rattle.stored_options.specs.StoredOptions.{AreStored}

-- the pool has a type for options of the scope
abbrev pub HasType : PoolType → OptionScope → Type 0
HasType p scope = (i : ℕ) × IsNamedType p scope i

-- they are stored as their type writes them; or they are as a source gives them, which wrote none.
-- What is stored is bytes, as each memory of bytes holds them.
abbrev pub AreHeld : PoolType → OptionScope → OptionsContent → Type 0
AreHeld p scope o = AreBytes o.encoded
    → (HasType p scope × ((m : Message) × AreStored (types_of p) scope m o.encoded))
    ⊎ (AreGiven scope o × IsSettled o)

abbrev pub HoldsOptions : PoolType → Type 0
HoldsOptions p = ArePlainFiles (AreHeld p) (map file_view p.records)

-- linking reads of the records what it reads of those that it made
abbrev pub ReadsAlike : (linked p : PoolType) → Type 0
ReadsAlike linked p =
    map read_file (map file_view p.records) ≡ map read_file (map file_view linked.records)
