-- What is wrong with the numbers of a batch of files, by the types of the pool and of the batch.
use Rattle.std.specs.Prelude.{ℕ, ℤ, List, Bool}
use Rattle.descriptor_records.specs.declared.file.FileDescriptorProto.{FileDescriptorProto}
use Rattle.reflect_declarations.specs.declared.offsets.Offsets.{Offsets}
use Rattle.reflect_faults.specs.Faults.{Fault, Place}
use Rattle.reflect_names.specs.declared.resolve_visitor.Reference.{Reference}
use Rattle.reflect_rules.specs.RulePass.{BatchFaults}
use Rattle.reflect_tables.specs.ExtensionNumbers.{KeyType}
use Rattle.reflect_passes.specs.Extensions.{extension_faults}
use Rattle.reflect_passes.specs.Linked.{linked_says, linked_values}
use Rattle.reflect_passes.specs.declared.linked_types.LinkedTypes.{LinkedTypes}

-- the faults by the rules of numbers, defaults, oneof indexes and map entries
abbrev pub NumberFaults : LinkedTypes → Offsets → ℕ → List FileDescriptorProto → List Reference
    → List Fault → Type 0
NumberFaults t before first files references xs =
    BatchFaults (linked_says t) (linked_values t) before first files references xs

-- the faults of the batch's extensions, where others are known
abbrev pub doubled : (KeyType → Bool) → LinkedTypes → (ℕ → List ℤ → Place) → List Fault
doubled known t at = extension_faults known (linked_says t) at t.new.now.extensions.items
