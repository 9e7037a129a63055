-- What the rules of numbers ask of a batch by what its references mean.
use Rattle.std.specs.Prelude.{ℕ, List, false}
use Rattle.std.specs.List.{AllByRecursion}
use Rattle.descriptor_records.specs.declared.file.FileDescriptorProto.{FileDescriptorProto}
use Rattle.reflect_declarations.specs.Batches.{batch_declarations}
use Rattle.reflect_declarations.specs.declared.offsets.Offsets.{Offsets}
use Rattle.reflect_names.specs.declared.resolve_visitor.Reference.{Reference}
use Rattle.reflect_rules.specs.RulePass.{batch_use}
use Rattle.reflect_rules.specs.Walks.{Facts, Place}
use Rattle.reflect_passes.specs.Linked.{linked_says, linked_values}
use Rattle.reflect_passes.specs.declared.linked_types.LinkedTypes.{LinkedTypes}
use Rattle.linked_view.specs.Ruled.{TellsOf, AreMet}

-- what stays along the batch, and where it begins
abbrev pub facts_of : LinkedTypes → Offsets → ℕ → List FileDescriptorProto → List Reference → Facts
facts_of t before first files references = record {
  types = linked_says t;
  uses = batch_use (linked_says t) before first files references;
  first = before.messages;
}

abbrev pub start_of : List Reference → Place
start_of references = record { rest = references; is_proto3 = false; oneofs = 0 }

-- what the types tell of the batch's messages is what is declared
abbrev pub AreTold : LinkedTypes → Offsets → ℕ → List FileDescriptorProto → Type 0
AreTold t before first files =
    AllByRecursion (TellsOf (linked_says t)) (batch_declarations before first files)

-- each declaration meets the rules by what it refers to
abbrev pub ReferTo : LinkedTypes → Offsets → ℕ → List FileDescriptorProto → List Reference → Type 0
ReferTo t before first files references =
    AreMet (facts_of t before first files references) (linked_values t) (start_of references)
    (batch_declarations before first files)
