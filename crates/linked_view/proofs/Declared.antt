-- Where the declarations of a batch's messages and of their fields stand.
use Rattle.std.proofs.Common.{◌≡◌, ◌+◌, ℕ, zero, suc, List, [], ◌∷◌, Some, subst, arith, slice_get}
use Rattle.descriptor_records.specs.declared.field.FieldDescriptorProto.{FieldDescriptorProto}
use Rattle.descriptor_records.specs.declared.file.FileDescriptorProto.{FileDescriptorProto}
use Rattle.reflect_declarations.specs.Batches.{batch_declarations}
use Rattle.reflect_declarations.specs.Declarations.{Declaration, of_message}
use Rattle.reflect_declarations.specs.Tree.{MessageParts}
use Rattle.reflect_declarations.specs.declared.offsets.Offsets.{Offsets}
use Rattle.reflect_names.specs.declared.resolve_visitor.Reference.{Reference}
use Rattle.reflect_tables.specs.Types.{FieldType}
use Rattle.reflect_index.specs.Along.{before_files}
use Rattle.reflect_index.specs.BatchEntries.{IsBatchOf}
use Rattle.reflect_index.specs.OfDeclarations.{RangesType, AreDeclared, AllDeclared, messages_in}
use Rattle.reflect_index.specs.declared.batch.Batch.{Batch}
use Rattle.reflect_index.proofs.Among.{Among}
use Rattle.linked_view.proofs.Following.{DeclaresAt, declared_in, all_stand, batch_follow, StandsAt}
use Rattle.reflect_index.proofs.Declared.{FieldDeclared}

-- so in a batch, where so many messages were before
pub stands_in_batch : (o : Offsets) (i : ℕ) (fs : List FileDescriptorProto) (d : Declaration)
    (own : MessageParts) → Among d (batch_declarations o i fs) → d.body ≡ of_message own
    → StandsAt o.messages d own (messages_in (batch_declarations o i fs))
stands_in_batch o i fs d own h is = let a = batch_follow o i fs in
    all_stand o.messages [] (batch_declarations o i fs) a.0 d own is a.1 h

-- what is kept of the message at a place is what it declares
pub declared_at : (ms : List MessageParts) (rs : List RangesType) (j : ℕ) (m : MessageParts)
    (r : RangesType) → AllDeclared ms rs → slice_get ms j ≡ Some m → slice_get rs j ≡ Some r
    → AreDeclared m r
declared_at [] rs j m r h at there = absurd (cc at)
declared_at (x ∷ ms) [] j m r h at there = absurd h
declared_at (x ∷ ms) (y ∷ rs) zero m r h at there = let first : x ≡ m = cc at in
    let second : y ≡ r = cc there in
    subst (λ z. AreDeclared z r) first (subst (AreDeclared x) second h.0)
declared_at (x ∷ ms) (y ∷ rs) (suc j) m r h at there = declared_at ms rs j m r h.1 at there

module _ (rs : List Reference) (before : Offsets) (first : ℕ) (files : List FileDescriptorProto)
    (b : Batch) (entries : IsBatchOf rs before first (batch_declarations before first files) b)
  where
    abbrev ds : List Declaration
    ds = batch_declarations before first files

    -- a field's declaration stands in that of its message, which is the one at the place
    pub record InMessage (k j : ℕ) (r : FieldDescriptorProto) : Type 0 where
      pub declared : DeclaresAt ds (before.messages + k) j r
      pub place : slice_get (messages_in ds) k ≡ Some declared.own

    pub in_message : (k j : ℕ) (f : FieldType) (d : FieldDeclared rs ds (before.messages + k) j f)
        → InMessage k j d.own
    in_message k j f d =
        let outer = declared_in before first files (before_files rs) (before.messages + k) j d.met
        d.own d.place d.body in
        let stands = stands_in_batch before first files outer.declaration outer.own outer.here
        outer.body in
        let index = stands.1 in
        let also = outer.index in
        let same : stands.0 ≡ k = omega (arith, index, also) in
        record {
          declared = outer;
          place = subst (λ n. slice_get (messages_in ds) n ≡ Some outer.own) same stands.2;
        }
