-- What is said of all options of a file, or of all files of a batch, is said of those of entities and of
-- records; and which type they are read by.
use Rattle.std.proofs.Common.{◌≡◌, ◌≤◌, ◌++◌, ℕ, zero, suc, List, [], ◌∷◌, map, length, Some, slice_get, refl, sym, subst, arith}
use Rattle.std.proofs.lemmas.List.{length-map}
use Rattle.std.specs.List.{AllByRecursion}
use Rattle.descriptor_records.specs.Content.{FileContent, OptionsContent, file_view}
use Rattle.descriptor_records.specs.declared.file.FileDescriptorProto.{FileDescriptorProto}
use Rattle.option_parts.specs.OptionTypes.{type_name}
use Rattle.option_parts.specs.declared.option_scope.OptionScope.{OptionScope}
use Rattle.option_setter.specs.declared.option_setter.NameScope.{NameScope}
use Rattle.settled_records.proofs.Accepted.{fresh_plain}
use Rattle.plain_records.specs.PlainRecords.{ArePlainFiles, IsPlainFile}
use Rattle.reflect_build.specs.Accepted.{FaultlessFiles}
use Rattle.reflect_options.specs.Entities.{file_entities}
use Rattle.reflect_options.specs.Settled.{IsType}
use Rattle.reflect_pool.specs.Dots.{without_dot}
use Rattle.reflect_pool.specs.declared.message.MessageDescriptor.{MessageDescriptor}
use Rattle.reflect_tables.specs.Finding.{IsFirst}
use Rattle.reflect_tables.specs.Types.{PoolType}
use Rattle.settled_records.proofs.Said.{no_dot}
use Rattle.settled_records.proofs.InEntities.{entities_of}
use Rattle.settled_records.proofs.OfEntities.{Meets}
use Rattle.settled_records.proofs.PlainOptions.{file_of, said}
use Rattle.settled_view.proofs.Many.{as_many}
use Rattle.schema_laws.specs.HeldOptions.{HasType}

-- what holds of a list behind so many others holds of what stands there
behind_get : (P : FileContent → Type 0) (fs : List FileDescriptorProto) (front back : List FileContent) → map file_view fs ≡ front ++ back → AllByRecursion P back → (k : ℕ) (f : FileDescriptorProto)
    → slice_get fs k ≡ Some f → length front ≤ k → P (file_view f)
behind_get P [] front back is all k f there far = absurd (cc there)
behind_get P (x ∷ xs) [] back is all zero f there far =
    let same : x ≡ f = cc there in
    let here : AllByRecursion P (map file_view (x ∷ xs)) = subst (AllByRecursion P) (sym is) all in
    subst (λ y. P (file_view y)) same here.0
behind_get P (x ∷ xs) [] back is all (suc k) f there far =
    let here : AllByRecursion P (map file_view (x ∷ xs)) = subst (AllByRecursion P) (sym is) all in
    behind_get P xs [] (map file_view xs) refl here.1 k f there (omega arith)
behind_get P (x ∷ xs) (y ∷ front) back is all zero f there far = absurd (omega arith)
behind_get P (x ∷ xs) (y ∷ front) back is all (suc k) f there far =
    let rest : map file_view xs ≡ front ++ back = cc is in
    behind_get P xs front back rest all k f there (omega arith)

-- what is so of all options of a file is so of those of its entities
pub entities_say : (Says : OptionScope → OptionsContent → Type 0) (k : ℕ) (f : FileDescriptorProto) → IsPlainFile Says 99 (file_view f)
    → AllByRecursion (Meets (λ file. said Says)) (file_entities k f)
entities_say Says k f plain = entities_of (λ file. said Says) k f (file_of Says 99 (file_view f) plain)

-- a type that options are settled by is one that the pool has
pub type_of_scope : (p : PoolType) (scope : OptionScope) (s : NameScope) → s.pool.now ≡ p → (d : MessageDescriptor) → IsType scope s d → HasType p scope
type_of_scope p scope s is d type =
    let found = subst (λ (q : PoolType). IsFirst (λ m. m.full_name ≡ without_dot (type_name scope)) q.messages (Some d.index)) is type.1 in
    (d.index, subst (λ n. IsFirst (λ m. m.full_name ≡ n) p.messages (Some d.index)) (no_dot scope) found)

-- what is said of options of files that are linked is so of those of the records behind the old ones
pub batch_says : (Says : OptionScope → OptionsContent → Type 0) (old linked : PoolType) (files : List FileDescriptorProto) → FaultlessFiles old files linked
    → ArePlainFiles Says (map file_view files) → (k : ℕ) (f : FileDescriptorProto) → slice_get linked.records k ≡ Some f → length old.files ≤ k → IsPlainFile Says 99 (file_view f)
batch_says Says old linked files faultless plain k f there far =
    let r = fresh_plain Says old linked files plain faultless in
    let many = as_many old faultless.0 faultless.1 in
    let long = length-map old.records file_view in
    behind_get (IsPlainFile Says 99) linked.records (map file_view old.records) r.0 r.1 r.2 k f there (omega (arith, many, long, far))
