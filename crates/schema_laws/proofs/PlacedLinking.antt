-- The faults of files that are refused for how they link stand in these files.
use Rattle.std.proofs.Common.{◌≡◌, ◌∙◌, inl, inr, ℕ, ℤ, List, [], ◌∷◌, Option, Some, IfSome, ap, map, subst, sym}
use Rattle.std.specs.List.{AllByRecursion}
use Rattle.descriptor_records.specs.declared.file.FileDescriptorProto.{FileDescriptorProto}
use Rattle.option_parts.specs.TypedOptions.{TypedFiles}
use Rattle.reflect_build.specs.Refusals.{Faulty, FaultyBatch, FaultyFiles, IsOf, Linking, new_files, with_declared}
use Rattle.reflect_declarations.specs.Batches.{batch_declarations}
use Rattle.reflect_faults.specs.Faults.{Fault, Place, another, batch_places, fault_view, place_of_fault}
use Rattle.reflect_names.specs.ReferencePass.{views_of}
use Rattle.reflect_passes.specs.Errors.{ListsFaults, faults_of, first_place}
use Rattle.reflect_passes.specs.Linked.{linked_says}
use Rattle.reflect_passes.specs.declared.error.DescriptorError.{DescriptorError}
use Rattle.reflect_tables.specs.Types.{PoolType}
use Rattle.schema_core.specs.Refusals.{FilesRefused}
use Rattle.schema_core.specs.declared.error.SchemaError.TheVariants.{Link}
use Rattle.schema_laws.specs.PlacedFaults.{StandsIn}
use Rattle.schema_laws.proofs.Placed.{AllStand, Stands}
use Rattle.schema_laws.proofs.PlacedNames.{names_stand}
use Rattle.schema_laws.proofs.PlacedNumbers.{doubles_stand, numbers_stand}
use Rattle.schema_laws.proofs.PlacedReferences.{references_stand}

batch_stand : (w : Linking) (fs : List FileDescriptorProto) (xs : List Fault) → FaultyBatch w fs xs → AllStand (batch_places fs w.first) xs
batch_stand w fs xs (inl (links, are, (means, wrong))) =
    subst (AllStand (batch_places fs w.first)) (sym wrong.faults)
    (references_stand (batch_places fs w.first) (views_of w.known wrong.sees) (batch_declarations w.before w.first fs))
batch_stand w fs xs (inr (inl (rs, t, mean, types, numbers))) = numbers_stand (batch_places fs w.first) _ _ _ _ xs numbers
batch_stand w fs xs (inr (inr (rs, t, mean, types, none, is))) =
    subst (AllStand (batch_places fs w.first)) (sym is) (doubles_stand (batch_places fs w.first) w.numbers (linked_says t) t.new.now.extensions.items)

faults_stand : (w : Linking) (fs : List FileDescriptorProto) (xs : List Fault) → Faulty w fs xs → AllStand (batch_places fs w.first) xs
faults_stand w fs xs (inl is) = subst (AllStand (batch_places fs w.first)) (sym is) (names_stand w.indexes w.known w.before w.first fs)
faults_stand w fs xs (inr (none, batch)) = batch_stand (with_declared w fs) fs xs batch

-- so each is told where it stands
told : (fs : List FileDescriptorProto) (first : ℕ) (x : Fault) → Stands (batch_places fs first) x → StandsIn fs first x
told fs first x (i, path, is) = subst (λ (o : Option Place). IfSome o (λ q. (i : ℕ) × (path : List ℤ) × (q ≡ batch_places fs first i path))) (sym is) (i, path, λ k. batch_places fs first i path)

all_told : (fs : List FileDescriptorProto) (first : ℕ) (xs : List Fault) → AllByRecursion (Stands (batch_places fs first)) xs → AllByRecursion (StandsIn fs first) xs
all_told fs first [] are = tt
all_told fs first (x ∷ xs) are = (told fs first x are.0, all_told fs first xs are.1)

-- a first fault that has a place is of a pass
of_a_pass : (p : PoolType) (fs : List FileDescriptorProto) (e : DescriptorError) (q : Place) → first_place e ≡ Some q → ListsFaults (FaultyFiles p fs) e → FaultyFiles p fs (faults_of e)
of_a_pass p fs e q at (inl few) = absurd (cc (sym at ∙ ap place_of_fault (first_one few))) where
  first_one : fault_view e.first ∷ map fault_view e.others.items ≡ another ∷ [] → fault_view e.first ≡ another
  first_one same = cc same
of_a_pass p fs e q at (inr faulty) = faulty

pub told_in_files : (p : PoolType) (files : List FileDescriptorProto) (e : DescriptorError) (q : Place) → FilesRefused p files (Link e) → first_place e ≡ Some q
    → (typed : List FileDescriptorProto) × (w : Linking) × TypedFiles files typed × IsOf p w × AllByRecursion (StandsIn (new_files w.indexes typed) w.first) (faults_of e)
told_in_files p files e q (typed, copied, told, (lists, many)) at =
    let f = of_a_pass p typed e q at lists in
    (typed, f.0, copied, f.1, all_told (new_files f.0.indexes typed) f.0.first (faults_of e) (faults_stand f.0 (new_files f.0.indexes typed) (faults_of e) f.2).all)
